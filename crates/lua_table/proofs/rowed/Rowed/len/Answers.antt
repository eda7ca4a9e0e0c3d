use Rattle.std.proofs.Common.{length, ap, ◌∙◌, arith}
use Rattle.lua_table.proofs.Around.{length_around}
use Rattle.lua_table.proofs.rowed.Rowed.len.Goals as goal

pub returns-clause-len : goal.returns-clause-len
returns-clause-len c =
    let q = length_around c.self.inside.rest c.self.inside.row.items in
    (omega (arith, c.len.ensures, c.len-2.ensures.len, q)) ∙ ap length c.self.view_is
