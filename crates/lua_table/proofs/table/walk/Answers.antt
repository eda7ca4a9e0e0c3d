use Rattle.std.proofs.Common.{◌≡◌, arith, subst}
use Rattle.lua_table.specs.Entries.{IsBorder}
use Rattle.lua_table.proofs.Borders.{full_within, full_border}
use Rattle.lua_table.proofs.table.walk.Goals as goal

pub returns-clause-border : goal.returns-clause-border
returns-clause-border c =
    let ps = c.args.pairs.now in
    let w = full_within ps c.loop-n.n c.loop-n.invariant in
    let e : c.loop-n.n ≡ c.len-len.result = omega (arith, w, c.len-len.ensures.len, c.loop-n-test.false) in
    subst (λ m. IsBorder ps m) e (full_border ps c.loop-n.n c.loop-n.invariant (omega (arith, c.len-len.ensures.len, e)))
