use Rattle.std.proofs.Common.{sym, ap, ◌∙◌, arith}
use Rattle.lua_table.specs.Entries.{entry}
use Rattle.lua_table.proofs.Around.{row_hit, rest_hit}
use Rattle.lua_table.proofs.rowed.Rowed.get.Goals as goal

pub returns-in-Some : goal.returns-in-Some
returns-in-Some c =
    let h = row_hit c.self.inside.rest c.self.inside.row.items c.in-Some.i c.args.key c.self.invariant (omega (arith, c.in-Some.ensures.found.0, c.len.ensures)) c.in-Some.ensures.found.1 in
    c.index.ensures ∙ sym (h.value c.index.result.now) ∙ ap (λ ps. entry ps c.args.key) c.self.view_is

pub returns-in-None : goal.returns-in-None
returns-in-None c =
    let h = rest_hit c.self.inside.rest c.self.inside.row.items c.args.key c.self.invariant.within (λ i l. c.in-None.ensures.missing i (omega (arith, l, c.len.ensures))) in
    c.get.ensures ∙ sym h.value ∙ ap (λ ps. entry ps c.args.key) c.self.view_is
