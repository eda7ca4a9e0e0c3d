use Rattle.std.proofs.Common.{◌+◌, take, drop, sym, ap, ◌∙◌}
use Rattle.lua_table.specs.Entries.{first_pair}
use Rattle.lua_table.proofs.First.{skipped, here, got_taken}
use Rattle.lua_table.proofs.hashed.Hashed.first_in.Goals as goal

pub returns-then-not-is_nil : goal.returns-then-not-is_nil
returns-then-not-is_nil c =
    let ps = c.self.inside.map.entries in
    let i = c.loop-i.i in
    let n = c.args.end in
    sym (here (take n ps) i (c.in-Some.key.now, c.in-Some.value.now) (got_taken n i ps c.loop-i-test.true ∙ sym c.in-Some.ensures.entry) (sym c.is_nil.ensures ∙ c.if-not-is_nil.true)) ∙ ap (λ p. first_pair (drop i (take n p))) c.self.view_is ∙ c.loop-i.invariant

pub loop-i-preserved : goal.loop-i-preserved
loop-i-preserved c =
    let ps = c.self.inside.map.entries in
    let i = c.loop-i.i in
    let n = c.args.end in
    ap (λ p. first_pair (drop (i + 1) (take n p))) (sym c.self.view_is) ∙ skipped (take n ps) i (c.in-Some.key.now, c.in-Some.value.now) (got_taken n i ps c.loop-i-test.true ∙ sym c.in-Some.ensures.entry) (sym c.is_nil.ensures ∙ c.if-not-is_nil.false) ∙ ap (λ p. first_pair (drop i (take n p))) c.self.view_is ∙ c.loop-i.invariant
