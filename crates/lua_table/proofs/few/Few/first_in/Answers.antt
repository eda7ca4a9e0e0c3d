use Rattle.std.proofs.Common.{◌≡◌, ◌+◌, ◌<◌, ◌≤◌, Some, length, take, drop, get_or, sym, ap, subst, ◌∙◌, arith}
use Rattle.std.proofs.lemmas.List.{get_or-take, length-take-le}
use Rattle.lua_model.specs.declared.Value.{Value}
use Rattle.lua_table.specs.Entries.{first_pair, is_nil_value}
use Rattle.lua_table.proofs.First.{pair_here, pair_skipped}
use Rattle.lua_table.proofs.few.Few.first_in.Goals as goal

pub returns-then-not-is_nil : goal.returns-then-not-is_nil
returns-then-not-is_nil c =
    let ps = c.self.inside.pairs.items in
    let i = c.loop-i.i in
    let n = c.args.end in
    let d = c.index.result.now in
    let all : n ≤ length ps = subst (λ qs. n ≤ length qs) (sym c.self.view_is) c.requires in
    let near : i < length (take n ps) = omega (arith, c.loop-i-test.true, length-take-le n ps all) in
    let at : get_or (take n ps) i d ≡ d = get_or-take n ps i d c.loop-i-test.true ∙ sym c.index.ensures in
    sym (pair_here (take n ps) i d near (ap (λ (p : Value × Value). is_nil_value p.1) at ∙ sym c.is_nil.ensures ∙ c.if-not-is_nil.true) ∙ ap Some at)
    ∙ ap (λ qs. first_pair (drop i (take n qs))) c.self.view_is
    ∙ c.loop-i.invariant

pub loop-i-preserved : goal.loop-i-preserved
loop-i-preserved c =
    let ps = c.self.inside.pairs.items in
    let i = c.loop-i.i in
    let n = c.args.end in
    let d = c.index.result.now in
    let all : n ≤ length ps = subst (λ qs. n ≤ length qs) (sym c.self.view_is) c.requires in
    let near : i < length (take n ps) = omega (arith, c.loop-i-test.true, length-take-le n ps all) in
    let at : get_or (take n ps) i d ≡ d = get_or-take n ps i d c.loop-i-test.true ∙ sym c.index.ensures in
    ap (λ qs. first_pair (drop (i + 1) (take n qs))) (sym c.self.view_is)
    ∙ pair_skipped (take n ps) i d near (ap (λ (p : Value × Value). is_nil_value p.1) at ∙ sym c.is_nil.ensures ∙ c.if-not-is_nil.false)
    ∙ ap (λ qs. first_pair (drop i (take n qs))) c.self.view_is
    ∙ c.loop-i.invariant
