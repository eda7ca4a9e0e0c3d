use Rattle.std.proofs.Common.{◌≡◌, ◌∙◌, ◌+◌, ◌<◌, suc, List, [], ◌∷◌, length, drop, get_or, ap, sym, subst, refl, arith, drop-cons}
use Rattle.std.proofs.Math.Seq.{drop-length}
use Rattle.std.specs.Prelude.{pos}
use Rattle.lua_model.specs.declared.Value.{Value}
use Rattle.lua_model.specs.declared.Value.TheVariants.{Nil}
use Rattle.lua_model.specs.Store.{raw_set, with_items}
use Rattle.lua_heap.specs.State.{datum, own_store, with_store}
use Rattle.machine.specs.Frames.{data_of}
use Rattle.machine.proofs.Items.{IsSetting, setting_next}
use Rattle.machine.proofs.words.setting.put_items.Goals as goal

pub loop-value-preserved : goal.loop-value-preserved
loop-value-preserved c =
    let old = c.args.heap.now in
    let now = c.loop-value.heap in
    let new = c.raw_set.new.self in
    let t = c.args.table.index in
    let key = c.loop-value.key in
    let values = c.args.values.now in
    let at = c.loop-value.value-index in
    let v = get_or values at Nil in
    let further : suc at ≡ at + 1 = omega arith in
    let within : at < length values = omega (arith, c.loop-value-test.true) in
    let split : drop at values ≡ v ∷ drop (at + 1) values = drop-cons values at Nil within ∙ ap (λ n. v ∷ drop n values) further in
    let state = c.in-Ok.ensures.state ∙ ap (λ (k : Value). with_store now (raw_set (own_store now) t (datum now k) (datum now v))) c.in_ok-number.ensures in
    setting_next old now new t c.args.first key (key + 1) values (drop (at + 1) values) v (subst (λ (rest : List Value). IsSetting old now t c.args.first key values rest) split c.loop-value.invariant) state c.raw_set.ensures.keeps refl

pub returns-clause-items : goal.returns-clause-items
returns-clause-items c =
    let now = c.loop-value.heap in
    let t = c.args.table.index in
    let values = c.args.values.now in
    let at = c.loop-value.value-index in
    let whole : at ≡ length values = omega (arith, c.loop-value-test.false) in
    let none : drop at values ≡ [] = ap (λ n. drop n values) whole ∙ drop-length values in
    sym (ap (λ (rest : List Value). with_items (own_store now) t (pos c.loop-value.key) (data_of now rest)) none) ∙ c.loop-value.invariant.items
