use Rattle.std.proofs.Common.{◌∙◌, ◌≡◌, ◌+◌, ◌++◌, ℕ, List, [], ap, sym, subst, add-one, arith}
use Rattle.lua_model.specs.Datum.{text}
use Rattle.lua_heap.specs.State.{datum}
use Rattle.rules.specs.Calls.{join}
use Rattle.machine.specs.Frames.{showing}
use Rattle.machine.proofs.Joins.{AreBefore, none_before, one_before}
use Rattle.machine.proofs.words.joining.text_from.Goals as goal

pub loop-place-init : goal.loop-place-init
loop-place-init c =
    let h = c.args.heap.now in
    let values = c.args.registers.now in
    let left = c.args.left in
    subst (λ k. AreBefore h values c.args.first left k c.in-Some.whole) (sym (add-one left))
    (one_before h values c.args.first left left [] c.register.result c.in-Some.whole (λ m. c.register.ensures.value h) (sym c.in_ok-whole.ensures ∙ c.in-Some.is) (none_before h values c.args.first left))

pub loop-place-preserved : goal.loop-place-preserved
loop-place-preserved c =
    let h = c.args.heap.now in
    let values = c.args.registers.now in
    let left = c.args.left in
    let place = c.loop-place.place in
    let whole = c.loop-place.whole in
    subst (λ w. AreBefore h values c.args.first left (place + 1) w) (sym (c.in_ok-extend.ensures.ok ∙ ap (λ (b : List ℕ). whole ++ b) c.bytes.ensures))
    (subst (λ k. AreBefore h values c.args.first left k (whole ++ c.in-Some-2.text)) (sym (add-one place))
    (one_before h values c.args.first left place whole c.register-in-loop-place.result c.in-Some-2.text (λ m. c.register-in-loop-place.ensures.value h) (sym c.in_ok-text.ensures ∙ c.in-Some-2.is) c.loop-place.invariant))

pub returns : goal.returns
returns c = λ m a.
    let h = c.args.heap.now in
    let values = c.args.registers.now in
    let left = c.args.left in
    let whole = c.loop-place.whole in
    let at_end : c.loop-place.place ≡ c.args.count = omega (arith, c.requires.some) in
    let before : AreBefore h values c.args.first left c.args.count whole = subst (λ k. AreBefore h values c.args.first left k whole) at_end c.loop-place.invariant in
    before.of_value c.requires.some m a (datum h c.args.value) c.in-Some-3.text (sym c.in_ok-text-2.ensures ∙ c.in-Some-3.is)
    ∙ ap (λ (t : List ℕ). join (showing m h values) a c.args.first left (text t)) (sym (c.in_ok-extend-2.ensures.ok ∙ ap (λ (b : List ℕ). whole ++ b) c.bytes-2.ensures))
