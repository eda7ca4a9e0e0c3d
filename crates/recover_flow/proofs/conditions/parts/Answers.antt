use Rattle.std.specs.Global.{Vec}
use Rattle.std.proofs.Common.{◌∙◌, ap, refl}
use Rattle.recover_flow.specs.declared.conditions.Part.{Part}
use Rattle.recover_flow.proofs.ConditionParts.{parts_end, parts_lost, parts_on, parts_over}
use Rattle.recover_flow.proofs.conditions.parts.Goals as goal
use Rattle.recover_flow.proofs.conditions.parts.Goals.{then-part-place+in_ok-push, else-part-place}

pub returns-in_default : goal.returns-in_default
returns-in_default c = parts_end _ _ _ _ _ _ _ c.loop-place-test.true c.loop-place.invariant c.in_default.ensures

pub returns-in_default-with : goal.returns-in_default-with
returns-in_default-with c = parts_lost _ _ _ _ _ _ _ c.loop-place-test.true c.loop-place.invariant _ c.in-Some.ensures c.in_default-with.ensures

pub loop-place-preserved : goal.loop-place-preserved
loop-place-preserved c =
    elim c.if-part-place.branch [
      | then-part-place+in_ok-push w ↦
          let same = ap (λ (parts : Vec Part). parts.items) w.parts-is in
          parts_over _ _ _ _ _ _ _ c.loop-place-test.true c.loop-place.invariant _ _ _ _ _ c.in-Some.ensures c.in-Some-with.ensures w.if-part-place.true refl (same ∙ w.in_ok-push.ensures.items) (w.part-is ∙ w.empty-part-then-part-place.ensures)
      | else-part-place w ↦ rw (w.parts-is, w.part-is) (parts_on _ _ _ _ _ _ _ c.loop-place-test.true c.loop-place.invariant _ _ c.in-Some.ensures c.in-Some-with.ensures w.if-part-place.false)
    ]
