use Rattle.std.proofs.Common.{rules, refl, ap, ◌≡◌, ◌+◌, ◌∙◌, inl, inr}
use Rattle.std.specs.Prelude.{◌++◌, ◌∷◌, []}
use Rattle.chunk_difference.proofs.Same.{found_below}
use Rattle.chunk_difference.proofs.Among.{so_far_start, so_far_next, so_far_end, found_here, behind, popped}
use Rattle.chunk_difference.proofs.finding.+difference.Goals as goal

pub difference_among-loop-mine-init : goal.difference_among-loop-mine-init
difference_among-loop-mine-init t c = (
  λ e. rw c.into_iter-mine-iterator.ensures.into_iter_gives (
      so_far_start _ _ _ _ e (rw c.zip-mine-items.ensures.first c.iter.ensures.rest) c.zip-mine-items.ensures.second.0),
  refl,
)

pub difference_among-returns-in-Some-2 : goal.difference_among-returns-in-Some-2
difference_among-returns-in-Some-2 t c =
    let steps = c.in-Some.ensures.steps in
    let found = rw c.in-Some-2.is at c.in_ok-found.ensures in
    λ e. (c.loop-mine.number, found.0, behind _ _ _ _ _ (c.in_ok-push.ensures.ok ∙ ap (λ path. path ++ c.loop-mine.number ∷ []) c.loop-mine.invariant.1) found.1, found_here _ _ _ _ _ _ _ _ _ (c.loop-mine.invariant.0 e) steps.0 steps.1 _ _ _ _ _ found.2)

pub difference_among-loop-mine-preserved : goal.difference_among-loop-mine-preserved
difference_among-loop-mine-preserved t c =
    let steps = c.in-Some.ensures.steps in
    let same = rw c.in_default.is at c.in_ok-found.ensures in
    let more : c.in_ok-number.number ≡ c.loop-mine.number + 1 = search rules in
    (λ e. rw more (so_far_next _ _ _ _ _ _ _ _ _ (c.loop-mine.invariant.0 e) steps.0 steps.1 same.0), popped _ _ _ _ _ (same.1 ∙ c.in_ok-push.ensures.ok) c.pop.ensures.some c.pop.ensures.none ∙ c.loop-mine.invariant.1)

pub difference_among-returns : goal.difference_among-returns
difference_among-returns t c =
    λ e. (
      elim c.in-None.ensures.steps [
        | inl s ↦ so_far_end _ _ _ _ _ (c.loop-mine.invariant.0 e) s.1.0
        | inr s ↦ so_far_end _ _ _ _ _ (c.loop-mine.invariant.0 e) ((c.loop-mine.invariant.0 e).lengths ∙ s.1.0)
      ],
      c.loop-mine.invariant.1,
    )

pub difference_below-returns : goal.difference_below-returns
difference_below-returns t c =
    let none = rw c.in_default.is at c.in_ok-found.ensures in
    found_below c.args.had.now c.args.got.now c.items.result.now c.items-2.result.now c.items.ensures.view c.items-2.ensures.view none _ _ c.difference_among.result c.difference_among.ensures
