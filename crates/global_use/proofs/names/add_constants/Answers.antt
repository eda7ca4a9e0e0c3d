use Rattle.std.proofs.Common.{inl, inr}
use Rattle.global_use.proofs.Tables.{tells_end, named_sum-no_constants, named_sum-no_counts}
use Rattle.global_use.proofs.names.add_constants.Goals as goal

pub returns : goal.returns
returns c =
    elim c.in-None.ensures.steps [
      | inl s ↦ tells_end _ _ _ _ c.loop-constant.invariant (λ kind name. named_sum-no_constants kind name _ _ s.1.0)
      | inr s ↦ tells_end _ _ _ _ c.loop-constant.invariant (λ kind name. named_sum-no_counts kind name _ _ s.1.0)
    ]
