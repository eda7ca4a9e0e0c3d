-- What is to be shown of the parts of plans: conditions lie where they stand, pieces follow one another, and arms fit between the places of an `if`.
use Rattle.std.specs.Prelude.{◌≡◌, ◌<◌, ◌≤◌, ℕ, suc, false, List, [], ◌∷◌, length, Option, None, Some, unwrap_or}
use Rattle.recover_expr.specs.declared.steps.Step.{Step}
use Rattle.recover_flow.specs.Arms.{arm_starts}
use Rattle.recover_flow.specs.Conditions.{ConditionTree, condition_of}
use Rattle.recover_flow.specs.Cutting.{pieces_of}
use Rattle.recover_flow.specs.Lying.{ConditionLies, Jumps}
use Rattle.recover_flow.specs.Standing.{IsWay}
use Rattle.recover_flow.specs.declared.branches.Way.{Way}
use Rattle.recover_flow.specs.declared.regions.BodyAt.{BodyAt}
use Rattle.recover_flow.specs.declared.regions.BranchesAt.{BranchesAt}
use Rattle.recover_flow.specs.declared.regions.ConditionAt.{ConditionAt}
use Rattle.recover_flow.specs.declared.regions.Piece.{Piece}

abbrev pub ConditionsLie : Type 0
ConditionsLie =
    (steps : List Step) (at : ConditionAt) (condition : ConditionTree) → condition_of steps at ≡ Some condition
    → (at.from ≤ at.to) × (at.to ≤ length steps) × ConditionLies steps condition false at.target at.from at.to

-- the pieces are not empty, and each begins where the one before it ends
abbrev pub FollowOn : List Piece → (from to : ℕ) → Type 0
FollowOn [] from to = to ≡ from
FollowOn (piece ∷ rest) from to = (piece.from ≡ from) × (from < piece.to) × (piece.to ≤ to) × FollowOn rest piece.to to

abbrev pub PiecesFollow : Type 0
PiecesFollow = (steps : List Step) (at : BodyAt) (pieces : List Piece) → at.from ≤ at.to → pieces_of steps at ≡ Some pieces → FollowOn pieces at.from at.to

-- where the block of an arm begins and ends
abbrev pub EndsFit : List Step → BranchesAt → (start block_end : ℕ) → (next : Option ℕ) → Type 0
EndsFit steps at start block_end None = (start ≤ at.to) × (block_end ≡ at.to)
EndsFit steps at start block_end (Some next) = (start ≤ block_end) × (next ≡ suc block_end) × (next ≤ at.to) × Jumps steps block_end at.to

abbrev pub WaysFit : Type 0
WaysFit =
    (steps : List Step) (at : BranchesAt) (place : ℕ) (way : Way) → at.from < at.to → IsWay (arm_starts steps at) place way
    → (at.from ≤ place) × (place ≤ at.to) × (place ≤ unwrap_or way.tests_end place) × EndsFit steps at (unwrap_or way.tests_end place) way.block_end way.next
