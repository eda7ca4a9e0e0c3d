use Rattle.std.proofs.Common.{◌≡◌, ℕ, ◌≤◌, ◌<◌, length, Some, slice_get}
use Rattle.upvalue.specs.declared.shared.OpenCell.{OpenCell}
use Rattle.upvalue.proofs.shared.find.Given as goal

abbrev pub invariant-loop-at : goal.invariant-loop-at
invariant-loop-at l = record {
  within : l.at ≤ length l.shared;
  higher : (i : ℕ) (o : OpenCell) → l.at ≤ i → slice_get l.shared i ≡ Some o → l.place < o.place;
}

abbrev pub decreases-loop-at : goal.decreases-loop-at
decreases-loop-at l = l.at
