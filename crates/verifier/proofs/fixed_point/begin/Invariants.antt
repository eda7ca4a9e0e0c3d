-- Answers.
use Rattle.std.proofs.Common.{◌≡◌, ◌≤◌, ℕ, length, None, get_or}
use Rattle.verifier.proofs.fixed_point.begin.Given as goal

abbrev pub invariant-loop-place : goal.invariant-loop-place
invariant-loop-place l = (length l.notes.items ≡ l._place) × (l._place ≤ l.places) × ((p : ℕ) → get_or l.notes.items p None ≡ get_or l.initial.notes.items p None)
