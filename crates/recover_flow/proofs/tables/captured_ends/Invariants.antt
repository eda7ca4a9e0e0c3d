-- So far it holds the last ones of the steps before.
use Rattle.std.proofs.Common.{◌≡◌, ℕ, slice_get}
use Rattle.recover_flow.specs.Asked.{ends_there, kind_at, last_below}
use Rattle.recover_flow.specs.Tabled.{at_place}
use Rattle.recover_flow.proofs.tables.captured_ends.Given as goal

abbrev pub invariant-loop-place : goal.invariant-loop-place
invariant-loop-place l = (place : ℕ) → slice_get l.last.items place ≡ at_place l.steps (λ at. last_below (λ step. ends_there at (kind_at l.steps step)) l.place) place
