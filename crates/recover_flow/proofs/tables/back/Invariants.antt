-- So far it holds those of the steps before.
use Rattle.std.proofs.Common.{◌≡◌, ℕ, map, slice_get}
use Rattle.recover_flow.specs.Asked.{goes_back}
use Rattle.recover_flow.specs.Tabled.{at_place, places_where}
use Rattle.recover_flow.proofs.tables.back.Given as goal

abbrev pub invariant-loop-place : goal.invariant-loop-place
invariant-loop-place l = (place : ℕ) → slice_get (map (λ row. row.items) l.back.items) place ≡ at_place l.steps (λ at. places_where (goes_back l.steps at) l.place) place
