-- So far it holds those of the steps before.
use Rattle.std.proofs.Common.{◌≡◌, ℕ, map, slice_get}
use Rattle.recover_flow.specs.Tabled.{at_place, spans_where}
use Rattle.recover_flow.proofs.tables.spans.Given as goal

abbrev pub invariant-loop-close : goal.invariant-loop-close
invariant-loop-close l = (place : ℕ) → slice_get (map (λ row. row.items) l.spans.items) place ≡ at_place l.steps (λ at. spans_where l.steps at l.close) place
