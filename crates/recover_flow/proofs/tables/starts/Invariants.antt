-- So far they are those up to a place.
use Rattle.std.proofs.Common.{◌≡◌}
use Rattle.recover_flow.specs.Asked.{kind_at}
use Rattle.recover_flow.specs.Tabled.{is_run, run_start, starts_to}
use Rattle.recover_flow.proofs.tables.starts.Given as goal

abbrev pub invariant-loop-place : goal.invariant-loop-place
invariant-loop-place l = record {
  list : l.starts.items ≡ starts_to (λ place. is_run l.run (kind_at l.steps place)) l.place;
  last : l.start ≡ run_start (λ place. is_run l.run (kind_at l.steps place)) l.place;
}
