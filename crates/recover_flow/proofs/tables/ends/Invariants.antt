-- So far they are those from a place on, the last one first.
use Rattle.std.proofs.Common.{◌≡◌, ◌-◌, length, reverse}
use Rattle.recover_flow.specs.Asked.{kind_at}
use Rattle.recover_flow.specs.Tabled.{ends_from, is_run, run_end}
use Rattle.recover_flow.proofs.tables.ends.Given as goal

abbrev pub invariant-loop-place : goal.invariant-loop-place
invariant-loop-place l = record {
  list : reverse l.ends.items ≡ ends_from (λ place. is_run l.run (kind_at l.steps place)) l.place (length l.steps - l.place);
  last : l.end ≡ run_end (λ place. is_run l.run (kind_at l.steps place)) l.place (length l.steps - l.place);
}
