use Rattle.std.proofs.Common.{◌≡◌, ℕ, ◌+◌, ◌≤◌}
use Rattle.std.specs.Prelude.{nat_lt}
use Rattle.scheme.specs.Lists.{hint_from}
use Rattle.codegen.proofs.tables.size_hint.Given as goal

abbrev pub invariant-loop-rest : goal.invariant-loop-rest
invariant-loop-rest l = record {
  fuel : ℕ;
  enough : l.rest ≤ fuel;
  least : 8 ≤ l.rest;
  few : l.halvings + l.rest ≤ l.n;
  hint : hint_from (nat_lt l.rest 16) fuel l.halvings l.rest ≡ hint_from (nat_lt l.n 16) l.n 0 l.n;
}

abbrev pub decreases-loop-rest : goal.decreases-loop-rest
decreases-loop-rest l = l.rest
