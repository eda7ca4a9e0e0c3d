-- The places that are reached are those behind the arms so far; with those that are left, the places so far are all.
use Rattle.std.proofs.Common.{◌≡◌, ◌+◌, ◌-◌, ◌++◌, length, map}
use Rattle.recover_flow.specs.Arms.{arm_starts, starts_behind, view_start}
use Rattle.recover_flow.proofs.Arms.{AreReached, all_ways}
use Rattle.recover_flow.proofs.tables.Tables.arm_starts.Given as goal

abbrev pub invariant-loop-number : goal.invariant-loop-number
invariant-loop-number l = record {
  many : length l.reached.items ≡ l.count;
  reached : AreReached l.at.from (all_ways (map view_start l.starts.items)) l.reached.items;
  left : map view_start l.starts.items ++ starts_behind l.self.steps.now l.at (all_ways (map view_start l.starts.items)) (l.at.from + l.number) (l.count - l.number) ≡ arm_starts l.self.steps.now l.at;
}
