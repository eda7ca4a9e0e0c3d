-- None is held from this place on.
use Rattle.std.proofs.Common.{◌≡◌, ◌≤◌, drop, false}
use Rattle.recover_expr.specs.Entries.{entries_of, any_held}
use Rattle.recover_expr.proofs.stack.Stack.behind_held.Given as goal

abbrev pub invariant-loop-above : goal.invariant-loop-above
invariant-loop-above l = record {
  none : any_held (drop l.above (entries_of l.self)) ≡ false;
  low : l.first ≤ l.initial.above → l.first ≤ l.above;
}
