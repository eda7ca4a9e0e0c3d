-- The values that are items so far, and the rest, are all.
use Rattle.std.proofs.Common.{◌≡◌, ◌-◌}
use Rattle.recover_expr.specs.Constructors.{hold_from, hold_items}
use Rattle.recover_expr.specs.Entries.{entries_of}
use Rattle.recover_expr.proofs.constructors.hold_items.Given as goal

abbrev pub invariant-loop-at : goal.invariant-loop-at
invariant-loop-at l = record {
  base : l.stack.base ≡ l.initial.stack.base;
  held : hold_from l.place (l.at-end - l.at) l.at (entries_of l.stack) ≡ hold_items l.place (entries_of l.initial.stack);
}
