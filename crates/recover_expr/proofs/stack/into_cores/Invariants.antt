-- What was taken are the values of the entries so far, and where those that are left are no values, neither are all.
use Rattle.std.proofs.Common.{◌≡◌, map, Some, None}
use Rattle.std.specs.Vec.Iter.{into_iter_items}
use Rattle.core_expr.specs.Values.{view_core_list}
use Rattle.recover_expr.specs.Entries.{view_entry, singles_of}
use Rattle.recover_expr.proofs.stack.into_cores.Given as goal

abbrev pub invariant-loop-entry : goal.invariant-loop-entry
invariant-loop-entry l = record {
  made : Some (view_core_list l.cores) ≡ singles_of (map view_entry l.yielded);
  left : singles_of (map view_entry (into_iter_items l.entry-iterator)) ≡ None → singles_of (map view_entry l.fn.entries.items) ≡ None;
}
