-- The targets so far, and those of the stores that are left, are all.
use Rattle.std.proofs.Common.{◌≡◌, map, reverse}
use Rattle.std.specs.Iterator.Adapters.{rev_source}
use Rattle.std.specs.Slice.Iter.{iter_rest}
use Rattle.core_expr.specs.Targets.{view_target}
use Rattle.recover_expr.specs.Assigning.{targets, targets_of}
use Rattle.recover_expr.specs.Situation.{view_function, view_state}
use Rattle.recover_expr.proofs.assigning.targets.Given as goal

abbrev pub invariant-loop-store : goal.invariant-loop-store
invariant-loop-store l =
    targets_of (view_function l.function) l.low (reverse (iter_rest (rev_source l.store-iterator))) (map view_target l.targets.items) (view_state l.state)
    ≡ targets (view_function l.function) l.low l.stores (view_state l.initial.state)
