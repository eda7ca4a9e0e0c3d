-- What is written so far, and the targets that are left, are all.
use Rattle.std.proofs.Common.{◌≡◌, map}
use Rattle.std.specs.Vec.Iter.{into_iter_items}
use Rattle.lua_tree.specs.View.{view_exps}
use Rattle.core_expr.specs.Targets.{view_target}
use Rattle.recover_expr.specs.Assigning.{targets_written, no_targets}
use Rattle.recover_expr.specs.Situation.{view_function, view_state}
use Rattle.recover_expr.proofs.assigning.written_targets.Given as goal

abbrev pub invariant-loop-target : goal.invariant-loop-target
invariant-loop-target l =
    targets_written (view_function l.function) (map view_target (into_iter_items l.target-iterator)) (record { words = view_exps l.exps; levels = l.levels }, l.taken, view_state l.state)
    ≡ targets_written (view_function l.function) (map view_target l.fn.targets.items) (no_targets, l.initial.taken, view_state l.initial.state)
