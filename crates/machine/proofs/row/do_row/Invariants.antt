use Rattle.std.proofs.Common.{◌≡◌, ◌≤◌, ◌-◌, Some}
use Rattle.std.specs.Prelude.{slice_get}
use Rattle.machine.specs.Ready.{GoesSteps, with_pc}
use Rattle.machine.specs.Whole.{IsSafe}
use Rattle.machine.proofs.row.do_row.Given as goal

-- so many words were done, the pc is the one that the topmost frame comes to, and the function is that of this frame
abbrev pub invariant-loop-done : goal.invariant-loop-done
invariant-loop-done l =
    (l.done ≤ l.steps)
    × GoesSteps l.functions l.done l.fn.running (with_pc l.running l.pc)
    × IsSafe l.functions (with_pc l.running l.pc)
    × (slice_get l.functions l.running.top.function ≡ Some l.function)

abbrev pub decreases-loop-done : goal.decreases-loop-done
decreases-loop-done l = l.steps - l.done
