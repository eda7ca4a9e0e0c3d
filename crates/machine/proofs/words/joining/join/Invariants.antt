use Rattle.machine.specs.Joining.{IsJoining}
use Rattle.machine.proofs.words.joining.join.Given as goal

abbrev pub invariant-loop-left : goal.invariant-loop-left
invariant-loop-left l = IsJoining l.fn.heap l.heap l.registers l.a l.first l.count l.left l.fn.value l.value

abbrev pub decreases-loop-left : goal.decreases-loop-left
decreases-loop-left l = l.left
