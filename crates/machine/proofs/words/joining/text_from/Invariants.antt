use Rattle.machine.proofs.Joins.{AreBefore}
use Rattle.machine.proofs.words.joining.text_from.Given as goal

abbrev pub invariant-loop-place : goal.invariant-loop-place
invariant-loop-place l = AreBefore l.heap l.registers l.first l.left l.place l.whole
