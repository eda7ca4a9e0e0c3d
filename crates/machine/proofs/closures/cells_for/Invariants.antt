use Rattle.std.proofs.Common.{take, drop}
use Rattle.machine.specs.Captures.{TakesCells}
use Rattle.machine.proofs.closures.cells_for.Given as goal

abbrev pub invariant-loop-k : goal.invariant-loop-k
invariant-loop-k l = TakesCells (take l.k (drop l.pc l.function.code.items)) l.initial.running l.running l.cells.items
