-- So many values were read, and what is left is the read of another one.
use Rattle.meta_ops.specs.Steps.{IsReading}
use Rattle.meta_ops.proofs.indexing.look_up.Given as goal

abbrev pub invariant-loop : goal.invariant-loop
invariant-loop l = IsReading l.fn.heap l.fn.on l.key l.at 100 l.counter
