-- So many values were tried, and what is left is the write of another one.
use Rattle.meta_ops.specs.Steps.{IsWriting}
use Rattle.meta_ops.proofs.indexing.set_index.Given as goal

abbrev pub invariant-loop : goal.invariant-loop
invariant-loop l = IsWriting l.fn.heap l.heap l.fn.on l.key l.value l.at 100 l.counter
