-- What was tried and what is left come to the whole read.
use Rattle.std.proofs.Common.{sym, arith}
use Rattle.meta_ops.proofs.Tries.{reading_next, reading_done, reading_over}
use Rattle.meta_ops.proofs.indexing.look_up.Goals as goal

pub returns-in-Break-clause-found : goal.returns-in-Break-clause-found
returns-in-Break-clause-found c = (reading_done c.in-Break.found c.loop.invariant (omega arith) _ c.in-Break.is c.read_step.ensures).0

pub loop-preserved : goal.loop-preserved
loop-preserved c = reading_next c.loop.invariant _ c.in-Continue.is c.read_step.ensures

pub returns-clause-found : goal.returns-clause-found
returns-clause-found c = sym (reading_over c.loop.invariant (omega (arith, c.loop-test.false)))
