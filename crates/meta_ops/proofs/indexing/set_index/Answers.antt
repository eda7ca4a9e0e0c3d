-- What was tried and what is left come to the whole write.
use Rattle.std.proofs.Common.{arith}
use Rattle.meta_ops.proofs.Tries.{writing_next, writing_done, writing_over}
use Rattle.meta_ops.proofs.indexing.set_index.Goals as goal

pub returns-in-Break-clause-act : goal.returns-in-Break-clause-act
returns-in-Break-clause-act c =
    writing_done c.write_step.new.heap c.in-Break.act c.loop.invariant c.requires.key c.requires.value (omega arith) _ c.in-Break.is c.in_ok-act.ensures.step

pub loop-preserved : goal.loop-preserved
loop-preserved c =
    writing_next c.loop.invariant c.requires.key c.requires.value c.in_ok-act.ensures.keeps _ c.in-Continue.is c.in_ok-act.ensures.step

pub returns-clause-act : goal.returns-clause-act
returns-clause-act c =
    writing_over c.text_value.new.heap _ c.loop.invariant (omega arith) c.in_ok-text_value.ensures.grown c.in_ok-text_value.ensures.value
