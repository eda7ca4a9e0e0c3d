use Rattle.same_flow.specs.SameFlow.{IsPlainPart}
use Rattle.same_flow.proofs.BlocksLaid.{blocks_are_laid}
use Rattle.same_flow.proofs.plain_blocks_have_steps.Goals as goal

pub returns : goal.returns
returns c = blocks_are_laid IsPlainPart tt
