use Rattle.same_flow.proofs.StatementsTold.{laid_are_told}
use Rattle.same_flow.proofs.steps_tell_of_locals.Goals as goal

pub returns : goal.returns
returns c = laid_are_told
