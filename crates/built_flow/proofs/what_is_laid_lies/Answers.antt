use Rattle.built_flow.proofs.LaidLie.{laid_lie}
use Rattle.built_flow.proofs.what_is_laid_lies.Goals as goal

pub returns : goal.returns
returns c = laid_lie
