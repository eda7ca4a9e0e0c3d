use Rattle.chunk_io.proofs.OneAnswer.{never_two}
use Rattle.chunk_io.proofs.laws.never_both.Goals as goal

pub returns : goal.returns
returns c = never_two
