use Rattle.chunk_io.proofs.OneAnswer.{one_or_other}
use Rattle.chunk_io.proofs.laws.chunk_or_fault.Goals as goal

pub returns : goal.returns
returns c = one_or_other
