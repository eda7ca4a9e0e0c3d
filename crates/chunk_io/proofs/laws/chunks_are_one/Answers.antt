use Rattle.chunk_io.proofs.OneAnswer.{chunks_one}
use Rattle.chunk_io.proofs.laws.chunks_are_one.Goals as goal

pub returns : goal.returns
returns c = chunks_one
