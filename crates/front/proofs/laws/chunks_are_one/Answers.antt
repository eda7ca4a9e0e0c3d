use Rattle.front.proofs.OneSource.{one_chunk}
use Rattle.front.proofs.laws.chunks_are_one.Goals as goal

pub returns : goal.returns
returns c = one_chunk c.sources_are_one.ensures
