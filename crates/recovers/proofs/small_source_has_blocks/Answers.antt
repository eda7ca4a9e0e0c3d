-- From the chunk as it is computed.
use Rattle.recovers.proofs.SmallSource.{small_comes_back}
use Rattle.recovers.proofs.small_source_has_blocks.Goals as goal

pub returns : goal.returns
returns c = small_comes_back
