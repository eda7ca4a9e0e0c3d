use Rattle.chunk_io.proofs.OneAnswer.{layouts_one}
use Rattle.chunk_io.proofs.laws.layouts_are_one.Goals as goal

pub returns : goal.returns
returns c = layouts_one
