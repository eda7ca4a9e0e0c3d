use Rattle.asm_text.proofs.OneAnswer.{chunks_one}
use Rattle.asm_text.proofs.laws.chunks_are_one.Goals as goal

pub returns : goal.returns
returns c = chunks_one
