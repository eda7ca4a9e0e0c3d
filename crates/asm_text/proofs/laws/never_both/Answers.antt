use Rattle.asm_text.proofs.OneAnswer.{never_two}
use Rattle.asm_text.proofs.laws.never_both.Goals as goal

pub returns : goal.returns
returns c = never_two
