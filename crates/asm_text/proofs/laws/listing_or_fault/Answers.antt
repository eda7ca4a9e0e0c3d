use Rattle.asm_text.proofs.OneAnswer.{one_or_other}
use Rattle.asm_text.proofs.laws.listing_or_fault.Goals as goal

pub returns : goal.returns
returns c = one_or_other
