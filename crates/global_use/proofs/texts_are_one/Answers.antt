use Rattle.global_use.proofs.OneText.{one_text}
use Rattle.global_use.proofs.texts_are_one.Goals as goal

pub returns : goal.returns
returns c = one_text
