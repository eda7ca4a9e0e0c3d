use Rattle.asm_text.proofs.OneAnswer.{faults_one}
use Rattle.asm_text.proofs.laws.faults_are_one.Goals as goal

pub returns : goal.returns
returns c = faults_one
