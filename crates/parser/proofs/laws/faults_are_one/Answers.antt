use Rattle.parser.proofs.Places.{one_fault}
use Rattle.parser.proofs.laws.faults_are_one.Goals as goal

pub returns : goal.returns
returns c = one_fault
