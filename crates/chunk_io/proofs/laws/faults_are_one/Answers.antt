use Rattle.chunk_io.proofs.OneAnswer.{faults_one}
use Rattle.chunk_io.proofs.laws.faults_are_one.Goals as goal

pub returns : goal.returns
returns c = faults_one
