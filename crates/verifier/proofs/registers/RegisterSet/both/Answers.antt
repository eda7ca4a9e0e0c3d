-- Answers.
use Rattle.verifier.proofs.Bits.{both_has}
use Rattle.verifier.proofs.registers.RegisterSet.both.Goals as goal

pub returns-clause-has : goal.returns-clause-has
returns-clause-has c = both_has c.args.self c.args.other
