-- Answers.
use Rattle.verifier.proofs.Bits.{either_has}
use Rattle.verifier.proofs.registers.RegisterSet.either.Goals as goal

pub returns : goal.returns
returns c = either_has c.args.self c.args.other
