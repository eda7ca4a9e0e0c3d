-- Answers.
use Rattle.verifier.proofs.Bits.{without_has}
use Rattle.verifier.proofs.registers.RegisterSet.without.Goals as goal

pub returns : goal.returns
returns c = without_has c.args.self c.args.other _ _ c.others.ensures c.both.ensures.has
