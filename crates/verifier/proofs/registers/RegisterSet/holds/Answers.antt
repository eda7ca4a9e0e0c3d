-- Answers.
use Rattle.verifier.proofs.Bits.{holds_has}
use Rattle.verifier.proofs.registers.RegisterSet.holds.Goals as goal

pub returns : goal.returns
returns c = holds_has c.args.self c.args.register _ c.bits.ensures
