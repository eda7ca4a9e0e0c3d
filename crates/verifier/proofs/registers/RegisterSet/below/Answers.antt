-- Answers.
use Rattle.verifier.proofs.Bits.{below_has}
use Rattle.verifier.proofs.registers.RegisterSet.below.Goals as goal

pub returns : goal.returns
returns c = below_has _ c.args.limit _ _ _ c.saturating_sub.ensures c.saturating_sub-2.ensures c.saturating_sub-3.ensures c.low_bits.ensures c.low_bits-2.ensures c.low_bits-3.ensures c.low_bits-4.ensures
