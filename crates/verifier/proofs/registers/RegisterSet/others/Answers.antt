-- Answers.
use Rattle.std.proofs.Common.{arith}
use Rattle.verifier.proofs.Bits.{others_has}
use Rattle.verifier.proofs.registers.RegisterSet.others.Goals as goal

pub returns : goal.returns
returns c = others_has c.args.self (omega arith) (omega arith) (omega arith) (omega arith)
