-- Answers.
use Rattle.verifier.proofs.Bits.{low_has, all_has}
use Rattle.verifier.proofs.registers.low_bits.Goals as goal

pub returns-then-count-lt128 : goal.returns-then-count-lt128
returns-then-count-lt128 c i low = low_has c.args.count i low c.if-count-lt128.true

pub returns-else-count-lt128 : goal.returns-else-count-lt128
returns-else-count-lt128 c i low = all_has c.args.count i low c.if-count-lt128.false
