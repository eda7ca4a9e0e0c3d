-- A mask of ones is a remainder.
use Rattle.std.proofs.Common.{◌≡◌, ◌<◌, ◌*◌, ◌%◌, ◌^◌, arith}
use Rattle.std.proofs.Math.Pow.{pow-lt}
use Rattle.std.proofs.lemmas.Nat.{and_mask}
use Rattle.opcode.proofs.word.bits.Goals as goal

pub returns : goal.returns
returns c =
    let in_word : 2 ^ c.args.width < 2 ^ 32 = pow-lt c.requires.width in
    let shifted : 1 * 2 ^ c.args.width % 4294967296 ≡ 2 ^ c.args.width = omega arith in
    rw (shifted, and_mask)
