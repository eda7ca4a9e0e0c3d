use Rattle.std.proofs.Common.{◌+◌, arith}
use Rattle.std.proofs.lemmas.List.{take_rest}
use Rattle.asm_text.proofs.Turns.{cut_found, cut_nowhere}
use Rattle.asm_text.proofs.cuts.split.Goals as goal

pub returns-then-byte-mark : goal.returns-then-byte-mark
returns-then-byte-mark c =
    rw (take_rest c.args.text.now (c.loop-at.at + 1)) (cut_found c.args.mark c.loop-at.at c.args.text.now (omega arith) c.if-byte-mark.true c.loop-at.invariant)

pub returns : goal.returns
returns c = cut_nowhere c.args.mark c.loop-at.at c.args.text.now (omega arith) c.loop-at.invariant
