use Rattle.std.proofs.Common.{arith}
use Rattle.asm_text.proofs.Turns.{same_yes, same_no, other_next, other_end, text_end}
use Rattle.asm_text.proofs.assembling.differing_line.Goals as goal
use Rattle.asm_text.proofs.assembling.differing_line.Goals.{then-byte-eq10, else-byte-eq10}

pub returns-then-at-other : goal.returns-then-at-other
returns-then-at-other c = omega (arith, other_end c.loop-at.at c.args.text.now c.args.other.now c.loop-at-test.true c.if-at-other.true, c.loop-at.invariant.counted)

pub returns-then-other-at : goal.returns-then-other-at
returns-then-other-at c = omega (arith, other_next c.loop-at.at c.args.text.now c.args.other.now c.loop-at-test.true c.if-at-other.false c.if-other-at.true, c.loop-at.invariant.counted)

pub loop-at-preserved : goal.loop-at-preserved
loop-at-preserved c =
    elim c.if-byte-eq10.branch [
      | then-byte-eq10 w ↦ record { counted = omega (arith, w.line-is, same_yes c.loop-at.at c.args.text.now c.args.other.now c.loop-at-test.true c.if-at-other.false c.if-other-at.false w.if-byte-eq10.true, c.loop-at.invariant.counted); few = omega (arith, w.line-is, c.loop-at.invariant.few) }
      | else-byte-eq10 w ↦ record { counted = omega (arith, w.line-is, same_no c.loop-at.at c.args.text.now c.args.other.now c.loop-at-test.true c.if-at-other.false c.if-other-at.false w.if-byte-eq10.false, c.loop-at.invariant.counted); few = omega (arith, w.line-is, c.loop-at.invariant.few) }
    ]

pub returns : goal.returns
returns c = omega (arith, text_end c.loop-at.at c.args.text.now c.args.other.now (omega (arith, c.loop-at-test.false)), c.loop-at.invariant.counted)
