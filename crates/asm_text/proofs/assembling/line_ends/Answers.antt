use Rattle.std.proofs.Common.{arith}
use Rattle.asm_text.proofs.Turns.{ends_yes, ends_no, ends_end}
use Rattle.asm_text.proofs.assembling.line_ends.Goals as goal
use Rattle.asm_text.proofs.assembling.line_ends.Goals.{then-byte-eq10, else-byte-eq10}

pub loop-byte-preserved : goal.loop-byte-preserved
loop-byte-preserved c =
    elim c.if-byte-eq10.branch [
      | then-byte-eq10 w ↦ record { counted = omega (arith, w.ends-is, ends_yes c.loop-byte.byte-index c.args.text.now (omega arith) w.if-byte-eq10.true, c.loop-byte.invariant.counted); few = omega (arith, w.ends-is, c.loop-byte.invariant.few) }
      | else-byte-eq10 w ↦ record { counted = omega (arith, w.ends-is, ends_no c.loop-byte.byte-index c.args.text.now (omega arith) w.if-byte-eq10.false, c.loop-byte.invariant.counted); few = omega (arith, w.ends-is, c.loop-byte.invariant.few) }
    ]

pub returns-clause-count : goal.returns-clause-count
returns-clause-count c = omega (arith, ends_end c.loop-byte.byte-index c.args.text.now (omega arith), c.loop-byte.invariant.counted)
