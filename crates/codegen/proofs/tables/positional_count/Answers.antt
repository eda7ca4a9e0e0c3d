use Rattle.std.proofs.Common.{sym, ◌∙◌, arith, true, false}
use Rattle.codegen.proofs.Sizes.{counted_from}
use Rattle.codegen.proofs.tables.positional_count.Goals as goal
use Rattle.codegen.proofs.tables.positional_count.Goals.{then-is_counted, else-is_counted}

pub loop-i-preserved : goal.loop-i-preserved
loop-i-preserved c = elim c.if-is_counted.branch [
  | then-is_counted w ↦
      let more = counted_from c.loop-i.i c.loop-i.count _ c.args.items.now c.index-items-i.result true c.loop-i-test.true c.index-items-i.is (sym w.if-is_counted.true ∙ c.is_counted.ensures) c.loop-i.invariant.counted in
      record { few = omega (arith, w.count-is, c.loop-i.invariant.few); counted = rw w.count-is more }
  | else-is_counted w ↦
      let more = counted_from c.loop-i.i c.loop-i.count _ c.args.items.now c.index-items-i.result false c.loop-i-test.true c.index-items-i.is (sym w.if-is_counted.false ∙ c.is_counted.ensures) c.loop-i.invariant.counted in
      record { few = omega (arith, w.count-is, c.loop-i.invariant.few); counted = omega (arith, w.count-is, more) }
]
