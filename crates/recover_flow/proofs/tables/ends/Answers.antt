use Rattle.std.proofs.Common.{◌∙◌, ap, arith}
use Rattle.std.specs.Prelude.{reverse}
use Rattle.recover_flow.proofs.SideBySide.{end_next, ends_next}
use Rattle.recover_flow.proofs.tables.ends.Goals as goal

pub loop-place-preserved : goal.loop-place-preserved
loop-place-preserved c =
    let last = end_next c.args.steps.now c.args.run c.loop-place.place c.loop-place.end c.next_end-end.result _ c.loop-place-test.true (omega arith) c.loop-place.invariant.last c.next_end-end.ensures in
    record {
      list = ap reverse c.in_ok-push-2.ensures.items ∙ ends_next c.args.steps.now c.args.run c.loop-place.place c.next_end-end.result c.loop-place.ends.items c.loop-place-test.true (omega arith) c.loop-place.invariant.list last;
      last = last;
    }
