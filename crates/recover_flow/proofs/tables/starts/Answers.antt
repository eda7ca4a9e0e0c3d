use Rattle.std.proofs.Common.{◌∙◌}
use Rattle.recover_flow.proofs.SideBySide.{start_next, starts_next}
use Rattle.recover_flow.proofs.tables.starts.Goals as goal

pub loop-place-preserved : goal.loop-place-preserved
loop-place-preserved c =
    let last = start_next c.args.steps.now c.args.run c.loop-place.place c.loop-place.start c.next_start-start.result _ c.loop-place-test.true c.loop-place.invariant.last c.next_start-start.ensures in
    record {
      list = c.in_ok-push-2.ensures.items ∙ starts_next c.args.steps.now c.args.run c.loop-place.place c.next_start-start.result c.loop-place.starts.items c.loop-place.invariant.list last;
      last = last;
    }
