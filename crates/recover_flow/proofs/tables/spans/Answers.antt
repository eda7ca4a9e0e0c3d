use Rattle.std.proofs.Common.{map}
use Rattle.std.proofs.lemmas.Option.{slice_get-get_or}
use Rattle.recover_flow.proofs.Spans.{spans_next}
use Rattle.recover_flow.proofs.tables.spans.Goals as goal

pub loop-close-preserved : goal.loop-close-preserved
loop-close-preserved c =
    spans_next c.args.steps.now c.loop-close.close _ (map (λ row. row.items) c.loop-close.spans.items) (map (λ row. row.items) c.note_break.new.spans.items) c.loop-close-test.true (slice_get-get_or c.args.steps.now c.loop-close.close _ c.loop-close-test.true)
    c.loop-close.invariant c.in_ok-note_break.ensures
