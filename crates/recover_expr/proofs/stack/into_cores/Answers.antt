use Rattle.recover_expr.proofs.EntriesTaken.{singles_next, none_next}
use Rattle.recover_expr.proofs.stack.into_cores.Goals as goal

pub loop-entry-preserved : goal.loop-entry-preserved
loop-entry-preserved c = record {
  made = singles_next c.loop-entry.yielded c.in-Some.entry _ _ _ c.loop-entry.invariant.made c.in_ok-into_core.ensures.made c.in_ok-push.ensures.items;
  left = λ none. c.loop-entry.invariant.left (none_next c.in-Some.entry _ _ c.in-Some.ensures.steps.0 none);
}
