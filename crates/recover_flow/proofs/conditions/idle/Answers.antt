use Rattle.recover_flow.proofs.ConditionViews.{idle_made}
use Rattle.recover_flow.proofs.conditions.idle.Goals as goal

pub returns : goal.returns
returns c = idle_made _ _ _ _ c.in_ok-parts.parts c.push.new.self c.idle_junction-junction.ensures c.in_ok-parts.ensures c.literal.ensures c.in_ok-push.ensures.items
