use Rattle.std.proofs.Common.{sym, ap, ◌∙◌}
use Rattle.recover_flow.specs.Conditions.{view_condition, conditions_of, first_levels, condition_levels}
use Rattle.recover_flow.proofs.ConditionViews.{view_joined}
use Rattle.recover_flow.proofs.conditions.+levels.Goals as goal

pub Condition::levels-returns-in-Joined : goal.Condition::levels-returns-in-Joined
Condition::levels-returns-in-Joined t c =
    c.joined_levels.ensures ∙ ap (λ parts. first_levels c.args.steps.now c.in-Joined.junction (conditions_of parts)) c.deref.ensures.value
    ∙ sym (ap (condition_levels c.args.steps.now) (ap view_condition c.in-Joined.is ∙ view_joined c.in-Joined.junction c.in-Joined.parts))
