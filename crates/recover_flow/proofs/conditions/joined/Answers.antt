use Rattle.std.proofs.Common.{ap, ◌∙◌}
use Rattle.recover_flow.specs.Conditions.{joined_condition, conditions_of, and_condition, view_condition}
use Rattle.recover_flow.proofs.ConditionViews.{view_joined}
use Rattle.recover_flow.proofs.conditions.joined.Goals as goal

pub returns : goal.returns
returns c =
    view_joined _ c.insert.new.self ∙ ap (λ conditions. joined_condition c.args.junction (conditions_of conditions)) c.in_ok-insert.ensures.items
    ∙ ap (λ conditions. joined_condition c.args.junction (and_condition (view_condition c.args.first) conditions)) c.in_ok-parts.ensures
