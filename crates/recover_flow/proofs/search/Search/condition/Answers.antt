use Rattle.std.proofs.Common.{option_map}
use Rattle.recover_flow.specs.Conditions.{view_condition}
use Rattle.recover_flow.proofs.Answered.{if_ok_as}
use Rattle.recover_flow.proofs.Chained.{condition_keeps}
use Rattle.recover_flow.proofs.search.Search.condition.Goals as goal

pub returns : goal.returns
returns c =
    if_ok_as c.keep_condition.result _ _ c.keep_condition.ensures
    (λ found. condition_keeps c.args.self.now c.keep_condition.new.self c.steps-steps.result.now c.args.at (option_map view_condition c.in_ok-condition.condition) found c.requires.ready c.steps-steps.ensures c.in_ok-condition.ensures)
