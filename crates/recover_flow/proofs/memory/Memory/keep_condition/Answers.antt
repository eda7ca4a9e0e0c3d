use Rattle.std.proofs.Common.{◌∙◌, ap, sym, arith, option_map}
use Rattle.recover_flow.specs.Conditions.{view_condition}
use Rattle.recover_flow.proofs.Remembered.{condition_kept, no_condition_kept}
use Rattle.recover_flow.proofs.memory.Memory.keep_condition.Goals as goal

pub returns-in_default : goal.returns-in_default
returns-in_default c right is =
    no_condition_kept c.args.steps.now c.args.self.now c.insert.new.self c.args.at c.in_ok-insert.ensures.updates right (sym is ∙ ap (option_map view_condition) c.in_default.is)

pub returns : goal.returns
returns c right is =
    condition_kept c.args.steps.now c.args.self.now c.push.new.self c.insert-2.new.self c.args.at c.in-Some.condition (record { number = c.len.result; levels = c.levels.result })
    c.in_ok-push.ensures.items (omega (arith, c.len.ensures)) c.levels.ensures c.in_ok-insert-2.ensures.updates right (sym is ∙ ap (option_map view_condition) c.in-Some.is)
