use Rattle.std.proofs.Common.{sym, ◌∙◌}
use Rattle.recover_flow.proofs.ConditionViews.{parts_given}
use Rattle.recover_flow.proofs.conditions.parts_in.Goals as goal

pub returns-then-is : goal.returns-then-is
returns-then-is c = parts_given _ _ _ c.in-Joined.parts c.in-Joined.is (sym c.if-is.true ∙ c.is.ensures)
