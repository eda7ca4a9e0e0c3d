-- What was joined, with what is joined to it of the rest, is what the definition joins.
use Rattle.std.proofs.Common.{◌≡◌, drop}
use Rattle.lua_tree.specs.View.{view_exp}
use Rattle.recover_flow.specs.Conditions.{conditions_of}
use Rattle.recover_flow.specs.Joining.{first_joined, joined_behind}
use Rattle.recover_flow.specs.Parts.{parts_of}
use Rattle.recover_flow.proofs.expressions.+expression.Given as goal

abbrev pub invariant-joined-loop-condition : goal.invariant-joined-loop-condition
invariant-joined-loop-condition l =
    joined_behind l.junction (conditions_of (drop l.condition-index l.rest)) (view_exp l.whole) (parts_of l.parts) ≡ first_joined l.junction (conditions_of l.conditions) (parts_of l.fn.parts)
