-- The levels of the parts before, and of the rest, are those that the definition counts.
use Rattle.std.proofs.Common.{◌≡◌, drop}
use Rattle.recover_flow.specs.Conditions.{conditions_of, first_levels, levels_behind}
use Rattle.recover_flow.proofs.conditions.+levels.Given as goal

abbrev pub invariant-joined_levels-loop-part : goal.invariant-joined_levels-loop-part
invariant-joined_levels-loop-part l =
    levels_behind l.steps l.junction (conditions_of (drop l.part-index l.rest)) l.whole ≡ first_levels l.steps l.junction (conditions_of l.parts)
