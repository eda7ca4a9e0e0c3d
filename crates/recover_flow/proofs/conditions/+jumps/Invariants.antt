-- A condition is looked for in conditions at a smaller depth. What was joined is what the definition joins of the parts from there on.
use Rattle.std.proofs.Common.{◌≡◌, ◌+◌, ◌*◌, ◌<◌, Some, length, drop}
use Rattle.recover_flow.specs.Conditions.{view_condition, joined_parts, condition_within}
use Rattle.recover_flow.proofs.conditions.+jumps.Given as goal

abbrev pub decreases-all_jumps : goal.decreases-all_jumps
decreases-all_jumps l = 5 * l.depth + 2

abbrev pub decreases-part_jumps : goal.decreases-part_jumps
decreases-part_jumps l = 5 * l.depth + 1

abbrev pub decreases-only_jumps : goal.decreases-only_jumps
decreases-only_jumps l = 5 * l.depth + 1

abbrev pub decreases-jumps : goal.decreases-jumps
decreases-jumps l = 5 * l.depth

abbrev pub invariant-all_jumps-loop-number : goal.invariant-all_jumps-loop-number
invariant-all_jumps-loop-number l =
    (l.number < length l.parts) × (Some (view_condition l.whole) ≡ joined_parts (condition_within l.steps l.depth) l.to l.goal (drop l.number l.parts))

abbrev pub decreases-all_jumps-loop-number : goal.decreases-all_jumps-loop-number
decreases-all_jumps-loop-number l = l.number

abbrev pub decreases-parts_jumps : goal.decreases-parts_jumps
decreases-parts_jumps l = 5 * l.depth + 3
