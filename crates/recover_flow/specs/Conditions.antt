-- Serves a body. Conditions that tests and jumps make which stand side by side, as plain data.
use Rattle.std.specs.Prelude.{◌==◌, ◌&&◌, ◌||◌, ◌+◌, ◌-◌, not, ℕ, zero, suc, max, Bool, true, false, nat_le, nat_lt, List, [], ◌∷◌, length, drop, take, slice_get, Option, None, Some, option_map, option_and_then, if◌then◌else◌}
use Rattle.core_expr.specs.Counting.{one_more}
use Rattle.recover_expr.specs.declared.steps.Step.{Step}
use Rattle.recover_expr.specs.declared.steps.StepKind.{StepKind}
use Rattle.recover_flow.specs.Asked.{target_of, target_at}
use Rattle.recover_flow.specs.declared.conditions.Condition.{Condition, Test, True, False, Joined', Row_of-Condition, end_of-Condition, more_of-Condition}
use Rattle.recover_flow.specs.declared.conditions.Goal.{Goal}
use Rattle.recover_flow.specs.declared.conditions.Junction.{Junction}
use Rattle.recover_flow.specs.declared.conditions.Part.{Part}
use Rattle.recover_flow.specs.declared.regions.ConditionAt.{ConditionAt}

mutual
  -- a test by the number of its step
  pub data ConditionTree : Type 0 where
    test_condition : (step : ℕ) → (negated : Bool) → ConditionTree
    true_condition false_condition : ConditionTree
    -- the parts are joined from the left
    joined_condition : Junction → Conditions → ConditionTree

  pub data Conditions : Type 0 where
    no_conditions : Conditions
    and_condition : ConditionTree → Conditions → Conditions

abbrev mutual
  pub view_condition : Condition → ConditionTree
  view_condition (Test step negated) = test_condition step negated
  view_condition True = true_condition
  view_condition False = false_condition
  view_condition (Joined' junction m row) = joined_condition junction (view_row row)

  pub view_row : {m : _} → Row_of-Condition m → Conditions
  view_row end_of-Condition = no_conditions
  view_row (more_of-Condition condition rest) = and_condition (view_condition condition) (view_row rest)

abbrev pub conditions_of : List Condition → Conditions
conditions_of [] = no_conditions
conditions_of (condition ∷ rest) = and_condition (view_condition condition) (conditions_of rest)

-- ---- joined conditions

abbrev pub literal_of : (truth : Bool) → ConditionTree
literal_of true = true_condition
literal_of false = false_condition

abbrev pub is_junction : Junction → Junction → Bool
is_junction Junction.And Junction.And = true
is_junction Junction.Or Junction.Or = true
is_junction junction other = false

-- a condition as parts of one with this junction
abbrev pub parts_in : Junction → ConditionTree → Conditions
parts_in Junction.And (joined_condition Junction.And parts) = parts
parts_in Junction.Or (joined_condition Junction.Or parts) = parts
parts_in junction condition = and_condition condition no_conditions

abbrev pub and_last_condition : Conditions → ConditionTree → Conditions
and_last_condition no_conditions last = and_condition last no_conditions
and_last_condition (and_condition first rest) last = and_condition first (and_last_condition rest last)

-- a condition before another one
abbrev pub joined_with : Junction → ConditionTree → ConditionTree → ConditionTree
joined_with junction first rest = joined_condition junction (and_condition first (parts_in junction rest))

abbrev pub idle_junction : (sense : Bool) → Junction
idle_junction true = Junction.And
idle_junction false = Junction.Or

-- a condition that has the steps of another one, and whose truth is never `sense`
abbrev pub idle_of : ConditionTree → (sense : Bool) → ConditionTree
idle_of inner sense = joined_condition (idle_junction sense) (and_last_condition (parts_in (idle_junction sense) inner) (literal_of (not sense)))

-- ---- where a condition goes

-- to the end of its steps, where this one comes there
abbrev pub turned_to : Goal → (end : ℕ) → Goal
turned_to goal end = record { sense = not goal.sense; target = end }

-- what joins a condition that goes there to the one behind it
abbrev pub junction_to : Goal → Junction
junction_to goal = if goal.sense then Junction.Or else Junction.And

-- ---- the parts of a condition

abbrev pub empty_part : (place : ℕ) → Part
empty_part place = record { from = place; to = place; there = false; end = false }

-- the part with the step at a place, which goes to `goes`; the condition ends at an end and goes to a target
abbrev pub part_with : (target end place : ℕ) → Part → (goes : ℕ) → Option Part
part_with target end place part goes =
    if goes == target then Some (record part { there = true })
    else if goes == end then Some (record part { end = true })
    else if nat_lt place goes && nat_lt goes end then Some (record part { to = max part.to goes })
    else None

-- a part that ends there, if it is over, and the others
abbrev pub before_parts : (others : Part → Option (List Part)) → (behind : ℕ) → Part → Option (List Part)
before_parts others behind part =
    if nat_le part.to behind then option_map (λ parts. record part { to = behind } ∷ parts) (others (empty_part behind))
    else others part

-- the parts of so many steps from a place on, where one may be begun; none where a jump goes elsewhere
abbrev pub parts_from : List Step → (target end : ℕ) → (count place : ℕ) → Part → Option (List Part)
parts_from steps target end zero place part = Some []
parts_from steps target end (suc count) place part =
    option_and_then (before_parts (parts_from steps target end count (place + 1)) (place + 1)) (option_and_then (part_with target end place part) (target_at steps place))

abbrev pub condition_parts : List Step → (from to target : ℕ) → Option (List Part)
condition_parts steps from to target = parts_from steps target to (to - from) from (empty_part from)

-- ---- the condition of steps

-- of a step that goes to its target where its truth is `sense`
abbrev pub leaf_of : StepKind → (place : ℕ) → (sense : Bool) → ConditionTree
leaf_of (StepKind.Test when target negated) place sense = test_condition place (if when then not sense else sense)
leaf_of kind place sense = literal_of sense

abbrev pub unit_to : StepKind → (place end : ℕ) → Goal → (target : ℕ) → Option ConditionTree
unit_to kind place end goal target =
    if target == goal.target then Some (leaf_of kind place goal.sense)
    else if target == end then Some (idle_of (leaf_of kind place (not goal.sense)) goal.sense)
    else None

-- of one step
abbrev pub unit_of : Step → (place end : ℕ) → Goal → Option ConditionTree
unit_of step place end goal = option_and_then (unit_to step.kind place end goal) (target_of step.kind)

-- what looks for the condition between two places
abbrev pub Finds : Type 0
Finds = (from to : ℕ) → Goal → Option ConditionTree

abbrev pub part_goal : (to : ℕ) → Goal → Part → Goal
part_goal to goal part = if part.end then turned_to goal to else goal

-- of a part, and what it is joined to
abbrev pub part_before : Finds → (to : ℕ) → Goal → Part → ConditionTree → Option ConditionTree
part_before finds to goal part whole =
    if part.there && part.end then None
    else option_map (λ first. joined_with (junction_to (part_goal to goal part)) first whole) (finds part.from part.to (part_goal to goal part))

-- of several parts, joined from the right
abbrev pub joined_parts : Finds → (to : ℕ) → Goal → List Part → Option ConditionTree
joined_parts finds to goal [] = None
joined_parts finds to goal (last ∷ []) = finds last.from last.to goal
joined_parts finds to goal (part ∷ parts) = option_and_then (part_before finds to goal part) (joined_parts finds to goal parts)

-- of a part that is the whole, and goes to its end
abbrev pub only_part : Finds → (from to : ℕ) → Goal → Part → Option ConditionTree
only_part finds from to goal part =
    if part.there || (goal.target == to) then None
    else option_map (λ inner. idle_of inner goal.sense) (finds from to (turned_to goal to))

abbrev pub of_parts : Finds → (from to : ℕ) → Goal → List Part → Option ConditionTree
of_parts finds from to goal (only ∷ []) = only_part finds from to goal only
of_parts finds from to goal parts = joined_parts finds to goal parts

-- of the steps that stand between two places
abbrev pub of_stretch : Finds → List Step → (from to : ℕ) → Goal → (stretch : List Step) → Option ConditionTree
of_stretch finds steps from to goal [] = Some (literal_of (not goal.sense))
of_stretch finds steps from to goal (step ∷ []) = unit_of step from to goal
of_stretch finds steps from to goal stretch = option_and_then (of_parts finds from to goal) (condition_parts steps from to goal.target)

-- between two places, so deep at most: they go to the goal's target where its truth is the goal's sense, and else come to the end
abbrev pub condition_within : List Step → (depth : ℕ) → Finds
condition_within steps zero from to goal = None
condition_within steps (suc depth) from to goal =
    if nat_le from to && nat_le to (length steps) then of_stretch (condition_within steps depth) steps from to goal (take (to - from) (drop from steps))
    else None

-- The condition that stands at a place, if one does. It has at most 100 steps, and is at most twice as deep.
abbrev pub condition_of : List Step → ConditionAt → Option ConditionTree
condition_of steps at = condition_within steps 200 at.from at.to (record { sense = false; target = at.target })

-- ---- conditions as parts of expressions

abbrev pub junction_of : ConditionTree → Option Junction
junction_of (joined_condition junction parts) = Some junction
junction_of condition = None

-- one with this junction stands in parentheses as a part of one with that
abbrev pub encloses : Junction → (is_first : Bool) → Option Junction → Bool
encloses Junction.And is_first (Some Junction.Or) = true
encloses Junction.Or is_first (Some Junction.Or) = not is_first
encloses Junction.And is_first (Some Junction.And) = not is_first
encloses junction is_first within = false

abbrev pub is_enclosed : Junction → (is_first : Bool) → ConditionTree → Bool
is_enclosed junction is_first condition = encloses junction is_first (junction_of condition)

-- ---- levels

abbrev pub negated_levels : StepKind → (levels : ℕ) → ℕ
negated_levels (StepKind.Test when target negated) levels = negated
negated_levels kind levels = levels

-- of a test
abbrev pub test_levels : (negated : Bool) → Option Step → ℕ
test_levels negated None = 1
test_levels false (Some step) = step.levels
test_levels true (Some step) = negated_levels step.kind step.levels

-- parentheses are a level more
abbrev pub enclosed_levels : (enclosed : Bool) → ℕ → ℕ
enclosed_levels true levels = one_more levels
enclosed_levels false levels = levels

abbrev pub part_levels : Junction → (is_first : Bool) → ConditionTree → (levels : ℕ) → ℕ
part_levels junction is_first condition levels = enclosed_levels (is_enclosed junction is_first condition) levels

abbrev mutual
  -- How many levels a condition has as an expression.
  pub condition_levels : List Step → ConditionTree → ℕ
  condition_levels steps (test_condition place negated) = test_levels negated (slice_get steps place)
  condition_levels steps true_condition = 1
  condition_levels steps false_condition = 1
  condition_levels steps (joined_condition junction parts) = first_levels steps junction parts

  -- of parts with this junction
  pub first_levels : List Step → Junction → Conditions → ℕ
  first_levels steps junction no_conditions = 0
  first_levels steps junction (and_condition first rest) = levels_behind steps junction rest (part_levels junction true first (condition_levels steps first))

  -- of those before, which have so many levels, and the rest
  pub levels_behind : List Step → Junction → Conditions → (before : ℕ) → ℕ
  levels_behind steps junction no_conditions before = before
  levels_behind steps junction (and_condition next rest) before = levels_behind steps junction rest (one_more (max (part_levels junction false next (condition_levels steps next)) before))
