-- Serves a body. Plans as plain data: how the statements of a function stand, by the numbers of its steps.
use Rattle.std.specs.Prelude.{ℕ, ◌+◌, max, Bool, true, false, List, slice_get, Option, None, Some, if◌then◌else◌}
use Rattle.core_expr.specs.Counting.{one_more}
use Rattle.recover_expr.specs.declared.steps.Step.{Step}
use Rattle.recover_flow.specs.Conditions.{ConditionTree, condition_levels}
use Rattle.recover_flow.specs.declared.plan.End.{End}

mutual
  pub data Plans : Type 0 where
    no_plans : Plans
    and_plan : PlanTree → Plans → Plans

  pub data PlanTree : Type 0 where
    -- an act, or locals of the block's own
    step_plan : (step : ℕ) → PlanTree
    -- in a `do` where it is enclosed
    end_plan : End → (enclosed : Bool) → PlanTree
    -- a `do` that begins with locals
    do_plan : (step : ℕ) → Plans → PlanTree
    for_plan : (step : ℕ) → (numeric : Bool) → Plans → PlanTree
    while_plan : ConditionTree → Plans → PlanTree
    -- no condition is `true`
    repeat_plan : Plans → Option ConditionTree → PlanTree
    if_plan : ArmPlans → PlanTree

  -- what stands in an `if` from a place on: nothing, the block of an `else`, or an arm; no condition is `true`
  pub data ArmPlans : Type 0 where
    no_arms : ArmPlans
    last_arm : Plans → ArmPlans
    and_arm : Option ConditionTree → Plans → ArmPlans → ArmPlans

-- ---- levels

abbrev pub levels_at : Option Step → ℕ
levels_at None = 0
levels_at (Some step) = step.levels

-- of the step of a number
abbrev pub step_levels : List Step → (step : ℕ) → ℕ
step_levels steps step = levels_at (slice_get steps step)

abbrev pub end_levels : List Step → End → ℕ
end_levels steps (End.Return step) = step_levels steps step
end_levels steps End.Break = 1

-- of a statement around a block, beside that block
abbrev pub head_levels : ℕ → ℕ
head_levels own = max own 2

abbrev pub until_levels : List Step → Option ConditionTree → ℕ
until_levels steps None = 2
until_levels steps (Some condition) = head_levels (one_more (condition_levels steps condition))

-- of the condition of an arm
abbrev pub tested_levels : List Step → Option ConditionTree → ℕ
tested_levels steps None = 1
tested_levels steps (Some condition) = max (condition_levels steps condition) 1

abbrev pub around_block : (own inner : ℕ) → ℕ
around_block own inner = max own (inner + 1)

abbrev pub ending_levels : Bool → ℕ → ℕ
ending_levels enclosed own = if enclosed then one_more own else own

abbrev mutual
  -- of the highest statement, one at least where there is one
  pub body_levels : List Step → Plans → ℕ
  body_levels steps no_plans = 0
  body_levels steps (and_plan plan rest) = max (max 1 (plan_levels steps plan)) (body_levels steps rest)

  pub plan_levels : List Step → PlanTree → ℕ
  plan_levels steps (step_plan step) = step_levels steps step
  plan_levels steps (end_plan end enclosed) = ending_levels enclosed (end_levels steps end)
  plan_levels steps (do_plan step body) = around_block (head_levels (one_more (step_levels steps step))) (body_levels steps body)
  plan_levels steps (for_plan step numeric body) = around_block (head_levels (step_levels steps step)) (body_levels steps body)
  plan_levels steps (while_plan condition body) = around_block (until_levels steps (Some condition)) (body_levels steps body)
  plan_levels steps (repeat_plan body condition) = around_block (until_levels steps condition) (body_levels steps body)
  plan_levels steps (if_plan arms) = arm_levels steps arms + 1

  pub arm_levels : List Step → ArmPlans → ℕ
  arm_levels steps no_arms = 0
  arm_levels steps (last_arm body) = body_levels steps body
  arm_levels steps (and_arm condition body rest) = max (max (tested_levels steps condition) (body_levels steps body)) (arm_levels steps rest)
