-- Levels of plans: what a body, an `if` and what stands around a block need at least.
use Rattle.std.proofs.Common.{◌≡◌, ◌≤◌, ◌<◌, ℕ, max, List, [], ◌∷◌, Option, None, Some, arith}
use Rattle.recover_expr.specs.declared.steps.Step.{Step}
use Rattle.recover_flow.specs.Conditions.{ConditionTree}
use Rattle.recover_flow.specs.Held.{Store, PlansHeld}
use Rattle.recover_flow.specs.Plans.{Plans, no_plans, and_plan, PlanTree, ArmPlans, no_arms, last_arm, and_arm, body_levels, plan_levels, arm_levels, tested_levels, until_levels}
use Rattle.recover_flow.specs.Searching.{highest_of}
use Rattle.recover_flow.specs.Standing.{BranchesStand}
use Rattle.recover_flow.specs.declared.plan.Planned.{Planned}
use Rattle.recover_flow.specs.declared.regions.BranchesAt.{BranchesAt}

pub body_from_first : (steps : List Step) (plan : PlanTree) (rest : Plans) → plan_levels steps plan ≤ body_levels steps (and_plan plan rest)
body_from_first steps plan rest = omega arith

pub body_from_rest : (steps : List Step) (plan : PlanTree) (rest : Plans) → body_levels steps rest ≤ body_levels steps (and_plan plan rest)
body_from_rest steps plan rest = omega arith

pub body_from_one : (steps : List Step) (plan : PlanTree) (rest : Plans) → 1 ≤ body_levels steps (and_plan plan rest)
body_from_one steps plan rest = omega arith

-- an arm needs a level for its condition
pub test_from_one : (steps : List Step) (condition : Option ConditionTree) → 1 ≤ tested_levels steps condition
test_from_one steps None = omega arith
test_from_one steps (Some condition) = omega arith

pub arm_from_one : (steps : List Step) (condition : Option ConditionTree) (body : Plans) (rest : ArmPlans) → 1 ≤ arm_levels steps (and_arm condition body rest)
arm_from_one steps condition body rest = omega (arith, test_from_one steps condition)

-- an `if` needs two
pub branches_from_one : (steps : List Step) (at : BranchesAt) (arms : ArmPlans) → BranchesStand steps at arms → 1 ≤ arm_levels steps arms
branches_from_one steps at no_arms stand = absurd stand
branches_from_one steps at (last_arm body) stand = absurd stand
branches_from_one steps at (and_arm condition body rest) stand = arm_from_one steps condition body rest

pub until_from_two : (steps : List Step) (condition : Option ConditionTree) → 2 ≤ until_levels steps condition
until_from_two steps None = omega arith
until_from_two steps (Some condition) = omega arith

-- the highest statement of a list, from those that it holds
pub highest_held : (steps : List Step) (store : Store) (statements : List Planned) (plans : Plans) (sofar : ℕ) → 1 ≤ sofar → PlansHeld steps store statements plans → highest_of statements sofar ≡ max sofar (body_levels steps plans)
highest_held steps store [] no_plans sofar one held = omega arith
highest_held steps store [] (and_plan plan rest) sofar one held = absurd held
highest_held steps store (planned ∷ later) no_plans sofar one held = absurd held
highest_held steps store (planned ∷ later) (and_plan plan rest) sofar one held =
    let rest_is = highest_held steps store later rest (max sofar planned.levels) (omega arith) held.2 in
    omega (arith, rest_is, held.0)
