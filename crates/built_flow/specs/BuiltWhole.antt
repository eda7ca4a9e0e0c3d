-- Serves the laws. What is built of a plan that lies on the steps of a function: it is there, keeps the rules of form, and is no deeper than the plan.
use Rattle.std.specs.Prelude.{◌≡◌, ◌≤◌, true, false, List, length, None, Some}
use Rattle.lua_tree.specs.Syntax.{Statements}
use Rattle.lua_tree.specs.WellFormed.{depth_of_statements, formed_statements}
use Rattle.recover_expr.specs.Drafts.{Part}
use Rattle.recover_expr.specs.Placing.{Steps}
use Rattle.recover_expr.specs.declared.steps.Step.{Step}
use Rattle.recover_flow.specs.Built.{built_body}
use Rattle.recover_flow.specs.Lying.{BodyLies}
use Rattle.recover_flow.specs.Plans.{Plans, no_plans, and_plan, PlanTree, step_plan, end_plan, do_plan, for_plan, while_plan, repeat_plan, if_plan, ArmPlans, no_arms, last_arm, and_arm, body_levels}
use Rattle.recover_flow.specs.Standing.{BodyStands}
use Rattle.recover_flow.specs.declared.regions.BodyAt.{BodyAt}
use Rattle.same_flow.specs.Written.{ArePartsDeep, ArePartsFormed, HaveParts}

-- what lies is built
abbrev pub LyingIsBuilt : Type 0
LyingIsBuilt =
    (code : Steps) → HaveParts code → (plans : Plans) → BodyLies code.steps None (length code.steps) plans 0 (length code.steps)
    → (block : Statements) × (behind : List Part) × (built_body plans code.parts ≡ Some (block, behind))

-- ---- the rules of form

-- a `return` or a `break` that stands in no `do` of its own is the last of its block
abbrev pub EndsLast : PlanTree → (behind : Plans) → Type 0
EndsLast (end_plan end false) (and_plan next rest) = ⊥
EndsLast plan behind = Unit {0}

-- an `if` begins with an arm
abbrev pub HasArm : ArmPlans → Type 0
HasArm (and_arm condition body rest) = Unit {0}
HasArm arms = ⊥

-- so it is with all that is planned; where plans lie, nothing tells this, and where they stand, all of it is so
abbrev mutual
  pub ArePlansFormed : Plans → Type 0
  ArePlansFormed no_plans = Unit {0}
  ArePlansFormed (and_plan plan rest) = EndsLast plan rest × IsPlanFormed plan × ArePlansFormed rest

  pub IsPlanFormed : PlanTree → Type 0
  IsPlanFormed (step_plan step) = Unit {0}
  IsPlanFormed (end_plan end enclosed) = Unit {0}
  IsPlanFormed (do_plan step body) = ArePlansFormed body
  IsPlanFormed (for_plan step numeric body) = ArePlansFormed body
  IsPlanFormed (while_plan condition body) = ArePlansFormed body
  IsPlanFormed (repeat_plan body condition) = ArePlansFormed body
  IsPlanFormed (if_plan arms) = HasArm arms × AreArmsFormed arms

  pub AreArmsFormed : ArmPlans → Type 0
  AreArmsFormed no_arms = Unit {0}
  AreArmsFormed (last_arm body) = ArePlansFormed body
  AreArmsFormed (and_arm condition body rest) = ArePlansFormed body × AreArmsFormed rest

-- what stands is planned so
abbrev pub StandingIsFormed : Type 0
StandingIsFormed = (steps : List Step) (at : BodyAt) (plans : Plans) → BodyStands steps at plans → ArePlansFormed plans

-- what is built of formed parts is formed
abbrev pub BuiltIsFormed : Type 0
BuiltIsFormed =
    (code : Steps) → HaveParts code → ArePartsFormed code → (plans : Plans) → ArePlansFormed plans → BodyLies code.steps None (length code.steps) plans 0 (length code.steps) → (block : Statements) (behind : List Part)
    → built_body plans code.parts ≡ Some (block, behind)
    → formed_statements block ≡ true

-- ---- how deep it is

-- what is built is no deeper than the plan, where that needs no more than a tree may have
abbrev pub BuiltIsShallow : Type 0
BuiltIsShallow =
    (code : Steps) → HaveParts code → ArePartsDeep code → (plans : Plans) → BodyLies code.steps None (length code.steps) plans 0 (length code.steps) → body_levels code.steps plans ≤ 200 → (block : Statements) (behind : List Part)
    → built_body plans code.parts ≡ Some (block, behind) → depth_of_statements block ≤ body_levels code.steps plans
