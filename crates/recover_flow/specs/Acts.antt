-- Serves the laws. Functions whose steps are all statements by themselves, of which the last one may be a return: what stands there, and what is built of it.
use Rattle.std.specs.Prelude.{◌≡◌, ◌+◌, ◌⊎◌, ℕ, Bool, true, false, List, [], ◌∷◌, length, Some}
use Rattle.lua_tree.specs.Syntax.{Statements, no_statements, statement, Statement, return_statement}
use Rattle.recover_expr.specs.Drafts.{Part, statement_part, values_part}
use Rattle.recover_expr.specs.declared.steps.Step.{Step}
use Rattle.recover_expr.specs.declared.steps.StepKind.{StepKind}
use Rattle.recover_flow.specs.Built.{built_body}
use Rattle.recover_flow.specs.Parts.{begins_open}
use Rattle.recover_flow.specs.Plans.{Plans, no_plans, and_plan, PlanTree, step_plan, end_plan}
use Rattle.recover_flow.specs.Searching.{whole_body}
use Rattle.recover_flow.specs.Standing.{BodyStands}
use Rattle.recover_flow.specs.declared.plan.End.{End}

-- an act, or a declaration of locals that end with the function, behind so many steps
abbrev pub IsPlain : (count : ℕ) → StepKind → Type 0
IsPlain count kind = (kind ≡ StepKind.Act) ⊎ ((captured : Bool) × (kind ≡ StepKind.Declaration count captured))

-- each step is such a one, and the last one may be a return
abbrev pub ArePlain : (count : ℕ) → List Step → Type 0
ArePlain count [] = Unit {0}
ArePlain count (step ∷ []) = IsPlain count step.kind ⊎ (step.kind ≡ StepKind.Return)
ArePlain count (step ∷ next ∷ steps) = IsPlain count step.kind × ArePlain count (next ∷ steps)

-- a step is a statement by itself
abbrev pub plan_of : StepKind → (step : ℕ) → PlanTree
plan_of StepKind.Return step = end_plan (End.Return step) false
plan_of kind step = step_plan step

-- these steps from one on, each a statement by itself
abbrev pub plans_of : (from : ℕ) → List Step → Plans
plans_of from [] = no_plans
plans_of from (step ∷ steps) = and_plan (plan_of step.kind from) (plans_of (from + 1) steps)

-- the first of these statements begins with a parenthesis
abbrev pub begin_open : Statements → Bool
begin_open no_statements = false
begin_open (statement line semicolon kind rest) = begins_open kind

-- what stands of a statement in its step
abbrev pub part_of_statement : Statement → Part
part_of_statement (return_statement values) = values_part values
part_of_statement kind = statement_part kind

abbrev pub parts_of_statements : Statements → List Part
parts_of_statements no_statements = []
parts_of_statements (statement line semicolon kind rest) = part_of_statement kind ∷ parts_of_statements rest

abbrev pub is_return_step : StepKind → Bool
is_return_step StepKind.Return = true
is_return_step kind = false

abbrev pub is_return : Statement → Bool
is_return (return_statement values) = true
is_return kind = false

-- the steps are those of these statements: returns are steps that return
abbrev pub AreStepsOf : Statements → List Step → Type 0
AreStepsOf no_statements steps = steps ≡ []
AreStepsOf (statement line semicolon kind rest) [] = ⊥
AreStepsOf (statement line semicolon kind rest) (step ∷ steps) = (is_return_step step.kind ≡ is_return kind) × AreStepsOf rest steps

-- these statements on line 1, with a semicolon alone before one that begins with a parenthesis
abbrev pub with_separators : Statements → Statements
with_separators no_statements = no_statements
with_separators (statement line semicolon kind rest) = statement 1 (begin_open rest) kind (with_separators rest)

-- one body stands there, of these statements
abbrev pub ActsAreFound : Type 0
ActsAreFound =
    (steps : List Step) → ArePlain (length steps) steps
    → BodyStands steps (whole_body steps) (plans_of 0 steps) × ((plans : Plans) → BodyStands steps (whole_body steps) plans → plans ≡ plans_of 0 steps)

-- they are built of their parts
abbrev pub ActsAreBuilt : Type 0
ActsAreBuilt =
    (statements : Statements) (steps : List Step) → AreStepsOf statements steps
    → (behind : List Part) × (built_body (plans_of 0 steps) (parts_of_statements statements) ≡ Some (with_separators statements, behind))
