-- Serves a body. The statements of a plan, from the parts of the source. All lines are 1.
use Rattle.std.specs.Prelude.{Bool, true, false, List, ◌∷◌, Option, None, Some, option_map, option_and_then}
use Rattle.lua_num.specs.Bytes.{Text}
use Rattle.lua_tree.specs.Syntax.{Statements, no_statements, Statement, do_block, while_loop, repeat_loop, if_statement, numeric_for, generic_for, return_statement, break_statement, Branches, no_branches, branch, Otherwise, no_otherwise, otherwise, ForStep, no_step, by_step, Expressions, no_expressions, expression, true_literal}
use Rattle.recover_expr.specs.Drafts.{Part}
use Rattle.recover_flow.specs.Conditions.{ConditionTree}
use Rattle.recover_flow.specs.Joining.{Joined, condition_expression}
use Rattle.recover_flow.specs.Parts.{take_statement, take_values, take_head, appended}
use Rattle.recover_flow.specs.Plans.{Plans, no_plans, and_plan, PlanTree, step_plan, end_plan, do_plan, for_plan, while_plan, repeat_plan, if_plan, ArmPlans, no_arms, last_arm, and_arm}
use Rattle.recover_flow.specs.declared.plan.End.{End}

-- what is built, and the parts that are left; none where a part of it is not there
abbrev pub Built : Type 0 → Type 0
Built Made = Option (Made × List Part)

-- ---- statements that end a block

abbrev pub built_end : End → List Part → Built Statement
built_end (End.Return step) parts = option_map (λ taken. (return_statement taken.0, taken.1)) (take_values step parts)
built_end End.Break parts = Some (break_statement, parts)

-- in a `do` of its own
abbrev pub in_block : (enclosed : Bool) → Statement → Statement
in_block true kind = do_block (appended no_statements kind)
in_block false kind = kind

-- ---- loops

abbrev pub step_of : Expressions → ForStep
step_of no_expressions = no_step
step_of (expression step rest) = by_step step

-- of a first variable, and two values or three
abbrev pub numeric_of : List Text → Expressions → Statements → Option Statement
numeric_of (name ∷ names) (expression first (expression last rest)) block = Some (numeric_for name first last (step_of rest) block)
numeric_of names values block = None

abbrev pub counted_of : (numeric : Bool) → List Text → Expressions → Statements → Option Statement
counted_of true names values block = numeric_of names values block
counted_of false names values block = Some (generic_for names values block)

-- ---- conditions

-- no condition is `true`
abbrev pub built_condition : Option ConditionTree → List Part → Option Joined
built_condition None parts = Some (true_literal 1, parts)
built_condition (Some condition) parts = condition_expression condition parts

-- ---- plans

abbrev mutual
  -- statements behind others
  pub built_from : Statements → Plans → List Part → Built Statements
  built_from before no_plans parts = Some (before, parts)
  built_from before (and_plan plan rest) parts = option_and_then (λ made. built_from (appended before made.0) rest made.1) (built_plan plan parts)

  pub built_plan : PlanTree → List Part → Built Statement
  built_plan (step_plan step) parts = take_statement step parts
  built_plan (end_plan end enclosed) parts = option_map (λ made. (in_block enclosed made.0, made.1)) (built_end end parts)
  -- its first statement declares the locals
  built_plan (do_plan step body) parts =
      option_and_then (λ taken. option_map (λ made. (do_block made.0, made.1)) (built_from (appended no_statements taken.0) body taken.1)) (take_statement step parts)
  built_plan (for_plan step numeric body) parts =
      option_and_then (λ taken. option_and_then (λ made. option_map (λ kind. (kind, made.1)) (counted_of numeric taken.0.1 taken.0.0 made.0)) (built_from no_statements body taken.1)) (take_head step parts)
  built_plan (while_plan condition body) parts =
      option_and_then (λ test. option_map (λ made. (while_loop test.0 made.0, made.1)) (built_from no_statements body test.1)) (condition_expression condition parts)
  built_plan (repeat_plan body condition) parts =
      option_and_then (λ made. option_map (λ test. (repeat_loop made.0 test.0, test.1)) (built_condition condition made.1)) (built_from no_statements body parts)
  built_plan (if_plan arms) parts = option_map (λ made. (if_statement made.0.0 made.0.1, made.1)) (built_arms arms parts)

  -- the arms of an `if`, and its `else`
  pub built_arms : ArmPlans → List Part → Built (Branches × Otherwise)
  built_arms no_arms parts = Some ((no_branches, no_otherwise), parts)
  built_arms (last_arm body) parts = option_map (λ made. ((no_branches, otherwise made.0), made.1)) (built_from no_statements body parts)
  built_arms (and_arm condition body rest) parts =
      option_and_then (λ test. option_and_then (λ made. option_map (λ behind. ((branch test.0 made.0 behind.0.0, behind.0.1), behind.1)) (built_arms rest made.1)) (built_from no_statements body test.1))
      (built_condition condition parts)

-- the statements of a body, one after the other
abbrev pub built_body : Plans → List Part → Built Statements
built_body plans parts = built_from no_statements plans parts
