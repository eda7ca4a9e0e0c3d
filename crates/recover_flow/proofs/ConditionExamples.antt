-- Conditions that small stretches of steps are.
use Rattle.std.proofs.Common.{◌≡◌, ℕ, Bool, true, false, List, [], ◌∷◌, None, Some, refl}
use Rattle.recover_expr.specs.declared.steps.Step.{Step}
use Rattle.recover_expr.specs.declared.steps.StepKind.{StepKind}
use Rattle.recover_flow.specs.Conditions.{ConditionTree, test_condition, true_condition, joined_condition, no_conditions, and_condition, condition_of, condition_levels}
use Rattle.recover_flow.specs.declared.conditions.Junction.{Junction}

-- a step whose expression has one level, and two where it is written negated
abbrev step : StepKind → Step
step kind = record { kind = kind; pc = 0; base = 0; captured = 0; levels = 1 }

abbrev test : (when : Bool) → (target : ℕ) → Step
test when target = step (StepKind.Test when target 2)

abbrev two : Junction → ConditionTree → ConditionTree → ConditionTree
two junction first second = joined_condition junction (and_condition first (and_condition second no_conditions))

-- `a and b`
both : condition_of (test false 5 ∷ test false 5 ∷ []) (record { from = 0; to = 2; target = 5 }) ≡ Some (two Junction.And (test_condition 0 false) (test_condition 1 false))
both = refl

-- `a or b`
either : condition_of (test true 2 ∷ test false 5 ∷ []) (record { from = 0; to = 2; target = 5 }) ≡ Some (two Junction.Or (test_condition 0 false) (test_condition 1 false))
either = refl

-- `(a or not b) and c`, whose parentheses are a level
abbrev nested : List Step
nested = test true 2 ∷ test true 6 ∷ test false 6 ∷ []

abbrev nested_condition : ConditionTree
nested_condition = two Junction.And (two Junction.Or (test_condition 0 false) (test_condition 1 true)) (test_condition 2 false)

enclosed : condition_of nested (record { from = 0; to = 3; target = 6 }) ≡ Some nested_condition
enclosed = refl

enclosed_levels : condition_levels nested nested_condition ≡ 5
enclosed_levels = refl

-- no steps are `true`
none : condition_of [] (record { from = 0; to = 0; target = 5 }) ≡ Some true_condition
none = refl

-- a test that goes elsewhere is no condition
elsewhere : condition_of (test false 3 ∷ []) (record { from = 0; to = 1; target = 5 }) ≡ None
elsewhere = refl

-- one that comes to the end whatever it finds is `not a or true`
idle : condition_of (test false 1 ∷ []) (record { from = 0; to = 1; target = 5 }) ≡ Some (two Junction.Or (test_condition 0 true) true_condition)
idle = refl
