-- What is built of small plans.
use Rattle.std.proofs.Common.{◌≡◌, refl, true, false, [], ◌∷◌, None, Some}
use Rattle.lua_tree.specs.Syntax.{no_statements, statement, do_block, while_loop, if_statement, numeric_for, local_statement, return_statement, break_statement, no_branches, branch, no_otherwise, otherwise, no_step, no_expressions, expression, nil_literal, true_literal}
use Rattle.recover_expr.specs.Drafts.{nothing_part, statement_part, values_part, condition_part, head_part}
use Rattle.recover_flow.specs.Built.{built_body, built_plan}
use Rattle.recover_flow.specs.Conditions.{test_condition}
use Rattle.recover_flow.specs.Plans.{no_plans, and_plan, end_plan, do_plan, for_plan, while_plan, if_plan, no_arms, last_arm, and_arm}
use Rattle.recover_flow.specs.declared.plan.End.{End}

-- the same part is not there twice
taken_once : built_body (and_plan (end_plan (End.Return 0) false) (and_plan (end_plan (End.Return 0) false) no_plans)) (values_part no_expressions ∷ []) ≡ None
taken_once = refl

-- a return that is not last is in a `do`
return_enclosed : built_body (and_plan (end_plan (End.Return 0) true) (and_plan (end_plan End.Break false) no_plans)) (values_part no_expressions ∷ [])
    ≡ Some (statement 1 false (do_block (statement 1 false (return_statement no_expressions) no_statements)) (statement 1 false break_statement no_statements), nothing_part ∷ [])
return_enclosed = refl

-- the locals of a `do` come before its body
locals_first : built_plan (do_plan 0 (and_plan (end_plan End.Break false) no_plans)) (statement_part (local_statement [] no_expressions) ∷ [])
    ≡ Some (do_block (statement 1 false (local_statement [] no_expressions) (statement 1 false break_statement no_statements)), nothing_part ∷ [])
locals_first = refl

while_one : built_plan (while_plan (test_condition 0 false) (and_plan (end_plan End.Break false) no_plans)) (condition_part (nil_literal 1) ∷ [])
    ≡ Some (while_loop (nil_literal 1) (statement 1 false break_statement no_statements), nothing_part ∷ [])
while_one = refl

-- a numeric `for` has two values at least
for_two : built_plan (for_plan 0 true no_plans) (head_part (expression (nil_literal 1) (expression (true_literal 1) no_expressions)) ([] ∷ []) ∷ []) ≡ Some (numeric_for [] (nil_literal 1) (true_literal 1) no_step no_statements, nothing_part ∷ [])
for_two = refl

for_one : built_plan (for_plan 0 true no_plans) (head_part (expression (nil_literal 1) no_expressions) ([] ∷ []) ∷ []) ≡ None
for_one = refl

-- an arm with no condition is tried always
if_true : built_plan (if_plan (and_arm None no_plans (last_arm (and_plan (end_plan End.Break false) no_plans)))) [] ≡ Some (if_statement (branch (true_literal 1) no_statements no_branches) (otherwise (statement 1 false break_statement no_statements)), [])
if_true = refl

if_alone : built_plan (if_plan (and_arm (Some (test_condition 0 false)) no_plans no_arms)) (condition_part (nil_literal 1) ∷ []) ≡ Some (if_statement (branch (nil_literal 1) no_statements no_branches) no_otherwise, nothing_part ∷ [])
if_alone = refl
