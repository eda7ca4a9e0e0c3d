-- The tests on the way down say whether a tree is formed, and how deep it is.
use Rattle.std.proofs.Common.{◌≡◌, ℕ, ◌-◌, max, true, false, arith}
use Rattle.lua_tree.specs.Syntax.{Statements, no_statements, statement, Statement, assignment, call_statement, do_block, while_loop, repeat_loop, if_statement, numeric_for, generic_for, function_statement, local_function, local_statement, return_statement, break_statement, Branches, no_branches, branch, Otherwise, no_otherwise, otherwise, ForStep, no_step, by_step, FunctionBody, function_body, Expressions, no_expressions, expression, Expression, nil_literal, true_literal, false_literal, vararg_expression, number_literal, text_literal, name_expression, function_expression, index_expression, field_expression, call_expression, method_call, and_expression, or_expression, binary_expression, unary_expression, constructor, parenthesized, Arguments, argument_list, text_argument, table_argument, Fields, no_fields, positional, named, keyed}
use Rattle.lua_tree.specs.Names.{is_name, are_names, are_some_names}
use Rattle.lua_tree.specs.Precedence.{level_of_op, is_right_associative, left_binds, right_binds}
use Rattle.lua_tree.specs.WellFormed.{are_targets, is_call, is_prefix, has_expressions, has_branches, ends_item, is_numeral_value, is_optional_name, on_its_line, may_follow, formed_statements, formed_statement, formed_branches, formed_otherwise, formed_step, formed_body, formed_expressions, formed_expression, formed_arguments, formed_fields, depth_of_statements, depth_of_statement, depth_of_branches, depth_of_otherwise, depth_of_step, depth_of_body, depth_of_expressions, depth_of_expression, depth_of_arguments, depth_of_fields}
use Rattle.well_formed.specs.Within.{below, statements_within, statement_within, branches_within, otherwise_within, step_within, body_within, expressions_within, inside_within, arguments_within, fields_within}
use Rattle.well_formed.proofs.Tests.{Tests, alone, only, both, and_only, deeper, shifted}

max_left : (x y z : ℕ) → max x (max y z) ≡ max (max x y) z
max_left x y z = omega arith

max_pairs : (x y z w : ℕ) → max x (max y (max z w)) ≡ max (max x y) (max z w)
max_pairs x y z w = omega arith

mutual
  pub of_statements : (b : Statements) (n : ℕ) → Tests (statements_within n b) (formed_statements b) (depth_of_statements b) n
  of_statements no_statements n = alone true n
  of_statements (statement line semi s rest) n = both (deeper (of_statement s (n - 1))) (only (may_follow s semi rest) (of_statements rest n))

  of_statement : (s : Statement) (n : ℕ) → Tests (statement_within n s) (formed_statement s) (depth_of_statement s) n
  of_statement (assignment targets es) n =
      only (has_expressions targets) (only (are_targets targets) (both (of_expressions targets n) (only (has_expressions es) (of_expressions es n))))
  of_statement (call_statement e) n = only (is_call e) (of_expression e n)
  of_statement (do_block block) n = of_statements block n
  of_statement (while_loop cond block) n = both (of_expression cond n) (of_statements block n)
  of_statement (repeat_loop block cond) n = both (of_statements block n) (of_expression cond n)
  of_statement (if_statement branches last) n = only (has_branches branches) (both (of_branches branches n) (of_otherwise last n))
  of_statement (numeric_for name first last step block) n =
      shifted (max_pairs (depth_of_expression first) (depth_of_expression last) (depth_of_step step) (depth_of_statements block))
      (only (is_name name) (both (of_expression first n) (both (of_expression last n) (both (of_step step n) (of_statements block n)))))
  of_statement (generic_for names es block) n = only (are_some_names names) (only (has_expressions es) (both (of_expressions es n) (of_statements block n)))
  of_statement (function_statement path method body) n = only (are_some_names path) (only (is_optional_name method) (deeper (of_body body (n - 1))))
  of_statement (local_function name body) n = only (is_name name) (deeper (of_body body (n - 1)))
  of_statement (local_statement names es) n = only (are_some_names names) (of_expressions es n)
  of_statement (return_statement es) n = of_expressions es n
  of_statement break_statement n = alone true n

  of_branches : (b : Branches) (n : ℕ) → Tests (branches_within n b) (formed_branches b) (depth_of_branches b) n
  of_branches no_branches n = alone true n
  of_branches (branch cond block rest) n =
      shifted (max_left (depth_of_expression cond) (depth_of_statements block) (depth_of_branches rest)) (both (of_expression cond n) (both (of_statements block n) (of_branches rest n)))

  of_otherwise : (b : Otherwise) (n : ℕ) → Tests (otherwise_within n b) (formed_otherwise b) (depth_of_otherwise b) n
  of_otherwise no_otherwise n = alone true n
  of_otherwise (otherwise block) n = of_statements block n

  of_step : (s : ForStep) (n : ℕ) → Tests (step_within n s) (formed_step s) (depth_of_step s) n
  of_step no_step n = alone true n
  of_step (by_step e) n = of_expression e n

  of_body : (f : FunctionBody) (n : ℕ) → Tests (body_within n f) (formed_body f) (depth_of_body f) n
  of_body (function_body params vararg block first last) n = only (are_names params) (of_statements block n)

  of_expressions : (es : Expressions) (n : ℕ) → Tests (expressions_within n es) (formed_expressions es) (depth_of_expressions es) n
  of_expressions no_expressions n = alone true n
  of_expressions (expression e rest) n = both (of_expression e n) (of_expressions rest n)

  of_expression : (e : Expression) (n : ℕ) → Tests (below n (inside_within (n - 1) e)) (formed_expression e) (depth_of_expression e) n
  of_expression (nil_literal line) n = deeper (alone true (n - 1))
  of_expression (true_literal line) n = deeper (alone true (n - 1))
  of_expression (false_literal line) n = deeper (alone true (n - 1))
  of_expression (vararg_expression line) n = deeper (alone true (n - 1))
  of_expression (number_literal line value) n = deeper (alone (is_numeral_value value) (n - 1))
  of_expression (text_literal line text) n = deeper (alone true (n - 1))
  of_expression (name_expression line name) n = deeper (alone (is_name name) (n - 1))
  of_expression (function_expression line body) n = deeper (of_body body (n - 1))
  of_expression (index_expression line on key) n = deeper (only (is_prefix on) (both (of_expression on (n - 1)) (of_expression key (n - 1))))
  of_expression (field_expression line on name) n = deeper (only (is_prefix on) (and_only (is_name name) (of_expression on (n - 1))))
  of_expression (call_expression line on args on_line) n =
      deeper (only (is_prefix on) (both (of_expression on (n - 1)) (only (on_its_line args line on_line) (of_arguments args (n - 1)))))
  of_expression (method_call line on name args on_line) n =
      deeper (only (is_prefix on) (both (of_expression on (n - 1)) (only (is_name name) (only (on_its_line args line on_line) (of_arguments args (n - 1))))))
  of_expression (and_expression line left right) n =
      deeper (only (left_binds 2 false left) (only (right_binds 2 false right) (both (of_expression left (n - 1)) (of_expression right (n - 1)))))
  of_expression (or_expression line left right) n =
      deeper (only (left_binds 1 false left) (only (right_binds 1 false right) (both (of_expression left (n - 1)) (of_expression right (n - 1)))))
  of_expression (binary_expression line op left right) n =
      deeper (only (left_binds (level_of_op op) (is_right_associative op) left) (only (right_binds (level_of_op op) (is_right_associative op) right)
      (both (of_expression left (n - 1)) (of_expression right (n - 1)))))
  of_expression (unary_expression line op of) n = deeper (only (left_binds 7 false of) (of_expression of (n - 1)))
  of_expression (constructor line fields) n = deeper (of_fields fields (n - 1))
  of_expression (parenthesized line e) n = deeper (of_expression e (n - 1))

  of_arguments : (a : Arguments) (n : ℕ) → Tests (arguments_within n a) (formed_arguments a) (depth_of_arguments a) n
  of_arguments (argument_list es) n = of_expressions es n
  of_arguments (text_argument text) n = alone true n
  of_arguments (table_argument fields) n = of_fields fields n

  of_fields : (fs : Fields) (n : ℕ) → Tests (fields_within n fs) (formed_fields fs) (depth_of_fields fs) n
  of_fields no_fields n = alone true n
  of_fields (positional e separator rest) n = only (ends_item separator rest) (both (of_expression e n) (of_fields rest n))
  of_fields (named name e separator rest) n = only (ends_item separator rest) (only (is_name name) (both (of_expression e n) (of_fields rest n)))
  of_fields (keyed key e separator rest) n =
      shifted (max_left (depth_of_expression key) (depth_of_expression e) (depth_of_fields rest))
      (only (ends_item separator rest) (both (of_expression key n) (both (of_expression e n) (of_fields rest n))))
