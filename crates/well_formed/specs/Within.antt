-- Serves a body. Whether parts of a tree are well formed and lie at most so many levels deep: the levels are counted on the way down.
use Rattle.std.specs.Prelude.{◌&&◌, ℕ, ◌-◌, Bool, true, false, nat_lt}
use Rattle.lua_tree.specs.Syntax.{Statements, no_statements, statement, Statement, assignment, call_statement, do_block, while_loop, repeat_loop, if_statement, numeric_for, generic_for, function_statement, local_function, local_statement, return_statement, break_statement, Branches, no_branches, branch, Otherwise, no_otherwise, otherwise, ForStep, no_step, by_step, FunctionBody, function_body, Expressions, no_expressions, expression, Expression, nil_literal, true_literal, false_literal, vararg_expression, number_literal, text_literal, name_expression, function_expression, index_expression, field_expression, call_expression, method_call, and_expression, or_expression, binary_expression, unary_expression, constructor, parenthesized, Arguments, argument_list, text_argument, table_argument, Fields, no_fields, positional, named, keyed}
use Rattle.lua_tree.specs.Names.{is_name, are_names, are_some_names}
use Rattle.lua_tree.specs.Precedence.{level_of_op, is_right_associative, left_binds, right_binds}
use Rattle.lua_tree.specs.WellFormed.{are_targets, is_call, is_prefix, has_expressions, has_branches, ends_item, is_numeral_value, is_optional_name, on_its_line, may_follow}

-- there is a level left, and so it is with one level less
abbrev pub below : ℕ → Bool → Bool
below n inside = nat_lt 0 n && inside

abbrev mutual
  pub statements_within : ℕ → Statements → Bool
  statements_within n no_statements = true
  statements_within n (statement line semi s rest) = below n (statement_within (n - 1) s) && (may_follow s semi rest && statements_within n rest)

  -- what a statement holds
  pub statement_within : ℕ → Statement → Bool
  statement_within n (assignment targets es) = has_expressions targets && (are_targets targets && (expressions_within n targets && (has_expressions es && expressions_within n es)))
  statement_within n (call_statement e) = is_call e && below n (inside_within (n - 1) e)
  statement_within n (do_block block) = statements_within n block
  statement_within n (while_loop cond block) = below n (inside_within (n - 1) cond) && statements_within n block
  statement_within n (repeat_loop block cond) = statements_within n block && below n (inside_within (n - 1) cond)
  statement_within n (if_statement branches last) = has_branches branches && (branches_within n branches && otherwise_within n last)
  statement_within n (numeric_for name first last step block) =
      is_name name && (below n (inside_within (n - 1) first) && (below n (inside_within (n - 1) last) && (step_within n step && statements_within n block)))
  statement_within n (generic_for names es block) = are_some_names names && (has_expressions es && (expressions_within n es && statements_within n block))
  statement_within n (function_statement path method body) = are_some_names path && (is_optional_name method && below n (body_within (n - 1) body))
  statement_within n (local_function name body) = is_name name && below n (body_within (n - 1) body)
  statement_within n (local_statement names es) = are_some_names names && expressions_within n es
  statement_within n (return_statement es) = expressions_within n es
  statement_within n break_statement = true

  pub branches_within : ℕ → Branches → Bool
  branches_within n no_branches = true
  branches_within n (branch cond block rest) = below n (inside_within (n - 1) cond) && (statements_within n block && branches_within n rest)

  pub otherwise_within : ℕ → Otherwise → Bool
  otherwise_within n no_otherwise = true
  otherwise_within n (otherwise block) = statements_within n block

  pub step_within : ℕ → ForStep → Bool
  step_within n no_step = true
  step_within n (by_step e) = below n (inside_within (n - 1) e)

  pub body_within : ℕ → FunctionBody → Bool
  body_within n (function_body params vararg block first last) = are_names params && statements_within n block

  pub expressions_within : ℕ → Expressions → Bool
  expressions_within n no_expressions = true
  expressions_within n (expression e rest) = below n (inside_within (n - 1) e) && expressions_within n rest

  -- what an expression holds
  pub inside_within : ℕ → Expression → Bool
  inside_within n (nil_literal line) = true
  inside_within n (true_literal line) = true
  inside_within n (false_literal line) = true
  inside_within n (vararg_expression line) = true
  inside_within n (number_literal line value) = is_numeral_value value
  inside_within n (text_literal line text) = true
  inside_within n (name_expression line name) = is_name name
  inside_within n (function_expression line body) = body_within n body
  inside_within n (index_expression line on key) = is_prefix on && (below n (inside_within (n - 1) on) && below n (inside_within (n - 1) key))
  inside_within n (field_expression line on name) = is_prefix on && (below n (inside_within (n - 1) on) && is_name name)
  inside_within n (call_expression line on args on_line) = is_prefix on && (below n (inside_within (n - 1) on) && (on_its_line args line on_line && arguments_within n args))
  inside_within n (method_call line on name args on_line) =
      is_prefix on && (below n (inside_within (n - 1) on) && (is_name name && (on_its_line args line on_line && arguments_within n args)))
  inside_within n (and_expression line left right) =
      left_binds 2 false left && (right_binds 2 false right && (below n (inside_within (n - 1) left) && below n (inside_within (n - 1) right)))
  inside_within n (or_expression line left right) =
      left_binds 1 false left && (right_binds 1 false right && (below n (inside_within (n - 1) left) && below n (inside_within (n - 1) right)))
  inside_within n (binary_expression line op left right) =
      left_binds (level_of_op op) (is_right_associative op) left &&
      (right_binds (level_of_op op) (is_right_associative op) right && (below n (inside_within (n - 1) left) && below n (inside_within (n - 1) right)))
  inside_within n (unary_expression line op of) = left_binds 7 false of && below n (inside_within (n - 1) of)
  inside_within n (constructor line fields) = fields_within n fields
  inside_within n (parenthesized line e) = below n (inside_within (n - 1) e)

  pub arguments_within : ℕ → Arguments → Bool
  arguments_within n (argument_list es) = expressions_within n es
  arguments_within n (text_argument text) = true
  arguments_within n (table_argument fields) = fields_within n fields

  pub fields_within : ℕ → Fields → Bool
  fields_within n no_fields = true
  fields_within n (positional e separator rest) = ends_item separator rest && (below n (inside_within (n - 1) e) && fields_within n rest)
  fields_within n (named name e separator rest) = ends_item separator rest && (is_name name && (below n (inside_within (n - 1) e) && fields_within n rest))
  fields_within n (keyed key e separator rest) = ends_item separator rest && (below n (inside_within (n - 1) key) && (below n (inside_within (n - 1) e) && fields_within n rest))

abbrev pub expression_within : ℕ → Expression → Bool
expression_within n e = below n (inside_within (n - 1) e)
