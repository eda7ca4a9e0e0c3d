-- To be believed. The room that a source needs. In a function whose statements have blocks a `return` counts one level more, and so do an empty block of a `do`, and an `if` for each of its further arms whose condition never fails.
use Rattle.std.specs.Prelude.{ℕ, ◌+◌, ◌*◌, max, Bool, true, false, ◌||◌, if◌then◌else◌}
use Rattle.lua_tree.specs.Syntax.{Statements, no_statements, statement, Statement, assignment, call_statement, do_block, while_loop, repeat_loop, if_statement, numeric_for, generic_for, function_statement, local_function, local_statement, return_statement, break_statement, Branches, no_branches, branch, Otherwise, no_otherwise, otherwise, ForStep, no_step, by_step, FunctionBody, function_body, Expressions, no_expressions, expression, Expression, number_literal, function_expression, index_expression, field_expression, call_expression, method_call, and_expression, or_expression, binary_expression, unary_expression, constructor, parenthesized, Arguments, argument_list, text_argument, table_argument, Fields, no_fields, positional, named, keyed}
use Rattle.scheme.specs.Shapes.{logic_count, branch_count, unless_folded}
use Rattle.same_flow.specs.Never.{never_further}

-- ---- statements with blocks

abbrev pub has_block : Statement → Bool
has_block (do_block block) = true
has_block (while_loop e block) = true
has_block (repeat_loop block e) = true
has_block (if_statement arms last) = true
has_block (numeric_for name first last step block) = true
has_block (generic_for names es block) = true
has_block s = false

-- one of the statements has blocks, those inside of them not counted
abbrev pub has_blocks : Statements → Bool
has_blocks no_statements = false
has_blocks (statement line semi s rest) = has_block s || has_blocks rest

-- ---- room

abbrev mutual
  pub space_of_statements : Statements → ℕ
  space_of_statements no_statements = 0
  space_of_statements (statement line semi s rest) = max (1 + space_of_statement s) (space_of_statements rest)

  pub space_of_statement : Statement → ℕ
  space_of_statement (assignment targets es) = max (space_of_expressions targets) (space_of_expressions es)
  space_of_statement (call_statement e) = space_of_expression e
  space_of_statement (do_block block) = space_of_statements block
  space_of_statement (while_loop e block) = 2 * logic_count e + max (space_of_expression e) (space_of_statements block)
  space_of_statement (repeat_loop block e) = 2 * logic_count e + max (space_of_statements block) (space_of_expression e)
  space_of_statement (if_statement branches last) = 2 * branch_count branches + max (space_of_branches branches) (space_of_otherwise last)
  space_of_statement (numeric_for name first last step block) = max (max (space_of_expression first) (space_of_expression last)) (max (space_of_step step) (space_of_statements block))
  space_of_statement (generic_for names es block) = max (space_of_expressions es) (space_of_statements block)
  space_of_statement (function_statement path method body) = 1 + space_of_body body
  space_of_statement (local_function name body) = 1 + space_of_body body
  space_of_statement (local_statement names es) = space_of_expressions es
  space_of_statement (return_statement es) = space_of_expressions es
  space_of_statement break_statement = 0

  pub space_of_branches : Branches → ℕ
  space_of_branches no_branches = 0
  space_of_branches (branch e block rest) = max (max (space_of_expression e) (space_of_statements block)) (space_of_branches rest)

  pub space_of_otherwise : Otherwise → ℕ
  space_of_otherwise no_otherwise = 0
  space_of_otherwise (otherwise block) = space_of_statements block

  pub space_of_step : ForStep → ℕ
  space_of_step no_step = 0
  space_of_step (by_step e) = space_of_expression e

  -- the same in a function whose statements have blocks, where something may follow a `return`
  pub flow_space : Statements → ℕ
  flow_space no_statements = 0
  flow_space (statement line semi s rest) = max (1 + flow_space_of s) (flow_space rest)

  pub flow_space_of : Statement → ℕ
  flow_space_of (assignment targets es) = max (space_of_expressions targets) (space_of_expressions es)
  flow_space_of (call_statement e) = space_of_expression e
  flow_space_of (do_block block) = max 1 (flow_space block)
  flow_space_of (while_loop e block) = 2 * logic_count e + max (space_of_expression e) (flow_space block)
  flow_space_of (repeat_loop block e) = 2 * logic_count e + max (flow_space block) (space_of_expression e)
  flow_space_of (if_statement branches last) = 2 * branch_count branches + never_further branches + max (flow_space_branches branches) (flow_space_otherwise last)
  flow_space_of (numeric_for name first last step block) = max (max (space_of_expression first) (space_of_expression last)) (max (space_of_step step) (flow_space block))
  flow_space_of (generic_for names es block) = max (space_of_expressions es) (flow_space block)
  flow_space_of (function_statement path method body) = 1 + space_of_body body
  flow_space_of (local_function name body) = 1 + space_of_body body
  flow_space_of (local_statement names es) = space_of_expressions es
  flow_space_of (return_statement es) = 1 + space_of_expressions es
  flow_space_of break_statement = 0

  pub flow_space_branches : Branches → ℕ
  flow_space_branches no_branches = 0
  flow_space_branches (branch e block rest) = max (max (space_of_expression e) (flow_space block)) (flow_space_branches rest)

  pub flow_space_otherwise : Otherwise → ℕ
  flow_space_otherwise no_otherwise = 0
  flow_space_otherwise (otherwise block) = flow_space block

  pub space_of_body : FunctionBody → ℕ
  space_of_body (function_body params vararg block first last) = if has_blocks block then flow_space block else space_of_statements block

  pub space_of_expressions : Expressions → ℕ
  space_of_expressions no_expressions = 0
  space_of_expressions (expression e rest) = max (space_of_expression e) (space_of_expressions rest)

  pub space_of_expression : Expression → ℕ
  space_of_expression (number_literal line n) = 4
  space_of_expression (function_expression line body) = 1 + space_of_body body
  space_of_expression (index_expression line on key) = 1 + max (space_of_expression on) (space_of_expression key)
  space_of_expression (field_expression line on name) = 1 + space_of_expression on
  space_of_expression (call_expression line on args on_line) = 1 + max (space_of_expression on) (space_of_arguments args)
  space_of_expression (method_call line on name args on_line) = 1 + max (space_of_expression on) (space_of_arguments args)
  space_of_expression (and_expression line left right) = 1 + max (space_of_expression left) (space_of_expression right)
  space_of_expression (or_expression line left right) = 1 + max (space_of_expression left) (space_of_expression right)
  space_of_expression (binary_expression line op left right) = unless_folded (binary_expression line op left right) (1 + max (space_of_expression left) (space_of_expression right))
  space_of_expression (unary_expression line op e) = unless_folded (unary_expression line op e) (1 + space_of_expression e)
  space_of_expression (constructor line fields) = 1 + space_of_fields fields
  space_of_expression (parenthesized line e) = unless_folded (parenthesized line e) (1 + space_of_expression e)
  space_of_expression e = 1

  pub space_of_arguments : Arguments → ℕ
  space_of_arguments (argument_list es) = space_of_expressions es
  space_of_arguments (text_argument text) = 0
  space_of_arguments (table_argument fields) = space_of_fields fields

  pub space_of_fields : Fields → ℕ
  space_of_fields no_fields = 0
  space_of_fields (positional e separator rest) = max (space_of_expression e) (space_of_fields rest)
  space_of_fields (named name e separator rest) = max (space_of_expression e) (space_of_fields rest)
  space_of_fields (keyed key e separator rest) = max (max (space_of_expression key) (space_of_expression e)) (space_of_fields rest)

-- what a function with this block needs, whose statements need so many levels if none of them has blocks
abbrev pub around_body : Statements → ℕ → ℕ
around_body block levels = if has_blocks block then flow_space block else levels
