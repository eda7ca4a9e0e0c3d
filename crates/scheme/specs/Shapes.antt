-- To be believed, and this suite's own. Trees whose chunks are read back to source: flat ones, plain ones, and room for what is written longer.
use Rattle.std.specs.Prelude.{◌≡◌, ℕ, suc, ◌+◌, ◌*◌, ◌≤◌, max, Bool, true, false, ◌&&◌, is_some, if◌then◌else◌}
use Rattle.lua_tree.specs.declared.tree.UnaryOp.{UnaryOp}
use Rattle.lua_tree.specs.Syntax.{Statements, no_statements, statement, Statement, assignment, call_statement, do_block, while_loop, repeat_loop, if_statement, numeric_for, generic_for, function_statement, local_function, local_statement, return_statement, break_statement, Branches, no_branches, branch, Otherwise, no_otherwise, otherwise, ForStep, no_step, by_step, FunctionBody, function_body, Expressions, no_expressions, expression, Expression, nil_literal, true_literal, false_literal, number_literal, text_literal, name_expression, function_expression, index_expression, field_expression, call_expression, method_call, and_expression, or_expression, binary_expression, unary_expression, constructor, parenthesized, Arguments, argument_list, text_argument, table_argument, Fields, no_fields, positional, named, keyed, Source}
use Rattle.scheme.specs.Expressions.{fold, is_comparison}

-- ---- flat trees: one value goes to one name, or a name is called with a list of values

abbrev pub is_bare_name : Expression → Bool
is_bare_name (name_expression line name) = true
is_bare_name e = false

-- nil, true, false, a number, a string or a name
abbrev pub is_simple : Expression → Bool
is_simple (nil_literal line) = true
is_simple (true_literal line) = true
is_simple (false_literal line) = true
is_simple (number_literal line n) = true
is_simple (text_literal line text) = true
is_simple e = is_bare_name e

abbrev pub are_simple : Expressions → Bool
are_simple no_expressions = true
are_simple (expression e rest) = is_simple e && are_simple rest

abbrev pub is_flat_call : Expression → Bool
is_flat_call (call_expression line on (argument_list es) on_line) = is_bare_name on && are_simple es
is_flat_call e = false

abbrev pub is_flat_statement : Statement → Bool
is_flat_statement (assignment (expression target no_expressions) (expression e no_expressions)) = is_bare_name target && is_simple e
is_flat_statement (call_statement e) = is_flat_call e
is_flat_statement s = false

abbrev pub are_flat : Statements → Bool
are_flat no_statements = true
are_flat (statement line semi s rest) = is_flat_statement s && are_flat rest

abbrev pub Flat : Source → Type 0
Flat source = are_flat source.body ≡ true

-- ---- plain trees: `and`, `or` and comparisons stand only in the conditions of `if`, `while` and `repeat`, under `not`, `and`, `or`
-- and parentheses there

-- whether an expression is plain as a value, and as a condition
pub record Plainness : Type 0 where
  pub value : Bool
  pub condition : Bool

abbrev pub both : Bool → Plainness
both plain = record { value = plain; condition = plain }

abbrev pub as_condition : Bool → Plainness
as_condition plain = record { value = false; condition = plain }

abbrev pub plain_comparison : Bool → Bool → Plainness
plain_comparison true parts = as_condition parts
plain_comparison false parts = both parts

abbrev pub plain_unary : UnaryOp → Plainness → Plainness
plain_unary UnaryOp.Not e = e
plain_unary op e = both e.value

abbrev mutual
  pub plain_statements : Statements → Bool
  plain_statements no_statements = true
  plain_statements (statement line semi s rest) = plain_statement s && plain_statements rest

  pub plain_statement : Statement → Bool
  plain_statement (assignment targets es) = plain_values targets && plain_values es
  plain_statement (call_statement e) = (plainness e).value
  plain_statement (do_block block) = plain_statements block
  plain_statement (while_loop e block) = (plainness e).condition && plain_statements block
  plain_statement (repeat_loop block e) = plain_statements block && (plainness e).condition
  plain_statement (if_statement branches last) = plain_branches branches && plain_otherwise last
  plain_statement (numeric_for name first last step block) = (plainness first).value && (plainness last).value && plain_step step && plain_statements block
  plain_statement (generic_for names es block) = plain_values es && plain_statements block
  plain_statement (function_statement path method body) = plain_body body
  plain_statement (local_function name body) = plain_body body
  plain_statement (local_statement names es) = plain_values es
  plain_statement (return_statement es) = plain_values es
  plain_statement break_statement = true

  pub plain_branches : Branches → Bool
  plain_branches no_branches = true
  plain_branches (branch e block rest) = (plainness e).condition && plain_statements block && plain_branches rest

  pub plain_otherwise : Otherwise → Bool
  plain_otherwise no_otherwise = true
  plain_otherwise (otherwise block) = plain_statements block

  pub plain_step : ForStep → Bool
  plain_step no_step = true
  plain_step (by_step e) = (plainness e).value

  pub plain_body : FunctionBody → Bool
  plain_body (function_body params vararg block first last) = plain_statements block

  pub plain_values : Expressions → Bool
  plain_values no_expressions = true
  plain_values (expression e rest) = (plainness e).value && plain_values rest

  pub plainness : Expression → Plainness
  plainness (function_expression line body) = both (plain_body body)
  plainness (index_expression line on key) = both ((plainness on).value && (plainness key).value)
  plainness (field_expression line on name) = both (plainness on).value
  plainness (call_expression line on args on_line) = both ((plainness on).value && plain_arguments args)
  plainness (method_call line on name args on_line) = both ((plainness on).value && plain_arguments args)
  plainness (and_expression line left right) = as_condition ((plainness left).condition && (plainness right).condition)
  plainness (or_expression line left right) = as_condition ((plainness left).condition && (plainness right).condition)
  plainness (binary_expression line op left right) = plain_comparison (is_comparison op) ((plainness left).value && (plainness right).value)
  plainness (unary_expression line op e) = plain_unary op (plainness e)
  plainness (constructor line fields) = both (plain_fields fields)
  plainness (parenthesized line e) = plainness e
  plainness e = both true

  pub plain_arguments : Arguments → Bool
  plain_arguments (argument_list es) = plain_values es
  plain_arguments (text_argument text) = true
  plain_arguments (table_argument fields) = plain_fields fields

  pub plain_fields : Fields → Bool
  plain_fields no_fields = true
  plain_fields (positional e separator rest) = (plainness e).value && plain_fields rest
  plain_fields (named name e separator rest) = (plainness e).value && plain_fields rest
  plain_fields (keyed key e separator rest) = (plainness key).value && (plainness e).value && plain_fields rest

abbrev pub Plain : Source → Type 0
Plain source = plain_statements source.body ≡ true

-- ---- room: the depth where a numeral or folded expression counts four levels, and an `if`, `while` or `repeat` two levels more for
-- each `and`, `or` and `not` of its conditions, which stand under `and`, `or`, `not` and parentheses

abbrev pub logic_count : Expression → ℕ
logic_count (and_expression line left right) = suc (logic_count left + logic_count right)
logic_count (or_expression line left right) = suc (logic_count left + logic_count right)
logic_count (unary_expression line UnaryOp.Not e) = suc (logic_count e)
logic_count (parenthesized line e) = logic_count e
logic_count e = 0

abbrev pub branch_count : Branches → ℕ
branch_count no_branches = 0
branch_count (branch e block rest) = logic_count e + branch_count rest

abbrev pub unless_folded : Expression → ℕ → ℕ
unless_folded e depth = if is_some (fold e) then 4 else depth

abbrev mutual
  pub room_of_statements : Statements → ℕ
  room_of_statements no_statements = 0
  room_of_statements (statement line semi s rest) = max (1 + room_of_statement s) (room_of_statements rest)

  pub room_of_statement : Statement → ℕ
  room_of_statement (assignment targets es) = max (room_of_expressions targets) (room_of_expressions es)
  room_of_statement (call_statement e) = room_of_expression e
  room_of_statement (do_block block) = room_of_statements block
  room_of_statement (while_loop e block) = 2 * logic_count e + max (room_of_expression e) (room_of_statements block)
  room_of_statement (repeat_loop block e) = 2 * logic_count e + max (room_of_statements block) (room_of_expression e)
  room_of_statement (if_statement branches last) = 2 * branch_count branches + max (room_of_branches branches) (room_of_otherwise last)
  room_of_statement (numeric_for name first last step block) = max (max (room_of_expression first) (room_of_expression last)) (max (room_of_step step) (room_of_statements block))
  room_of_statement (generic_for names es block) = max (room_of_expressions es) (room_of_statements block)
  room_of_statement (function_statement path method body) = 1 + room_of_body body
  room_of_statement (local_function name body) = 1 + room_of_body body
  room_of_statement (local_statement names es) = room_of_expressions es
  room_of_statement (return_statement es) = room_of_expressions es
  room_of_statement break_statement = 0

  pub room_of_branches : Branches → ℕ
  room_of_branches no_branches = 0
  room_of_branches (branch e block rest) = max (max (room_of_expression e) (room_of_statements block)) (room_of_branches rest)

  pub room_of_otherwise : Otherwise → ℕ
  room_of_otherwise no_otherwise = 0
  room_of_otherwise (otherwise block) = room_of_statements block

  pub room_of_step : ForStep → ℕ
  room_of_step no_step = 0
  room_of_step (by_step e) = room_of_expression e

  pub room_of_body : FunctionBody → ℕ
  room_of_body (function_body params vararg block first last) = room_of_statements block

  pub room_of_expressions : Expressions → ℕ
  room_of_expressions no_expressions = 0
  room_of_expressions (expression e rest) = max (room_of_expression e) (room_of_expressions rest)

  pub room_of_expression : Expression → ℕ
  room_of_expression (number_literal line n) = 4
  room_of_expression (function_expression line body) = 1 + room_of_body body
  room_of_expression (index_expression line on key) = 1 + max (room_of_expression on) (room_of_expression key)
  room_of_expression (field_expression line on name) = 1 + room_of_expression on
  room_of_expression (call_expression line on args on_line) = 1 + max (room_of_expression on) (room_of_arguments args)
  room_of_expression (method_call line on name args on_line) = 1 + max (room_of_expression on) (room_of_arguments args)
  room_of_expression (and_expression line left right) = 1 + max (room_of_expression left) (room_of_expression right)
  room_of_expression (or_expression line left right) = 1 + max (room_of_expression left) (room_of_expression right)
  room_of_expression (binary_expression line op left right) = unless_folded (binary_expression line op left right) (1 + max (room_of_expression left) (room_of_expression right))
  room_of_expression (unary_expression line op e) = unless_folded (unary_expression line op e) (1 + room_of_expression e)
  room_of_expression (constructor line fields) = 1 + room_of_fields fields
  room_of_expression (parenthesized line e) = unless_folded (parenthesized line e) (1 + room_of_expression e)
  room_of_expression e = 1

  pub room_of_arguments : Arguments → ℕ
  room_of_arguments (argument_list es) = room_of_expressions es
  room_of_arguments (text_argument text) = 0
  room_of_arguments (table_argument fields) = room_of_fields fields

  pub room_of_fields : Fields → ℕ
  room_of_fields no_fields = 0
  room_of_fields (positional e separator rest) = max (room_of_expression e) (room_of_fields rest)
  room_of_fields (named name e separator rest) = max (room_of_expression e) (room_of_fields rest)
  room_of_fields (keyed key e separator rest) = max (max (room_of_expression key) (room_of_expression e)) (room_of_fields rest)

abbrev pub Room : Source → Type 0
Room source = room_of_statements source.body ≤ 200
