-- Serves the laws. A source with every line 1 and with no semicolon after a statement; those between fields stay.
use Rattle.std.specs.Prelude.{false}
use Rattle.lua_tree.specs.Syntax.{Statements, no_statements, statement, Statement, assignment, call_statement, do_block, while_loop, repeat_loop, if_statement, numeric_for, generic_for, function_statement, local_function, local_statement, return_statement, break_statement, Branches, no_branches, branch, Otherwise, no_otherwise, otherwise, ForStep, no_step, by_step, FunctionBody, function_body, Expressions, no_expressions, expression, Expression, nil_literal, true_literal, false_literal, vararg_expression, number_literal, text_literal, name_expression, function_expression, index_expression, field_expression, call_expression, method_call, and_expression, or_expression, binary_expression, unary_expression, constructor, parenthesized, Arguments, argument_list, text_argument, table_argument, Fields, no_fields, positional, named, keyed, Source}

abbrev mutual
  pub bare_statements : Statements → Statements
  bare_statements no_statements = no_statements
  bare_statements (statement line semi s rest) = statement 1 false (bare_statement s) (bare_statements rest)

  pub bare_statement : Statement → Statement
  bare_statement (assignment targets es) = assignment (bare_expressions targets) (bare_expressions es)
  bare_statement (call_statement e) = call_statement (bare_expression e)
  bare_statement (do_block block) = do_block (bare_statements block)
  bare_statement (while_loop cond block) = while_loop (bare_expression cond) (bare_statements block)
  bare_statement (repeat_loop block cond) = repeat_loop (bare_statements block) (bare_expression cond)
  bare_statement (if_statement branches last) = if_statement (bare_branches branches) (bare_otherwise last)
  bare_statement (numeric_for name first last step block) =
      numeric_for name (bare_expression first) (bare_expression last) (bare_step step) (bare_statements block)
  bare_statement (generic_for names es block) = generic_for names (bare_expressions es) (bare_statements block)
  bare_statement (function_statement path method body) = function_statement path method (bare_body body)
  bare_statement (local_function name body) = local_function name (bare_body body)
  bare_statement (local_statement names es) = local_statement names (bare_expressions es)
  bare_statement (return_statement es) = return_statement (bare_expressions es)
  bare_statement break_statement = break_statement

  pub bare_branches : Branches → Branches
  bare_branches no_branches = no_branches
  bare_branches (branch cond block rest) = branch (bare_expression cond) (bare_statements block) (bare_branches rest)

  pub bare_otherwise : Otherwise → Otherwise
  bare_otherwise no_otherwise = no_otherwise
  bare_otherwise (otherwise block) = otherwise (bare_statements block)

  pub bare_step : ForStep → ForStep
  bare_step no_step = no_step
  bare_step (by_step e) = by_step (bare_expression e)

  pub bare_body : FunctionBody → FunctionBody
  bare_body (function_body params vararg block first last) = function_body params vararg (bare_statements block) 1 1

  pub bare_expressions : Expressions → Expressions
  bare_expressions no_expressions = no_expressions
  bare_expressions (expression e rest) = expression (bare_expression e) (bare_expressions rest)

  pub bare_expression : Expression → Expression
  bare_expression (nil_literal line) = nil_literal 1
  bare_expression (true_literal line) = true_literal 1
  bare_expression (false_literal line) = false_literal 1
  bare_expression (vararg_expression line) = vararg_expression 1
  bare_expression (number_literal line n) = number_literal 1 n
  bare_expression (text_literal line text) = text_literal 1 text
  bare_expression (name_expression line name) = name_expression 1 name
  bare_expression (function_expression line body) = function_expression 1 (bare_body body)
  bare_expression (index_expression line on key) = index_expression 1 (bare_expression on) (bare_expression key)
  bare_expression (field_expression line on name) = field_expression 1 (bare_expression on) name
  bare_expression (call_expression line on args on_line) = call_expression 1 (bare_expression on) (bare_arguments args) 1
  bare_expression (method_call line on name args on_line) = method_call 1 (bare_expression on) name (bare_arguments args) 1
  bare_expression (and_expression line left right) = and_expression 1 (bare_expression left) (bare_expression right)
  bare_expression (or_expression line left right) = or_expression 1 (bare_expression left) (bare_expression right)
  bare_expression (binary_expression line op left right) = binary_expression 1 op (bare_expression left) (bare_expression right)
  bare_expression (unary_expression line op right) = unary_expression 1 op (bare_expression right)
  bare_expression (constructor line fields) = constructor 1 (bare_fields fields)
  bare_expression (parenthesized line e) = parenthesized 1 (bare_expression e)

  pub bare_arguments : Arguments → Arguments
  bare_arguments (argument_list es) = argument_list (bare_expressions es)
  bare_arguments (text_argument text) = text_argument text
  bare_arguments (table_argument fields) = table_argument (bare_fields fields)

  pub bare_fields : Fields → Fields
  bare_fields no_fields = no_fields
  bare_fields (positional e separator rest) = positional (bare_expression e) separator (bare_fields rest)
  bare_fields (named name e separator rest) = named name (bare_expression e) separator (bare_fields rest)
  bare_fields (keyed key e separator rest) = keyed (bare_expression key) (bare_expression e) separator (bare_fields rest)

abbrev pub bare : Source → Source
bare source = record { body = bare_statements source.body; last_line = 1 }
