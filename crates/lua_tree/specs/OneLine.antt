-- Serves the laws. Tokens, and a source, with every line 1.
use Rattle.std.specs.Prelude.{List, [], ◌∷◌}
use Rattle.lua_tree.specs.Syntax.{Statements, no_statements, statement, Statement, assignment, call_statement, do_block, while_loop, repeat_loop, if_statement, numeric_for, generic_for, function_statement, local_function, local_statement, return_statement, break_statement, Branches, no_branches, branch, Otherwise, no_otherwise, otherwise, ForStep, no_step, by_step, FunctionBody, function_body, Expressions, no_expressions, expression, Expression, nil_literal, true_literal, false_literal, vararg_expression, number_literal, text_literal, name_expression, function_expression, index_expression, field_expression, call_expression, method_call, and_expression, or_expression, binary_expression, unary_expression, constructor, parenthesized, Arguments, argument_list, text_argument, table_argument, Fields, no_fields, positional, named, keyed, Source}
use Rattle.lua_tree.specs.declared.token.Token.{Token}

abbrev pub tokens_on_one_line : List Token → List Token
tokens_on_one_line [] = []
tokens_on_one_line (token ∷ tokens) = record token { line = 1 } ∷ tokens_on_one_line tokens

abbrev mutual
  pub one_line_statements : Statements → Statements
  one_line_statements no_statements = no_statements
  one_line_statements (statement line semi s rest) = statement 1 semi (one_line_statement s) (one_line_statements rest)

  pub one_line_statement : Statement → Statement
  one_line_statement (assignment targets es) = assignment (one_line_expressions targets) (one_line_expressions es)
  one_line_statement (call_statement e) = call_statement (one_line_expression e)
  one_line_statement (do_block block) = do_block (one_line_statements block)
  one_line_statement (while_loop cond block) = while_loop (one_line_expression cond) (one_line_statements block)
  one_line_statement (repeat_loop block cond) = repeat_loop (one_line_statements block) (one_line_expression cond)
  one_line_statement (if_statement branches last) = if_statement (one_line_branches branches) (one_line_otherwise last)
  one_line_statement (numeric_for name first last step block) =
      numeric_for name (one_line_expression first) (one_line_expression last) (one_line_step step) (one_line_statements block)
  one_line_statement (generic_for names es block) = generic_for names (one_line_expressions es) (one_line_statements block)
  one_line_statement (function_statement path method body) = function_statement path method (one_line_body body)
  one_line_statement (local_function name body) = local_function name (one_line_body body)
  one_line_statement (local_statement names es) = local_statement names (one_line_expressions es)
  one_line_statement (return_statement es) = return_statement (one_line_expressions es)
  one_line_statement break_statement = break_statement

  pub one_line_branches : Branches → Branches
  one_line_branches no_branches = no_branches
  one_line_branches (branch cond block rest) = branch (one_line_expression cond) (one_line_statements block) (one_line_branches rest)

  pub one_line_otherwise : Otherwise → Otherwise
  one_line_otherwise no_otherwise = no_otherwise
  one_line_otherwise (otherwise block) = otherwise (one_line_statements block)

  pub one_line_step : ForStep → ForStep
  one_line_step no_step = no_step
  one_line_step (by_step e) = by_step (one_line_expression e)

  pub one_line_body : FunctionBody → FunctionBody
  one_line_body (function_body params vararg block first last) = function_body params vararg (one_line_statements block) 1 1

  pub one_line_expressions : Expressions → Expressions
  one_line_expressions no_expressions = no_expressions
  one_line_expressions (expression e rest) = expression (one_line_expression e) (one_line_expressions rest)

  pub one_line_expression : Expression → Expression
  one_line_expression (nil_literal line) = nil_literal 1
  one_line_expression (true_literal line) = true_literal 1
  one_line_expression (false_literal line) = false_literal 1
  one_line_expression (vararg_expression line) = vararg_expression 1
  one_line_expression (number_literal line n) = number_literal 1 n
  one_line_expression (text_literal line text) = text_literal 1 text
  one_line_expression (name_expression line name) = name_expression 1 name
  one_line_expression (function_expression line body) = function_expression 1 (one_line_body body)
  one_line_expression (index_expression line on key) = index_expression 1 (one_line_expression on) (one_line_expression key)
  one_line_expression (field_expression line on name) = field_expression 1 (one_line_expression on) name
  one_line_expression (call_expression line on args on_line) = call_expression 1 (one_line_expression on) (one_line_arguments args) 1
  one_line_expression (method_call line on name args on_line) = method_call 1 (one_line_expression on) name (one_line_arguments args) 1
  one_line_expression (and_expression line left right) = and_expression 1 (one_line_expression left) (one_line_expression right)
  one_line_expression (or_expression line left right) = or_expression 1 (one_line_expression left) (one_line_expression right)
  one_line_expression (binary_expression line op left right) = binary_expression 1 op (one_line_expression left) (one_line_expression right)
  one_line_expression (unary_expression line op right) = unary_expression 1 op (one_line_expression right)
  one_line_expression (constructor line fields) = constructor 1 (one_line_fields fields)
  one_line_expression (parenthesized line e) = parenthesized 1 (one_line_expression e)

  pub one_line_arguments : Arguments → Arguments
  one_line_arguments (argument_list es) = argument_list (one_line_expressions es)
  one_line_arguments (text_argument text) = text_argument text
  one_line_arguments (table_argument fields) = table_argument (one_line_fields fields)

  pub one_line_fields : Fields → Fields
  one_line_fields no_fields = no_fields
  one_line_fields (positional e separator rest) = positional (one_line_expression e) separator (one_line_fields rest)
  one_line_fields (named name e separator rest) = named name (one_line_expression e) separator (one_line_fields rest)
  one_line_fields (keyed key e separator rest) = keyed (one_line_expression key) (one_line_expression e) separator (one_line_fields rest)

abbrev pub on_one_line : Source → Source
on_one_line source = record { body = one_line_statements source.body; last_line = 1 }
