-- A tree with every line 1 has the kinds and the depth of the tree.
use Rattle.std.proofs.Common.{◌≡◌, refl}
use Rattle.lua_tree.specs.Syntax.{Statements, no_statements, statement, Statement, assignment, call_statement, do_block, while_loop, repeat_loop, if_statement, numeric_for, generic_for, function_statement, local_function, local_statement, return_statement, break_statement, Branches, no_branches, branch, Otherwise, no_otherwise, otherwise, ForStep, no_step, by_step, FunctionBody, function_body, Expressions, no_expressions, expression, Expression, function_expression, index_expression, field_expression, call_expression, method_call, and_expression, or_expression, binary_expression, unary_expression, constructor, parenthesized, Arguments, argument_list, text_argument, table_argument, Fields, no_fields, positional, named, keyed}
use Rattle.lua_tree.specs.OneLine.{one_line_statements, one_line_statement, one_line_branches, one_line_otherwise, one_line_step, one_line_body, one_line_expressions, one_line_expression, one_line_arguments, one_line_fields}
use Rattle.lua_tree.specs.Spelling.{spell_statements, spell_statement, spell_arms, spell_else, spell_step, spell_body, spell_values, spell_expressions, more_expressions, spell_expression, spell_arguments, spell_fields}
use Rattle.lua_tree.specs.WellFormed.{depth_of_statements, depth_of_statement, depth_of_branches, depth_of_otherwise, depth_of_step, depth_of_body, depth_of_expressions, depth_of_expression, depth_of_arguments, depth_of_fields}
use Rattle.lua_tree.specs.declared.token.TokenKind.{TokenKind}

mutual
  pub statements_spelled : (block : Statements) → spell_statements (one_line_statements block) ≡ spell_statements block
  statements_spelled no_statements = refl
  statements_spelled (statement line semi s rest) = cc (statement_spelled s, statements_spelled rest)

  statement_spelled : (s : Statement) → spell_statement (one_line_statement s) ≡ spell_statement s
  statement_spelled (assignment targets es) = cc (expressions_spelled targets, expressions_spelled es)
  statement_spelled (call_statement e) = expression_spelled e
  statement_spelled (do_block block) = cc (statements_spelled block)
  statement_spelled (while_loop cond block) = cc (expression_spelled cond, statements_spelled block)
  statement_spelled (repeat_loop block cond) = cc (statements_spelled block, expression_spelled cond)
  statement_spelled (if_statement branches last) = cc (branches_spelled branches TokenKind.If, otherwise_spelled last)
  statement_spelled (numeric_for name first last step block) = cc (expression_spelled first, expression_spelled last, step_spelled step, statements_spelled block)
  statement_spelled (generic_for names es block) = cc (expressions_spelled es, statements_spelled block)
  statement_spelled (function_statement path method body) = cc (body_spelled body)
  statement_spelled (local_function name body) = cc (body_spelled body)
  statement_spelled (local_statement names es) = cc (values_spelled es)
  statement_spelled (return_statement es) = cc (expressions_spelled es)
  statement_spelled break_statement = refl

  branches_spelled : (branches : Branches) (word : TokenKind) → spell_arms (one_line_branches branches) word ≡ spell_arms branches word
  branches_spelled no_branches word = refl
  branches_spelled (branch cond block rest) word = cc (expression_spelled cond, statements_spelled block, branches_spelled rest TokenKind.Elseif)

  otherwise_spelled : (last : Otherwise) → spell_else (one_line_otherwise last) ≡ spell_else last
  otherwise_spelled no_otherwise = refl
  otherwise_spelled (otherwise block) = cc (statements_spelled block)

  step_spelled : (step : ForStep) → spell_step (one_line_step step) ≡ spell_step step
  step_spelled no_step = refl
  step_spelled (by_step e) = cc (expression_spelled e)

  body_spelled : (body : FunctionBody) → spell_body (one_line_body body) ≡ spell_body body
  body_spelled (function_body params vararg block first last) = cc (statements_spelled block)

  values_spelled : (es : Expressions) → spell_values (one_line_expressions es) ≡ spell_values es
  values_spelled no_expressions = refl
  values_spelled (expression e rest) = cc (expression_spelled e, more_spelled rest)

  expressions_spelled : (es : Expressions) → spell_expressions (one_line_expressions es) ≡ spell_expressions es
  expressions_spelled no_expressions = refl
  expressions_spelled (expression e rest) = cc (expression_spelled e, more_spelled rest)

  more_spelled : (es : Expressions) → more_expressions (one_line_expressions es) ≡ more_expressions es
  more_spelled no_expressions = refl
  more_spelled (expression e rest) = cc (expression_spelled e, more_spelled rest)

  expression_spelled : (e : Expression) → spell_expression (one_line_expression e) ≡ spell_expression e
  expression_spelled (function_expression line body) = cc (body_spelled body)
  expression_spelled (index_expression line on key) = cc (expression_spelled on, expression_spelled key)
  expression_spelled (field_expression line on name) = cc (expression_spelled on)
  expression_spelled (call_expression line on args on_line) = cc (expression_spelled on, arguments_spelled args)
  expression_spelled (method_call line on name args on_line) = cc (expression_spelled on, arguments_spelled args)
  expression_spelled (and_expression line left right) = cc (expression_spelled left, expression_spelled right)
  expression_spelled (or_expression line left right) = cc (expression_spelled left, expression_spelled right)
  expression_spelled (binary_expression line op left right) = cc (expression_spelled left, expression_spelled right)
  expression_spelled (unary_expression line op operand) = cc (expression_spelled operand)
  expression_spelled (constructor line fields) = cc (fields_spelled fields)
  expression_spelled (parenthesized line e) = cc (expression_spelled e)
  expression_spelled e = refl

  arguments_spelled : (args : Arguments) → spell_arguments (one_line_arguments args) ≡ spell_arguments args
  arguments_spelled (argument_list es) = cc (expressions_spelled es)
  arguments_spelled (text_argument text) = refl
  arguments_spelled (table_argument fields) = cc (fields_spelled fields)

  fields_spelled : (fields : Fields) → spell_fields (one_line_fields fields) ≡ spell_fields fields
  fields_spelled no_fields = refl
  fields_spelled (positional e separator rest) = cc (expression_spelled e, fields_spelled rest)
  fields_spelled (named name e separator rest) = cc (expression_spelled e, fields_spelled rest)
  fields_spelled (keyed key e separator rest) = cc (expression_spelled key, expression_spelled e, fields_spelled rest)

mutual
  pub statements_deep : (block : Statements) → depth_of_statements (one_line_statements block) ≡ depth_of_statements block
  statements_deep no_statements = refl
  statements_deep (statement line semi s rest) = cc (statement_deep s, statements_deep rest)

  statement_deep : (s : Statement) → depth_of_statement (one_line_statement s) ≡ depth_of_statement s
  statement_deep (assignment targets es) = cc (expressions_deep targets, expressions_deep es)
  statement_deep (call_statement e) = expression_deep e
  statement_deep (do_block block) = statements_deep block
  statement_deep (while_loop cond block) = cc (expression_deep cond, statements_deep block)
  statement_deep (repeat_loop block cond) = cc (statements_deep block, expression_deep cond)
  statement_deep (if_statement branches last) = cc (branches_deep branches, otherwise_deep last)
  statement_deep (numeric_for name first last step block) = cc (expression_deep first, expression_deep last, step_deep step, statements_deep block)
  statement_deep (generic_for names es block) = cc (expressions_deep es, statements_deep block)
  statement_deep (function_statement path method body) = cc (body_deep body)
  statement_deep (local_function name body) = cc (body_deep body)
  statement_deep (local_statement names es) = expressions_deep es
  statement_deep (return_statement es) = expressions_deep es
  statement_deep break_statement = refl

  branches_deep : (branches : Branches) → depth_of_branches (one_line_branches branches) ≡ depth_of_branches branches
  branches_deep no_branches = refl
  branches_deep (branch cond block rest) = cc (expression_deep cond, statements_deep block, branches_deep rest)

  otherwise_deep : (last : Otherwise) → depth_of_otherwise (one_line_otherwise last) ≡ depth_of_otherwise last
  otherwise_deep no_otherwise = refl
  otherwise_deep (otherwise block) = statements_deep block

  step_deep : (step : ForStep) → depth_of_step (one_line_step step) ≡ depth_of_step step
  step_deep no_step = refl
  step_deep (by_step e) = expression_deep e

  body_deep : (body : FunctionBody) → depth_of_body (one_line_body body) ≡ depth_of_body body
  body_deep (function_body params vararg block first last) = statements_deep block

  expressions_deep : (es : Expressions) → depth_of_expressions (one_line_expressions es) ≡ depth_of_expressions es
  expressions_deep no_expressions = refl
  expressions_deep (expression e rest) = cc (expression_deep e, expressions_deep rest)

  expression_deep : (e : Expression) → depth_of_expression (one_line_expression e) ≡ depth_of_expression e
  expression_deep (function_expression line body) = cc (body_deep body)
  expression_deep (index_expression line on key) = cc (expression_deep on, expression_deep key)
  expression_deep (field_expression line on name) = cc (expression_deep on)
  expression_deep (call_expression line on args on_line) = cc (expression_deep on, arguments_deep args)
  expression_deep (method_call line on name args on_line) = cc (expression_deep on, arguments_deep args)
  expression_deep (and_expression line left right) = cc (expression_deep left, expression_deep right)
  expression_deep (or_expression line left right) = cc (expression_deep left, expression_deep right)
  expression_deep (binary_expression line op left right) = cc (expression_deep left, expression_deep right)
  expression_deep (unary_expression line op operand) = cc (expression_deep operand)
  expression_deep (constructor line fields) = cc (fields_deep fields)
  expression_deep (parenthesized line e) = cc (expression_deep e)
  expression_deep e = refl

  arguments_deep : (args : Arguments) → depth_of_arguments (one_line_arguments args) ≡ depth_of_arguments args
  arguments_deep (argument_list es) = expressions_deep es
  arguments_deep (text_argument text) = refl
  arguments_deep (table_argument fields) = fields_deep fields

  fields_deep : (fields : Fields) → depth_of_fields (one_line_fields fields) ≡ depth_of_fields fields
  fields_deep no_fields = refl
  fields_deep (positional e separator rest) = cc (expression_deep e, fields_deep rest)
  fields_deep (named name e separator rest) = cc (expression_deep e, fields_deep rest)
  fields_deep (keyed key e separator rest) = cc (expression_deep key, expression_deep e, fields_deep rest)
