-- A tree with other lines is the same tree, lines aside.
use Rattle.std.proofs.Common.{◌≡◌, ℕ, refl}
use Rattle.lua_tree.specs.Syntax.{Statements, no_statements, statement, Statement, assignment, call_statement, do_block, while_loop, repeat_loop, if_statement, numeric_for, generic_for, function_statement, local_function, local_statement, return_statement, break_statement, Branches, no_branches, branch, Otherwise, no_otherwise, otherwise, ForStep, no_step, by_step, FunctionBody, function_body, Expressions, no_expressions, expression, Expression, function_expression, index_expression, field_expression, call_expression, method_call, and_expression, or_expression, binary_expression, unary_expression, constructor, parenthesized, Arguments, argument_list, text_argument, table_argument, Fields, no_fields, positional, named, keyed}
use Rattle.lua_tree.specs.OneLine.{one_line_statements, one_line_statement, one_line_branches, one_line_otherwise, one_line_step, one_line_body, one_line_expressions, one_line_expression, one_line_arguments, one_line_fields}
use Rattle.printer.proofs.Spots.{Spot}
use Rattle.printer.proofs.RelinedTrees.{relined_statements, relined_statement, relined_branches, relined_otherwise, relined_step, relined_body, relined_expressions, relined_expression, relined_arguments, relined_fields}

mutual
  pub statements_same : (block : Statements) (n : ℕ) (spot : Spot) → one_line_statements (relined_statements n spot block) ≡ one_line_statements block
  statements_same no_statements n spot = refl
  statements_same (statement line semi s rest) n spot = simp (statement_same s, statements_same rest)

  statement_same : (s : Statement) (n : ℕ) (spot : Spot) → one_line_statement (relined_statement n spot s) ≡ one_line_statement s
  statement_same (assignment targets es) n spot = simp (expressions_same targets, expressions_same es)
  statement_same (call_statement e) n spot = simp (expression_same e)
  statement_same (do_block block) n spot = simp (statements_same block)
  statement_same (while_loop cond block) n spot = simp (expression_same cond, statements_same block)
  statement_same (repeat_loop block cond) n spot = simp (statements_same block, expression_same cond)
  statement_same (if_statement branches last) n spot = simp (branches_same branches, otherwise_same last)
  statement_same (numeric_for name first last step block) n spot = simp (expression_same first, expression_same last, step_same step, statements_same block)
  statement_same (generic_for names es block) n spot = simp (expressions_same es, statements_same block)
  statement_same (function_statement path method body) n spot = simp (body_same body)
  statement_same (local_function name body) n spot = simp (body_same body)
  statement_same (local_statement names es) n spot = simp (expressions_same es)
  statement_same (return_statement es) n spot = simp (expressions_same es)
  statement_same break_statement n spot = refl

  branches_same : (branches : Branches) (n : ℕ) (spot : Spot) → one_line_branches (relined_branches n spot branches) ≡ one_line_branches branches
  branches_same no_branches n spot = refl
  branches_same (branch cond block rest) n spot = simp (expression_same cond, statements_same block, branches_same rest)

  otherwise_same : (last : Otherwise) (n : ℕ) (spot : Spot) → one_line_otherwise (relined_otherwise n spot last) ≡ one_line_otherwise last
  otherwise_same no_otherwise n spot = refl
  otherwise_same (otherwise block) n spot = simp (statements_same block)

  step_same : (step : ForStep) (n : ℕ) (spot : Spot) → one_line_step (relined_step n spot step) ≡ one_line_step step
  step_same no_step n spot = refl
  step_same (by_step e) n spot = simp (expression_same e)

  body_same : (body : FunctionBody) (n : ℕ) (spot : Spot) → one_line_body (relined_body n spot body) ≡ one_line_body body
  body_same (function_body params vararg block first last) n spot = simp (statements_same block)

  expressions_same : (es : Expressions) (n : ℕ) (spot : Spot) → one_line_expressions (relined_expressions n spot es) ≡ one_line_expressions es
  expressions_same no_expressions n spot = refl
  expressions_same (expression e rest) n spot = simp (expression_same e, expressions_same rest)

  expression_same : (e : Expression) (n : ℕ) (spot : Spot) → one_line_expression (relined_expression n spot e) ≡ one_line_expression e
  expression_same (function_expression line body) n spot = simp (body_same body)
  expression_same (index_expression line on key) n spot = simp (expression_same on, expression_same key)
  expression_same (field_expression line on name) n spot = simp (expression_same on)
  expression_same (call_expression line on args on_line) n spot = simp (expression_same on, arguments_same args)
  expression_same (method_call line on name args on_line) n spot = simp (expression_same on, arguments_same args)
  expression_same (and_expression line left right) n spot = simp (expression_same left, expression_same right)
  expression_same (or_expression line left right) n spot = simp (expression_same left, expression_same right)
  expression_same (binary_expression line op left right) n spot = simp (expression_same left, expression_same right)
  expression_same (unary_expression line op operand) n spot = simp (expression_same operand)
  expression_same (constructor line fields) n spot = simp (fields_same fields)
  expression_same (parenthesized line e) n spot = simp (expression_same e)
  expression_same e n spot = refl

  arguments_same : (args : Arguments) (n : ℕ) (spot : Spot) → one_line_arguments (relined_arguments n spot args) ≡ one_line_arguments args
  arguments_same (argument_list es) n spot = simp (expressions_same es)
  arguments_same (text_argument text) n spot = refl
  arguments_same (table_argument fields) n spot = simp (fields_same fields)

  fields_same : (fields : Fields) (n : ℕ) (spot : Spot) → one_line_fields (relined_fields n spot fields) ≡ one_line_fields fields
  fields_same no_fields n spot = refl
  fields_same (positional e separator rest) n spot = simp (expression_same e, fields_same rest)
  fields_same (named name e separator rest) n spot = simp (expression_same e, fields_same rest)
  fields_same (keyed key e separator rest) n spot = simp (expression_same key, expression_same e, fields_same rest)
