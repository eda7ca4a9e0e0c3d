-- The bare form of a source on one line is the bare form of the source.
use Rattle.std.proofs.Common.{◌≡◌, false, refl, ap, ap₂, ◌∙◌}
use Rattle.lua_tree.specs.Syntax as syntax
use Rattle.lua_tree.specs.Syntax.{Statements, no_statements, Statement, assignment, call_statement, do_block, while_loop, repeat_loop, if_statement, numeric_for, generic_for, function_statement, local_function, local_statement, return_statement, break_statement, Branches, no_branches, branch, Otherwise, no_otherwise, otherwise, ForStep, no_step, by_step, FunctionBody, function_body, Expressions, no_expressions, Expression, nil_literal, true_literal, false_literal, vararg_expression, number_literal, text_literal, name_expression, function_expression, index_expression, field_expression, call_expression, method_call, and_expression, or_expression, binary_expression, unary_expression, constructor, parenthesized, Arguments, argument_list, text_argument, table_argument, Fields, no_fields, positional, named, keyed, Source}
use Rattle.lua_tree.specs.OneLine.{one_line_statements, one_line_statement, one_line_branches, one_line_otherwise, one_line_step, one_line_body, one_line_expressions, one_line_expression, one_line_arguments, one_line_fields, on_one_line}
use Rattle.scheme_lines.specs.Bare.{bare_statements, bare_statement, bare_branches, bare_otherwise, bare_step, bare_body, bare_expressions, bare_expression, bare_arguments, bare_fields, bare}

mutual
  statements_again : (block : Statements) → bare_statements (one_line_statements block) ≡ bare_statements block
  statements_again no_statements = refl
  statements_again (syntax.statement line semi s rest) = ap₂ (syntax.statement 1 false) (statement_again s) (statements_again rest)

  pub statement_again : (s : Statement) → bare_statement (one_line_statement s) ≡ bare_statement s
  statement_again (assignment targets es) = ap₂ assignment (expressions_again targets) (expressions_again es)
  statement_again (call_statement e) = ap call_statement (again e)
  statement_again (do_block block) = ap do_block (statements_again block)
  statement_again (while_loop test block) = ap₂ while_loop (again test) (statements_again block)
  statement_again (repeat_loop block test) = ap₂ repeat_loop (statements_again block) (again test)
  statement_again (if_statement branches last) = ap₂ if_statement (branches_again branches) (otherwise_again last)
  statement_again (numeric_for name first last step block) =
      ap₂ (λ from to. numeric_for name from to (bare_step (one_line_step step)) (bare_statements (one_line_statements block))) (again first) (again last)
      ∙ ap₂ (numeric_for name (bare_expression first) (bare_expression last)) (step_again step) (statements_again block)
  statement_again (generic_for names es block) = ap₂ (generic_for names) (expressions_again es) (statements_again block)
  statement_again (function_statement path method body) = ap (function_statement path method) (body_again body)
  statement_again (local_function name body) = ap (local_function name) (body_again body)
  statement_again (local_statement names es) = ap (local_statement names) (expressions_again es)
  statement_again (return_statement es) = ap return_statement (expressions_again es)
  statement_again break_statement = refl

  branches_again : (branches : Branches) → bare_branches (one_line_branches branches) ≡ bare_branches branches
  branches_again no_branches = refl
  branches_again (branch test block rest) =
      ap₂ (λ condition inner. branch condition inner (bare_branches (one_line_branches rest))) (again test) (statements_again block)
      ∙ ap (branch (bare_expression test) (bare_statements block)) (branches_again rest)

  otherwise_again : (last : Otherwise) → bare_otherwise (one_line_otherwise last) ≡ bare_otherwise last
  otherwise_again no_otherwise = refl
  otherwise_again (otherwise block) = ap otherwise (statements_again block)

  step_again : (step : ForStep) → bare_step (one_line_step step) ≡ bare_step step
  step_again no_step = refl
  step_again (by_step e) = ap by_step (again e)

  body_again : (body : FunctionBody) → bare_body (one_line_body body) ≡ bare_body body
  body_again (function_body params vararg block first last) = ap (λ inner. function_body params vararg inner 1 1) (statements_again block)

  expressions_again : (es : Expressions) → bare_expressions (one_line_expressions es) ≡ bare_expressions es
  expressions_again no_expressions = refl
  expressions_again (syntax.expression e rest) = ap₂ syntax.expression (again e) (expressions_again rest)

  again : (e : Expression) → bare_expression (one_line_expression e) ≡ bare_expression e
  again (function_expression line body) = ap (function_expression 1) (body_again body)
  again (index_expression line on key) = ap₂ (index_expression 1) (again on) (again key)
  again (field_expression line on name) = ap (λ table. field_expression 1 table name) (again on)
  again (call_expression line on args on_line) = ap₂ (λ table given. call_expression 1 table given 1) (again on) (arguments_again args)
  again (method_call line on name args on_line) = ap₂ (λ table given. method_call 1 table name given 1) (again on) (arguments_again args)
  again (and_expression line left right) = ap₂ (and_expression 1) (again left) (again right)
  again (or_expression line left right) = ap₂ (or_expression 1) (again left) (again right)
  again (binary_expression line op left right) = ap₂ (binary_expression 1 op) (again left) (again right)
  again (unary_expression line op right) = ap (unary_expression 1 op) (again right)
  again (constructor line fields) = ap (constructor 1) (fields_again fields)
  again (parenthesized line e) = ap (parenthesized 1) (again e)
  again e = refl

  arguments_again : (args : Arguments) → bare_arguments (one_line_arguments args) ≡ bare_arguments args
  arguments_again (argument_list es) = ap argument_list (expressions_again es)
  arguments_again (text_argument text) = refl
  arguments_again (table_argument fields) = ap table_argument (fields_again fields)

  fields_again : (fields : Fields) → bare_fields (one_line_fields fields) ≡ bare_fields fields
  fields_again no_fields = refl
  fields_again (positional e separator rest) = ap₂ (λ item others. positional item separator others) (again e) (fields_again rest)
  fields_again (named name e separator rest) = ap₂ (λ item others. named name item separator others) (again e) (fields_again rest)
  fields_again (keyed key e separator rest) =
      ap₂ (λ index item. keyed index item separator (bare_fields (one_line_fields rest))) (again key) (again e)
      ∙ ap (keyed (bare_expression key) (bare_expression e) separator) (fields_again rest)

pub bare_again : (source : Source) → bare (on_one_line source) ≡ bare source
bare_again source = ap (λ (body : Statements). record { body = body; last_line = 1 }) (statements_again source.body)
