-- A tree with the lines on which its tokens are printed.
use Rattle.std.proofs.Common.{ℕ, suc, false}
use Rattle.lua_tree.specs.Syntax.{Statements, no_statements, statement, Statement, assignment, call_statement, do_block, while_loop, repeat_loop, if_statement, numeric_for, generic_for, function_statement, local_function, local_statement, return_statement, break_statement, Branches, no_branches, branch, Otherwise, no_otherwise, otherwise, ForStep, no_step, by_step, FunctionBody, function_body, Expressions, no_expressions, expression, Expression, nil_literal, true_literal, false_literal, vararg_expression, number_literal, text_literal, name_expression, function_expression, index_expression, field_expression, call_expression, method_call, and_expression, or_expression, binary_expression, unary_expression, constructor, parenthesized, Arguments, argument_list, text_argument, table_argument, Fields, no_fields, positional, named, keyed, Source}
use Rattle.lua_tree.specs.Spelling.{spell_semi, spell_separator}
use Rattle.printer.specs.Layout.{tokens, source_pieces, statements_pieces, statement_pieces, branches_pieces, step_pieces, expressions_pieces, expression_pieces, arguments_pieces}
use Rattle.printer.proofs.Spots.{Spot, capped, behind, below, past, next_line}

-- each part by the spot of its first token; a block's is before the line of its first statement, and lists go on behind commas
abbrev mutual
  pub relined_statements : (blocks : ℕ) → Spot → Statements → Statements
  relined_statements n spot no_statements = no_statements
  relined_statements n spot (statement line semi s rest) =
      statement (next_line (statement_pieces n s) (below spot)) semi (relined_statement n (below spot) s) (relined_statements n (past (tokens (spell_semi semi)) (past (statement_pieces n s) (below spot))) rest)

  pub relined_statement : (blocks : ℕ) → Spot → Statement → Statement
  relined_statement n spot (assignment targets es) = assignment (relined_expressions n spot targets) (relined_expressions n (behind (past (expressions_pieces n targets) spot)) es)
  relined_statement n spot (call_statement e) = call_statement (relined_expression n spot e)
  relined_statement n spot (do_block block) = do_block (relined_statements (suc n) (behind spot) block)
  relined_statement n spot (while_loop cond block) = while_loop (relined_expression n (behind spot) cond) (relined_statements (suc n) (behind (past (expression_pieces n cond) (behind spot))) block)
  relined_statement n spot (repeat_loop block cond) = repeat_loop (relined_statements (suc n) (behind spot) block) (relined_expression n (behind (below (past (statements_pieces (suc n) block) (behind spot)))) cond)
  relined_statement n spot (if_statement branches last) = if_statement (relined_branches n spot branches) (relined_otherwise n (past (branches_pieces n branches) spot) last)
  relined_statement n spot (numeric_for name first last step block) =
      let to = behind (past (expression_pieces n first) (behind spot)) in
      let by = past (expression_pieces n last) to in
      numeric_for name (relined_expression n (behind spot) first) (relined_expression n to last) (relined_step n by step) (relined_statements (suc n) (behind (past (step_pieces n step) by)) block)
  relined_statement n spot (generic_for names es block) = generic_for names (relined_expressions n (behind spot) es) (relined_statements (suc n) (behind (past (expressions_pieces n es) (behind spot))) block)
  relined_statement n spot (function_statement path method body) = function_statement path method (relined_body n (behind spot) body)
  relined_statement n spot (local_function name body) = local_function name (relined_body n (behind spot) body)
  relined_statement n spot (local_statement names es) = local_statement names (relined_expressions n (behind spot) es)
  relined_statement n spot (return_statement es) = return_statement (relined_expressions n (behind spot) es)
  relined_statement n spot break_statement = break_statement

  pub relined_branches : (blocks : ℕ) → Spot → Branches → Branches
  relined_branches n spot no_branches = no_branches
  relined_branches n spot (branch cond block rest) =
      let inside = behind (past (expression_pieces n cond) (behind spot)) in
      branch (relined_expression n (behind spot) cond) (relined_statements (suc n) inside block) (relined_branches n (below (past (statements_pieces (suc n) block) inside)) rest)

  pub relined_otherwise : (blocks : ℕ) → Spot → Otherwise → Otherwise
  relined_otherwise n spot no_otherwise = no_otherwise
  relined_otherwise n spot (otherwise block) = otherwise (relined_statements (suc n) (behind (below spot)) block)

  pub relined_step : (blocks : ℕ) → Spot → ForStep → ForStep
  relined_step n spot no_step = no_step
  relined_step n spot (by_step e) = by_step (relined_expression n (behind spot) e)

  pub relined_body : (blocks : ℕ) → Spot → FunctionBody → FunctionBody
  relined_body n spot (function_body params vararg block first last) =
      function_body params vararg (relined_statements (suc n) (behind spot) block) (capped spot.line) (capped (below (past (statements_pieces (suc n) block) (behind spot))).line)

  pub relined_expressions : (blocks : ℕ) → Spot → Expressions → Expressions
  relined_expressions n spot no_expressions = no_expressions
  relined_expressions n spot (expression e rest) = expression (relined_expression n spot e) (relined_expressions n (behind (past (expression_pieces n e) spot)) rest)

  pub relined_expression : (blocks : ℕ) → Spot → Expression → Expression
  relined_expression n spot (nil_literal line) = nil_literal (capped spot.line)
  relined_expression n spot (true_literal line) = true_literal (capped spot.line)
  relined_expression n spot (false_literal line) = false_literal (capped spot.line)
  relined_expression n spot (vararg_expression line) = vararg_expression (capped spot.line)
  relined_expression n spot (number_literal line number) = number_literal (capped spot.line) number
  relined_expression n spot (text_literal line text) = text_literal (capped spot.line) text
  relined_expression n spot (name_expression line name) = name_expression (capped spot.line) name
  relined_expression n spot (function_expression line body) = function_expression (capped spot.line) (relined_body n (behind spot) body)
  relined_expression n spot (index_expression line on key) =
      let mark = past (expression_pieces n on) spot in
      index_expression (capped mark.line) (relined_expression n spot on) (relined_expression n (behind mark) key)
  relined_expression n spot (field_expression line on name) = field_expression (capped (past (expression_pieces n on) spot).line) (relined_expression n spot on) name
  relined_expression n spot (call_expression line on args on_line) =
      let there = past (expression_pieces n on) spot in
      call_expression (next_line (arguments_pieces n args) there) (relined_expression n spot on) (relined_arguments n there args) there.last
  relined_expression n spot (method_call line on name args on_line) =
      let mark = past (expression_pieces n on) spot in
      method_call (next_line (arguments_pieces n args) (behind mark)) (relined_expression n spot on) name (relined_arguments n (behind mark) args) (capped mark.line)
  relined_expression n spot (and_expression line left right) =
      and_expression (next_line (expression_pieces n left) spot) (relined_expression n spot left) (relined_expression n (behind (past (expression_pieces n left) spot)) right)
  relined_expression n spot (or_expression line left right) =
      or_expression (next_line (expression_pieces n left) spot) (relined_expression n spot left) (relined_expression n (behind (past (expression_pieces n left) spot)) right)
  relined_expression n spot (binary_expression line op left right) =
      let mark = past (expression_pieces n left) spot in
      binary_expression (capped mark.line) op (relined_expression n spot left) (relined_expression n (behind mark) right)
  relined_expression n spot (unary_expression line op of) = unary_expression (capped spot.line) op (relined_expression n (behind spot) of)
  relined_expression n spot (constructor line fields) = constructor (capped spot.line) (relined_fields n (behind spot) fields)
  relined_expression n spot (parenthesized line e) = parenthesized (capped spot.line) (relined_expression n (behind spot) e)

  pub relined_arguments : (blocks : ℕ) → Spot → Arguments → Arguments
  relined_arguments n spot (argument_list es) = argument_list (relined_expressions n (behind spot) es)
  relined_arguments n spot (text_argument text) = text_argument text
  relined_arguments n spot (table_argument fields) = table_argument (relined_fields n (behind spot) fields)

  pub relined_fields : (blocks : ℕ) → Spot → Fields → Fields
  relined_fields n spot no_fields = no_fields
  relined_fields n spot (positional e separator rest) =
      positional (relined_expression n spot e) separator (relined_fields n (past (tokens (spell_separator separator)) (past (expression_pieces n e) spot)) rest)
  relined_fields n spot (named name e separator rest) =
      named name (relined_expression n (behind spot) e) separator (relined_fields n (past (tokens (spell_separator separator)) (past (expression_pieces n e) (behind spot))) rest)
  relined_fields n spot (keyed key e separator rest) =
      let value = behind (past (expression_pieces n key) (behind spot)) in
      keyed (relined_expression n (behind spot) key) (relined_expression n value e) separator (relined_fields n (past (tokens (spell_separator separator)) (past (expression_pieces n e) value)) rest)

-- a text begins before its first line
abbrev pub beginning : Spot
beginning = record { started = false; line = 1; last = 1 }

abbrev pub relined : Source → Source
relined source = record { body = relined_statements 0 beginning source.body; last_line = (past (source_pieces source) beginning).last }
