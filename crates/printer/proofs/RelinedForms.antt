-- A formed tree stays one with the lines on which its tokens are printed.
use Rattle.std.proofs.Common.{◌≡◌, ℕ, suc, ◌+◌, nat_le, ◌==◌, Bool, true, false, not, List, [], ◌∷◌, ◌++◌, refl, sym, ap, subst, arith}
use Rattle.std.proofs.lemmas.Bool.Decides.{nat_tests}
use Rattle.lua_tree.specs.Syntax.{Statements, no_statements, statement, Statement, assignment, call_statement, do_block, while_loop, repeat_loop, if_statement, numeric_for, generic_for, function_statement, local_function, local_statement, return_statement, break_statement, Branches, no_branches, branch, Otherwise, no_otherwise, otherwise, ForStep, no_step, by_step, FunctionBody, function_body, Expressions, no_expressions, expression, Expression, nil_literal, function_expression, index_expression, field_expression, call_expression, method_call, and_expression, or_expression, binary_expression, unary_expression, constructor, parenthesized, Arguments, argument_list, text_argument, table_argument, Fields, no_fields, positional, named, keyed}
use Rattle.lua_tree.specs.Precedence.{level_of_op, is_right_associative, level_of, is_unary, binds, left_binds, right_binds}
use Rattle.lua_tree.specs.Spelling.{spell_params, spell_semi, spell_separator}
use Rattle.lua_tree.specs.WellFormed.{is_target, is_call, is_prefix, are_targets, has_expressions, has_branches, ends_item, on_its_line, begins_with_paren, first_begins_with_paren, statement_begins_with_paren, takes_arguments, last_takes_arguments, statement_takes_arguments, ends_block, may_follow, formed_statements, formed_statement, formed_branches, formed_otherwise, formed_step, formed_body, formed_expressions, formed_expression, formed_arguments, formed_fields}
use Rattle.lua_tree.specs.declared.token.TokenKind.{TokenKind}
use Rattle.lua_tree.specs.declared.tree.Separator.{Separator}
use Rattle.printer.specs.Layout.{Piece, token, new_line, tokens, statements_pieces, statement_pieces, branches_pieces, step_pieces, body_pieces, expressions_pieces, expression_pieces, arguments_pieces}
use Rattle.printer.proofs.Tests.{kept, so}
use Rattle.printer.proofs.Spots.{Spot, capped, behind, below, past_piece, past, past_append, next_line}
use Rattle.printer.proofs.RelinedTrees.{relined_statements, relined_statement, relined_branches, relined_otherwise, relined_step, relined_body, relined_expressions, relined_expression, relined_arguments, relined_fields}

-- ---- tests that look at no line

target_same : (n : ℕ) (spot : Spot) (e : Expression) → is_target (relined_expression n spot e) ≡ is_target e
target_same n spot (nil_literal line) = refl
target_same n spot e = refl

call_same : (n : ℕ) (spot : Spot) (e : Expression) → is_call (relined_expression n spot e) ≡ is_call e
call_same n spot (nil_literal line) = refl
call_same n spot e = refl

prefix_same : (n : ℕ) (spot : Spot) (e : Expression) → is_prefix (relined_expression n spot e) ≡ is_prefix e
prefix_same n spot (nil_literal line) = refl
prefix_same n spot e = refl

unary_same : (n : ℕ) (spot : Spot) (e : Expression) → is_unary (relined_expression n spot e) ≡ is_unary e
unary_same n spot (nil_literal line) = refl
unary_same n spot e = refl

level_same : (n : ℕ) (spot : Spot) (e : Expression) → level_of (relined_expression n spot e) ≡ level_of e
level_same n spot (nil_literal line) = refl
level_same n spot e = refl

binds_same : (n : ℕ) (spot : Spot) (level : ℕ) (associates : Bool) (e : Expression) → binds level associates (relined_expression n spot e) ≡ binds level associates e
binds_same n spot level true e = ap (nat_le level) (level_same n spot e)
binds_same n spot level false e = ap (nat_le (level + 1)) (level_same n spot e)

left_same : (n : ℕ) (spot : Spot) (level : ℕ) (right : Bool) (e : Expression) → left_binds level right (relined_expression n spot e) ≡ left_binds level right e
left_same n spot level right e = binds_same n spot level (not right) e

right_same : (n : ℕ) (spot : Spot) (level : ℕ) (right : Bool) (e : Expression) → right_binds level right (relined_expression n spot e) ≡ right_binds level right e
right_same n spot level right e = rw (unary_same n spot e, binds_same n spot level right e) refl

paren_same : (n : ℕ) (spot : Spot) (e : Expression) → begins_with_paren (relined_expression n spot e) ≡ begins_with_paren e
paren_same n spot (index_expression line on key) = paren_same n spot on
paren_same n spot (field_expression line on name) = paren_same n spot on
paren_same n spot (call_expression line on args on_line) = paren_same n spot on
paren_same n spot (method_call line on name args on_line) = paren_same n spot on
paren_same n spot e = refl

takes_same : (n : ℕ) (spot : Spot) (e : Expression) → takes_arguments (relined_expression n spot e) ≡ takes_arguments e
takes_same n spot (binary_expression line op left right) = takes_same n (behind (past (expression_pieces n left) spot)) right
takes_same n spot (and_expression line left right) = takes_same n (behind (past (expression_pieces n left) spot)) right
takes_same n spot (or_expression line left right) = takes_same n (behind (past (expression_pieces n left) spot)) right
takes_same n spot (unary_expression line op operand) = takes_same n (behind spot) operand
takes_same n spot e = refl

targets_same : (n : ℕ) (spot : Spot) (es : Expressions) → are_targets (relined_expressions n spot es) ≡ are_targets es
targets_same n spot no_expressions = refl
targets_same n spot (expression e rest) = rw (target_same n spot e, targets_same n (behind (past (expression_pieces n e) spot)) rest) refl

have_same : (n : ℕ) (spot : Spot) (es : Expressions) → has_expressions (relined_expressions n spot es) ≡ has_expressions es
have_same n spot no_expressions = refl
have_same n spot (expression e rest) = refl

branches_same : (n : ℕ) (spot : Spot) (branches : Branches) → has_branches (relined_branches n spot branches) ≡ has_branches branches
branches_same n spot no_branches = refl
branches_same n spot (branch cond block rest) = refl

first_paren_same : (n : ℕ) (spot : Spot) (es : Expressions) → first_begins_with_paren (relined_expressions n spot es) ≡ first_begins_with_paren es
first_paren_same n spot no_expressions = refl
first_paren_same n spot (expression e rest) = paren_same n spot e

last_takes_same : (n : ℕ) (spot : Spot) (es : Expressions) → last_takes_arguments (relined_expressions n spot es) ≡ last_takes_arguments es
last_takes_same n spot no_expressions = refl
last_takes_same n spot (expression e no_expressions) = takes_same n spot e
last_takes_same n spot (expression e (expression other rest)) = last_takes_same n (behind (past (expression_pieces n e) spot)) (expression other rest)

statement_paren_same : (n : ℕ) (spot : Spot) (s : Statement) → statement_begins_with_paren (relined_statement n spot s) ≡ statement_begins_with_paren s
statement_paren_same n spot (assignment targets es) = first_paren_same n spot targets
statement_paren_same n spot (call_statement e) = paren_same n spot e
statement_paren_same n spot s = refl

statement_takes_same : (n : ℕ) (spot : Spot) (s : Statement) → statement_takes_arguments (relined_statement n spot s) ≡ statement_takes_arguments s
statement_takes_same n spot (assignment targets es) = last_takes_same n (behind (past (expressions_pieces n targets) spot)) es
statement_takes_same n spot (repeat_loop block cond) = takes_same n (behind (below (past (statements_pieces (suc n) block) (behind spot)))) cond
statement_takes_same n spot (local_statement names es) = last_takes_same n (behind spot) es
statement_takes_same n spot s = refl

ends_same : (n : ℕ) (spot : Spot) (s : Statement) → ends_block (relined_statement n spot s) ≡ ends_block s
ends_same n spot break_statement = refl
ends_same n spot s = refl

follow_same : (n : ℕ) (at spot : Spot) (s : Statement) (semi : Bool) (rest : Statements) → may_follow (relined_statement n at s) semi (relined_statements n spot rest) ≡ may_follow s semi rest
follow_same n at spot s semi no_statements = refl
follow_same n at spot s semi (statement line next_semi next rest) = rw (ends_same n at s, statement_takes_same n at s, statement_paren_same n (below spot) next) refl

item_same : (n : ℕ) (spot : Spot) (separator : Separator) (rest : Fields) → ends_item separator (relined_fields n spot rest) ≡ ends_item separator rest
item_same n spot Separator.Missing no_fields = refl
item_same n spot separator rest = refl

-- ---- the last piece of an expression is a token, so the `(` of arguments stands on its line

record Ends (pieces : List Piece) : Type 0 where
  ends : (spot : Spot) → (past pieces spot).last ≡ capped (past pieces spot).line

ends_piece : (piece : Piece) (q : List Piece) → Ends q → Ends (piece ∷ q)
ends_piece piece q e = record { ends = λ spot. e.ends (past_piece piece spot) }

ends_behind : (p q : List Piece) → Ends q → Ends (p ++ q)
ends_behind p q e = record { ends = λ spot. subst (λ end. end.last ≡ capped end.line) (sym (past_append p q spot)) (e.ends (past p spot)) }

ends_token : (kind : TokenKind) → Ends (token kind ∷ [])
ends_token kind = record { ends = λ spot. refl }

body_ends : (n : ℕ) (body : FunctionBody) → Ends (body_pieces n body)
body_ends n (function_body params vararg block first last) =
    ends_behind (tokens (TokenKind.OpenParen ∷ spell_params params vararg ++ TokenKind.CloseParen ∷ [])) _ (ends_behind (statements_pieces (suc n) block) _ (ends_piece (new_line n) _ (ends_token TokenKind.End)))

arguments_end : (n : ℕ) (args : Arguments) → Ends (arguments_pieces n args)
arguments_end n (argument_list es) = ends_piece _ _ (ends_behind (expressions_pieces n es) _ (ends_token TokenKind.CloseParen))
arguments_end n (text_argument text) = ends_token _
arguments_end n (table_argument items) = ends_piece _ _ (ends_behind _ _ (ends_token TokenKind.CloseBrace))

expression_ends : (n : ℕ) (e : Expression) → Ends (expression_pieces n e)
expression_ends n (function_expression line body) = ends_piece _ _ (body_ends n body)
expression_ends n (index_expression line on key) = ends_behind (expression_pieces n on) _ (ends_piece _ _ (ends_behind (expression_pieces n key) _ (ends_token TokenKind.CloseBracket)))
expression_ends n (field_expression line on name) = ends_behind (expression_pieces n on) _ (ends_piece _ _ (ends_token _))
expression_ends n (call_expression line on args on_line) = ends_behind (expression_pieces n on) _ (arguments_end n args)
expression_ends n (method_call line on name args on_line) = ends_behind (expression_pieces n on) _ (ends_piece _ _ (ends_piece _ _ (arguments_end n args)))
expression_ends n (and_expression line left right) = ends_behind (expression_pieces n left) _ (ends_piece _ _ (expression_ends n right))
expression_ends n (or_expression line left right) = ends_behind (expression_pieces n left) _ (ends_piece _ _ (expression_ends n right))
expression_ends n (binary_expression line op left right) = ends_behind (expression_pieces n left) _ (ends_piece _ _ (expression_ends n right))
expression_ends n (unary_expression line op operand) = ends_piece _ _ (expression_ends n operand)
expression_ends n (constructor line items) = ends_piece _ _ (ends_behind _ _ (ends_token TokenKind.CloseBrace))
expression_ends n (parenthesized line e) = ends_piece _ _ (ends_behind (expression_pieces n e) _ (ends_token TokenKind.CloseParen))
expression_ends n e = ends_token _

same_number : (a b : ℕ) → a ≡ b → (a == b) ≡ true
same_number a b e = grind (arith, nat_tests)

line_kept : (n : ℕ) (spot : Spot) (line : ℕ) (args : Arguments) → line ≡ capped spot.line → on_its_line (relined_arguments n spot args) (next_line (arguments_pieces n args) spot) line ≡ true
line_kept n spot line (argument_list es) e = same_number (capped spot.line) line (sym e)
line_kept n spot line (text_argument text) e = refl
line_kept n spot line (table_argument items) e = refl

-- ---- the tree

mutual
  pub statements_formed : (n : ℕ) (spot : Spot) (block : Statements) → formed_statements block ≡ true → formed_statements (relined_statements n spot block) ≡ true
  statements_formed n spot no_statements = λ h. h
  statements_formed n spot (statement line semi s rest) =
      let next = past (tokens (spell_semi semi)) (past (statement_pieces n s) (below spot)) in
      kept (statement_formed n (below spot) s) (kept (so (follow_same n (below spot) next s semi rest)) (statements_formed n next rest))

  statement_formed : (n : ℕ) (spot : Spot) (s : Statement) → formed_statement s ≡ true → formed_statement (relined_statement n spot s) ≡ true
  statement_formed n spot (assignment targets es) =
      let values = behind (past (expressions_pieces n targets) spot) in
      kept (so (have_same n spot targets)) (kept (so (targets_same n spot targets)) (kept (expressions_formed n spot targets) (kept (so (have_same n values es)) (expressions_formed n values es))))
  statement_formed n spot (call_statement e) = kept (so (call_same n spot e)) (expression_formed n spot e)
  statement_formed n spot (do_block block) = statements_formed (suc n) (behind spot) block
  statement_formed n spot (while_loop cond block) = kept (expression_formed n (behind spot) cond) (statements_formed (suc n) (behind (past (expression_pieces n cond) (behind spot))) block)
  statement_formed n spot (repeat_loop block cond) = kept (statements_formed (suc n) (behind spot) block) (expression_formed n (behind (below (past (statements_pieces (suc n) block) (behind spot)))) cond)
  statement_formed n spot (if_statement branches last) = kept (so (branches_same n spot branches)) (kept (branches_formed n spot branches) (otherwise_formed n (past (branches_pieces n branches) spot) last))
  statement_formed n spot (numeric_for name first last step block) =
      let to = behind (past (expression_pieces n first) (behind spot)) in
      let by = past (expression_pieces n last) to in
      kept (λ h. h) (kept (expression_formed n (behind spot) first) (kept (expression_formed n to last) (kept (step_formed n by step) (statements_formed (suc n) (behind (past (step_pieces n step) by)) block))))
  statement_formed n spot (generic_for names es block) =
      kept (λ h. h) (kept (so (have_same n (behind spot) es)) (kept (expressions_formed n (behind spot) es) (statements_formed (suc n) (behind (past (expressions_pieces n es) (behind spot))) block)))
  statement_formed n spot (function_statement path method body) = kept (λ h. h) (kept (λ h. h) (body_formed n (behind spot) body))
  statement_formed n spot (local_function name body) = kept (λ h. h) (body_formed n (behind spot) body)
  statement_formed n spot (local_statement names es) = kept (λ h. h) (expressions_formed n (behind spot) es)
  statement_formed n spot (return_statement es) = expressions_formed n (behind spot) es
  statement_formed n spot break_statement = λ h. h

  branches_formed : (n : ℕ) (spot : Spot) (branches : Branches) → formed_branches branches ≡ true → formed_branches (relined_branches n spot branches) ≡ true
  branches_formed n spot no_branches = λ h. h
  branches_formed n spot (branch cond block rest) =
      let inside = behind (past (expression_pieces n cond) (behind spot)) in
      kept (expression_formed n (behind spot) cond) (kept (statements_formed (suc n) inside block) (branches_formed n (below (past (statements_pieces (suc n) block) inside)) rest))

  otherwise_formed : (n : ℕ) (spot : Spot) (last : Otherwise) → formed_otherwise last ≡ true → formed_otherwise (relined_otherwise n spot last) ≡ true
  otherwise_formed n spot no_otherwise = λ h. h
  otherwise_formed n spot (otherwise block) = statements_formed (suc n) (behind (below spot)) block

  step_formed : (n : ℕ) (spot : Spot) (step : ForStep) → formed_step step ≡ true → formed_step (relined_step n spot step) ≡ true
  step_formed n spot no_step = λ h. h
  step_formed n spot (by_step e) = expression_formed n (behind spot) e

  body_formed : (n : ℕ) (spot : Spot) (body : FunctionBody) → formed_body body ≡ true → formed_body (relined_body n spot body) ≡ true
  body_formed n spot (function_body params vararg block first last) = kept (λ h. h) (statements_formed (suc n) (behind spot) block)

  expressions_formed : (n : ℕ) (spot : Spot) (es : Expressions) → formed_expressions es ≡ true → formed_expressions (relined_expressions n spot es) ≡ true
  expressions_formed n spot no_expressions = λ h. h
  expressions_formed n spot (expression e rest) = kept (expression_formed n spot e) (expressions_formed n (behind (past (expression_pieces n e) spot)) rest)

  expression_formed : (n : ℕ) (spot : Spot) (e : Expression) → formed_expression e ≡ true → formed_expression (relined_expression n spot e) ≡ true
  expression_formed n spot (function_expression line body) = body_formed n (behind spot) body
  expression_formed n spot (index_expression line on key) = kept (so (prefix_same n spot on)) (kept (expression_formed n spot on) (expression_formed n (behind (past (expression_pieces n on) spot)) key))
  expression_formed n spot (field_expression line on name) = kept (so (prefix_same n spot on)) (kept (expression_formed n spot on) (λ h. h))
  expression_formed n spot (call_expression line on args on_line) =
      let there = past (expression_pieces n on) spot in
      kept (so (prefix_same n spot on)) (kept (expression_formed n spot on) (kept (λ h. line_kept n there there.last args ((expression_ends n on).ends spot)) (arguments_formed n there args)))
  expression_formed n spot (method_call line on name args on_line) =
      let there = behind (past (expression_pieces n on) spot) in
      kept (so (prefix_same n spot on)) (kept (expression_formed n spot on) (kept (λ h. h) (kept (λ h. line_kept n there there.last args refl) (arguments_formed n there args))))
  expression_formed n spot (and_expression line left right) =
      let there = behind (past (expression_pieces n left) spot) in
      kept (so (left_same n spot 2 false left)) (kept (so (right_same n there 2 false right)) (kept (expression_formed n spot left) (expression_formed n there right)))
  expression_formed n spot (or_expression line left right) =
      let there = behind (past (expression_pieces n left) spot) in
      kept (so (left_same n spot 1 false left)) (kept (so (right_same n there 1 false right)) (kept (expression_formed n spot left) (expression_formed n there right)))
  expression_formed n spot (binary_expression line op left right) =
      let there = behind (past (expression_pieces n left) spot) in
      kept (so (left_same n spot (level_of_op op) (is_right_associative op) left)) (kept (so (right_same n there (level_of_op op) (is_right_associative op) right)) (kept (expression_formed n spot left) (expression_formed n there right)))
  expression_formed n spot (unary_expression line op operand) = kept (so (left_same n (behind spot) 7 false operand)) (expression_formed n (behind spot) operand)
  expression_formed n spot (constructor line fields) = fields_formed n (behind spot) fields
  expression_formed n spot (parenthesized line e) = expression_formed n (behind spot) e
  expression_formed n spot e = λ h. h

  arguments_formed : (n : ℕ) (spot : Spot) (args : Arguments) → formed_arguments args ≡ true → formed_arguments (relined_arguments n spot args) ≡ true
  arguments_formed n spot (argument_list es) = expressions_formed n (behind spot) es
  arguments_formed n spot (text_argument text) = λ h. h
  arguments_formed n spot (table_argument fields) = fields_formed n (behind spot) fields

  fields_formed : (n : ℕ) (spot : Spot) (fields : Fields) → formed_fields fields ≡ true → formed_fields (relined_fields n spot fields) ≡ true
  fields_formed n spot no_fields = λ h. h
  fields_formed n spot (positional e separator rest) =
      let next = past (tokens (spell_separator separator)) (past (expression_pieces n e) spot) in
      kept (so (item_same n next separator rest)) (kept (expression_formed n spot e) (fields_formed n next rest))
  fields_formed n spot (named name e separator rest) =
      let next = past (tokens (spell_separator separator)) (past (expression_pieces n e) (behind spot)) in
      kept (so (item_same n next separator rest)) (kept (λ h. h) (kept (expression_formed n (behind spot) e) (fields_formed n next rest)))
  fields_formed n spot (keyed key e separator rest) =
      let value = behind (past (expression_pieces n key) (behind spot)) in
      let next = past (tokens (spell_separator separator)) (past (expression_pieces n e) value) in
      kept (so (item_same n next separator rest)) (kept (expression_formed n (behind spot) key) (kept (expression_formed n value e) (fields_formed n next rest)))
