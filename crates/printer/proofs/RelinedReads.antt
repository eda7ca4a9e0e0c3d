-- The tokens of a tree's pieces spell it, with their lines.
use Rattle.std.proofs.Common.{◌≡◌, ℕ, suc, Bool, true, false, List, [], ◌∷◌, ◌++◌, Option, Some, None, refl, sym, ap, subst, ◌∙◌, append_assoc, append-nil}
use Rattle.lua_num.specs.Bytes.{Text}
use Rattle.lua_tree.specs.Syntax.{Statements, no_statements, statement, Statement, assignment, call_statement, do_block, while_loop, repeat_loop, if_statement, numeric_for, generic_for, function_statement, local_function, local_statement, return_statement, break_statement, Branches, no_branches, branch, Otherwise, no_otherwise, otherwise, ForStep, no_step, by_step, FunctionBody, function_body, Expressions, no_expressions, expression, Expression, nil_literal, true_literal, false_literal, vararg_expression, number_literal, text_literal, name_expression, function_expression, index_expression, field_expression, call_expression, method_call, and_expression, or_expression, binary_expression, unary_expression, constructor, parenthesized, Arguments, argument_list, text_argument, table_argument, Fields, no_fields, positional, named, keyed, Source}
use Rattle.lua_tree.specs.Spelling.{Kinds, spell_semi, spell_separator, more_names, spell_names, spell_method, spell_params}
use Rattle.lua_tree.specs.Spelled.{block_phrase, statement_phrase, branches_phrase, step_phrase, body_phrase, parameters_phrase, more_parameters_phrase, method_phrase, values_phrase, expressions_phrase, more_expressions_phrase, expression_phrase, arguments_phrase, fields_phrase, field_phrase, semicolon_phrase, separator_phrase, names_phrase, more_names_phrase, positional_field, named_field, keyed_field, word, of, first_line_of, Spelled, block_parts, statement_parts, branches_parts, step_parts, body_parts, parameters_parts, more_parameters_parts, method_parts, names_parts, more_names_parts, values_parts, expressions_parts, more_expressions_parts, expression_parts, arguments_parts, fields_parts, semicolon_parts, separator_parts, SpellsSource}
use Rattle.lua_tree.specs.declared.token.Token.{Token}
use Rattle.lua_tree.specs.declared.token.TokenKind.{TokenKind}
use Rattle.lua_tree.specs.declared.tree.Separator.{Separator}
use Rattle.printer.specs.Layout.{Piece, token, new_line, tokens, loop_pieces, source_pieces, statements_pieces, statement_pieces, branches_pieces, more_branches_pieces, else_pieces, step_pieces, body_pieces, values_pieces, expressions_pieces, more_expressions_pieces, expression_pieces, arguments_pieces, fields_pieces}
use Rattle.printer.proofs.Ranges.{Lined}
use Rattle.printer.proofs.Spots.{Spot, capped, behind, below, past, past_append, HasToken, has_behind, Reads, reads_as, moved, nothing, a_word, a_word_at, a_word_on, a_line, to_here, from_here, from_first, a_phrase, last_phrase, a_token_phrase}
use Rattle.printer.proofs.RelinedTrees.{relined_statements, relined_statement, relined_branches, relined_otherwise, relined_step, relined_body, relined_expressions, relined_expression, relined_arguments, relined_fields, beginning, relined}

-- ---- statements, arguments and expressions have a token

arguments_have : (n : ℕ) (args : Arguments) → HasToken (arguments_pieces n args)
arguments_have n (argument_list es) = tt
arguments_have n (text_argument text) = tt
arguments_have n (table_argument items) = tt

expression_has : (n : ℕ) (e : Expression) → HasToken (expression_pieces n e)
expression_has n (index_expression line on key) = has_behind (expression_pieces n on) _ tt
expression_has n (field_expression line on name) = has_behind (expression_pieces n on) _ tt
expression_has n (call_expression line on args on_line) = has_behind (expression_pieces n on) _ (arguments_have n args)
expression_has n (method_call line on name args on_line) = has_behind (expression_pieces n on) _ tt
expression_has n (and_expression line left right) = has_behind (expression_pieces n left) _ tt
expression_has n (or_expression line left right) = has_behind (expression_pieces n left) _ tt
expression_has n (binary_expression line op left right) = has_behind (expression_pieces n left) _ tt
expression_has n e = tt

statement_has : (n : ℕ) (s : Statement) → HasToken (statement_pieces n s)
statement_has n (assignment targets es) = has_behind (expressions_pieces n targets) _ tt
statement_has n (call_statement e) = expression_has n e
statement_has n (if_statement branches last) = has_behind (branches_pieces n branches) _ (has_behind (else_pieces n last) _ tt)
statement_has n s = tt

-- ---- names and marks

tokens_join : (a b : Kinds) (pieces : List Piece) → tokens (a ++ b) ++ pieces ≡ tokens a ++ (tokens b ++ pieces)
tokens_join [] b pieces = refl
tokens_join (kind ∷ a) b pieces = ap (λ others. token kind ∷ others) (tokens_join a b pieces)

more_names_read : (mark : TokenKind) (names : List Text) (spot : Spot) → Reads (more_names_parts mark names) spot (tokens (more_names mark names))
more_names_read mark [] spot = nothing
more_names_read mark (name ∷ names) spot = a_word (a_word (last_phrase (more_names_phrase mark) names (more_names_read mark names (behind spot))))

names_read : (mark : TokenKind) (names : List Text) (spot : Spot) → Reads (names_parts mark names) spot (tokens (spell_names mark names))
names_read mark [] spot = nothing
names_read mark (name ∷ names) spot = a_word (last_phrase (more_names_phrase mark) names (more_names_read mark names (behind spot)))

-- `...` behind parameters of which some stand before
abbrev more_dots : Bool → Kinds
more_dots false = []
more_dots true = TokenKind.Comma ∷ TokenKind.DotDotDot ∷ []

more_parameters_read : (names : List Text) (vararg : Bool) (spot : Spot) → Reads (more_parameters_parts names vararg) spot (tokens (more_names TokenKind.Comma names ++ more_dots vararg))
more_parameters_read [] false spot = nothing
more_parameters_read [] true spot = a_word (a_word nothing)
more_parameters_read (name ∷ names) vararg spot =
    a_word (a_word (last_phrase more_parameters_phrase (record { names = names; vararg = vararg }) (more_parameters_read names vararg (behind spot))))

parameters_read : (names : List Text) (vararg : Bool) (spot : Spot) → Reads (parameters_parts names vararg) spot (tokens (spell_params names vararg))
parameters_read [] false spot = nothing
parameters_read [] true spot = a_word nothing
parameters_read (name ∷ names) false spot = a_word (last_phrase more_parameters_phrase (record { names = names; vararg = false }) (more_parameters_read names false (behind spot)))
parameters_read (name ∷ names) true spot = a_word (last_phrase more_parameters_phrase (record { names = names; vararg = true }) (more_parameters_read names true (behind spot)))

method_reads : (method : Option Text) (spot : Spot) → Reads (method_parts method) spot (tokens (spell_method method))
method_reads None spot = nothing
method_reads (Some name) spot = a_word (a_word nothing)

semicolon_reads : (semi : Bool) (spot : Spot) → Reads (semicolon_parts semi) spot (tokens (spell_semi semi))
semicolon_reads true spot = a_word nothing
semicolon_reads false spot = nothing

separator_reads : (separator : Separator) (spot : Spot) → Reads (separator_parts separator) spot (tokens (spell_separator separator))
separator_reads Separator.Comma spot = a_word nothing
separator_reads Separator.Semicolon spot = a_word nothing
separator_reads Separator.Missing spot = nothing

-- ---- blocks

end_reads : {n : ℕ} {spot : Spot} → Reads (word TokenKind.End ∷ []) spot (new_line n ∷ token TokenKind.End ∷ [])
end_reads = a_line (a_word nothing)

loop_reads : {spot : Spot} {pieces : List Piece} (n : ℕ) (block : Statements) → Reads (block_parts block) (behind spot) pieces → Reads (word TokenKind.Do ∷ of block_phrase block ∷ word TokenKind.End ∷ []) spot (loop_pieces n pieces)
loop_reads n block r = a_word (a_phrase block_phrase block r end_reads)

-- ---- the tree

-- an arm of an `if` and what is behind it
arms_join : (cond block more last end : List Piece) → (cond ++ token TokenKind.Then ∷ (block ++ more)) ++ (last ++ end) ≡ cond ++ token TokenKind.Then ∷ (block ++ ((more ++ last) ++ end))
arms_join cond block more last end = simp append_assoc

more_join : (cond block more last : List Piece) → (cond ++ token TokenKind.Then ∷ (block ++ more)) ++ last ≡ cond ++ token TokenKind.Then ∷ (block ++ (more ++ last))
more_join cond block more last = simp append_assoc

arm_past : (cond block more : List Piece) (spot : Spot) → past (cond ++ token TokenKind.Then ∷ (block ++ more)) spot ≡ past more (past block (behind (past cond spot)))
arm_past cond block more spot = past_append cond (token TokenKind.Then ∷ (block ++ more)) spot ∙ past_append block more (behind (past cond spot))

first_line_is : (n : ℕ) (spot : Spot) (body : FunctionBody) → first_line_of (relined_body n spot body) ≡ capped spot.line
first_line_is n spot (function_body params vararg block first last) = refl

mutual
  statements_read : (n : ℕ) (spot : Spot) (block : Statements) → Reads (block_parts (relined_statements n spot block)) spot (statements_pieces n block)
  statements_read n spot no_statements = nothing
  statements_read n spot (statement line semi s rest) =
      a_line (from_first (statement_pieces n s) _ (statement_has n s) (a_phrase statement_phrase _ (statement_reads n (below spot) s) (a_phrase semicolon_phrase semi (semicolon_reads semi _) (last_phrase block_phrase _ (statements_read n _ rest)))))

  statement_reads : (n : ℕ) (spot : Spot) (s : Statement) → Reads (statement_parts (relined_statement n spot s)) spot (statement_pieces n s)
  statement_reads n spot (assignment targets es) = a_phrase expressions_phrase _ (expressions_read n spot targets) (a_word (last_phrase expressions_phrase _ (expressions_read n _ es)))
  statement_reads n spot (call_statement e) = last_phrase expression_phrase _ (expression_reads n spot e)
  statement_reads n spot (do_block block) = loop_reads n _ (statements_read (suc n) (behind spot) block)
  statement_reads n spot (while_loop cond block) = a_word (a_phrase expression_phrase _ (expression_reads n (behind spot) cond) (loop_reads n _ (statements_read (suc n) _ block)))
  statement_reads n spot (repeat_loop block cond) = a_word (a_phrase block_phrase _ (statements_read (suc n) (behind spot) block) (a_line (a_word (last_phrase expression_phrase _ (expression_reads n _ cond)))))
  statement_reads n spot (if_statement no_branches last) = a_phrase branches_phrase _ (otherwise_reads n spot last) end_reads
  statement_reads n spot (if_statement (branch cond block rest) last) =
      let inside = behind (past (expression_pieces n cond) (behind spot)) in
      reads_as (ap (λ others. token TokenKind.If ∷ others) (sym (arms_join (expression_pieces n cond) (statements_pieces (suc n) block) (more_branches_pieces n rest) (else_pieces n last) (new_line n ∷ token TokenKind.End ∷ []))))
      (a_word (a_phrase expression_phrase _ (expression_reads n (behind spot) cond) (a_word (a_phrase block_phrase _ (statements_read (suc n) inside block)
      (a_phrase branches_phrase _ (branches_read n (past (statements_pieces (suc n) block) inside) rest _ last (λ at. otherwise_reads n at last)
      (sym (arm_past (expression_pieces n cond) (statements_pieces (suc n) block) (more_branches_pieces n rest) (behind spot)))) end_reads)))))
  statement_reads n spot (numeric_for name first last step block) =
      a_word (a_word (a_word (a_phrase expression_phrase _ (expression_reads n (behind spot) first) (a_word (a_phrase expression_phrase _ (expression_reads n _ last) (a_phrase step_phrase _ (step_reads n _ step) (loop_reads n _ (statements_read (suc n) _ block))))))))
  statement_reads n spot (generic_for names es block) =
      reads_as (ap (λ others. token TokenKind.For ∷ others) (sym (tokens_join (spell_names TokenKind.Comma names) (TokenKind.In ∷ []) _)))
      (a_word (a_token_phrase spot (spell_names TokenKind.Comma names) (names_phrase TokenKind.Comma) names (names_read TokenKind.Comma names (behind spot))
      (a_word (a_phrase expressions_phrase _ (expressions_read n (behind spot) es) (loop_reads n _ (statements_read (suc n) _ block))))))
  statement_reads n spot (function_statement path method body) =
      reads_as (ap (λ others. token TokenKind.Function ∷ others) (sym (tokens_join (spell_names TokenKind.Dot path) (spell_method method) _)))
      (a_word_at _ (first_line_is n (behind spot) body) (a_token_phrase spot (spell_names TokenKind.Dot path) (names_phrase TokenKind.Dot) path (names_read TokenKind.Dot path (behind spot))
      (a_token_phrase spot (spell_method method) method_phrase method (method_reads method (behind spot)) (last_phrase body_phrase _ (body_reads n (behind spot) body)))))
  statement_reads n spot (local_function name body) = a_word (a_word_at _ (first_line_is n (behind spot) body) (a_word (last_phrase body_phrase _ (body_reads n (behind spot) body))))
  statement_reads n spot (local_statement names es) =
      a_word (a_token_phrase spot (spell_names TokenKind.Comma names) (names_phrase TokenKind.Comma) names (names_read TokenKind.Comma names (behind spot)) (last_phrase values_phrase _ (values_read n spot es)))
  statement_reads n spot (return_statement es) = a_word (last_phrase expressions_phrase _ (expressions_read n (behind spot) es))
  statement_reads n spot break_statement = a_word nothing

  otherwise_reads : (n : ℕ) (spot : Spot) (last : Otherwise) → Reads (branches_parts no_branches (relined_otherwise n spot last)) spot (else_pieces n last)
  otherwise_reads n spot no_otherwise = nothing
  otherwise_reads n spot (otherwise block) = a_line (a_word (last_phrase block_phrase _ (statements_read (suc n) _ block)))

  -- the branches that are left, and the last block, which begins behind them
  branches_read : (n : ℕ) (spot : Spot) (branches : Branches) (end : Spot) (last : Otherwise) → ((at : Spot) → Reads (branches_parts no_branches (relined_otherwise n at last)) at (else_pieces n last)) →
      past (more_branches_pieces n branches) spot ≡ end → Reads (branches_parts (relined_branches n (below spot) branches) (relined_otherwise n end last)) spot (more_branches_pieces n branches ++ else_pieces n last)
  branches_read n spot no_branches end last lasts e = subst (λ end. Reads (branches_parts no_branches (relined_otherwise n end last)) spot (else_pieces n last)) e (lasts spot)
  branches_read n spot (branch cond block rest) end last lasts e =
      let inside = behind (past (expression_pieces n cond) (behind (below spot))) in
      reads_as (ap (λ others. new_line n ∷ token TokenKind.Elseif ∷ others) (sym (more_join (expression_pieces n cond) (statements_pieces (suc n) block) (more_branches_pieces n rest) (else_pieces n last))))
      (a_line (a_word (a_phrase expression_phrase _ (expression_reads n (behind (below spot)) cond) (a_word (a_phrase block_phrase _ (statements_read (suc n) inside block)
      (last_phrase branches_phrase _ (branches_read n (past (statements_pieces (suc n) block) inside) rest end last lasts
      (sym (arm_past (expression_pieces n cond) (statements_pieces (suc n) block) (more_branches_pieces n rest) (behind (below spot))) ∙ e))))))))

  step_reads : (n : ℕ) (spot : Spot) (step : ForStep) → Reads (step_parts (relined_step n spot step)) spot (step_pieces n step)
  step_reads n spot no_step = nothing
  step_reads n spot (by_step e) = a_word (last_phrase expression_phrase _ (expression_reads n (behind spot) e))

  body_reads : (n : ℕ) (spot : Spot) (body : FunctionBody) → Reads (body_parts (relined_body n spot body)) spot (body_pieces n body)
  body_reads n spot (function_body params vararg block first last) =
      reads_as (ap (λ others. token TokenKind.OpenParen ∷ others) (sym (tokens_join (spell_params params vararg) (TokenKind.CloseParen ∷ []) _)))
      (a_word (a_token_phrase spot (spell_params params vararg) parameters_phrase (record { names = params; vararg = vararg }) (parameters_read params vararg (behind spot))
      (a_word (a_phrase block_phrase _ (statements_read (suc n) (behind spot) block) (a_line (a_word_on nothing))))))

  values_read : (n : ℕ) (spot : Spot) (es : Expressions) → Reads (values_parts (relined_expressions n (behind spot) es)) (behind spot) (values_pieces n es)
  values_read n spot no_expressions = nothing
  values_read n spot (expression e rest) = a_word (last_phrase expressions_phrase _ (a_phrase expression_phrase _ (expression_reads n (behind spot) e) (last_phrase more_expressions_phrase _ (more_expressions_read n _ rest))))

  expressions_read : (n : ℕ) (spot : Spot) (es : Expressions) → Reads (expressions_parts (relined_expressions n spot es)) spot (expressions_pieces n es)
  expressions_read n spot no_expressions = nothing
  expressions_read n spot (expression e rest) = a_phrase expression_phrase _ (expression_reads n spot e) (last_phrase more_expressions_phrase _ (more_expressions_read n _ rest))

  more_expressions_read : (n : ℕ) (spot : Spot) (es : Expressions) → Reads (more_expressions_parts (relined_expressions n (behind spot) es)) spot (more_expressions_pieces n es)
  more_expressions_read n spot no_expressions = nothing
  more_expressions_read n spot (expression e rest) = a_word (a_phrase expression_phrase _ (expression_reads n (behind spot) e) (last_phrase more_expressions_phrase _ (more_expressions_read n _ rest)))

  expression_reads : (n : ℕ) (spot : Spot) (e : Expression) → Reads (expression_parts (relined_expression n spot e)) spot (expression_pieces n e)
  expression_reads n spot (nil_literal line) = a_word_on nothing
  expression_reads n spot (true_literal line) = a_word_on nothing
  expression_reads n spot (false_literal line) = a_word_on nothing
  expression_reads n spot (vararg_expression line) = a_word_on nothing
  expression_reads n spot (number_literal line number) = a_word_on nothing
  expression_reads n spot (text_literal line text) = a_word_on nothing
  expression_reads n spot (name_expression line name) = a_word_on nothing
  expression_reads n spot (function_expression line body) =
      from_here _ tt (a_word_at _ (first_line_is n (behind spot) body) (last_phrase body_phrase _ (body_reads n (behind spot) body)))
  expression_reads n spot (index_expression line on key) = a_phrase expression_phrase _ (expression_reads n spot on) (a_word_on (a_phrase expression_phrase _ (expression_reads n _ key) (a_word nothing)))
  expression_reads n spot (field_expression line on name) = a_phrase expression_phrase _ (expression_reads n spot on) (a_word_on (a_word nothing))
  expression_reads n spot (call_expression line on args on_line) =
      a_phrase expression_phrase _ (expression_reads n spot on) (to_here (from_here (arguments_pieces n args) (arguments_have n args) (last_phrase arguments_phrase _ (arguments_read n _ args))))
  expression_reads n spot (method_call line on name args on_line) =
      a_phrase expression_phrase _ (expression_reads n spot on) (a_word (a_word_on (from_here (arguments_pieces n args) (arguments_have n args) (last_phrase arguments_phrase _ (arguments_read n _ args)))))
  expression_reads n spot (and_expression line left right) =
      from_first (expression_pieces n left) _ (expression_has n left) (a_phrase expression_phrase _ (expression_reads n spot left) (a_word (last_phrase expression_phrase _ (expression_reads n _ right))))
  expression_reads n spot (or_expression line left right) =
      from_first (expression_pieces n left) _ (expression_has n left) (a_phrase expression_phrase _ (expression_reads n spot left) (a_word (last_phrase expression_phrase _ (expression_reads n _ right))))
  expression_reads n spot (binary_expression line op left right) = a_phrase expression_phrase _ (expression_reads n spot left) (a_word_on (last_phrase expression_phrase _ (expression_reads n _ right)))
  expression_reads n spot (unary_expression line op operand) = a_word_on (last_phrase expression_phrase _ (expression_reads n (behind spot) operand))
  expression_reads n spot (constructor line fields) = a_word_on (a_phrase fields_phrase _ (fields_read n (behind spot) fields) (a_word nothing))
  expression_reads n spot (parenthesized line e) = a_word_on (a_phrase expression_phrase _ (expression_reads n (behind spot) e) (a_word nothing))

  arguments_read : (n : ℕ) (spot : Spot) (args : Arguments) → Reads (arguments_parts (relined_arguments n spot args)) spot (arguments_pieces n args)
  arguments_read n spot (argument_list es) = a_word (a_phrase expressions_phrase _ (expressions_read n (behind spot) es) (a_word nothing))
  arguments_read n spot (text_argument text) = a_word nothing
  arguments_read n spot (table_argument fields) = a_word (a_phrase fields_phrase _ (fields_read n (behind spot) fields) (a_word nothing))

  fields_read : (n : ℕ) (spot : Spot) (fields : Fields) → Reads (fields_parts (relined_fields n spot fields)) spot (fields_pieces n fields)
  fields_read n spot no_fields = nothing
  fields_read n spot (positional e separator rest) =
      a_phrase field_phrase (positional_field _) (last_phrase expression_phrase _ (expression_reads n spot e)) (a_phrase separator_phrase separator (separator_reads separator _) (last_phrase fields_phrase _ (fields_read n _ rest)))
  fields_read n spot (named name e separator rest) =
      a_phrase field_phrase (named_field name _) (a_word (a_word (last_phrase expression_phrase _ (expression_reads n (behind spot) e))))
      (a_phrase separator_phrase separator (separator_reads separator _) (last_phrase fields_phrase _ (fields_read n _ rest)))
  fields_read n spot (keyed key e separator rest) =
      let value = behind (past (expression_pieces n key) (behind spot)) in
      let field = tokens (TokenKind.CloseBracket ∷ TokenKind.Equal ∷ []) ++ expression_pieces n e in
      reads_as (ap (λ those. token TokenKind.OpenBracket ∷ those) (append_assoc (expression_pieces n key) field (tokens (spell_separator separator) ++ fields_pieces n rest)))
      (a_phrase field_phrase (keyed_field _ _) (a_word (a_phrase expression_phrase _ (expression_reads n (behind spot) key) (a_word (a_word (last_phrase expression_phrase _ (expression_reads n value e))))))
      (moved (sym (past_append (expression_pieces n key) field (behind spot))) (a_phrase separator_phrase separator (separator_reads separator (past (expression_pieces n e) value))
      (last_phrase fields_phrase (relined_fields n (past (tokens (spell_separator separator)) (past (expression_pieces n e) value)) rest) (fields_read n _ rest)))))

pub spells : (source : Source) (all : List Token) → Lined false 1 (source_pieces source) all → SpellsSource (relined source) all
spells source all lined =
    let r = (statements_read 0 beginning source.body).reads [] all (subst (λ pieces. Lined false 1 pieces all) (sym (append-nil (source_pieces source))) lined) in
    subst (λ left. Spelled (block_parts (relined source).body) 1 all (relined source).last_line left) r.lined r.spelled
