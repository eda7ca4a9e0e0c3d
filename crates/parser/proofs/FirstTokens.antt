-- What the first token of a phrase may be.
use Rattle.std.proofs.Common.{◌≡◌, ℕ, Bool, true, false, List, ◌∷◌, Option, Some, None, refl, ◌∙◌, ap}
use Rattle.lua_tree.specs.Syntax.{Statement, assignment, call_statement, do_block, while_loop, repeat_loop, if_statement, numeric_for, generic_for, function_statement, local_function, local_statement, return_statement, break_statement, no_branches, branch, Expressions, no_expressions, expression, Expression, nil_literal, true_literal, false_literal, vararg_expression, number_literal, text_literal, name_expression, function_expression, index_expression, field_expression, call_expression, method_call, and_expression, or_expression, binary_expression, unary_expression, constructor, parenthesized, Arguments, argument_list, text_argument, table_argument, Branches, Otherwise, no_otherwise, otherwise}
use Rattle.lua_tree.specs.WellFormed.{is_prefix, is_call, is_target, are_targets, formed_expression, formed_expressions, has_expressions, formed_statement, begins_with_paren, statement_begins_with_paren}
use Rattle.lua_tree.specs.Spelled.{Spelled, expression_parts, arguments_parts, statement_parts, branches_parts, by_word, by_word_on, by_next, by_phrase, no_part}
use Rattle.lua_tree.specs.Spelling.{spell_unary}
use Rattle.lua_tree.specs.declared.token.Token.{Token}
use Rattle.lua_tree.specs.declared.token.TokenKind.{TokenKind}
use Rattle.lua_tree.specs.declared.tree.UnaryOp.{UnaryOp}
use Rattle.parser.specs.Classes.{Suffix, suffix_of, is_block_end}
use Rattle.parser.specs.Operators.{infix_of}
use Rattle.parser.specs.Runs.{kind_of}
use Rattle.parser.proofs.Small.{and_left, and_right}

-- a known next token is in a class
pub in_class : (class : Option TokenKind → Bool) {is kind : TokenKind} → is ≡ kind → class (Some kind) ≡ true → class (Some is) ≡ true
in_class class e h = ap (λ x. class (Some x)) e ∙ h

abbrev pub begins_prefix : Option TokenKind → Bool
begins_prefix (Some (TokenKind.Name name)) = true
begins_prefix (Some TokenKind.OpenParen) = true
begins_prefix next = false

abbrev pub begins_expression : Option TokenKind → Bool
begins_expression (Some TokenKind.Nil) = true
begins_expression (Some TokenKind.True) = true
begins_expression (Some TokenKind.False) = true
begins_expression (Some TokenKind.DotDotDot) = true
begins_expression (Some (TokenKind.Number n)) = true
begins_expression (Some (TokenKind.Text text)) = true
begins_expression (Some (TokenKind.Name name)) = true
begins_expression (Some TokenKind.Function) = true
begins_expression (Some TokenKind.OpenBrace) = true
begins_expression (Some TokenKind.OpenParen) = true
begins_expression (Some TokenKind.Minus) = true
begins_expression (Some TokenKind.Not) = true
begins_expression (Some TokenKind.Hash) = true
begins_expression next = false

abbrev pub begins_statement : Option TokenKind → Bool
begins_statement (Some TokenKind.If) = true
begins_statement (Some TokenKind.While) = true
begins_statement (Some TokenKind.Do) = true
begins_statement (Some TokenKind.For) = true
begins_statement (Some TokenKind.Repeat) = true
begins_statement (Some TokenKind.Function) = true
begins_statement (Some TokenKind.Local) = true
begins_statement (Some TokenKind.Return) = true
begins_statement (Some TokenKind.Break) = true
begins_statement (Some (TokenKind.Name name)) = true
begins_statement (Some TokenKind.OpenParen) = true
begins_statement next = false

-- what may stand behind a statement: another, a semicolon or the end of its block
abbrev pub stands_after : Option TokenKind → Bool
stands_after None = true
stands_after (Some TokenKind.End) = true
stands_after (Some TokenKind.Else) = true
stands_after (Some TokenKind.Elseif) = true
stands_after (Some TokenKind.Until) = true
stands_after (Some TokenKind.Semicolon) = true
stands_after next = begins_statement next

unary_first : (op : UnaryOp) {kind : TokenKind} → kind ≡ spell_unary op → begins_expression (Some kind) ≡ true
unary_first UnaryOp.Neg k = in_class begins_expression k refl
unary_first UnaryOp.Not k = in_class begins_expression k refl
unary_first UnaryOp.Len k = in_class begins_expression k refl

-- an expression begins with such a token
pub expression_first : (e : Expression) {pv last : ℕ} {ts rest : List Token} → Spelled (expression_parts e) pv ts last rest → begins_expression (kind_of ts) ≡ true
expression_first (nil_literal line) (by_word_on k l s) = in_class begins_expression k refl
expression_first (true_literal line) (by_word_on k l s) = in_class begins_expression k refl
expression_first (false_literal line) (by_word_on k l s) = in_class begins_expression k refl
expression_first (vararg_expression line) (by_word_on k l s) = in_class begins_expression k refl
expression_first (number_literal line n) (by_word_on k l s) = in_class begins_expression k refl
expression_first (text_literal line text) (by_word_on k l s) = in_class begins_expression k refl
expression_first (name_expression line name) (by_word_on k l s) = in_class begins_expression k refl
expression_first (function_expression line body) (by_next l (by_word_on k m s)) = in_class begins_expression k refl
expression_first (index_expression line on key) (by_phrase s more) = expression_first on s
expression_first (field_expression line on name) (by_phrase s more) = expression_first on s
expression_first (call_expression line on args on_line) (by_phrase s more) = expression_first on s
expression_first (method_call line on name args on_line) (by_phrase s more) = expression_first on s
expression_first (and_expression line left right) (by_next l (by_phrase s more)) = expression_first left s
expression_first (or_expression line left right) (by_next l (by_phrase s more)) = expression_first left s
expression_first (binary_expression line op left right) (by_phrase s more) = expression_first left s
expression_first (unary_expression line op right) (by_word_on k l s) = unary_first op k
expression_first (constructor line items) (by_word_on k l s) = in_class begins_expression k refl
expression_first (parenthesized line e) (by_word_on k l s) = in_class begins_expression k refl

-- what may be indexed or called begins with a name or `(`
pub prefix_first : (e : Expression) {pv last : ℕ} {ts rest : List Token} → is_prefix e ≡ true → formed_expression e ≡ true → Spelled (expression_parts e) pv ts last rest → begins_prefix (kind_of ts) ≡ true
prefix_first (name_expression line name) p f (by_word_on k l s) = in_class begins_prefix k refl
prefix_first (index_expression line on key) p f (by_phrase s more) = prefix_first on (and_left _ _ f) (and_left _ _ (and_right _ _ f)) s
prefix_first (field_expression line on name) p f (by_phrase s more) = prefix_first on (and_left _ _ f) (and_left _ _ (and_right _ _ f)) s
prefix_first (call_expression line on args on_line) p f (by_phrase s more) = prefix_first on (and_left _ _ f) (and_left _ _ (and_right _ _ f)) s
prefix_first (method_call line on name args on_line) p f (by_phrase s more) = prefix_first on (and_left _ _ f) (and_left _ _ (and_right _ _ f)) s
prefix_first (parenthesized line e) p f (by_word_on k l s) = in_class begins_prefix k refl
prefix_first e p f s = cc

-- where it begins with `(`, so does its tree
pub paren_first : (e : Expression) {pv last : ℕ} {ts rest : List Token} → is_prefix e ≡ true → formed_expression e ≡ true → Spelled (expression_parts e) pv ts last rest → kind_of ts ≡ Some TokenKind.OpenParen → begins_with_paren e ≡ true
paren_first (name_expression line name) p f (by_word_on k l s) q = cc
paren_first (index_expression line on key) p f (by_phrase s more) q = paren_first on (and_left _ _ f) (and_left _ _ (and_right _ _ f)) s q
paren_first (field_expression line on name) p f (by_phrase s more) q = paren_first on (and_left _ _ f) (and_left _ _ (and_right _ _ f)) s q
paren_first (call_expression line on args on_line) p f (by_phrase s more) q = paren_first on (and_left _ _ f) (and_left _ _ (and_right _ _ f)) s q
paren_first (method_call line on name args on_line) p f (by_phrase s more) q = paren_first on (and_left _ _ f) (and_left _ _ (and_right _ _ f)) s q
paren_first (parenthesized line e) p f s q = refl
paren_first e p f s q = cc

pub call_is_prefix : (e : Expression) → is_call e ≡ true → is_prefix e ≡ true
call_is_prefix (call_expression line on args on_line) h = refl
call_is_prefix (method_call line on name args on_line) h = refl
call_is_prefix e h = cc

pub target_is_prefix : (e : Expression) → is_target e ≡ true → is_prefix e ≡ true
target_is_prefix (name_expression line name) h = refl
target_is_prefix (index_expression line on key) h = refl
target_is_prefix (field_expression line on name) h = refl
target_is_prefix e h = cc

-- arguments begin with a token that adds a call
pub arguments_first : (args : Arguments) {pv last : ℕ} {ts rest : List Token} → Spelled (arguments_parts args) pv ts last rest → suffix_of (kind_of ts) ≡ Suffix.Call
arguments_first (argument_list es) (by_word k s) = ap (λ x. suffix_of (Some x)) k
arguments_first (text_argument text) (by_word k s) = ap (λ x. suffix_of (Some x)) k
arguments_first (table_argument items) (by_word k s) = ap (λ x. suffix_of (Some x)) k

prefix_starts : (next : Option TokenKind) → begins_prefix next ≡ true → begins_statement next ≡ true
prefix_starts (Some (TokenKind.Name name)) h = refl
prefix_starts (Some TokenKind.OpenParen) h = refl
prefix_starts next h = cc

-- what a formed assignment says
pub record FormedAssignment (targets es : Expressions) : Type 0 where
  pub some_targets : has_expressions targets ≡ true
  pub are_targets : are_targets targets ≡ true
  pub targets_formed : formed_expressions targets ≡ true
  pub some_values : has_expressions es ≡ true
  pub values_formed : formed_expressions es ≡ true

pub assignment_formed : (targets es : Expressions) → formed_statement (assignment targets es) ≡ true → FormedAssignment targets es
assignment_formed targets es f =
    let a = and_right _ _ f in
    let b = and_right _ _ a in
    let c = and_right _ _ b in
    record { some_targets = and_left _ _ f; are_targets = and_left _ _ a; targets_formed = and_left _ _ b; some_values = and_left _ _ c; values_formed = and_right _ _ c }

-- a well-formed statement begins with such a token
pub statement_first : (s : Statement) {pv last : ℕ} {ts rest : List Token} → formed_statement s ≡ true → Spelled (statement_parts s) pv ts last rest → begins_statement (kind_of ts) ≡ true
statement_first (assignment no_expressions es) f s = cc
statement_first (assignment (expression e rest) es) f (by_phrase (by_phrase s more) others) =
    let p = assignment_formed (expression e rest) es f in
    prefix_starts _ (prefix_first e (target_is_prefix e (and_left _ _ p.are_targets)) (and_left _ _ p.targets_formed) s)
statement_first (call_statement e) f (by_phrase s more) = prefix_starts _ (prefix_first e (call_is_prefix e (and_left _ _ f)) (and_right _ _ f) s)
statement_first (do_block block) f (by_word k s) = in_class begins_statement k refl
statement_first (while_loop cond block) f (by_word k s) = in_class begins_statement k refl
statement_first (repeat_loop block cond) f (by_word k s) = in_class begins_statement k refl
statement_first (if_statement no_branches last) f s = cc
statement_first (if_statement (branch cond block rest) last) f (by_word k s) = in_class begins_statement k refl
statement_first (numeric_for name first last step block) f (by_word k s) = in_class begins_statement k refl
statement_first (generic_for names es block) f (by_word k s) = in_class begins_statement k refl
statement_first (function_statement path method body) f (by_word_on k l s) = in_class begins_statement k refl
statement_first (local_function name body) f (by_word k s) = in_class begins_statement k refl
statement_first (local_statement names es) f (by_word k s) = in_class begins_statement k refl
statement_first (return_statement es) f (by_word k s) = in_class begins_statement k refl
statement_first break_statement f (by_word k s) = in_class begins_statement k refl

-- a statement whose first token is `(`
pub statement_paren : (s : Statement) {pv last : ℕ} {ts rest : List Token} → formed_statement s ≡ true → Spelled (statement_parts s) pv ts last rest → kind_of ts ≡ Some TokenKind.OpenParen → statement_begins_with_paren s ≡ true
statement_paren (assignment no_expressions es) f s q = cc
statement_paren (assignment (expression e rest) es) f (by_phrase (by_phrase s more) others) q =
    let p = assignment_formed (expression e rest) es f in
    paren_first e (target_is_prefix e (and_left _ _ p.are_targets)) (and_left _ _ p.targets_formed) s q
statement_paren (call_statement e) f (by_phrase s more) q = paren_first e (call_is_prefix e (and_left _ _ f)) (and_right _ _ f) s q
statement_paren (do_block block) f (by_word k s) q = cc
statement_paren (while_loop cond block) f (by_word k s) q = cc
statement_paren (repeat_loop block cond) f (by_word k s) q = cc
statement_paren (if_statement no_branches last) f s q = cc
statement_paren (if_statement (branch cond block rest) last) f (by_word k s) q = cc
statement_paren (numeric_for name first last step block) f (by_word k s) q = cc
statement_paren (generic_for names es block) f (by_word k s) q = cc
statement_paren (function_statement path method body) f (by_word_on k l s) q = cc
statement_paren (local_function name body) f (by_word k s) q = cc
statement_paren (local_statement names es) f (by_word k s) q = cc
statement_paren (return_statement es) f (by_word k s) q = cc
statement_paren break_statement f (by_word k s) q = cc

-- what begins a statement ends no block, and may stand behind a statement
pub start_no_end : (next : Option TokenKind) → begins_statement next ≡ true → is_block_end next ≡ false
start_no_end None h = cc
start_no_end (Some TokenKind.End) h = cc
start_no_end (Some TokenKind.Else) h = cc
start_no_end (Some TokenKind.Elseif) h = cc
start_no_end (Some TokenKind.Until) h = cc
start_no_end next h = refl

-- what begins an expression ends no block
pub expression_no_end : (next : Option TokenKind) → begins_expression next ≡ true → is_block_end next ≡ false
expression_no_end None h = cc
expression_no_end (Some TokenKind.End) h = cc
expression_no_end (Some TokenKind.Else) h = cc
expression_no_end (Some TokenKind.Elseif) h = cc
expression_no_end (Some TokenKind.Until) h = cc
expression_no_end next h = refl

pub start_stands : (next : Option TokenKind) → begins_statement next ≡ true → stands_after next ≡ true
start_stands None h = refl
start_stands (Some TokenKind.End) h = refl
start_stands (Some TokenKind.Else) h = refl
start_stands (Some TokenKind.Elseif) h = refl
start_stands (Some TokenKind.Until) h = refl
start_stands (Some TokenKind.Semicolon) h = refl
start_stands next h = h

-- what ends a block may stand behind a statement
pub end_stands : (next : Option TokenKind) → is_block_end next ≡ true → stands_after next ≡ true
end_stands None h = refl
end_stands (Some TokenKind.End) h = refl
end_stands (Some TokenKind.Else) h = refl
end_stands (Some TokenKind.Elseif) h = refl
end_stands (Some TokenKind.Until) h = refl
end_stands next h = cc

-- a token behind a statement is no operator
pub stands_operator : (next : Option TokenKind) → stands_after next ≡ true → infix_of next ≡ None
stands_operator (Some TokenKind.And) h = cc
stands_operator (Some TokenKind.Or) h = cc
stands_operator (Some TokenKind.Plus) h = cc
stands_operator (Some TokenKind.Minus) h = cc
stands_operator (Some TokenKind.Star) h = cc
stands_operator (Some TokenKind.Slash) h = cc
stands_operator (Some TokenKind.Percent) h = cc
stands_operator (Some TokenKind.Caret) h = cc
stands_operator (Some TokenKind.DotDot) h = cc
stands_operator (Some TokenKind.EqualEqual) h = cc
stands_operator (Some TokenKind.TildeEqual) h = cc
stands_operator (Some TokenKind.Less) h = cc
stands_operator (Some TokenKind.LessEqual) h = cc
stands_operator (Some TokenKind.Greater) h = cc
stands_operator (Some TokenKind.GreaterEqual) h = cc
stands_operator next h = refl

-- and adds nothing to a prefix expression, unless it is `(`
pub stands_suffix : (next : Option TokenKind) → stands_after next ≡ true → (next ≡ Some TokenKind.OpenParen → ⊥) → suffix_of next ≡ Suffix.Missing
stands_suffix (Some TokenKind.Dot) h n = cc
stands_suffix (Some TokenKind.OpenBracket) h n = cc
stands_suffix (Some TokenKind.Colon) h n = cc
stands_suffix (Some TokenKind.OpenParen) h n = absurd (n refl)
stands_suffix (Some TokenKind.OpenBrace) h n = cc
stands_suffix (Some (TokenKind.Text text)) h n = cc
stands_suffix next h n = refl

-- what is left of an `if` begins with a token that ends a block
pub branches_first : (branches : Branches) (last : Otherwise) {pv line : ℕ} {ts rest : List Token} (token : Token) → token.kind ≡ TokenKind.End → Spelled (branches_parts branches last) pv ts line (token ∷ rest) → is_block_end (kind_of ts) ≡ true
branches_first no_branches no_otherwise token e no_part = in_class is_block_end e refl
branches_first no_branches (otherwise block) token e (by_word k s) = in_class is_block_end k refl
branches_first (branch cond block rest) last token e (by_word k s) = in_class is_block_end k refl
