-- The first token of a formed tree is no `#`.
use Rattle.std.proofs.Common.{◌≡◌, ℕ, true, List, [], ◌∷◌, ◌++◌, Some, refl}
use Rattle.lua_tree.specs.Syntax.{Statements, no_statements, statement, Statement, assignment, call_statement, if_statement, no_branches, branch, Expressions, no_expressions, expression, Expression, name_expression, index_expression, field_expression, call_expression, method_call, parenthesized}
use Rattle.lua_tree.specs.WellFormed.{is_target, is_call, is_prefix, are_targets, formed_statements, formed_statement, formed_expressions, formed_expression}
use Rattle.lua_tree.specs.declared.token.TokenKind.{TokenKind}
use Rattle.printer.specs.Layout.{Piece, token, new_line, statements_pieces, statement_pieces, expressions_pieces, expression_pieces}
use Rattle.printer.proofs.Ranges.{first_word}
use Rattle.printer.proofs.Tests.{and_left, and_right}

-- pieces begin with a token that is no `#`
abbrev BeginsWell : List Piece → Type 0
BeginsWell [] = ⊥
BeginsWell (token kind ∷ pieces) = kind ≡ TokenKind.Hash → ⊥
BeginsWell (new_line n ∷ pieces) = ⊥

begins_before : (p q : List Piece) → BeginsWell p → BeginsWell (p ++ q)
begins_before [] q well = absurd well
begins_before (token kind ∷ p) q well = well
begins_before (new_line n ∷ p) q well = absurd well

prefix_begins : (n : ℕ) (e : Expression) → is_prefix e ≡ true → formed_expression e ≡ true → BeginsWell (expression_pieces n e)
prefix_begins n (name_expression line name) h formed = λ e. cc
prefix_begins n (parenthesized line e) h formed = λ e. cc
prefix_begins n (index_expression line on key) h formed = begins_before (expression_pieces n on) _ (prefix_begins n on (and_left _ _ formed) (and_left _ _ (and_right (is_prefix on) _ formed)))
prefix_begins n (field_expression line on name) h formed = begins_before (expression_pieces n on) _ (prefix_begins n on (and_left _ _ formed) (and_left _ _ (and_right (is_prefix on) _ formed)))
prefix_begins n (call_expression line on args on_line) h formed = begins_before (expression_pieces n on) _ (prefix_begins n on (and_left _ _ formed) (and_left _ _ (and_right (is_prefix on) _ formed)))
prefix_begins n (method_call line on name args on_line) h formed = begins_before (expression_pieces n on) _ (prefix_begins n on (and_left _ _ formed) (and_left _ _ (and_right (is_prefix on) _ formed)))
prefix_begins n e h formed = cc

target_is_prefix : (e : Expression) → is_target e ≡ true → is_prefix e ≡ true
target_is_prefix (name_expression line name) h = refl
target_is_prefix (index_expression line on key) h = refl
target_is_prefix (field_expression line on name) h = refl
target_is_prefix e h = cc

call_is_prefix : (e : Expression) → is_call e ≡ true → is_prefix e ≡ true
call_is_prefix (call_expression line on args on_line) h = refl
call_is_prefix (method_call line on name args on_line) h = refl
call_is_prefix e h = cc

targets_begin : (n : ℕ) (targets : Expressions) (q : List Piece) → are_targets targets ≡ true → formed_expressions targets ≡ true → BeginsWell (expressions_pieces n targets ++ token TokenKind.Equal ∷ q)
targets_begin n no_expressions q targets formed = λ e. cc
targets_begin n (expression e rest) q targets formed =
    begins_before (expressions_pieces n (expression e rest)) _ (begins_before (expression_pieces n e) _ (prefix_begins n e (target_is_prefix e (and_left _ _ targets)) (and_left _ _ formed)))

statement_begins : (n : ℕ) (s : Statement) → formed_statement s ≡ true → BeginsWell (statement_pieces n s)
statement_begins n (assignment targets es) formed =
    let f = and_right _ _ formed in
    targets_begin n targets (expressions_pieces n es) (and_left _ _ f) (and_left _ _ (and_right (are_targets targets) _ f))
statement_begins n (call_statement e) formed = prefix_begins n e (call_is_prefix e (and_left _ _ formed)) (and_right (is_call e) _ formed)
statement_begins n (if_statement no_branches last) formed = cc
statement_begins n (if_statement (branch cond block rest) last) formed = λ e. cc
statement_begins n s formed = λ e. cc

first_is : (pieces : List Piece) → BeginsWell pieces → first_word pieces ≡ Some TokenKind.Hash → ⊥
first_is [] well e = well
first_is (token kind ∷ pieces) well e = well (cc)
first_is (new_line n ∷ pieces) well e = well

pub first_no_hash : (n : ℕ) (block : Statements) → formed_statements block ≡ true → first_word (statements_pieces n block) ≡ Some TokenKind.Hash → ⊥
first_no_hash n no_statements formed e = cc
first_no_hash n (statement line semi s rest) formed e = first_is (statement_pieces n s ++ _) (begins_before (statement_pieces n s) _ (statement_begins n s (and_left _ _ formed))) e
