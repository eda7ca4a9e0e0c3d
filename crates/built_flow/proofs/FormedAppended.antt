-- Statements that keep the rules of form keep them with another one appended: a semicolon stands before it where it begins with a parenthesis.
use Rattle.std.proofs.Common.{◌≡◌, ℕ, Bool, true, false, not, refl, sym, ap, ◌∙◌}
use Rattle.std.proofs.lemmas.Bool.{and_from, and_parts, or_right, not_from_false}
use Rattle.std.specs.Prelude.{◌&&◌, ◌||◌, if◌then◌else◌}
use Rattle.lua_tree.specs.Joins.{join_statements}
use Rattle.lua_tree.specs.Syntax.{Statements, no_statements, statement, Statement, assignment, call_statement, Expressions, no_expressions, expression, Expression, index_expression, field_expression, call_expression, method_call}
use Rattle.lua_tree.specs.WellFormed.{begins_with_paren, first_begins_with_paren, statement_begins_with_paren, statement_takes_arguments, ends_block, may_follow, formed_statement, formed_statements}
use Rattle.recover_flow.specs.Parts.{is_open, is_first_open, begins_open, separated, appended}

-- ---- what begins with a parenthesis

open_same : (e : Expression) → is_open e ≡ begins_with_paren e
open_same (index_expression line on key) = open_same on
open_same (field_expression line on name) = open_same on
open_same (call_expression line on arguments on_line) = open_same on
open_same (method_call line on name arguments on_line) = open_same on
open_same e = refl

first_open_same : (es : Expressions) → is_first_open es ≡ first_begins_with_paren es
first_open_same no_expressions = refl
first_open_same (expression e rest) = open_same e

begins_same : (s : Statement) → begins_open s ≡ statement_begins_with_paren s
begins_same (assignment targets es) = first_open_same targets
begins_same (call_statement e) = open_same e
begins_same s = refl

-- ---- the last statement

-- it is a `return` or a `break`
abbrev pub last_ends : Statements → Bool
last_ends no_statements = false
last_ends (statement line semi s no_statements) = ends_block s
last_ends (statement line semi s rest) = last_ends rest

join_ends : (before : Statements) (s : Statement) → last_ends (join_statements before (statement 1 false s no_statements)) ≡ ends_block s
join_ends no_statements s = refl
join_ends (statement line semi t no_statements) s = refl
join_ends (statement line semi t (statement next_line next_semi next rest)) s = join_ends (statement next_line next_semi next rest) s

pub appended_ends : (before : Statements) (s : Statement) → last_ends (appended before s) ≡ ends_block s
appended_ends before s = join_ends (if begins_open s then separated before else before) s

-- ---- appended statements

-- one stands alone
alone_formed : (s : Statement) → formed_statement s ≡ true → formed_statements (statement 1 false s no_statements) ≡ true
alone_formed s formed = and_from (formed_statement s) true formed refl

-- behind another, with a semicolon between them, or where it does not begin with a parenthesis
behind_formed : (line : ℕ) (semi : Bool) (t s : Statement) → formed_statement t ≡ true → ends_block t ≡ false → (semi || not (statement_takes_arguments t && statement_begins_with_paren s)) ≡ true → formed_statement s ≡ true →
    formed_statements (statement line semi t (statement 1 false s no_statements)) ≡ true
behind_formed line semi t s formed stays apart s_formed =
    and_from (formed_statement t) (may_follow t semi (statement 1 false s no_statements) && formed_statements (statement 1 false s no_statements)) formed
    (and_from (may_follow t semi (statement 1 false s no_statements)) (formed_statements (statement 1 false s no_statements))
    (and_from (not (ends_block t)) (semi || not (statement_takes_arguments t && statement_begins_with_paren s)) (not_from_false (ends_block t) stays) apart) (alone_formed s s_formed))

and_false : (b : Bool) → not (b && false) ≡ true
and_false true = refl
and_false false = refl

-- it does not begin with a parenthesis
join_formed : (before : Statements) (s : Statement) → formed_statements before ≡ true → last_ends before ≡ false → formed_statement s ≡ true → statement_begins_with_paren s ≡ false →
    formed_statements (join_statements before (statement 1 false s no_statements)) ≡ true
join_formed no_statements s formed stays s_formed e = alone_formed s s_formed
join_formed (statement line semi t no_statements) s formed stays s_formed e =
    let parts = and_parts (formed_statement t) true formed in
    behind_formed line semi t s parts.0 stays (or_right semi (not (statement_takes_arguments t && statement_begins_with_paren s)) (ap (λ b. not (statement_takes_arguments t && b)) e ∙ and_false (statement_takes_arguments t))) s_formed
join_formed (statement line semi t (statement next_line next_semi next rest)) s formed stays s_formed e =
    let behind = statement next_line next_semi next rest in
    let parts = and_parts (formed_statement t) (may_follow t semi behind && formed_statements behind) formed in
    let others = and_parts (may_follow t semi behind) (formed_statements behind) parts.1 in
    let whole = join_statements behind (statement 1 false s no_statements) in
    and_from (formed_statement t) (may_follow t semi whole && formed_statements whole) parts.0
    (and_from (may_follow t semi whole) (formed_statements whole) others.0 (join_formed (statement next_line next_semi next rest) s others.1 stays s_formed e))

follow_same : (t : Statement) (semi : Bool) (line : ℕ) (next_semi : Bool) (next : Statement) (rest more : Statements) →
    may_follow t semi (statement line next_semi next rest) ≡ may_follow t semi (join_statements (separated (statement line next_semi next rest)) more)
follow_same t semi line next_semi next no_statements more = refl
follow_same t semi line next_semi next (statement behind_line behind_semi behind rest) more = refl

-- a semicolon stands before it
separated_formed : (before : Statements) (s : Statement) → formed_statements before ≡ true → last_ends before ≡ false → formed_statement s ≡ true →
    formed_statements (join_statements (separated before) (statement 1 false s no_statements)) ≡ true
separated_formed no_statements s formed stays s_formed = alone_formed s s_formed
separated_formed (statement line semi t no_statements) s formed stays s_formed = behind_formed line true t s (and_parts (formed_statement t) true formed).0 stays refl s_formed
separated_formed (statement line semi t (statement next_line next_semi next rest)) s formed stays s_formed =
    let behind = statement next_line next_semi next rest in
    let parts = and_parts (formed_statement t) (may_follow t semi behind && formed_statements behind) formed in
    let others = and_parts (may_follow t semi behind) (formed_statements behind) parts.1 in
    let whole = join_statements (separated behind) (statement 1 false s no_statements) in
    and_from (formed_statement t) (may_follow t semi whole && formed_statements whole) parts.0
    (and_from (may_follow t semi whole) (formed_statements whole) (sym (follow_same t semi next_line next_semi next rest (statement 1 false s no_statements)) ∙ others.0) (separated_formed (statement next_line next_semi next rest) s others.1 stays s_formed))

-- behind statements of which the last is no `return` and no `break`
pub appended_formed : (before : Statements) (s : Statement) → formed_statements before ≡ true → last_ends before ≡ false → formed_statement s ≡ true → formed_statements (appended before s) ≡ true
appended_formed before s formed stays s_formed = by (begins_open s) refl
  where
    by : (b : Bool) → begins_open s ≡ b → formed_statements (join_statements (if b then separated before else before) (statement 1 false s no_statements)) ≡ true
    by true e = separated_formed before s formed stays s_formed
    by false e = join_formed before s formed stays s_formed (sym (begins_same s) ∙ e)
