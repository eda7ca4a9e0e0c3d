-- Expressions, and what stands in them, can be completed behind each of their tokens.
use Rattle.std.proofs.Common.{◌≡◌, ℕ, ◌+◌, ◌≤◌, ◌==◌, nat_lt, Bool, true, false, List, [], ◌∷◌, Option, Some, None, if◌then◌else◌, refl, sym, subst, arith}
use Rattle.lua_tree.specs.Syntax.{no_statements, function_body, no_expressions, expression, Expression, nil_literal, name_expression, field_expression, method_call, unary_expression, text_argument, no_fields}
use Rattle.lua_num.specs.Bytes.{Text}
use Rattle.lua_tree.specs.WellFormed.{is_target, is_call, depth_of_expression}
use Rattle.lua_tree.specs.Spelled.{Phrase, Meant, Field, positional_field, expressions_phrase, expression_phrase}
use Rattle.lua_tree.specs.declared.token.Token.{Token}
use Rattle.lua_tree.specs.declared.token.TokenKind.{TokenKind}
use Rattle.lua_tree.specs.declared.tree.UnaryOp.{UnaryOp}
use Rattle.lua_tree.specs.declared.tree.Separator.{Separator}
use Rattle.parser.specs.Classes.{Role, Suffix, suffix_of, literal_of, name_of, text_of, is_block_end}
use Rattle.parser.specs.Operators.{Infix, infix_of, unary_of, left_power, right_power, infix_expression}
use Rattle.parser.specs.Program.{Program, give, call, reads, become, block, body, parameters, first_parameter, more_parameters, one_name, expressions_at, more_expressions_at, whole, climb, simple, prefix, suffix, function_value, table_of, paren_of, field_of, index_of, method_of, call_of, arguments, listed, fields, one_field, keyed_of, named_of, separator, call_spare, paren_spare, text_on, whole_on, climb_on, simple_on, prefix_on, suffix_on, fields_after, field_on, name_on}
use Rattle.parser.specs.Runs.{kind_of, line_of, done, Runs, gives, looks, skips, chooses, passes, calls}
use Rattle.parser.proofs.Small.{or_left, or_right, not_it, depth_positive}
use Rattle.parser.proofs.Completions.{ends_expression, ends_list, closes_paren, closes_brace, any_token, suits, good_of, Ends, Opens, mark, Full, Within, same_test, end_call, end_become, full_give, full_want, opens_call, full_call, opens_become, full_become, opens_skip}

-- a name
abbrev pub letter : Text
letter = 120 ∷ []

pub within_any : (ending : Option TokenKind → Bool) → Within ending any_token
within_any ending kind s = refl

-- what ends an expression is no operator and no suffix
no_infix : (kind : Option TokenKind) → ends_expression kind ≡ true → infix_of kind ≡ None
no_infix None s = refl
no_infix (Some TokenKind.End) s = refl
no_infix (Some TokenKind.Else) s = refl
no_infix (Some TokenKind.Elseif) s = refl
no_infix (Some TokenKind.Until) s = refl
no_infix (Some TokenKind.Do) s = refl
no_infix (Some TokenKind.Then) s = refl
no_infix (Some TokenKind.Comma) s = refl
no_infix (Some TokenKind.Equal) s = refl
no_infix (Some TokenKind.CloseParen) s = refl
no_infix (Some TokenKind.CloseBracket) s = refl
no_infix (Some TokenKind.CloseBrace) s = refl
no_infix (Some kind) s = cc

no_suffix : (kind : Option TokenKind) → ends_expression kind ≡ true → suffix_of kind ≡ Suffix.Missing
no_suffix None s = refl
no_suffix (Some TokenKind.End) s = refl
no_suffix (Some TokenKind.Else) s = refl
no_suffix (Some TokenKind.Elseif) s = refl
no_suffix (Some TokenKind.Until) s = refl
no_suffix (Some TokenKind.Do) s = refl
no_suffix (Some TokenKind.Then) s = refl
no_suffix (Some TokenKind.Comma) s = refl
no_suffix (Some TokenKind.Equal) s = refl
no_suffix (Some TokenKind.CloseParen) s = refl
no_suffix (Some TokenKind.CloseBracket) s = refl
no_suffix (Some TokenKind.CloseBrace) s = refl
no_suffix (Some kind) s = cc

is_paren : (kind : Option TokenKind) → closes_paren kind ≡ true → kind ≡ Some TokenKind.CloseParen
is_paren (Some TokenKind.CloseParen) s = refl
is_paren kind s = cc

is_brace : (kind : Option TokenKind) → closes_brace kind ≡ true → kind ≡ Some TokenKind.CloseBrace
is_brace (Some TokenKind.CloseBrace) s = refl
is_brace kind s = cc

pub brace_ends_expression : Within closes_brace ends_expression
brace_ends_expression (Some TokenKind.CloseBrace) s = refl
brace_ends_expression kind s = cc

pub list_ends_expression : Within ends_list ends_expression
list_ends_expression None s = refl
list_ends_expression (Some TokenKind.End) s = refl
list_ends_expression (Some TokenKind.Else) s = refl
list_ends_expression (Some TokenKind.Elseif) s = refl
list_ends_expression (Some TokenKind.Until) s = refl
list_ends_expression (Some TokenKind.Do) s = refl
list_ends_expression (Some TokenKind.CloseParen) s = refl
list_ends_expression (Some kind) s = cc

paren_ends_list : Within closes_paren ends_list
paren_ends_list (Some TokenKind.CloseParen) s = refl
paren_ends_list kind s = cc

-- plain facts about depths
holder : (d a most : ℕ) → 1 ≤ a → d + a ≤ most → d + 1 ≤ most
holder d a most h i = omega arith

two_more : (d most : ℕ) → d + 2 ≤ most → d + 1 + 1 ≤ most
two_more d most h = omega arith

-- where an operand fits, there is room for one
pub room : (d most : ℕ) (e : Expression) → d + depth_of_expression e ≤ most → d + 1 ≤ most
room d most e h = holder d (depth_of_expression e) most (depth_positive e) h

-- a name, and what stops at once
pub name_ends : {most : ℕ} {first : Option TokenKind → Bool} {before : ℕ} → first (Some (TokenKind.Name letter)) ≡ true → Ends most any_token first (good_of one_name) (reads one_name) before
name_ends h = record { new = mark (TokenKind.Name letter) ∷ []; meant = letter; last = 0; fine = refl; starts = λ rest s. h; run = λ rest s. looks (skips (omega arith) gives) }

pub climb_stops : {most : ℕ} (d limit start : ℕ) (left : Expression) (before : ℕ) (rest : List Token) → ends_expression (kind_of rest) ≡ true →
    Runs most expression_phrase (reads (climb d limit start left)) before rest (done left before rest)
climb_stops {most} d limit start left before rest s =
    looks (subst (λ x. Runs most expression_phrase (climb_on d limit start left (line_of rest) x) before rest (done left before rest)) (sym (no_infix (kind_of rest) s)) gives)

pub suffix_stops : {most : ℕ} (d : ℕ) (role : Role) (on : Expression) (before : ℕ) (rest : List Token) → ends_expression (kind_of rest) ≡ true →
    Runs most expression_phrase (reads (suffix d role on)) before rest (done on before rest)
suffix_stops {most} d role on before rest s =
    looks (subst (λ x. Runs most expression_phrase (suffix_on d role on x) before rest (done on before rest)) (sym (no_suffix (kind_of rest) s)) gives)

pub climb_ends : {most : ℕ} {first : Option TokenKind → Bool} (d limit start : ℕ) (left : Expression) {before : ℕ} → Within ends_expression first →
    Ends most ends_expression first (good_of (climb d limit start left)) (reads (climb d limit start left)) before
climb_ends d limit start left {before} within =
    record { new = []; meant = left; last = before; fine = refl; starts = λ rest s. within (kind_of rest) s; run = λ rest s. climb_stops d limit start left before rest s }

-- `nil` where an expression is read
pub whole_ends : {most : ℕ} {first : Option TokenKind → Bool} (d limit : ℕ) {before : ℕ} → d + 1 ≤ most → first (Some TokenKind.Nil) ≡ true →
    Ends most ends_expression first (good_of (whole d limit)) (reads (whole d limit)) before
whole_ends d limit h i = record {
  new = mark TokenKind.Nil ∷ [];
  meant = nil_literal 0;
  last = 0;
  fine = refl;
  starts = λ rest s. i;
  run = λ rest s. looks (calls (looks (skips h gives)) (calls (climb_stops d limit 0 (nil_literal 0) 0 rest s) gives));
}

suffix_ends : {most : ℕ} {first : Option TokenKind → Bool} (d : ℕ) (role : Role) (on : Expression) {before : ℕ} → suits role on ≡ true → Within ends_expression first →
    Ends most ends_expression first (good_of (suffix d role on)) (reads (suffix d role on)) before
suffix_ends d role on {before} fine within =
    record { new = []; meant = on; last = before; fine = fine; starts = λ rest s. within (kind_of rest) s; run = λ rest s. suffix_stops d role on before rest s }

target_suits : (role : Role) (e : Expression) → is_target e ≡ true → suits role e ≡ true
target_suits Role.Operand e h = refl
target_suits Role.Statement e h = or_right (is_call e) (is_target e) h
target_suits Role.Target e h = h

-- `.x` behind what is no target
suffix_dot : {most : ℕ} (d : ℕ) (role : Role) (on : Expression) {before : ℕ} → d + 1 + depth_of_expression on ≤ most →
    Ends most ends_expression any_token (good_of (suffix d role on)) (reads (suffix d role on)) before
suffix_dot d role on h = record {
  new = mark TokenKind.Dot ∷ mark (TokenKind.Name letter) ∷ [];
  meant = field_expression 0 on letter;
  last = 0;
  fine = target_suits role (field_expression 0 on letter) refl;
  starts = λ rest s. refl;
  run = λ rest s. looks (calls (looks (skips h (calls (looks (skips (omega arith) gives)) gives))) (calls (suffix_stops d role (field_expression 0 on letter) 0 rest s) gives));
}

-- behind a call, and behind parentheses
call_suffix_ends : {most : ℕ} (d : ℕ) (role : Role) (on : Expression) {before : ℕ} → is_call on ≡ true → d + call_spare role + depth_of_expression on ≤ most →
    Ends most ends_expression any_token (good_of (suffix d role on)) (reads (suffix d role on)) before
call_suffix_ends d Role.Operand on h i = suffix_ends d Role.Operand on refl (within_any _)
call_suffix_ends d Role.Statement on h i = suffix_ends d Role.Statement on (or_left (is_call on) (is_target on) h) (within_any _)
call_suffix_ends d Role.Target on h i = suffix_dot d Role.Target on i

paren_suffix_ends : {most : ℕ} (d : ℕ) (role : Role) (on : Expression) {before : ℕ} → d + paren_spare role + depth_of_expression on ≤ most →
    Ends most ends_expression any_token (good_of (suffix d role on)) (reads (suffix d role on)) before
paren_suffix_ends d Role.Operand on i = suffix_ends d Role.Operand on refl (within_any _)
paren_suffix_ends d Role.Statement on i = suffix_dot d Role.Statement on i
paren_suffix_ends d Role.Target on i = suffix_dot d Role.Target on i

-- a name where a prefix expression is read
pub prefix_ends : {most : ℕ} {first : Option TokenKind → Bool} (d : ℕ) (role : Role) {before : ℕ} → d + 1 ≤ most → first (Some (TokenKind.Name letter)) ≡ true →
    Ends most ends_expression first (good_of (prefix d role)) (reads (prefix d role)) before
prefix_ends d role h i = record {
  new = mark (TokenKind.Name letter) ∷ [];
  meant = name_expression 0 letter;
  last = 0;
  fine = target_suits role (name_expression 0 letter) refl;
  starts = λ rest s. i;
  run = λ rest s. looks (skips h (calls (suffix_stops d role (name_expression 0 letter) 0 rest s) gives));
}

pub more_expressions_ends : {most : ℕ} {first : Option TokenKind → Bool} (d : ℕ) {before : ℕ} → Within ends_list first →
    Ends most ends_list first (good_of (more_expressions_at d)) (reads (more_expressions_at d)) before
more_expressions_ends d {before} within = record {
  new = [];
  meant = no_expressions;
  last = before;
  fine = refl;
  starts = λ rest s. within (kind_of rest) s;
  run = λ rest s. passes (not_it ends_list s refl) gives;
}

pub block_ends : {most : ℕ} {first : Option TokenKind → Bool} (d : ℕ) {before : ℕ} → Within is_block_end first → Ends most is_block_end first (good_of (block d)) (reads (block d)) before
block_ends {most} d {before} within = record {
  new = [];
  meant = no_statements;
  last = before;
  fine = refl;
  starts = λ rest s. within (kind_of rest) s;
  run = λ rest s. looks (rw s gives);
}

-- `...` where parameters are read
pub parameters_ends : {most : ℕ} {before : ℕ} → Ends most ends_list any_token (good_of parameters) (reads parameters) before
parameters_ends = record {
  new = mark TokenKind.DotDotDot ∷ [];
  meant = record { names = []; vararg = true };
  last = 0;
  fine = refl;
  starts = λ rest s. refl;
  run = λ rest s. passes (λ q. cc) (calls (chooses refl (skips (omega arith) gives)) gives);
}

first_parameter_ends : {most : ℕ} {before : ℕ} → Ends most ends_list any_token (good_of first_parameter) (reads first_parameter) before
first_parameter_ends = record {
  new = mark TokenKind.DotDotDot ∷ [];
  meant = record { names = []; vararg = true };
  last = 0;
  fine = refl;
  starts = λ rest s. refl;
  run = λ rest s. chooses refl (skips (omega arith) gives);
}

more_parameters_ends : {most : ℕ} {before : ℕ} → Ends most ends_list any_token (good_of more_parameters) (reads more_parameters) before
more_parameters_ends {before} = record {
  new = [];
  meant = record { names = []; vararg = false };
  last = before;
  fine = refl;
  starts = λ rest s. refl;
  run = λ rest s. passes (not_it ends_list s refl) gives;
}

-- lists that are closed at once
listed_ends : {most : ℕ} (d : ℕ) {before : ℕ} → Ends most closes_paren any_token (good_of (listed d)) (reads (listed d)) before
listed_ends d {before} = record { new = []; meant = no_expressions; last = before; fine = refl; starts = λ rest s. refl; run = λ rest s. chooses (is_paren (kind_of rest) s) gives }

fields_ends : {most : ℕ} (d : ℕ) {first : Option TokenKind → Bool} {before : ℕ} → Within closes_brace first → Ends most closes_brace first (good_of (fields d)) (reads (fields d)) before
fields_ends d {before} within = record { new = []; meant = no_fields; last = before; fine = refl; starts = λ rest s. within (kind_of rest) s; run = λ rest s. chooses (is_brace (kind_of rest) s) gives }

separator_ends : {most : ℕ} {first : Option TokenKind → Bool} {before : ℕ} → Within closes_brace first → Ends most closes_brace first (good_of separator) (reads separator) before
separator_ends {before} within = record {
  new = [];
  meant = Separator.Missing;
  last = before;
  fine = refl;
  starts = λ rest s. within (kind_of rest) s;
  run = λ rest s. passes (not_it closes_brace s refl) (passes (not_it closes_brace s refl) gives);
}

named_ends : {most : ℕ} (d start : ℕ) (name : Text) {before : ℕ} → Ends most closes_brace any_token (good_of (named_of d start name)) (reads (named_of d start name)) before
named_ends d start name {before} = record {
  new = [];
  meant = positional_field (name_expression start name);
  last = before;
  fine = refl;
  starts = λ rest s. refl;
  run = λ rest s.
      let x = brace_ends_expression (kind_of rest) s in
      passes (not_it closes_brace s refl) (calls (suffix_stops d Role.Operand (name_expression start name) before rest x) (calls (climb_stops d 0 start (name_expression start name) before rest x) gives));
}

-- what holds of both programs holds of the one that a test takes
pub opens_if : (most : ℕ) {answer : Phrase} (ending : Option TokenKind → Bool) (good : Meant answer → Bool) (test : Bool) (this other : Program answer) (before : ℕ) →
    Opens most ending good this before → Opens most ending good other before → Opens most ending good (if test then this else other) before
opens_if most ending good true this other before o p = o
opens_if most ending good false this other before o p = p

-- a body, from its first token
pub body_full : {most : ℕ} {first : Option TokenKind → Bool} (d line : ℕ) {before : ℕ} → first (Some TokenKind.OpenParen) ≡ true → Full most any_token first (good_of (body d line)) (reads (body d line)) before
body_full d line h = full_want h (λ a. full_call tt parameters_ends (λ params b f. full_want refl (λ c. full_call tt (block_ends d (within_any _)) (λ inside e g. full_want refl (λ i. record {
  ends = record { new = []; meant = function_body params.names params.vararg inside line i; last = i; fine = refl; starts = λ rest s. refl; run = λ rest s. looks gives };
  opens = λ kind j. tt;
})))))

-- each goal can be completed behind each token that it takes
pub open_parameters : (most before : ℕ) → Opens most ends_list (good_of parameters) (reads parameters) before
open_parameters most before = (tt, opens_become first_parameter tt (λ m g. refl) (same_test ends_list))

pub open_first_parameter : (most before : ℕ) → Opens most ends_list (good_of first_parameter) (reads first_parameter) before
open_first_parameter most before = (opens_skip (λ h l. full_give refl (within_any _)), opens_call one_name tt (λ name l f. full_call tt more_parameters_ends (λ more k g. full_give refl (same_test ends_list))))

pub open_more_parameters : (most before : ℕ) → Opens most ends_list (good_of more_parameters) (reads more_parameters) before
open_more_parameters most before = (opens_skip (λ h l. full_call tt first_parameter_ends (λ more k g. full_give refl (same_test ends_list))), tt)

pub open_one_name : (most before : ℕ) → Opens most any_token (good_of one_name) (reads one_name) before
open_one_name most before = λ kind line. go (name_of (Some kind))
  where
    go : (name : Option Text) → Opens most any_token (good_of one_name) (name_on name) before
    go (Some name) = opens_skip (λ h l. full_give refl (within_any _))
    go None = tt

-- more expressions behind one
expressions_rest : {most : ℕ} (d : ℕ) (e : Expression) {before : ℕ} → Full most {answer = expressions_phrase} ends_list ends_expression (good_of (expressions_at d)) (call (more_expressions_at d) (λ rest. give (expression e rest))) before
expressions_rest d e = full_call tt (more_expressions_ends d list_ends_expression) (λ rest k g. full_give refl (same_test ends_list))

pub expressions_ends : {most : ℕ} {first : Option TokenKind → Bool} (d : ℕ) {before : ℕ} → d + 1 ≤ most → first (Some TokenKind.Nil) ≡ true →
    Ends most ends_list first (good_of (expressions_at d)) (reads (expressions_at d)) before
expressions_ends d h i = end_call (whole_ends d 0 h i) (λ e l fine f. let r = expressions_rest d e in r.ends)

pub open_expressions : (most : ℕ) (d : ℕ) (before : ℕ) → Opens most ends_list (good_of (expressions_at d)) (reads (expressions_at d)) before
open_expressions most d before = opens_call (whole d 0) tt (λ e l f. expressions_rest d e)

pub open_more_expressions : (most : ℕ) (d : ℕ) (before : ℕ) → Opens most ends_list (good_of (more_expressions_at d)) (reads (more_expressions_at d)) before
open_more_expressions most d before = (opens_skip (λ h l. full_call tt (whole_ends d 0 h refl) (λ e k f. full_call tt (more_expressions_ends d list_ends_expression) (λ rest i g. full_give refl (same_test ends_list)))), tt)

climb_full : {most : ℕ} (d limit start : ℕ) (left : Expression) {before : ℕ} → Full most ends_expression ends_expression (good_of (climb d limit start left)) (become (climb d limit start left)) before
climb_full d limit start left = full_become tt (climb_ends d limit start left (same_test ends_expression)) (λ m g. refl) (same_test ends_expression)

pub open_whole : (most : ℕ) (d limit : ℕ) (before : ℕ) → Opens most ends_expression (good_of (whole d limit)) (reads (whole d limit)) before
open_whole most d limit before = λ kind line. go line (unary_of (Some kind))
  where
    go : (line : ℕ) (op : Option UnaryOp) → Opens most ends_expression (good_of (whole d limit)) (whole_on d limit line op) before
    go line (Some op) = opens_skip (λ h l. full_call tt (whole_ends (d + 1) 8 (two_more d most h) refl) (λ e k f. climb_full d limit line (unary_expression line op e)))
    go line None = opens_call (simple d) tt (λ e k f. climb_full d limit line e)

pub open_climb : (most : ℕ) (d limit start : ℕ) (left : Expression) (before : ℕ) → Opens most ends_expression (good_of (climb d limit start left)) (reads (climb d limit start left)) before
open_climb most d limit start left before = λ kind line. go line (infix_of (Some kind))
  where
    go : (line : ℕ) (op : Option Infix) → Opens most ends_expression (good_of (climb d limit start left)) (climb_on d limit start left line op) before
    go line None = tt
    go line (Some op) = opens_if most _ _ (nat_lt limit (left_power op)) _ _ before
        (opens_skip (λ h l. full_call tt (whole_ends (d + 1) (right_power op) (room (d + 1) most left h) refl) (λ right k f. climb_full d limit start (infix_expression start line op left right))))
        tt

pub open_simple : (most : ℕ) (d : ℕ) (before : ℕ) → Opens most ends_expression (good_of (simple d)) (reads (simple d)) before
open_simple most d before = λ kind line. go (literal_of line (Some kind))
  where
    go : (e : Option Expression) → Opens most ends_expression (good_of (simple d)) (simple_on d e) before
    go (Some e) = opens_skip (λ h l. full_give refl (within_any _))
    go None = (opens_become (function_value d) tt (λ m g. refl) (within_any _), (opens_become (table_of d) tt (λ m g. refl) (within_any _), opens_become (prefix d Role.Operand) tt (λ m g. refl) (same_test ends_expression)))

pub open_prefix : (most : ℕ) (d : ℕ) (role : Role) (before : ℕ) → Opens most ends_expression (good_of (prefix d role)) (reads (prefix d role)) before
open_prefix most d role before = λ kind line. go line (name_of (Some kind))
  where
    go : (line : ℕ) (name : Option Text) → Opens most ends_expression (good_of (prefix d role)) (prefix_on d role name line) before
    go line (Some name) = opens_skip (λ h l. full_become tt (suffix_ends d role (name_expression line name) (target_suits role (name_expression line name) refl) (within_any _)) (λ m g. g) (same_test ends_expression))
    go line None = (
      (tt, λ e l fine f. end_become (paren_suffix_ends d role e f) (λ m g. g) (same_test ends_expression), λ e l f. opens_become (suffix d role e) tt (λ m g. g) (same_test ends_expression)),
      tt,
    )

pub open_suffix : (most : ℕ) (d : ℕ) (role : Role) (on : Expression) (before : ℕ) → Opens most ends_expression (good_of (suffix d role on)) (reads (suffix d role on)) before
open_suffix most d role on before = λ kind line. go (suffix_of (Some kind))
  where
    go : (kind : Suffix) → Opens most ends_expression (good_of (suffix d role on)) (suffix_on d role on kind) before
    go Suffix.Field =
        (tt, λ e l fine f. end_become (suffix_ends d role e (target_suits role e fine) (within_any _)) (λ m g. g) (same_test ends_expression), λ e l f. opens_become (suffix d role e) tt (λ m g. g) (same_test ends_expression))
    go Suffix.Index =
        (tt, λ e l fine f. end_become (suffix_ends d role e (target_suits role e fine) (within_any _)) (λ m g. g) (same_test ends_expression), λ e l f. opens_become (suffix d role e) tt (λ m g. g) (same_test ends_expression))
    go Suffix.Method =
        (tt, λ e l fine f. end_become (call_suffix_ends d role e fine f) (λ m g. g) (same_test ends_expression), λ e l f. opens_become (suffix d role e) tt (λ m g. g) (same_test ends_expression))
    go Suffix.Call =
        (tt, λ e l fine f. end_become (call_suffix_ends d role e fine f) (λ m g. g) (same_test ends_expression), λ e l f. opens_become (suffix d role e) tt (λ m g. g) (same_test ends_expression))
    go Suffix.Missing = tt

pub open_function_value : (most : ℕ) (d : ℕ) (before : ℕ) → Opens most any_token (good_of (function_value d)) (reads (function_value d)) before
open_function_value most d before = λ kind line. opens_skip (λ h l. full_call tt (let r = body_full (d + 1) line refl in r.ends) (λ b k f. full_give refl (within_any _)))

pub open_table : (most : ℕ) (d : ℕ) (before : ℕ) → Opens most any_token (good_of (table_of d)) (reads (table_of d)) before
open_table most d before = λ kind line. opens_skip (λ h l. full_call tt (fields_ends (d + 1) (within_any _)) (λ items k f. full_want refl (λ i. full_give refl (within_any _))))

pub open_paren : (most : ℕ) (d : ℕ) (role : Role) (before : ℕ) → Opens most any_token (good_of (paren_of d role)) (reads (paren_of d role)) before
open_paren most d role before = λ kind line. opens_skip (λ h l. full_call tt (whole_ends (d + paren_spare role + 1) 0 (two_more (d + paren_spare role) most h) refl) (λ e k f. full_want refl (λ i. full_give refl (within_any _))))

pub open_field_of : (most : ℕ) (d : ℕ) (on : Expression) (before : ℕ) → Opens most any_token (good_of (field_of d on)) (reads (field_of d on)) before
open_field_of most d on before = λ kind line. opens_skip (λ h l. full_call tt (name_ends refl) (λ name k f. full_give refl (within_any _)))

pub open_index : (most : ℕ) (d : ℕ) (on : Expression) (before : ℕ) → Opens most any_token (good_of (index_of d on)) (reads (index_of d on)) before
open_index most d on before = λ kind line. opens_skip (λ h l. full_call tt (whole_ends (d + 1) 0 (room (d + 1) most on h) refl) (λ key k f. full_want refl (λ i. full_give refl (within_any _))))

pub open_method : (most : ℕ) (d : ℕ) (role : Role) (on : Expression) (before : ℕ) → Opens most any_token (good_of (method_of d role on)) (reads (method_of d role on)) before
open_method most d role on before = opens_skip (λ h l. full_call tt (name_ends refl) (λ name k f. record {
  ends = record {
    new = mark (TokenKind.Text []) ∷ [];
    meant = method_call 0 on name (text_argument []) k;
    last = 0;
    fine = refl;
    starts = λ rest s. refl;
    run = λ rest s. looks (calls (passes (λ q. cc) (passes (λ q. cc) (looks (skips (omega arith) gives)))) gives);
  };
  opens = λ kind line. opens_call (arguments (d + call_spare role + 1) 0) tt (λ args i g. full_give refl (within_any _));
}))

pub open_call_of : (most : ℕ) (d : ℕ) (role : Role) (on : Expression) (before : ℕ) → Opens most any_token (good_of (call_of d role on)) (reads (call_of d role on)) before
open_call_of most d role on before = λ kind line. opens_call (arguments (d + call_spare role + 1) (d + call_spare role + 1 + depth_of_expression on)) tt (λ args i g. full_give refl (within_any _))

pub open_arguments : (most : ℕ) (d needed : ℕ) (before : ℕ) → Opens most any_token (good_of (arguments d needed)) (reads (arguments d needed)) before
open_arguments most d needed before = (
  λ kind line. opens_if most _ _ (before == line) _ _ before (opens_skip (λ h l. full_call tt (listed_ends d) (λ es k f. full_want refl (λ i. full_give refl (within_any _))))) tt,
  (
    opens_skip (λ h l. full_call tt (fields_ends d (within_any _)) (λ items k f. full_want refl (λ i. full_give refl (within_any _)))),
    λ kind line. go (text_of (Some kind)),
  ),
)
  where
    go : (text : Option Text) → Opens most any_token (good_of (arguments d needed)) (text_on needed text) before
    go (Some text) = opens_skip (λ h l. full_give refl (within_any _))
    go None = tt

pub open_listed : (most : ℕ) (d : ℕ) (before : ℕ) → Opens most closes_paren (good_of (listed d)) (reads (listed d)) before
open_listed most d before = (tt, opens_become (expressions_at d) tt (λ m g. refl) paren_ends_list)

fields_full : {most : ℕ} (d : ℕ) (item : Field) (separator : Separator) {before : ℕ} → Full most closes_brace closes_brace (good_of (fields d)) (fields_after d item separator) before
fields_full d item Separator.Missing = full_give refl (same_test closes_brace)
fields_full d item Separator.Comma = full_call tt (fields_ends d (same_test closes_brace)) (λ rest k f. full_give refl (same_test closes_brace))
fields_full d item Separator.Semicolon = full_call tt (fields_ends d (same_test closes_brace)) (λ rest k f. full_give refl (same_test closes_brace))

pub open_fields : (most : ℕ) (d : ℕ) (before : ℕ) → Opens most closes_brace (good_of (fields d)) (reads (fields d)) before
open_fields most d before = (tt, opens_call (one_field d) tt (λ item l f. full_call tt (separator_ends (same_test closes_brace)) (λ between k g. fields_full d item between)))

pub open_one_field : (most : ℕ) (d : ℕ) (before : ℕ) → Opens most closes_brace (good_of (one_field d)) (reads (one_field d)) before
open_one_field most d before = λ kind line. go line (name_of (Some kind))
  where
    go : (line : ℕ) (name : Option Text) → Opens most closes_brace (good_of (one_field d)) (field_on d name line) before
    go line (Some name) = opens_skip (λ h l. full_become tt (named_ends d line name) (λ m g. refl) (same_test closes_brace))
    go line None = (opens_become (keyed_of d) tt (λ m g. refl) (same_test closes_brace), opens_call (whole d 0) tt (λ e l f. full_give refl brace_ends_expression))

pub open_keyed : (most : ℕ) (d : ℕ) (before : ℕ) → Opens most closes_brace (good_of (keyed_of d)) (reads (keyed_of d)) before
open_keyed most d before = opens_skip (λ h l. full_call tt (whole_ends d 0 h refl) (λ key k f. full_want refl (λ i. full_want refl (λ j. full_call tt (whole_ends d 0 h refl) (λ e m g. full_give refl brace_ends_expression)))))

pub open_named : (most : ℕ) (d start : ℕ) (name : Text) (before : ℕ) → Opens most closes_brace (good_of (named_of d start name)) (reads (named_of d start name)) before
open_named most d start name before = (
  opens_skip (λ h l. full_call tt (whole_ends d 0 h refl) (λ e k f. full_give refl brace_ends_expression)),
  opens_call (suffix d Role.Operand (name_expression start name)) tt (λ e l f. full_call tt (climb_ends d 0 start e (same_test ends_expression)) (λ more k g. full_give refl brace_ends_expression)),
)

pub open_separator : (most before : ℕ) → Opens most closes_brace (good_of separator) (reads separator) before
open_separator most before = (opens_skip (λ h l. full_give refl (within_any _)), (opens_skip (λ h l. full_give refl (within_any _)), tt))
