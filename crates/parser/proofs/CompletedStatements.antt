-- Statements and blocks can be completed behind each of their tokens.
use Rattle.std.proofs.Common.{◌≡◌, ℕ, ◌+◌, ◌≤◌, ◌||◌, Bool, true, false, List, [], ◌∷◌, Option, Some, None, if◌then◌else◌, refl, sym, ◌∙◌, ap, subst}
use Rattle.lua_tree.specs.Syntax.{assignment, call_statement, no_branches, no_otherwise, no_step, generic_for, local_statement, Expressions, no_expressions, expression, Expression}
use Rattle.lua_num.specs.Bytes.{Text}
use Rattle.lua_tree.specs.WellFormed.{is_target, is_call, ends_block}
use Rattle.lua_tree.specs.Spelled.{Phrase, Meant, block_phrase, statement_phrase, expressions_phrase}
use Rattle.lua_tree.specs.declared.token.TokenKind.{TokenKind}
use Rattle.parser.specs.Classes.{Role, Start, start_of, is_block_end}
use Rattle.parser.specs.Program.{Program, give, want, call, reads, main_chunk, block, semicolon, one_statement, if_of, while_of, do_of, for_of, repeat_of, function_of, local_of, return_of, break_of, numeric_of, generic_of, local_function_of, local_names_of, expression_statement, branches, step, method_name, values, results, targets, one_name, more_names_by, expressions_at, statement_on, main_on}
use Rattle.parser.specs.Runs.{kind_of, done, Runs, gives, looks, skips, chooses, passes, calls}
use Rattle.parser.proofs.Small.{not_it}
use Rattle.parser.proofs.Completions.{is_last, ends_expression, ends_list, ends_branches, ends_names, opens_paren, sets, any_token, suits, good_of, Ends, Opens, mark, Full, Within, same_test, end_give, end_call, end_become, full_give, full_want, opens_call, full_call, opens_become, opens_skip}
use Rattle.parser.proofs.CompletedExpressions.{within_any, list_ends_expression, room, name_ends, whole_ends, prefix_ends, block_ends, opens_if, body_full, expressions_ends}

-- what one test on the next token says of another
block_ends_list : Within is_block_end ends_list
block_ends_list None s = refl
block_ends_list (Some TokenKind.End) s = refl
block_ends_list (Some TokenKind.Else) s = refl
block_ends_list (Some TokenKind.Elseif) s = refl
block_ends_list (Some TokenKind.Until) s = refl
block_ends_list (Some kind) s = cc

block_ends_expression : Within is_block_end ends_expression
block_ends_expression kind s = list_ends_expression kind (block_ends_list kind s)

block_ends_names : Within is_block_end (ends_names TokenKind.Comma)
block_ends_names None s = refl
block_ends_names (Some TokenKind.End) s = refl
block_ends_names (Some TokenKind.Else) s = refl
block_ends_names (Some TokenKind.Elseif) s = refl
block_ends_names (Some TokenKind.Until) s = refl
block_ends_names (Some kind) s = cc

branches_end_block : Within ends_branches is_block_end
branches_end_block None s = refl
branches_end_block (Some TokenKind.End) s = refl
branches_end_block (Some TokenKind.Until) s = refl
branches_end_block (Some kind) s = cc

paren_ends_names : Within opens_paren (ends_names TokenKind.Dot)
paren_ends_names None s = refl
paren_ends_names (Some TokenKind.OpenParen) s = refl
paren_ends_names (Some kind) s = cc

last_ends_block : Within is_last is_block_end
last_ends_block None s = refl
last_ends_block (Some kind) s = cc

set_ends_expression : Within sets ends_expression
set_ends_expression (Some TokenKind.Equal) s = refl
set_ends_expression kind s = cc

is_set : (kind : Option TokenKind) → sets kind ≡ true → kind ≡ Some TokenKind.Equal
is_set (Some TokenKind.Equal) s = refl
is_set kind s = cc

abbrev is_in : Option TokenKind → Bool
is_in (Some TokenKind.In) = true
is_in kind = false

-- names do not stop at their mark
no_mark : (kind : TokenKind) → ends_names kind (Some kind) ≡ true → ⊥
no_mark TokenKind.Comma s = cc
no_mark TokenKind.Dot s = cc
no_mark kind s = cc

full_if : {most : ℕ} {answer : Phrase} {ending first : Option TokenKind → Bool} {good : Meant answer → Bool} (test : Bool) {this other : Program answer} {before : ℕ} →
    Full most ending first good this before → Full most ending first good other before → Full most ending first good (if test then this else other) before
full_if true p q = p
full_if false p q = q

-- goals that need no token
semicolon_ends : {most : ℕ} {first : Option TokenKind → Bool} {before : ℕ} → Within is_block_end first → Ends most is_block_end first (good_of semicolon) (reads semicolon) before
semicolon_ends {before} within = record {
  new = [];
  meant = false;
  last = before;
  fine = refl;
  starts = λ rest s. within (kind_of rest) s;
  run = λ rest s. passes (not_it is_block_end s refl) gives;
}

branches_ends : {most : ℕ} {first : Option TokenKind → Bool} (d : ℕ) {before : ℕ} → Within ends_branches first → Ends most ends_branches first (good_of (branches d)) (reads (branches d)) before
branches_ends d {before} within = record {
  new = [];
  meant = record { branches = no_branches; last = no_otherwise };
  last = before;
  fine = refl;
  starts = λ rest s. within (kind_of rest) s;
  run = λ rest s. passes (not_it ends_branches s refl) (passes (not_it ends_branches s refl) gives);
}

step_ends : {most : ℕ} {first : Option TokenKind → Bool} (d : ℕ) {before : ℕ} → Within ends_list first → Ends most ends_list first (good_of (step d)) (reads (step d)) before
step_ends d {before} within = record {
  new = [];
  meant = no_step;
  last = before;
  fine = refl;
  starts = λ rest s. within (kind_of rest) s;
  run = λ rest s. passes (not_it ends_list s refl) gives;
}

method_ends : {most : ℕ} {first : Option TokenKind → Bool} {before : ℕ} → Within opens_paren first → Ends most opens_paren first (good_of method_name) (reads method_name) before
method_ends {before} within = record {
  new = [];
  meant = None;
  last = before;
  fine = refl;
  starts = λ rest s. within (kind_of rest) s;
  run = λ rest s. passes (not_it opens_paren s refl) gives;
}

values_ends : {most : ℕ} {first : Option TokenKind → Bool} (d : ℕ) {before : ℕ} → Within is_block_end first → Ends most is_block_end first (good_of (values d)) (reads (values d)) before
values_ends d {before} within = record {
  new = [];
  meant = no_expressions;
  last = before;
  fine = refl;
  starts = λ rest s. within (kind_of rest) s;
  run = λ rest s. passes (not_it is_block_end s refl) gives;
}

results_ends : {most : ℕ} (d : ℕ) {before : ℕ} → Ends most is_block_end any_token (good_of (results d)) (reads (results d)) before
results_ends d {before} = record {
  new = [];
  meant = no_expressions;
  last = before;
  fine = refl;
  starts = λ rest s. refl;
  run = λ rest s. passes (not_it is_block_end s refl) (looks (rw s gives));
}

targets_ends : {most : ℕ} (d : ℕ) (e : Expression) {before : ℕ} → is_target e ≡ true → Ends most sets ends_expression (good_of (targets d e)) (reads (targets d e)) before
targets_ends d e {before} h = record {
  new = [];
  meant = expression e no_expressions;
  last = before;
  fine = refl;
  starts = λ rest s. set_ends_expression (kind_of rest) s;
  run = λ rest s. rw h (passes (not_it sets s refl) (chooses (is_set (kind_of rest) s) gives));
}

names_end : {most : ℕ} {first : Option TokenKind → Bool} (kind : TokenKind) {before : ℕ} → Within (ends_names kind) first → Ends most (ends_names kind) first (good_of (more_names_by kind)) (reads (more_names_by kind)) before
names_end kind {before} within = record {
  new = [];
  meant = [];
  last = before;
  fine = refl;
  starts = λ rest s. within (kind_of rest) s;
  run = λ rest s. passes (λ q. no_mark kind (ap (λ x. ends_names kind x) (sym q) ∙ s)) gives;
}

-- behind the names of a generic `for`
generic_rest : {most : ℕ} (d : ℕ) (names : List Text) {before : ℕ} → d + 1 ≤ most →
    Full most {answer = statement_phrase} is_block_end any_token (λ s. true) (call (expressions_at d) (λ es. want TokenKind.Do (call (block d) (λ inside. want TokenKind.End (give (generic_for names es inside)))))) before
generic_rest d names h = full_call tt (expressions_ends d h refl) (λ es k f. full_want refl (λ i. full_call tt (block_ends d (within_any _)) (λ inside j g. full_want refl (λ m. full_give refl (within_any _)))))

generic_ends : {most : ℕ} (d : ℕ) (name : Text) {before : ℕ} → d + 1 ≤ most → Ends most is_block_end is_in (good_of (generic_of d name)) (reads (generic_of d name)) before
generic_ends d name {before} h =
    let r = generic_rest d (name ∷ []) {before = 0} h in
    let e = r.ends in
    record {
      new = mark TokenKind.In ∷ e.new;
      meant = e.meant;
      last = e.last;
      fine = refl;
      starts = λ rest s. refl;
      run = λ rest s. calls (passes (λ q. cc) gives) (chooses refl (skips h (e.run rest s)));
    }

-- each goal can be completed behind each token that it takes
pub open_main : (most before : ℕ) → Opens most is_last (good_of main_chunk) (reads main_chunk) before
open_main most before = (
  tt,
  λ inside l fine f. record {
    new = [];
    meant = inside;
    last = l;
    fine = refl;
    starts = λ rest s. last_ends_block (kind_of rest) s;
    run = λ rest s. looks (subst (λ x. Runs most block_phrase (main_on inside x) l rest (done inside l rest)) (sym (is_none (kind_of rest) s)) gives);
  },
  λ inside l f kind line. tt,
)
  where
    is_none : (kind : Option TokenKind) → is_last kind ≡ true → kind ≡ None
    is_none None s = refl
    is_none (Some kind) s = cc

pub open_block : (most d before : ℕ) → Opens most is_block_end (good_of (block d)) (reads (block d)) before
open_block most d before = λ kind line. opens_if most _ _ (is_block_end (Some kind)) _ _ before tt
    (opens_call (one_statement (d + 1)) tt (λ s l f. full_call tt (semicolon_ends (same_test is_block_end)) (λ semi k g.
    full_if (ends_block s) (full_give refl (same_test is_block_end)) (full_call tt (block_ends d (same_test is_block_end)) (λ rest i j. full_give refl (same_test is_block_end))))))

pub open_semicolon : (most before : ℕ) → Opens most is_block_end (good_of semicolon) (reads semicolon) before
open_semicolon most before = (opens_skip (λ h l. full_give refl (within_any _)), tt)

pub open_statement : (most d before : ℕ) → Opens most is_block_end (good_of (one_statement d)) (reads (one_statement d)) before
open_statement most d before = λ kind line. go (start_of (Some kind))
  where
    go : (start : Start) → Opens most is_block_end (good_of (one_statement d)) (statement_on d start) before
    go Start.If = opens_become (if_of d) tt (λ m g. refl) (same_test is_block_end)
    go Start.While = opens_become (while_of d) tt (λ m g. refl) (same_test is_block_end)
    go Start.Do = opens_become (do_of d) tt (λ m g. refl) (same_test is_block_end)
    go Start.For = opens_become (for_of d) tt (λ m g. refl) (same_test is_block_end)
    go Start.Repeat = opens_become (repeat_of d) tt (λ m g. refl) (same_test is_block_end)
    go Start.Function = opens_become (function_of d) tt (λ m g. refl) (same_test is_block_end)
    go Start.Local = opens_become (local_of d) tt (λ m g. refl) (same_test is_block_end)
    go Start.Return = opens_become (return_of d) tt (λ m g. refl) (same_test is_block_end)
    go Start.Break = opens_become (break_of d) tt (λ m g. refl) (same_test is_block_end)
    go Start.Expression = opens_become (expression_statement d) tt (λ m g. refl) (same_test is_block_end)

pub open_if : (most d before : ℕ) → Opens most is_block_end (good_of (if_of d)) (reads (if_of d)) before
open_if most d before = opens_skip (λ h l. full_call tt (whole_ends d 0 h refl) (λ e k f. full_want refl (λ i. full_call tt (block_ends d (within_any _)) (λ inside j g.
    full_call tt (branches_ends d branches_end_block) (λ left m n. full_want refl (λ o. full_give refl (within_any _)))))))

pub open_while : (most d before : ℕ) → Opens most is_block_end (good_of (while_of d)) (reads (while_of d)) before
open_while most d before = opens_skip (λ h l. full_call tt (whole_ends d 0 h refl) (λ e k f. full_want refl (λ i. full_call tt (block_ends d (within_any _)) (λ inside j g. full_want refl (λ o. full_give refl (within_any _))))))

pub open_do : (most d before : ℕ) → Opens most is_block_end (good_of (do_of d)) (reads (do_of d)) before
open_do most d before = opens_skip (λ h l. full_call tt (block_ends d (within_any _)) (λ inside j g. full_want refl (λ o. full_give refl (within_any _))))

pub open_for : (most d before : ℕ) → Opens most is_block_end (good_of (for_of d)) (reads (for_of d)) before
open_for most d before = opens_skip (λ h l. full_call tt (name_ends refl) (λ name k f.
    let e = end_become {goal = generic_of d name} {before = k} (generic_ends d name h) (λ m g. refl) (same_test is_block_end) in
    record {
      ends = record {
        new = e.new;
        meant = e.meant;
        last = e.last;
        fine = refl;
        starts = λ rest s. refl;
        run = λ rest s. passes (not_it is_in (e.starts rest s) refl) (e.run rest s);
      };
      opens = (opens_become (numeric_of d name) tt (λ m g. refl) (same_test is_block_end), opens_become (generic_of d name) h (λ m g. refl) (same_test is_block_end));
    }))

pub open_numeric : (most d : ℕ) (name : Text) (before : ℕ) → Opens most is_block_end (good_of (numeric_of d name)) (reads (numeric_of d name)) before
open_numeric most d name before = opens_skip (λ h l. full_call tt (whole_ends d 0 h refl) (λ start a f. full_want refl (λ b. full_call tt (whole_ends d 0 h refl) (λ last c g.
    full_call tt (step_ends d list_ends_expression) (λ by i j. full_want refl (λ k. full_call tt (block_ends d (within_any _)) (λ inside m n. full_want refl (λ o. full_give refl (within_any _)))))))))

pub open_generic : (most d : ℕ) (name : Text) (before : ℕ) → d + 1 ≤ most → Opens most is_block_end (good_of (generic_of d name)) (reads (generic_of d name)) before
open_generic most d name before h = (
  tt,
  λ names l fine f. let r = generic_rest d (name ∷ names) {before = 0} h in let e = r.ends in record {
    new = mark TokenKind.In ∷ e.new;
    meant = e.meant;
    last = e.last;
    fine = refl;
    starts = λ rest s. refl;
    run = λ rest s. chooses refl (skips h (e.run rest s));
  },
  λ names l f. (opens_skip (λ i k. generic_rest d (name ∷ names) i), tt),
)

pub open_repeat : (most d before : ℕ) → Opens most is_block_end (good_of (repeat_of d)) (reads (repeat_of d)) before
open_repeat most d before = opens_skip (λ h l. full_call tt (block_ends d (within_any _)) (λ inside k f. full_want refl (λ i. full_call tt (whole_ends d 0 h refl) (λ e j g. full_give refl block_ends_expression))))

pub open_function : (most d before : ℕ) → Opens most is_block_end (good_of (function_of d)) (reads (function_of d)) before
open_function most d before = λ kind line. opens_skip (λ h l. full_call tt (name_ends refl) (λ name a f. full_call tt (names_end TokenKind.Dot (within_any _)) (λ names b g.
    full_call tt (method_ends paren_ends_names) (λ method c i. full_call tt (let r = body_full (d + 1) line refl in r.ends) (λ b j k. full_give refl (within_any _))))))

abbrev is_letter : Option TokenKind → Bool
is_letter (Some (TokenKind.Name name)) = true
is_letter kind = false

-- behind the first name of `local`
local_rest : {most : ℕ} (d : ℕ) (name : Text) {before : ℕ} →
    Full most {answer = statement_phrase} is_block_end any_token (λ s. true) (call (more_names_by TokenKind.Comma) (λ names. call (values d) (λ es. give (local_statement (name ∷ names) es)))) before
local_rest d name = full_call tt (names_end TokenKind.Comma (within_any _)) (λ names a f. full_call tt (values_ends d block_ends_names) (λ es b g. full_give refl (same_test is_block_end)))

local_names_end : {most : ℕ} (d : ℕ) {before : ℕ} → Ends most is_block_end is_letter (good_of (local_names_of d)) (reads (local_names_of d)) before
local_names_end d = end_call (name_ends refl) (λ name a fine f. let r = local_rest d name in r.ends)

pub open_local : (most d before : ℕ) → Opens most is_block_end (good_of (local_of d)) (reads (local_of d)) before
open_local most d before = opens_skip (λ h l.
    let e = end_become {goal = local_names_of d} {before = l} (local_names_end d) (λ m g. refl) (same_test is_block_end) in
    record {
      ends = record {
        new = e.new;
        meant = e.meant;
        last = e.last;
        fine = refl;
        starts = λ rest s. refl;
        run = λ rest s. passes (not_it is_letter (e.starts rest s) refl) (e.run rest s);
      };
      opens = (opens_become (local_function_of d) tt (λ m g. refl) (same_test is_block_end), opens_become (local_names_of d) tt (λ m g. refl) (same_test is_block_end));
    })

pub open_local_function : (most d before : ℕ) → Opens most is_block_end (good_of (local_function_of d)) (reads (local_function_of d)) before
open_local_function most d before = λ kind line. opens_skip (λ h l. full_call tt (name_ends refl) (λ name a f. full_call tt (let r = body_full (d + 1) line refl in r.ends) (λ b j k. full_give refl (within_any _))))

pub open_local_names : (most d before : ℕ) → Opens most is_block_end (good_of (local_names_of d)) (reads (local_names_of d)) before
open_local_names most d before = opens_call one_name tt (λ name l f. local_rest d name)

pub open_return : (most d before : ℕ) → Opens most is_block_end (good_of (return_of d)) (reads (return_of d)) before
open_return most d before = opens_skip (λ h l. full_call tt (results_ends d) (λ es k f. full_give refl (same_test is_block_end)))

pub open_break : (most d before : ℕ) → Opens most is_block_end (good_of (break_of d)) (reads (break_of d)) before
open_break most d before = opens_skip (λ h l. full_give refl (within_any _))

-- behind the targets of an assignment
assignment_rest : {most : ℕ} (d : ℕ) (lefts : Expressions) {before : ℕ} → d + 1 ≤ most →
    Full most {answer = statement_phrase} is_block_end sets (λ s. true) (want TokenKind.Equal (call (expressions_at d) (λ rights. give (assignment lefts rights)))) before
assignment_rest d lefts h = full_want refl (λ l. full_call tt (expressions_ends d h refl) (λ rights k f. full_give refl block_ends_list))

or_other : (a b : Bool) → a || b ≡ true → a ≡ false → b ≡ true
or_other true b h i = cc
or_other false b h i = h

-- behind the expression that a statement begins with
expression_end : {most : ℕ} (d : ℕ) (e : Expression) {before : ℕ} → d + 1 ≤ most → suits Role.Statement e ≡ true →
    Ends most {answer = statement_phrase} is_block_end ends_expression (λ s. true)
    (if is_call e then give (call_statement e) else call (targets d e) (λ lefts. want TokenKind.Equal (call (expressions_at d) (λ rights. give (assignment lefts rights))))) before
expression_end {most} d e {before} h fine = go (is_call e) refl
  where
    go : (test : Bool) → is_call e ≡ test →
        Ends most {answer = statement_phrase} is_block_end ends_expression (λ s. true)
        (if test then give (call_statement e) else call (targets d e) (λ lefts. want TokenKind.Equal (call (expressions_at d) (λ rights. give (assignment lefts rights))))) before
    go true q = end_give refl block_ends_expression
    go false q = end_call (targets_ends d e (or_other (is_call e) (is_target e) fine q)) (λ lefts k g f. let r = assignment_rest d lefts h in r.ends)

pub open_expression_statement : (most d before : ℕ) → Opens most is_block_end (good_of (expression_statement d)) (reads (expression_statement d)) before
open_expression_statement most d before = (
  tt,
  λ e l fine f. expression_end d e (room d most e f) fine,
  λ e l f. opens_if most _ _ (is_call e) _ _ l tt (opens_call (targets d e) tt (λ lefts k g. assignment_rest d lefts (room d most e f))),
)

pub open_branches : (most d before : ℕ) → Opens most ends_branches (good_of (branches d)) (reads (branches d)) before
open_branches most d before = (
  opens_skip (λ h l. full_call tt (whole_ends d 0 h refl) (λ e a f. full_want refl (λ b. full_call tt (block_ends d (within_any _)) (λ inside c g.
      full_call tt (branches_ends d branches_end_block) (λ left i j. full_give refl (same_test ends_branches)))))),
  (opens_skip (λ h l. full_call tt (block_ends d (within_any _)) (λ inside a f. full_give refl branches_end_block)), tt),
)

pub open_step : (most d before : ℕ) → Opens most ends_list (good_of (step d)) (reads (step d)) before
open_step most d before = (opens_skip (λ h l. full_call tt (whole_ends d 0 h refl) (λ e a f. full_give refl list_ends_expression)), tt)

pub open_method_name : (most before : ℕ) → Opens most opens_paren (good_of method_name) (reads method_name) before
open_method_name most before = (opens_skip (λ h l. full_call tt (name_ends refl) (λ name a f. full_give refl (within_any _))), tt)

pub open_values : (most d before : ℕ) → Opens most is_block_end (good_of (values d)) (reads (values d)) before
open_values most d before = (opens_skip (λ h l. full_call tt (expressions_ends d h refl) (λ es a f. full_give refl block_ends_list)), tt)

pub open_results : (most d before : ℕ) → Opens most is_block_end (good_of (results d)) (reads (results d)) before
open_results most d before = (tt, λ kind line. opens_if most _ _ (is_block_end (Some kind)) _ _ before tt (opens_become (expressions_at d) tt (λ m g. refl) block_ends_list))

-- behind a further target
targets_rest : {most : ℕ} (d : ℕ) (e next : Expression) {before : ℕ} → is_target next ≡ true →
    Ends most {answer = expressions_phrase} sets ends_expression (λ es. true) (call (targets d next) (λ rest. give (expression e rest))) before
targets_rest d e next h = end_call (targets_ends d next h) (λ rest b fine g. end_give refl (same_test sets))

pub open_targets : (most d : ℕ) (e : Expression) (before : ℕ) → Opens most sets (good_of (targets d e)) (reads (targets d e)) before
open_targets most d e before = opens_if most _ _ (is_target e) _ _ before (
  opens_skip (λ h l. record {
    ends = end_call (prefix_ends d Role.Target h refl) (λ next a fine f. targets_rest d e next fine);
    opens = (tt, λ next a fine f. targets_rest d e next fine, λ next a f. opens_call (targets d next) tt (λ rest b g. full_give refl (same_test sets)));
  }),
  (tt, tt),
)
    tt

pub open_more_names : (most : ℕ) (kind : TokenKind) (before : ℕ) → Opens most (ends_names kind) (good_of (more_names_by kind)) (reads (more_names_by kind)) before
open_more_names most kind before =
    (opens_skip (λ h l. full_call tt (name_ends refl) (λ name a f. full_call tt (names_end kind (within_any _)) (λ names b g. full_give refl (same_test (ends_names kind))))), tt)
