-- A part of a source mentions only what is declared before its end, so that it captures nothing that is declared behind it.
use Rattle.std.proofs.Common.{◌≡◌, ◌<◌, ◌≤◌, ℕ, zero, suc, ◌+◌, ◌&&◌, Bool, true, false, not, List, [], ◌∷◌, length, refl, ap₂, subst, arith, if◌then◌else◌}
use Rattle.std.proofs.lemmas.Bool.Decides.{nat_tests}
use Rattle.std.specs.Prelude.{◌==◌, ◌||◌, Option, Some, None, is_some}
use Rattle.std.specs.Str.{bytes_eq}
use Rattle.lua_num.specs.Bytes.{Text}
use Rattle.lua_tree.specs.Outline as outline
use Rattle.lua_tree.specs.Outline.{Binding, Mark, mention, local_name, hidden_local, dots, leave, opened, innermost, Place, Walk, with_name, with_names, both, within, nothing, stay, in_loop, in_function, with_locals, come, declares, reaching, marked, mentions, path_part, all_params, statements_part, statement_part, branches_part, otherwise_part, step_part, body_part, expressions_part, expression_part, arguments_part, fields_part}
use Rattle.lua_tree.specs.Scoping.{is_captured}
use Rattle.lua_tree.specs.Syntax as syntax
use Rattle.lua_tree.specs.Syntax.{Expressions, no_expressions, Arguments, argument_list, text_argument, table_argument, Fields, no_fields, positional, named, keyed, Statements, no_statements, Statement, assignment, call_statement, do_block, while_loop, repeat_loop, if_statement, numeric_for, generic_for, function_statement, local_function, local_statement, return_statement, break_statement, Branches, no_branches, branch, Otherwise, no_otherwise, otherwise, ForStep, no_step, by_step, FunctionBody, function_body, Expression, nil_literal, true_literal, false_literal, vararg_expression, number_literal, text_literal, name_expression, function_expression, index_expression, field_expression, call_expression, method_call, and_expression, or_expression, binary_expression, unary_expression, constructor, parenthesized}
use Rattle.scheme_stands.specs.Places.{LowAt, Mentions, Under}
use Rattle.scheme_stands.proofs.Environment.{Low}
use Rattle.scheme_stands.proofs.Origins.{mentions_both, mentions_more}

-- ---- scopes

pub low_more : {scope : outline.Scope} (low high : ℕ) → low ≤ high → Low scope low → Low scope high
low_more low high more is name binding there = let below = is name binding there in omega (arith, below, more)

name_low : (name : Text) (number home n : ℕ) (scope : outline.Scope) → number < n → Low scope n → Low (with_name name (record { declaration = number; home = home }) scope) n
name_low name number home n scope below low other b there = by (bytes_eq name other) there
  where
    by : (same : Bool) → (if same then Some (record { declaration = number; home = home }) else scope other) ≡ Some b → b.declaration < n
    by true is = let same : record { declaration = number; home = home } ≡ b = cc in subst (λ (b : Binding). b.declaration < n) same below
    by false is = low other b is

names_low : (names : List Text) (number home n : ℕ) (scope : outline.Scope) → number + length names ≤ n → Low scope n → Low (with_names names number home scope) n
names_low [] number home n scope below low = low
names_low (name ∷ names) number home n scope below low =
    names_low names (suc number) home n (with_name name (record { declaration = number; home = home }) scope) (omega (arith, below)) (name_low name number home n scope (omega (arith, below)) low)

-- ---- walks

pub under_more : (low high : ℕ) → low ≤ high → (marks : List Mark) → Mentions (Under low) marks → Mentions (Under high) marks
under_more low high more marks is = mentions_more (Under low) (Under high) by marks is
  where
    by : (means : Option Binding) (around : List ℕ) → Under low means around → Under high means around
    by None around below = tt
    by (Some binding) around below = omega (arith, below, more)

-- what a walk mentions, and what is in scope at its end, is declared before its end
pub record StaysLow (place : Place) (walk : Walk) : Type 0 where
  pub mentions : Mentions (Under walk.next.declarations) walk.marks
  pub low : LowAt walk.next
  pub grows : place.declarations ≤ walk.next.declarations

pub low_nothing : (place : Place) → LowAt place → StaysLow place (nothing place)
low_nothing place low = record { mentions = tt; low = low; grows = omega arith }

pub low_both : (a b : outline.Part) (place : Place) → StaysLow place (a place) → StaysLow (a place).next (b (a place).next) → StaysLow place (both a b place)
low_both a b place one two =
    let middle = one.grows in
    let more = two.grows in
    let x = a place in
    let y = b x.next in
    record {
      mentions = mentions_both (Under y.next.declarations) x.marks y.marks (under_more x.next.declarations y.next.declarations more x.marks one.mentions) two.mentions;
      low = two.low;
      grows = omega (arith, middle, more);
    }

pub low_within : (enter : Place → Place) (part : outline.Part) (place : Place) → LowAt place → place.declarations ≤ (enter place).declarations → StaysLow (enter place) (part (enter place)) → StaysLow place (within enter part place)
low_within enter part place low more inside =
    let grows = inside.grows in
    let end = (part (enter place)).next in
    record { mentions = inside.mentions; low = low_more place.declarations end.declarations (omega (arith, more, grows)) low; grows = omega (arith, more, grows) }

low_marked : (mark : Place → Mark) (place : Place) → LowAt place → Mentions (Under place.declarations) (mark place ∷ []) → StaysLow place (marked mark place)
low_marked mark place low none = record { mentions = none; low = low; grows = omega arith }

names_mention : (n line k count : ℕ) → Mentions (Under n) (reaching (local_name line) k count)
names_mention n line k zero = tt
names_mention n line k (suc count) = names_mention n line (suc k) count

hidden_mention : (n line k count : ℕ) → Mentions (Under n) (reaching (hidden_local line) k count)
hidden_mention n line k zero = tt
hidden_mention n line k (suc count) = hidden_mention n line (suc k) count

pub low_declares : (line hidden : ℕ) (names : List Text) (place : Place) → LowAt place → StaysLow place (declares line hidden names place)
low_declares line hidden names place low =
    let n = place.declarations + length names in
    record {
      mentions = mentions_both (Under n) (reaching (hidden_local line) place.active hidden) (reaching (local_name line) (place.active + hidden) (length names)) (hidden_mention n line place.active hidden) (names_mention n line (place.active + hidden) (length names));
      low = low_more place.declarations n (omega arith) low;
      grows = omega arith;
    }

low_locals : (hidden : ℕ) (names : List Text) (number : ℕ) (place : Place) → number + length names ≤ place.declarations → LowAt place → LowAt (with_locals hidden names number place)
low_locals hidden names number place below low = names_low names number (innermost place.around) place.declarations place.scope below low

pub low_come : (hidden : ℕ) (names : List Text) (number : ℕ) (place : Place) → number + length names ≤ place.declarations → LowAt place → StaysLow place (come hidden names number place)
low_come hidden names number place below low = record { mentions = tt; low = low_locals hidden names number place below low; grows = omega arith }

low_mentions : (line : ℕ) (name : Text) (place : Place) → LowAt place → StaysLow place (mentions line name place)
low_mentions line name place low = record { mentions = (by (place.scope name) (low name), tt); low = low; grows = omega arith }
  where
    by : (means : Option Binding) → ((binding : Binding) → means ≡ Some binding → binding.declaration < place.declarations) → Under place.declarations means place.around
    by None below = tt
    by (Some binding) below = below binding refl

pub low_path : (line : ℕ) (path : List Text) (place : Place) → LowAt place → StaysLow place (path_part line path place)
low_path line [] place low = low_nothing place low
low_path line (name ∷ fields) place low = low_mentions line name place low

-- ---- the tree

-- a part of the tree, wherever it stands
abbrev IsLow : outline.Part → Type 0
IsLow part = (place : Place) → LowAt place → StaysLow place (part place)

row : {a b : outline.Part} → IsLow a → IsLow b → IsLow (both a b)
row {a} {b} one two place low = let first = one place low in low_both a b place first (two (a place).next first.low)

inner : {part : outline.Part} → IsLow part → IsLow (within stay part)
inner {part} is place low = low_within stay part place low (omega arith) (is place low)

loop : {part : outline.Part} → IsLow part → IsLow (within in_loop part)
loop {part} is place low = low_within in_loop part place low (omega arith) (is (in_loop place) low)

-- the values of a loop and its turns
turns : (names : List Text) {values block : outline.Part} → IsLow values → IsLow block → (line : ℕ) (place : Place) → LowAt place →
    StaysLow place (both (declares line 3 names) (both values (within (λ inside. in_loop (with_locals 3 names place.declarations inside)) block)) place)
turns names {values} {block} valued turned line place low =
    let enter = λ (inside : Place). in_loop (with_locals 3 names place.declarations inside) in
    let first = low_declares line 3 names place low in
    let begun = (declares line 3 names place).next in
    let second = valued begun first.low in
    let later = (values begun).next in
    let grows = second.grows in
    let inside : LowAt (enter later) = low_locals 3 names place.declarations later (omega (arith, grows)) second.low in
    low_both (declares line 3 names) (both values (within enter block)) place first
    (low_both values (within enter block) begun second (low_within enter block later second.low (omega arith) (turned (enter later) inside)))

mutual
  pub low_statements : (ss : Statements) → IsLow (statements_part ss)
  low_statements no_statements place low = low_nothing place low
  low_statements (syntax.statement line semi s ss) place low = row (low_statement line s) (low_statements ss) place low

  pub low_statement : (line : ℕ) (s : Statement) → IsLow (statement_part line s)
  low_statement line (assignment targets es) place low = row (low_expressions targets) (low_expressions es) place low
  low_statement line (call_statement e) place low = low_expression e place low
  low_statement line (do_block block) place low = inner (low_statements block) place low
  low_statement line (while_loop e block) place low = row (low_expression e) (loop (low_statements block)) place low
  low_statement line (repeat_loop block e) place low = loop (row (low_statements block) (low_expression e)) place low
  low_statement line (if_statement branches last) place low = row (low_branches branches) (low_otherwise last) place low
  low_statement line (numeric_for name first last step block) place low = turns (name ∷ []) (row (low_expression first) (row (low_expression last) (low_step step))) (low_statements block) line place low
  low_statement line (generic_for names es block) place low = turns names (low_expressions es) (low_statements block) line place low
  low_statement line (function_statement path method body) place low = row (λ place low. low_path line path place low) (low_body (is_some method) body) place low
  low_statement line (local_function name body) place low =
      let names : List Text = name ∷ [] in
      let first = low_declares line 0 names place low in
      let begun = (declares line 0 names place).next in
      let second = low_come 0 names place.declarations begun (omega arith) first.low in
      low_both (declares line 0 names) (both (come 0 names place.declarations) (body_part false body)) place first
      (low_both (come 0 names place.declarations) (body_part false body) begun second (low_body false body (come 0 names place.declarations begun).next second.low))
  low_statement line (local_statement names es) place low =
      let first = low_declares line 0 names place low in
      let begun = (declares line 0 names place).next in
      let second = low_expressions es begun first.low in
      let grows = second.grows in
      low_both (declares line 0 names) (both (expressions_part es) (come 0 names place.declarations)) place first
      (low_both (expressions_part es) (come 0 names place.declarations) begun second (low_come 0 names place.declarations (expressions_part es begun).next (omega (arith, grows)) second.low))
  low_statement line (return_statement es) place low = low_expressions es place low
  low_statement line break_statement place low = low_marked (λ place. leave line place.looped) place low tt

  pub low_branches : (branches : Branches) → IsLow (branches_part branches)
  low_branches no_branches place low = low_nothing place low
  low_branches (branch e block others) place low = row (low_expression e) (row (inner (low_statements block)) (low_branches others)) place low

  pub low_otherwise : (last : Otherwise) → IsLow (otherwise_part last)
  low_otherwise no_otherwise place low = low_nothing place low
  low_otherwise (otherwise block) place low = inner (low_statements block) place low

  pub low_step : (step : ForStep) → IsLow (step_part step)
  low_step no_step place low = low_nothing place low
  low_step (by_step e) place low = low_expression e place low

  pub low_body : (method : Bool) (body : FunctionBody) → IsLow (body_part method body)
  low_body method (function_body params vararg block first last) place low =
      let names = all_params method params in
      let part = λ (place : Place). both (declares first 0 names) (both (come 0 names place.declarations) (statements_part block)) place in
      let open_mark = λ (place : Place). opened (innermost place.around) in
      let inside = in_function vararg place in
      let begun = (declares first 0 names inside).next in
      let one = low_declares first 0 names inside low in
      let two = low_come 0 names inside.declarations begun (omega arith) one.low in
      low_both (marked open_mark) (within (in_function vararg) part) place (low_marked open_mark place low tt)
      (low_within (in_function vararg) part place low (omega arith)
      (low_both (declares first 0 names) (both (come 0 names inside.declarations) (statements_part block)) inside one
      (low_both (come 0 names inside.declarations) (statements_part block) begun two (low_statements block (come 0 names inside.declarations begun).next two.low))))

  pub low_expressions : (es : Expressions) → IsLow (expressions_part es)
  low_expressions no_expressions place low = low_nothing place low
  low_expressions (syntax.expression e rest) place low = row (low_expression e) (low_expressions rest) place low

  pub low_expression : (e : Expression) → IsLow (expression_part e)
  low_expression (nil_literal line) place low = low_nothing place low
  low_expression (true_literal line) place low = low_nothing place low
  low_expression (false_literal line) place low = low_nothing place low
  low_expression (vararg_expression line) place low = low_marked (λ place. dots line place.vararg) place low tt
  low_expression (number_literal line n) place low = low_nothing place low
  low_expression (text_literal line text) place low = low_nothing place low
  low_expression (name_expression line text) place low = low_mentions line text place low
  low_expression (function_expression line body) place low = low_body false body place low
  low_expression (index_expression line on key) place low = row (low_expression on) (low_expression key) place low
  low_expression (field_expression line on text) place low = low_expression on place low
  low_expression (call_expression line on args on_line) place low = row (low_expression on) (low_arguments args) place low
  low_expression (method_call line on text args on_line) place low = row (low_expression on) (low_arguments args) place low
  low_expression (and_expression line left right) place low = row (low_expression left) (low_expression right) place low
  low_expression (or_expression line left right) place low = row (low_expression left) (low_expression right) place low
  low_expression (binary_expression line op left right) place low = row (low_expression left) (low_expression right) place low
  low_expression (unary_expression line op e) place low = low_expression e place low
  low_expression (constructor line items) place low = low_fields items place low
  low_expression (parenthesized line e) place low = low_expression e place low

  pub low_arguments : (args : Arguments) → IsLow (arguments_part args)
  low_arguments (argument_list es) place low = low_expressions es place low
  low_arguments (text_argument text) place low = low_nothing place low
  low_arguments (table_argument items) place low = low_fields items place low

  pub low_fields : (items : Fields) → IsLow (fields_part items)
  low_fields no_fields place low = low_nothing place low
  low_fields (positional e separator rest) place low = row (low_expression e) (low_fields rest) place low
  low_fields (named text e separator rest) place low = row (low_expression e) (low_fields rest) place low
  low_fields (keyed key e separator rest) place low = row (row (low_expression key) (low_expression e)) (low_fields rest) place low

-- ---- heads of loops

pub low_heads : (names : List Text) (es : Expressions) (place : Place) → LowAt place → StaysLow place (both (declares 1 3 names) (both (expressions_part es) (come 3 names place.declarations)) place)
low_heads names es place low =
    let first = low_declares 1 3 names place low in
    let begun = (declares 1 3 names place).next in
    let second = low_expressions es begun first.low in
    let grows = second.grows in
    low_both (declares 1 3 names) (both (expressions_part es) (come 3 names place.declarations)) place first
    (low_both (expressions_part es) (come 3 names place.declarations) begun second (low_come 3 names place.declarations (expressions_part es begun).next (omega (arith, grows)) second.low))

-- ---- what is captured

-- what is mentioned below a number captures nothing from it on
pub low_captures : (marks : List Mark) (n declaration : ℕ) → n ≤ declaration → Mentions (Under n) marks → is_captured declaration marks ≡ false
low_captures [] n declaration above under = refl
low_captures (mention line name (Some b) around ∷ marks) n declaration above under =
    let below : b.declaration < n = under.0 in
    let other : (b.declaration == declaration) ≡ false = grind (arith, nat_tests) in
    ap₂ (λ same rest. (same && not (b.home == innermost around)) || rest) other (low_captures marks n declaration above under.1)
low_captures (mention line name None around ∷ marks) n declaration above under = low_captures marks n declaration above under.1
low_captures (local_name line reached ∷ marks) n declaration above under = low_captures marks n declaration above under
low_captures (hidden_local line reached ∷ marks) n declaration above under = low_captures marks n declaration above under
low_captures (dots line vararg ∷ marks) n declaration above under = low_captures marks n declaration above under
low_captures (leave line looped ∷ marks) n declaration above under = low_captures marks n declaration above under
low_captures (opened outer ∷ marks) n declaration above under = low_captures marks n declaration above under
