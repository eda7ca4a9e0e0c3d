-- Every part of a source counts its declarations and functions, and expressions and blocks bring nothing into scope.
use Rattle.std.proofs.Common.{◌≡◌, ℕ, zero, suc, ◌+◌, Bool, true, false, List, [], ◌∷◌, ◌++◌, length, refl, sym, ap, ◌∙◌, append_assoc, arith}
use Rattle.std.specs.Prelude.{is_some}
use Rattle.lua_num.specs.Bytes.{Text}
use Rattle.lua_tree.specs.Outline as outline
use Rattle.lua_tree.specs.Outline.{Mark, mention, local_name, hidden_local, dots, leave, opened, innermost, Place, both, within, nothing, stay, in_loop, in_function, with_locals, come, declares, reaching, marked, mentions, path_part, all_params, statements_part, statement_part, branches_part, otherwise_part, step_part, body_part, expressions_part, expression_part, arguments_part, fields_part}
use Rattle.lua_tree.specs.Resolved.{declarations_in, functions_in}
use Rattle.lua_tree.specs.Syntax as syntax
use Rattle.lua_tree.specs.Syntax.{Expressions, no_expressions, Arguments, argument_list, text_argument, table_argument, Fields, no_fields, positional, named, keyed, Statements, no_statements, Statement, assignment, call_statement, do_block, while_loop, repeat_loop, if_statement, numeric_for, generic_for, function_statement, local_function, local_statement, return_statement, break_statement, Branches, no_branches, branch, Otherwise, no_otherwise, otherwise, ForStep, no_step, by_step, FunctionBody, function_body, Expression, nil_literal, true_literal, false_literal, vararg_expression, number_literal, text_literal, name_expression, function_expression, index_expression, field_expression, call_expression, method_call, and_expression, or_expression, binary_expression, unary_expression, constructor, parenthesized}
use Rattle.scheme_stands.specs.Places.{Counted, Closed, Reached}

pub declared_both : (xs ys : List Mark) → declarations_in (xs ++ ys) ≡ declarations_in xs + declarations_in ys
declared_both [] ys = omega arith
declared_both (local_name line reached ∷ xs) ys = let h = declared_both xs ys in omega (arith, h)
declared_both (mention line name means around ∷ xs) ys = declared_both xs ys
declared_both (hidden_local line reached ∷ xs) ys = declared_both xs ys
declared_both (dots line vararg ∷ xs) ys = declared_both xs ys
declared_both (leave line looped ∷ xs) ys = declared_both xs ys
declared_both (opened outer ∷ xs) ys = declared_both xs ys

pub opened_both : (xs ys : List Mark) → suc (functions_in (xs ++ ys)) ≡ functions_in xs + functions_in ys
opened_both [] ys = omega arith
opened_both (opened outer ∷ xs) ys = let h = opened_both xs ys in omega (arith, h)
opened_both (mention line name means around ∷ xs) ys = opened_both xs ys
opened_both (local_name line reached ∷ xs) ys = opened_both xs ys
opened_both (hidden_local line reached ∷ xs) ys = opened_both xs ys
opened_both (dots line vararg ∷ xs) ys = opened_both xs ys
opened_both (leave line looped ∷ xs) ys = opened_both xs ys

-- a walk goes on behind a part
abbrev pub reached_next : (all : List Mark) (part : outline.Part) (place : Place) (rest : List Mark) → Counted part place → Reached all place ((part place).marks ++ rest) → Reached all (part place).next rest
reached_next all part place rest c r =
    let marks = (part place).marks in
    record {
      before = r.before ++ marks;
      is = r.is ∙ sym (append_assoc r.before marks rest);
      declarations = let a = declared_both r.before marks in let b = r.declarations in let d = c.declarations in omega (arith, a, b, d);
      functions = let a = opened_both r.before marks in let b = r.functions in let d = c.functions in omega (arith, a, b, d);
    }

-- ---- parts in a row, one inside another

pub closed_still : (place : Place) → Closed nothing place
closed_still place = record { counted = record { declarations = omega arith; functions = omega arith; around = refl; vararg = refl; looped = refl }; scope = refl; active = refl }

pub counted_row : (a b : outline.Part) (place : Place) → Counted a place → Counted b (a place).next → Counted (both a b) place
counted_row a b place c d =
    let x = a place in
    let y = b x.next in
    record {
      declarations = let h = declared_both x.marks y.marks in let i = c.declarations in let j = d.declarations in omega (arith, h, i, j);
      functions = let h = opened_both x.marks y.marks in let i = c.functions in let j = d.functions in omega (arith, h, i, j);
      around = d.around ∙ c.around;
      vararg = d.vararg ∙ c.vararg;
      looped = d.looped ∙ c.looped;
    }

pub closed_row : (a b : outline.Part) (place : Place) → Closed a place → Closed b (a place).next → Closed (both a b) place
closed_row a b place c d = record { counted = counted_row a b place c.counted d.counted; scope = d.scope ∙ c.scope; active = d.active ∙ c.active }

-- a part inside, whose scope ends with it
pub closed_inner : (enter : Place → Place) (part : outline.Part) (place : Place) → (enter place).declarations ≡ place.declarations → (enter place).functions ≡ place.functions → Counted part (enter place) → Closed (within enter part) place
closed_inner enter part place d n c = record {
  counted = record {
    declarations = let h = c.declarations in omega (arith, h, d);
    functions = let h = c.functions in omega (arith, h, n);
    around = refl;
    vararg = refl;
    looped = refl;
  };
  scope = refl;
  active = refl;
}

pub marked_closed : (mark : Place → Mark) (place : Place) → declarations_in (mark place ∷ []) ≡ 0 → functions_in (mark place ∷ []) ≡ 1 → Closed (marked mark) place
marked_closed mark place d n = record { counted = record { declarations = omega (arith, d); functions = omega (arith, n); around = refl; vararg = refl; looped = refl }; scope = refl; active = refl }

names_count : (line k n : ℕ) → declarations_in (reaching (local_name line) k n) ≡ n
names_count line k zero = refl
names_count line k (suc n) = ap suc (names_count line (suc k) n)

hidden_count : (line k n : ℕ) → declarations_in (reaching (hidden_local line) k n) ≡ 0
hidden_count line k zero = refl
hidden_count line k (suc n) = hidden_count line (suc k) n

names_open : (line k n : ℕ) → functions_in (reaching (local_name line) k n) ≡ 1
names_open line k zero = refl
names_open line k (suc n) = names_open line (suc k) n

hidden_open : (line k n : ℕ) → functions_in (reaching (hidden_local line) k n) ≡ 1
hidden_open line k zero = refl
hidden_open line k (suc n) = hidden_open line (suc k) n

pub declares_closed : (line hidden : ℕ) (names : List Text) (place : Place) → Closed (declares line hidden names) place
declares_closed line hidden names place =
    let a = reaching (hidden_local line) place.active hidden in
    let b = reaching (local_name line) (place.active + hidden) (length names) in
    record {
      counted = record {
        declarations = omega (arith, declared_both a b, names_count line (place.active + hidden) (length names), hidden_count line place.active hidden);
        functions = omega (arith, opened_both a b, names_open line (place.active + hidden) (length names), hidden_open line place.active hidden);
        around = refl;
        vararg = refl;
        looped = refl;
      };
      scope = refl;
      active = refl;
    }

pub come_counted : (hidden : ℕ) (names : List Text) (number : ℕ) (place : Place) → Counted (come hidden names number) place
come_counted hidden names number place = record { declarations = omega arith; functions = omega arith; around = refl; vararg = refl; looped = refl }

pub mentions_closed : (line : ℕ) (name : Text) (place : Place) → Closed (mentions line name) place
mentions_closed line name place = record { counted = record { declarations = omega arith; functions = omega arith; around = refl; vararg = refl; looped = refl }; scope = refl; active = refl }

pub path_closed : (line : ℕ) (path : List Text) (place : Place) → Closed (path_part line path) place
path_closed line [] place = closed_still place
path_closed line (name ∷ fields) place = mentions_closed line name place

-- inside a function one more stands before
opened_inside : (vararg : Bool) (part : outline.Part) (place : Place) → Counted part (in_function vararg place) → Closed (both (marked (λ place. opened (innermost place.around))) (within (in_function vararg) part)) place
opened_inside vararg part place c =
    let inside = part (in_function vararg place) in
    record {
      counted = record {
        declarations = let h = c.declarations in omega (arith, h);
        functions = let h = c.functions in omega (arith, h);
        around = refl;
        vararg = refl;
        looped = refl;
      };
      scope = refl;
      active = refl;
    }

-- ---- the tree

mutual
  pub statements_counted : (ss : Statements) (place : Place) → Counted (statements_part ss) place
  statements_counted no_statements place = (closed_still place).counted
  statements_counted (syntax.statement line semi s ss) place = counted_row (statement_part line s) (statements_part ss) place (statement_counted line s place) (statements_counted ss _)

  pub statement_counted : (line : ℕ) (s : Statement) (place : Place) → Counted (statement_part line s) place
  statement_counted line (assignment targets es) place = counted_row (expressions_part targets) (expressions_part es) place (expressions_closed targets place).counted (expressions_closed es _).counted
  statement_counted line (call_statement e) place = (expression_closed e place).counted
  statement_counted line (do_block block) place = (closed_inner stay (statements_part block) place refl refl (statements_counted block _)).counted
  statement_counted line (while_loop e block) place = counted_row (expression_part e) (within in_loop (statements_part block)) place (expression_closed e place).counted (closed_inner in_loop (statements_part block) _ refl refl (statements_counted block _)).counted
  statement_counted line (repeat_loop block e) place = (closed_inner in_loop (both (statements_part block) (expression_part e)) place refl refl (counted_row (statements_part block) (expression_part e) _ (statements_counted block _) (expression_closed e _).counted)).counted
  statement_counted line (if_statement branches last) place = counted_row (branches_part branches) (otherwise_part last) place (branches_closed branches place).counted (otherwise_closed last _).counted
  statement_counted line (numeric_for name first last step block) place =
      let enter = λ (inside : Place). in_loop (with_locals 3 (name ∷ []) place.declarations inside) in
      let values = both (expression_part first) (both (expression_part last) (step_part step)) in
      let c = counted_row (declares line 3 (name ∷ [])) (both values (within enter (statements_part block))) place (declares_closed line 3 (name ∷ []) place).counted
      (counted_row values (within enter (statements_part block)) _ (counted_row (expression_part first) (both (expression_part last) (step_part step)) _ (expression_closed first _).counted (counted_row (expression_part last) (step_part step) _ (expression_closed last _).counted (step_closed step _).counted))
      (closed_inner enter (statements_part block) _ refl refl (statements_counted block _)).counted) in
      record { declarations = c.declarations; functions = c.functions; around = c.around; vararg = c.vararg; looped = c.looped }
  statement_counted line (generic_for names es block) place =
      let enter = λ (inside : Place). in_loop (with_locals 3 names place.declarations inside) in
      let c = counted_row (declares line 3 names) (both (expressions_part es) (within enter (statements_part block))) place (declares_closed line 3 names place).counted
      (counted_row (expressions_part es) (within enter (statements_part block)) _ (expressions_closed es _).counted (closed_inner enter (statements_part block) _ refl refl (statements_counted block _)).counted) in
      record { declarations = c.declarations; functions = c.functions; around = c.around; vararg = c.vararg; looped = c.looped }
  statement_counted line (function_statement path method body) place = counted_row (path_part line path) (body_part (is_some method) body) place (path_closed line path place).counted (body_closed (is_some method) body _).counted
  statement_counted line (local_function name body) place =
      let c = counted_row (declares line 0 (name ∷ [])) (both (come 0 (name ∷ []) place.declarations) (body_part false body)) place (declares_closed line 0 (name ∷ []) place).counted
      (counted_row (come 0 (name ∷ []) place.declarations) (body_part false body) _ (come_counted 0 (name ∷ []) place.declarations _) (body_closed false body _).counted) in
      record { declarations = c.declarations; functions = c.functions; around = c.around; vararg = c.vararg; looped = c.looped }
  statement_counted line (local_statement names es) place =
      let c = counted_row (declares line 0 names) (both (expressions_part es) (come 0 names place.declarations)) place (declares_closed line 0 names place).counted
      (counted_row (expressions_part es) (come 0 names place.declarations) _ (expressions_closed es _).counted (come_counted 0 names place.declarations _)) in
      record { declarations = c.declarations; functions = c.functions; around = c.around; vararg = c.vararg; looped = c.looped }
  statement_counted line (return_statement es) place = (expressions_closed es place).counted
  statement_counted line break_statement place = (marked_closed (λ place. leave line place.looped) place refl refl).counted

  pub branches_closed : (branches : Branches) (place : Place) → Closed (branches_part branches) place
  branches_closed no_branches place = closed_still place
  branches_closed (branch e block others) place =
      closed_row (expression_part e) (both (within stay (statements_part block)) (branches_part others)) place (expression_closed e place)
      (closed_row (within stay (statements_part block)) (branches_part others) _ (closed_inner stay (statements_part block) _ refl refl (statements_counted block _)) (branches_closed others _))

  pub otherwise_closed : (last : Otherwise) (place : Place) → Closed (otherwise_part last) place
  otherwise_closed no_otherwise place = closed_still place
  otherwise_closed (otherwise block) place = closed_inner stay (statements_part block) place refl refl (statements_counted block _)

  pub step_closed : (step : ForStep) (place : Place) → Closed (step_part step) place
  step_closed no_step place = closed_still place
  step_closed (by_step e) place = expression_closed e place

  pub body_closed : (method : Bool) (body : FunctionBody) (place : Place) → Closed (body_part method body) place
  body_closed method (function_body params vararg block first last) place =
      let ps = all_params method params in
      let part = λ (place : Place). both (declares first 0 ps) (both (come 0 ps place.declarations) (statements_part block)) place in
      let inside = in_function vararg place in
      let c = counted_row (declares first 0 ps) (both (come 0 ps inside.declarations) (statements_part block)) inside (declares_closed first 0 ps inside).counted (counted_row (come 0 ps inside.declarations) (statements_part block) _ (come_counted 0 ps inside.declarations _) (statements_counted block _)) in
      opened_inside vararg part place (record { declarations = c.declarations; functions = c.functions; around = c.around; vararg = c.vararg; looped = c.looped })

  pub expressions_closed : (es : Expressions) (place : Place) → Closed (expressions_part es) place
  expressions_closed no_expressions place = closed_still place
  expressions_closed (syntax.expression e rest) place = closed_row (expression_part e) (expressions_part rest) place (expression_closed e place) (expressions_closed rest _)

  pub expression_closed : (e : Expression) (place : Place) → Closed (expression_part e) place
  expression_closed (nil_literal line) place = closed_still place
  expression_closed (true_literal line) place = closed_still place
  expression_closed (false_literal line) place = closed_still place
  expression_closed (vararg_expression line) place = marked_closed (λ place. dots line place.vararg) place refl refl
  expression_closed (number_literal line n) place = closed_still place
  expression_closed (text_literal line text) place = closed_still place
  expression_closed (name_expression line text) place = mentions_closed line text place
  expression_closed (function_expression line body) place = body_closed false body place
  expression_closed (index_expression line on key) place = closed_row (expression_part on) (expression_part key) place (expression_closed on place) (expression_closed key _)
  expression_closed (field_expression line on text) place = expression_closed on place
  expression_closed (call_expression line on args on_line) place = closed_row (expression_part on) (arguments_part args) place (expression_closed on place) (arguments_closed args _)
  expression_closed (method_call line on text args on_line) place = closed_row (expression_part on) (arguments_part args) place (expression_closed on place) (arguments_closed args _)
  expression_closed (and_expression line left right) place = closed_row (expression_part left) (expression_part right) place (expression_closed left place) (expression_closed right _)
  expression_closed (or_expression line left right) place = closed_row (expression_part left) (expression_part right) place (expression_closed left place) (expression_closed right _)
  expression_closed (binary_expression line op left right) place = closed_row (expression_part left) (expression_part right) place (expression_closed left place) (expression_closed right _)
  expression_closed (unary_expression line op e) place = expression_closed e place
  expression_closed (constructor line items) place = fields_closed items place
  expression_closed (parenthesized line e) place = expression_closed e place

  pub arguments_closed : (args : Arguments) (place : Place) → Closed (arguments_part args) place
  arguments_closed (argument_list es) place = expressions_closed es place
  arguments_closed (text_argument text) place = closed_still place
  arguments_closed (table_argument items) place = fields_closed items place

  pub fields_closed : (items : Fields) (place : Place) → Closed (fields_part items) place
  fields_closed no_fields place = closed_still place
  fields_closed (positional e separator rest) place = closed_row (expression_part e) (fields_part rest) place (expression_closed e place) (fields_closed rest _)
  fields_closed (named text e separator rest) place = closed_row (expression_part e) (fields_part rest) place (expression_closed e place) (fields_closed rest _)
  fields_closed (keyed key e separator rest) place =
      closed_row (both (expression_part key) (expression_part e)) (fields_part rest) place (closed_row (expression_part key) (expression_part e) place (expression_closed key place) (expression_closed e _)) (fields_closed rest _)

-- ---- statements that declare no locals

abbrev pub declares_none : Statement → Bool
declares_none (local_function text body) = false
declares_none (local_statement names es) = false
declares_none (assignment targets es) = true
declares_none (call_statement e) = true
declares_none (do_block block) = true
declares_none (while_loop e block) = true
declares_none (repeat_loop block e) = true
declares_none (if_statement arms last) = true
declares_none (numeric_for text first last step block) = true
declares_none (generic_for names es block) = true
declares_none (function_statement path method body) = true
declares_none (return_statement es) = true
declares_none break_statement = true

pub statement_closed : (line : ℕ) (s : Statement) (place : Place) → declares_none s ≡ true → Closed (statement_part line s) place
statement_closed line (local_function text body) place h = cc
statement_closed line (local_statement names es) place h = cc
statement_closed line (assignment targets es) place h = closed_row (expressions_part targets) (expressions_part es) place (expressions_closed targets place) (expressions_closed es _)
statement_closed line (call_statement e) place h = expression_closed e place
statement_closed line (do_block block) place h = closed_inner stay (statements_part block) place refl refl (statements_counted block _)
statement_closed line (while_loop e block) place h = closed_row (expression_part e) (within in_loop (statements_part block)) place (expression_closed e place) (closed_inner in_loop (statements_part block) _ refl refl (statements_counted block _))
statement_closed line (repeat_loop block e) place h = closed_inner in_loop (both (statements_part block) (expression_part e)) place refl refl (counted_row (statements_part block) (expression_part e) _ (statements_counted block _) (expression_closed e _).counted)
statement_closed line (if_statement branches last) place h = closed_row (branches_part branches) (otherwise_part last) place (branches_closed branches place) (otherwise_closed last _)
statement_closed line (numeric_for name first last step block) place h =
    let enter = λ (inside : Place). in_loop (with_locals 3 (name ∷ []) place.declarations inside) in
    let values = both (expression_part first) (both (expression_part last) (step_part step)) in
    let c = closed_row (declares line 3 (name ∷ [])) (both values (within enter (statements_part block))) place (declares_closed line 3 (name ∷ []) place)
    (closed_row values (within enter (statements_part block)) _ (closed_row (expression_part first) (both (expression_part last) (step_part step)) _ (expression_closed first _) (closed_row (expression_part last) (step_part step) _ (expression_closed last _) (step_closed step _)))
    (closed_inner enter (statements_part block) _ refl refl (statements_counted block _))) in
    record { counted = statement_counted line (numeric_for name first last step block) place; scope = c.scope; active = c.active }
statement_closed line (generic_for names es block) place h =
    let enter = λ (inside : Place). in_loop (with_locals 3 names place.declarations inside) in
    let c = closed_row (declares line 3 names) (both (expressions_part es) (within enter (statements_part block))) place (declares_closed line 3 names place)
    (closed_row (expressions_part es) (within enter (statements_part block)) _ (expressions_closed es _) (closed_inner enter (statements_part block) _ refl refl (statements_counted block _))) in
    record { counted = statement_counted line (generic_for names es block) place; scope = c.scope; active = c.active }
statement_closed line (function_statement path method body) place h = closed_row (path_part line path) (body_part (is_some method) body) place (path_closed line path place) (body_closed (is_some method) body _)
statement_closed line (return_statement es) place h = expressions_closed es place
statement_closed line break_statement place h = marked_closed (λ place. leave line place.looped) place refl refl

-- the values of a numeric loop
pub values_closed : (first last : Expression) (step : ForStep) (place : Place) → Closed (both (expression_part first) (both (expression_part last) (step_part step))) place
values_closed first last step place = closed_row (expression_part first) (both (expression_part last) (step_part step)) place (expression_closed first _) (closed_row (expression_part last) (step_part step) _ (expression_closed last _) (step_closed step _))
