-- What a part mentions that was declared before it is in scope before it.
use Rattle.std.proofs.Common.{◌≡◌, ◌≤◌, inl, inr, ℕ, zero, suc, ◌+◌, Bool, true, false, List, [], ◌∷◌, length, Option, Some, subst, arith, if◌then◌else◌}
use Rattle.std.specs.Prelude.{is_some}
use Rattle.std.specs.Str.{bytes_eq}
use Rattle.lua_num.specs.Bytes.{Text}
use Rattle.lua_tree.specs.Outline as outline
use Rattle.lua_tree.specs.Outline.{Binding, Scope, Mark, mention, local_name, hidden_local, dots, leave, opened, innermost, Place, with_name, with_names, both, within, nothing, stay, in_loop, in_function, with_locals, come, declares, reaching, marked, mentions, path_part, all_params, statements_part, statement_part, branches_part, otherwise_part, step_part, body_part, expressions_part, expression_part, arguments_part, fields_part}
use Rattle.lua_tree.specs.Syntax as syntax
use Rattle.lua_tree.specs.Syntax.{Expressions, no_expressions, Arguments, argument_list, text_argument, table_argument, Fields, no_fields, positional, named, keyed, Statements, no_statements, Statement, assignment, call_statement, do_block, while_loop, repeat_loop, if_statement, numeric_for, generic_for, function_statement, local_function, local_statement, return_statement, break_statement, Branches, no_branches, branch, Otherwise, no_otherwise, otherwise, ForStep, no_step, by_step, FunctionBody, function_body, Expression, nil_literal, true_literal, false_literal, vararg_expression, number_literal, text_literal, name_expression, function_expression, index_expression, field_expression, call_expression, method_call, and_expression, or_expression, binary_expression, unary_expression, constructor, parenthesized}
use Rattle.scheme_stands.specs.Places.{KnownFrom, Mentions, inside_part}
use Rattle.scheme_stands.proofs.Origins.{mentions_both}

abbrev pub MeansFrom : Place → Option Binding → List ℕ → Type 0
MeansFrom base means around = (b : Binding) → means ≡ Some b → KnownFrom base b

module _ (base : Place) where
  pub record Later (place : Place) : Type 0 where
    pub declarations : base.declarations ≤ place.declarations
    pub scope : (name : Text) (b : Binding) → place.scope name ≡ Some b → KnownFrom base b

  pub record Led (part : outline.Part) (place : Place) : Type 0 where
    pub from : Mentions (MeansFrom base) (part place).marks
    pub next : Later (part place).next

  abbrev pub Leads : outline.Part → Type 0
  Leads part = (place : Place) → Later place → Led part place

  pub nothing_leads : Leads nothing
  nothing_leads place h = record { from = tt; next = h }

  pub both_lead : {one other : outline.Part} → Leads one → Leads other → Leads (both one other)
  both_lead {one} {other} first second place h =
      let a = first place h in
      let b = second (one place).next a.next in
      record { from = mentions_both (MeansFrom base) (one place).marks (other (one place).next).marks a.from b.from; next = b.next }

  -- places of which one has the scope and the number of declarations of the other
  pub inner_leads : (enter : Place → Place) {part : outline.Part} → ((place : Place) → Later place → Later (enter place)) → Leads part → Leads (within enter part)
  inner_leads enter {part} into lead place h =
      let a = lead (enter place) (into place h) in
      let n = a.next in
      record { from = a.from; next = record { declarations = n.declarations; scope = h.scope } }

  looped : (place : Place) → Later place → Later (in_loop place)
  looped place h = record { declarations = h.declarations; scope = h.scope }

  opened_later : (vararg : Bool) (place : Place) → Later place → Later (in_function vararg place)
  opened_later vararg place h = record { declarations = h.declarations; scope = h.scope }

  name_later : (name other : Text) (new : Binding) (scope : Scope) (b : Binding) → base.declarations ≤ new.declaration → (scope other ≡ Some b → KnownFrom base b) → with_name name new scope other ≡ Some b → KnownFrom base b
  name_later name other new scope b low h e = by (bytes_eq name other) e
    where
      by : (t : Bool) → (if t then Some new else scope other) ≡ Some b → KnownFrom base b
      by true e = let same : new ≡ b = cc in inr (subst (λ (x : Binding). base.declarations ≤ x.declaration) same low)
      by false e = h e

  names_later : (names : List Text) (number home : ℕ) (scope : Scope) → base.declarations ≤ number → ((name : Text) (b : Binding) → scope name ≡ Some b → KnownFrom base b) → (name : Text) (b : Binding) → with_names names number home scope name ≡ Some b → KnownFrom base b
  names_later [] number home scope low h = h
  names_later (name ∷ names) number home scope low h =
      let new : Binding = record { declaration = number; home = home } in
      names_later names (suc number) home (with_name name new scope) (omega (arith, low)) (λ other b. name_later name other new scope b low (h other b))

  locals_later : (hidden : ℕ) (names : List Text) (number : ℕ) (place : Place) → base.declarations ≤ number → Later place → Later (with_locals hidden names number place)
  locals_later hidden names number place low h = record { declarations = h.declarations; scope = names_later names number (innermost place.around) place.scope low h.scope }

  pub come_leads : (hidden : ℕ) (names : List Text) (number : ℕ) → base.declarations ≤ number → Leads (come hidden names number)
  come_leads hidden names number low place h = record { from = tt; next = locals_later hidden names number place low h }

  turn_later : (names : List Text) (number : ℕ) → base.declarations ≤ number → (place : Place) → Later place → Later (in_loop (with_locals 3 names number place))
  turn_later names number low place h = looped (with_locals 3 names number place) (locals_later 3 names number place low h)

  no_mentions : (P : Option Binding → List ℕ → Type 0) (mark : ℕ → Mark) → ((n : ℕ) → Mentions P (mark n ∷ [])) → (active count : ℕ) → Mentions P (reaching mark active count)
  no_mentions P mark each active zero = tt
  no_mentions P mark each active (suc count) = mentions_both P (mark (suc active) ∷ []) (reaching mark (suc active) count) (each (suc active)) (no_mentions P mark each (suc active) count)

  pub declares_leads : (line hidden : ℕ) (names : List Text) → Leads (declares line hidden names)
  declares_leads line hidden names place h =
      let P = MeansFrom base in
      let low = h.declarations in
      record {
        from = mentions_both P (reaching (hidden_local line) place.active hidden) (reaching (local_name line) (place.active + hidden) (length names))
            (no_mentions P (hidden_local line) (λ n. tt) place.active hidden) (no_mentions P (local_name line) (λ n. tt) (place.active + hidden) (length names));
        next = record { declarations = omega (arith, low); scope = h.scope };
      }

  pub mentions_lead : (line : ℕ) (name : Text) → Leads (mentions line name)
  mentions_lead line name place h = record { from = (λ b e. h.scope name b e, tt); next = h }

  pub path_leads : (line : ℕ) (path : List Text) → Leads (path_part line path)
  path_leads line [] = nothing_leads
  path_leads line (name ∷ fields) = mentions_lead line name

  pub inside_leads : (params : List Text) (vararg : Bool) (block : Statements) (first last : ℕ) (method : Bool) → Leads (statements_part block) → Leads (inside_part method (function_body params vararg block first last))
  inside_leads params vararg block first last method lead place h =
      let led = both_lead (declares_leads first 0 (all_params method params)) (both_lead (come_leads 0 (all_params method params) place.declarations h.declarations) lead) place h in
      record { from = led.from; next = led.next }

  mutual
    pub statements_lead : (ss : Statements) → Leads (statements_part ss)
    statements_lead no_statements = nothing_leads
    statements_lead (syntax.statement line semi s rest) = both_lead (statement_leads line s) (statements_lead rest)

    pub statement_leads : (line : ℕ) (s : Statement) → Leads (statement_part line s)
    statement_leads line (assignment targets es) = both_lead (expressions_lead targets) (expressions_lead es)
    statement_leads line (call_statement e) = expression_leads e
    statement_leads line (do_block block) = inner_leads stay (λ place h. h) (statements_lead block)
    statement_leads line (while_loop cond block) = both_lead (expression_leads cond) (inner_leads in_loop looped (statements_lead block))
    statement_leads line (repeat_loop block cond) = inner_leads in_loop looped (both_lead (statements_lead block) (expression_leads cond))
    statement_leads line (if_statement branches last) = both_lead (branches_lead branches) (otherwise_leads last)
    statement_leads line (numeric_for name first last step block) = λ place h.
        let low = h.declarations in
        let led = both_lead (declares_leads line 3 (name ∷ []))
        (both_lead (both_lead (expression_leads first) (both_lead (expression_leads last) (step_leads step)))
        (inner_leads (λ inside. in_loop (with_locals 3 (name ∷ []) place.declarations inside)) (turn_later (name ∷ []) place.declarations low) (statements_lead block))) place h in
        record { from = led.from; next = led.next }
    statement_leads line (generic_for names es block) = λ place h.
        let low = h.declarations in
        let led = both_lead (declares_leads line 3 names)
        (both_lead (expressions_lead es)
        (inner_leads (λ inside. in_loop (with_locals 3 names place.declarations inside)) (turn_later names place.declarations low) (statements_lead block))) place h in
        record { from = led.from; next = led.next }
    statement_leads line (function_statement path method body) = both_lead (path_leads line path) (body_leads (is_some method) body)
    statement_leads line (local_function name body) = λ place h.
        let led = both_lead (declares_leads line 0 (name ∷ [])) (both_lead (come_leads 0 (name ∷ []) place.declarations h.declarations) (body_leads false body)) place h in
        record { from = led.from; next = led.next }
    statement_leads line (local_statement names es) = λ place h.
        let led = both_lead (declares_leads line 0 names) (both_lead (expressions_lead es) (come_leads 0 names place.declarations h.declarations)) place h in
        record { from = led.from; next = led.next }
    statement_leads line (return_statement es) = expressions_lead es
    statement_leads line break_statement = λ place h. record { from = tt; next = h }

    pub branches_lead : (branches : Branches) → Leads (branches_part branches)
    branches_lead no_branches = nothing_leads
    branches_lead (branch cond block rest) = both_lead (expression_leads cond) (both_lead (inner_leads stay (λ place h. h) (statements_lead block)) (branches_lead rest))

    pub otherwise_leads : (last : Otherwise) → Leads (otherwise_part last)
    otherwise_leads no_otherwise = nothing_leads
    otherwise_leads (otherwise block) = inner_leads stay (λ place h. h) (statements_lead block)

    pub step_leads : (step : ForStep) → Leads (step_part step)
    step_leads no_step = nothing_leads
    step_leads (by_step e) = expression_leads e

    pub body_leads : (method : Bool) (body : FunctionBody) → Leads (body_part method body)
    body_leads method (function_body params vararg block first last) = λ place h.
        let led = inner_leads (in_function vararg) (opened_later vararg) (inside_leads params vararg block first last method (statements_lead block)) place h in
        record { from = led.from; next = led.next }

    pub expressions_lead : (es : Expressions) → Leads (expressions_part es)
    expressions_lead no_expressions = nothing_leads
    expressions_lead (syntax.expression e rest) = both_lead (expression_leads e) (expressions_lead rest)

    pub expression_leads : (e : Expression) → Leads (expression_part e)
    expression_leads (nil_literal line) = nothing_leads
    expression_leads (true_literal line) = nothing_leads
    expression_leads (false_literal line) = nothing_leads
    expression_leads (vararg_expression line) = λ place h. record { from = tt; next = h }
    expression_leads (number_literal line n) = nothing_leads
    expression_leads (text_literal line text) = nothing_leads
    expression_leads (name_expression line name) = mentions_lead line name
    expression_leads (function_expression line body) = body_leads false body
    expression_leads (index_expression line on key) = both_lead (expression_leads on) (expression_leads key)
    expression_leads (field_expression line on name) = expression_leads on
    expression_leads (call_expression line on args on_line) = both_lead (expression_leads on) (arguments_lead args)
    expression_leads (method_call line on name args on_line) = both_lead (expression_leads on) (arguments_lead args)
    expression_leads (and_expression line left right) = both_lead (expression_leads left) (expression_leads right)
    expression_leads (or_expression line left right) = both_lead (expression_leads left) (expression_leads right)
    expression_leads (binary_expression line op left right) = both_lead (expression_leads left) (expression_leads right)
    expression_leads (unary_expression line op of) = expression_leads of
    expression_leads (constructor line fields) = fields_lead fields
    expression_leads (parenthesized line e) = expression_leads e

    pub arguments_lead : (args : Arguments) → Leads (arguments_part args)
    arguments_lead (argument_list es) = expressions_lead es
    arguments_lead (text_argument text) = nothing_leads
    arguments_lead (table_argument fields) = fields_lead fields

    pub fields_lead : (fields : Fields) → Leads (fields_part fields)
    fields_lead no_fields = nothing_leads
    fields_lead (positional e separator rest) = both_lead (expression_leads e) (fields_lead rest)
    fields_lead (named name e separator rest) = both_lead (expression_leads e) (fields_lead rest)
    fields_lead (keyed key e separator rest) = both_lead (both_lead (expression_leads key) (expression_leads e)) (fields_lead rest)

-- a place is behind itself
pub same_place : (place : Place) → Later place place
same_place place = record { declarations = omega arith; scope = λ name b e. inl (name, e) }
