-- A function in which a name is not free has the same marks whether the name is declared before it or behind it.
use Rattle.std.proofs.Common.{◌≡◌, ℕ, suc, ◌+◌, Bool, true, false, not, ◌&&◌, ◌||◌, List, [], ◌∷◌, ◌++◌, append-nil, length, Option, Some, is_some, refl, sym, ap, ap₂, ◌∙◌, subst}
use Rattle.std.specs.Prelude.{if◌then◌else◌}
use Rattle.std.specs.Str.{bytes_eq}
use Rattle.std.proofs.Math.Bool.{or-false}
use Rattle.std.proofs.lemmas.Bool.{or_parts}
use Rattle.std.proofs.lemmas.Slice.Eq.{bytes_eq-Decides}
use Rattle.lua_num.specs.Bytes.{Text}
use Rattle.lua_tree.specs.Outline.{Binding, Mark, Part, Place, Scope, Walk, all_params, arguments_part, body_part, both, branches_part, come, declares, dots, expression_part, expressions_part, fields_part, in_function, in_loop, innermost, leave, marked, mention, mentions, nothing, opened, otherwise_part, path_part, statement_part, statements_part, stay, step_part, with_locals, with_name, with_names, within}
use Rattle.lua_tree.specs.Syntax as syntax
use Rattle.lua_tree.specs.Syntax.{Arguments, argument_list, text_argument, table_argument, Branches, no_branches, branch, Otherwise, no_otherwise, otherwise, ForStep, no_step, by_step, Expression, Expressions, no_expressions, Fields, no_fields, positional, named, keyed, FunctionBody, function_body, Statement, Statements, no_statements, assignment, call_statement, do_block, while_loop, repeat_loop, if_statement, numeric_for, generic_for, function_statement, local_function, local_statement, return_statement, break_statement, nil_literal, true_literal, false_literal, vararg_expression, number_literal, text_literal, name_expression, function_expression, index_expression, field_expression, call_expression, method_call, and_expression, or_expression, binary_expression, unary_expression, constructor, parenthesized}
use Rattle.scheme_stands.specs.Words.{is_among}
use Rattle.reads_back.proofs.FreeNames.{begins_with, brings, brings_in_block, free_in, free_in_all, free_in_block, free_in_body, free_in_branches, free_in_fields, free_in_given, free_in_statement, free_in_step, free_otherwise}

-- ---- scopes that say the same of any other name

abbrev AgreeBut : Text → Scope → Scope → Type 0
AgreeBut text one other = (name : Text) → bytes_eq text name ≡ false → one name ≡ other name

name_agrees : (text name : Text) (binding : Binding) (one other : Scope) → AgreeBut text one other → AgreeBut text (with_name name binding one) (with_name name binding other)
name_agrees text name binding one other agree at apart = by (bytes_eq name at)
  where
    by : (is : Bool) → (if is then Some binding else one at) ≡ (if is then Some binding else other at)
    by true = refl
    by false = agree at apart

names_agree : (text : Text) (names : List Text) (number home : ℕ) (one other : Scope) → AgreeBut text one other → AgreeBut text (with_names names number home one) (with_names names number home other)
names_agree text [] number home one other agree = agree
names_agree text (name ∷ names) number home one other agree =
    let binding : Binding = record { declaration = number; home = home } in
    names_agree text names (suc number) home (with_name name binding one) (with_name name binding other) (name_agrees text name binding one other agree)

-- once the name itself is declared, they say the same of all
name_same : (text name : Text) (binding : Binding) (one other : Scope) → text ≡ name → AgreeBut text one other → with_name name binding one ≡ with_name name binding other
name_same text name binding one other same agree = λ i at. by at (bytes_eq name at) refl i
  where
    by : (at : Text) (is : Bool) → bytes_eq name at ≡ is → (if is then Some binding else one at) ≡ (if is then Some binding else other at)
    by at true is = refl
    by at false apart = agree at (ap (λ (name : Text). bytes_eq name at) same ∙ apart)

names_same : (text : Text) (names : List Text) (number home : ℕ) (one other : Scope) → is_among text names ≡ true → AgreeBut text one other → with_names names number home one ≡ with_names names number home other
names_same text [] number home one other among agree = cc
names_same text (name ∷ names) number home one other among agree =
    let binding : Binding = record { declaration = number; home = home } in
    by (bytes_eq text name) refl among (λ among. names_same text names (suc number) home (with_name name binding one) (with_name name binding other) among (name_agrees text name binding one other agree))
  where
    by : (is : Bool) → bytes_eq text name ≡ is → (is || is_among text names) ≡ true → (is_among text names ≡ true → with_names (name ∷ names) number home one ≡ with_names (name ∷ names) number home other) → with_names (name ∷ names) number home one ≡ with_names (name ∷ names) number home other
    by true is among later = ap (with_names names (suc number) home) (name_same text name (record { declaration = number; home = home }) one other ((bytes_eq-Decides text name).0 is) agree)
    by false is among later = later among

module _ (text : Text) where
  -- ---- places of which the name alone means two things

  record Alike (P Q : Place) : Type 0 where
    scopes : AgreeBut text P.scope Q.scope
    others : record P { scope = Q.scope } ≡ Q

  -- behind a declaration of the name the places are the same
  abbrev Behind : (brought : Bool) → Place → Place → Type 0
  Behind true P Q = P ≡ Q
  Behind false P Q = Alike P Q

  record WalksAlike (brought : Bool) (one other : Walk) : Type 0 where
    marks : one.marks ≡ other.marks
    next : Behind brought one.next other.next

  -- a part that does not mention the name, and may declare it
  abbrev Leads : (brought : Bool) → Part → Type 0
  Leads brought part = (P Q : Place) → Alike P Q → WalksAlike brought (part P) (part Q)

  abbrev Unmoved : Part → Type 0
  Unmoved part = Leads false part

  -- a part whose scope ends with it
  record EndsAlike (one other : Walk) : Type 0 where
    marks : one.marks ≡ other.marks
    declarations : one.next.declarations ≡ other.next.declarations
    functions : one.next.functions ≡ other.next.functions

  abbrev Ends : Part → Type 0
  Ends part = (P Q : Place) → Alike P Q → EndsAlike (part P) (part Q)

  -- ---- parts

  nothing_unmoved : Unmoved nothing
  nothing_unmoved P Q alike = record { marks = refl; next = alike }

  both_lead : {brought : Bool} {one other : Part} → Unmoved one → Leads brought other → Leads brought (both one other)
  both_lead {brought} {one} {other} first second P Q alike =
      let before = first P Q alike in
      let behind = second (one P).next (one Q).next before.next in
      record { marks = ap₂ (λ (marks more : List Mark). marks ++ more) before.marks behind.marks; next = behind.next }

  -- what stands behind a declaration of the name may mention it
  led_same : {one : Part} (other : Part) → Leads true one → Leads true (both one other)
  led_same {one} other first P Q alike =
      let before = first P Q alike in
      record { marks = ap₂ (λ (marks more : List Mark). marks ++ more) before.marks (ap (λ (place : Place). (other place).marks) before.next); next = ap (λ (place : Place). (other place).next) before.next }

  -- one part, and another that mentions the name only where the first declares it
  led : (brought free more : Bool) {one other : Part} → (not brought && free) ≡ false → Leads brought one → (free ≡ false → Leads more other) → Leads (brought || more) (both one other)
  led true free more {one} {other} none first second = led_same other first
  led false free more none first second = both_lead first (second none)

  -- so where its scope ends, whether it declares the name or not
  leads_end : (brought : Bool) {part : Part} → Leads brought part → Ends part
  leads_end true leads P Q alike =
      let walk = leads P Q alike in
      record { marks = walk.marks; declarations = ap (λ (place : Place). place.declarations) walk.next; functions = ap (λ (place : Place). place.functions) walk.next }
  leads_end false leads P Q alike =
      let walk = leads P Q alike in
      record { marks = walk.marks; declarations = ap (λ (place : Place). place.declarations) walk.next.others; functions = ap (λ (place : Place). place.functions) walk.next.others }

  marked_unmoved : (mark : Place → Mark) → ((P : Place) (scope : Scope) → mark P ≡ mark (record P { scope = scope })) → Unmoved (marked mark)
  marked_unmoved mark same P Q alike = record { marks = ap (λ (mark : Mark). mark ∷ []) (same P Q.scope ∙ ap mark alike.others); next = alike }

  mentions_unmoved : (line : ℕ) (name : Text) → bytes_eq text name ≡ false → Unmoved (mentions line name)
  mentions_unmoved line name apart P Q alike =
      record { marks = ap₂ (λ (means : Option Binding) (around : List ℕ). mention line name means around ∷ []) (alike.scopes name apart) (ap (λ (place : Place). place.around) alike.others); next = alike }

  declares_unmoved : (line hidden : ℕ) (names : List Text) → Unmoved (declares line hidden names)
  declares_unmoved line hidden names P Q alike = record {
    marks = ap (λ (place : Place). (declares line hidden names place).marks) alike.others;
    next = record { scopes = alike.scopes; others = ap (λ (place : Place). (declares line hidden names place).next) alike.others };
  }

  come_leads : (hidden : ℕ) (names : List Text) (number : ℕ) (brought : Bool) → is_among text names ≡ brought → Leads brought (come hidden names number)
  come_leads hidden names number true among P Q alike =
      let scopes = names_same text names number (innermost P.around) P.scope Q.scope among alike.scopes in
      record { marks = refl; next = ap (λ (scope : Scope). record P { scope = scope; active = P.active + hidden + length names }) scopes ∙ ap (with_locals hidden names number) alike.others }
  come_leads hidden names number false among P Q alike = record {
    marks = refl;
    next = record {
      scopes = subst (λ (home : ℕ). AgreeBut text (with_names names number (innermost P.around) P.scope) (with_names names number home Q.scope)) (ap (λ (place : Place). innermost place.around) alike.others) (names_agree text names number (innermost P.around) P.scope Q.scope alike.scopes);
      others = ap (λ (place : Place). record place { scope = with_names names number (innermost Q.around) Q.scope; active = place.active + hidden + length names }) alike.others;
    };
  }

  -- a part by the number of declarations before it
  placed : (R : Walk → Walk → Type 0) (part : ℕ → Part) → ((number : ℕ) (P Q : Place) → Alike P Q → R (part number P) (part number Q)) → (P Q : Place) → Alike P Q → R (part P.declarations P) (part Q.declarations Q)
  placed R part each P Q alike = subst (λ (number : ℕ). R (part P.declarations P) (part number Q)) (ap (λ (place : Place). place.declarations) alike.others) (each P.declarations P Q alike)

  -- ---- scopes that end

  -- no marks, and another place
  abbrev entering : (Place → Place) → Part
  entering enter place = nothing (enter place)

  -- a part whose scope ends, with the place that it begins at
  within_unmoved : (enter : Place → Place) (part : Part) → Ends (both (entering enter) part) → Unmoved (within enter part)
  within_unmoved enter part ends P Q alike =
      let inside = ends P Q alike in
      record { marks = inside.marks; next = record { scopes = alike.scopes; others = λ i. record (alike.others i) { declarations = inside.declarations i; functions = inside.functions i } } }

  -- inside a loop
  in_loop_leads : Unmoved (entering in_loop)
  in_loop_leads P Q alike = record { marks = refl; next = record { scopes = alike.scopes; others = ap in_loop alike.others } }

  -- inside a function
  in_function_leads : (vararg : Bool) → Unmoved (entering (in_function vararg))
  in_function_leads vararg P Q alike = record { marks = refl; next = record { scopes = alike.scopes; others = ap (in_function vararg) alike.others } }

  -- inside a loop with variables, of which the name may be one
  variables_lead : (names : List Text) (number : ℕ) (brought : Bool) → is_among text names ≡ brought → Leads brought (entering (λ inside. in_loop (with_locals 3 names number inside)))
  variables_lead names number true among = led_same (entering in_loop) (come_leads 3 names number true among)
  variables_lead names number false among = both_lead (come_leads 3 names number false among) in_loop_leads

  -- where the name is not free in a block, the block leads on with what it declares
  abbrev BlockLeads : Statements → Type 0
  BlockLeads block = free_in_block text block ≡ false → Leads (brings_in_block text block) (statements_part block)

  -- a block at whose beginning the name may be declared anew
  block_unmoved : (enter : Place → Place) (brought : Bool) (block : Statements) → (not brought && free_in_block text block) ≡ false → Leads brought (entering enter) → BlockLeads block →
      Unmoved (within enter (statements_part block))
  block_unmoved enter brought block none enters leads =
      let more = brings_in_block text block in
      within_unmoved enter (statements_part block) (leads_end (brought || more) (led brought (free_in_block text block) more none enters leads))

  -- ---- functions

  abbrev inside_part : (method : Bool) → (params : List Text) → Statements → (first : ℕ) → Part
  inside_part method params block first place = both (declares first 0 (all_params method params)) (both (come 0 (all_params method params) place.declarations) (statements_part block)) place

  -- one of its parameters may have the name
  inside_ends : (method : Bool) (params : List Text) (block : Statements) (first : ℕ) → (not (is_among text (all_params method params)) && free_in_block text block) ≡ false → BlockLeads block →
      Ends (inside_part method params block first)
  inside_ends method params block first none leads =
      let names = all_params method params in
      let brought = is_among text names in
      let more = brings_in_block text block in
      placed EndsAlike (λ (number : ℕ). both (declares first 0 names) (both (come 0 names number) (statements_part block)))
      (λ number. leads_end (brought || more) (both_lead (declares_unmoved first 0 names) (led brought (free_in_block text block) more none (come_leads 0 names number brought refl) leads)))

  function_unmoved : (method : Bool) (params : List Text) (vararg : Bool) (block : Statements) (first last : ℕ) → Ends (inside_part method params block first) → Unmoved (body_part method (function_body params vararg block first last))
  function_unmoved method params vararg block first last ends =
      both_lead (marked_unmoved (λ place. opened (innermost place.around)) (λ P scope. refl))
      (within_unmoved (in_function vararg) (inside_part method params block first) (λ P Q alike. ends (in_function vararg P) (in_function vararg Q) (in_function_leads vararg P Q alike).next))

  -- ---- statements

  path_unmoved : (line : ℕ) (path : List Text) → begins_with text path ≡ false → Unmoved (path_part line path)
  path_unmoved line [] none = nothing_unmoved
  path_unmoved line (name ∷ fields) none = mentions_unmoved line name none

  local_function_leads : (line : ℕ) (name : Text) (body : FunctionBody) (brought : Bool) → bytes_eq text name ≡ brought → (not brought && free_in_body text false body) ≡ false → (free_in_body text false body ≡ false → Unmoved (body_part false body)) → Leads brought (statement_part line (local_function name body))
  local_function_leads line name body true is none unmoved =
      placed (WalksAlike true) (λ (number : ℕ). both (declares line 0 (name ∷ [])) (both (come 0 (name ∷ []) number) (body_part false body)))
      (λ number. both_lead (declares_unmoved line 0 (name ∷ [])) (led_same (body_part false body) (come_leads 0 (name ∷ []) number true (ap (λ is. is || false) is))))
  local_function_leads line name body false is none unmoved =
      placed (WalksAlike false) (λ (number : ℕ). both (declares line 0 (name ∷ [])) (both (come 0 (name ∷ []) number) (body_part false body)))
      (λ number. both_lead (declares_unmoved line 0 (name ∷ [])) (both_lead (come_leads 0 (name ∷ []) number false (ap (λ is. is || false) is)) (unmoved none)))

  local_leads : (line : ℕ) (names : List Text) (es : Expressions) → Unmoved (expressions_part es) → Leads (is_among text names) (statement_part line (local_statement names es))
  local_leads line names es unmoved =
      placed (WalksAlike (is_among text names)) (λ (number : ℕ). both (declares line 0 names) (both (expressions_part es) (come 0 names number)))
      (λ number. both_lead (declares_unmoved line 0 names) (both_lead unmoved (come_leads 0 names number (is_among text names) refl)))

  -- the condition of a `repeat` sees the locals of its block
  repeat_unmoved : (line : ℕ) (block : Statements) (e : Expression) → free_in_block text block ≡ false → (not (brings_in_block text block) && free_in text e) ≡ false → BlockLeads block →
      (free_in text e ≡ false → Unmoved (expression_part e)) → Unmoved (statement_part line (repeat_loop block e))
  repeat_unmoved line block e inside none leads unmoved =
      let brought = brings_in_block text block in
      within_unmoved in_loop (both (statements_part block) (expression_part e))
      (leads_end (brought || false) (both_lead in_loop_leads (led brought (free_in text e) false none (leads inside) unmoved)))

  -- the values of a `for` and its block
  abbrev for_part : (line : ℕ) → List Text → (values : Part) → Statements → Part
  for_part line names values block place =
      both (declares line 3 names) (both values (within (λ inside. in_loop (with_locals 3 names place.declarations inside)) (statements_part block))) place

  -- one of its variables may have the name
  for_unmoved : (line : ℕ) (names : List Text) (values : Part) (block : Statements) → (not (is_among text names) && free_in_block text block) ≡ false → Unmoved values → BlockLeads block →
      Unmoved (for_part line names values block)
  for_unmoved line names values block none unmoved leads =
      let enter : ℕ → Place → Place = λ number inside. in_loop (with_locals 3 names number inside) in
      placed (WalksAlike false) (λ (number : ℕ). both (declares line 3 names) (both values (within (enter number) (statements_part block))))
      (λ number.
      let block_there = block_unmoved (enter number) (is_among text names) block none (variables_lead names number (is_among text names) refl) leads in
      both_lead (declares_unmoved line 3 names) (both_lead unmoved block_there))

  -- with one variable
  only_one : (name : Text) (free : Bool) → (not (bytes_eq text name) && free) ≡ false → (not (is_among text (name ∷ [])) && free) ≡ false
  only_one name free = subst (λ (brought : Bool). (not brought && free) ≡ false) (sym (or-false (bytes_eq text name)))

  mutual
    expression_unmoved : (e : Expression) → free_in text e ≡ false → Unmoved (expression_part e)
    expression_unmoved (nil_literal line) none = nothing_unmoved
    expression_unmoved (true_literal line) none = nothing_unmoved
    expression_unmoved (false_literal line) none = nothing_unmoved
    expression_unmoved (vararg_expression line) none = marked_unmoved (λ place. dots line place.vararg) (λ P scope. refl)
    expression_unmoved (number_literal line n) none = nothing_unmoved
    expression_unmoved (text_literal line it) none = nothing_unmoved
    expression_unmoved (name_expression line name) none = mentions_unmoved line name none
    expression_unmoved (function_expression line body) none = body_unmoved false body none
    expression_unmoved (index_expression line on key) none = let parts = or_parts (free_in text on) _ none in both_lead (expression_unmoved on parts.0) (expression_unmoved key parts.1)
    expression_unmoved (field_expression line on name) none = expression_unmoved on none
    expression_unmoved (call_expression line on args on_line) none = let parts = or_parts (free_in text on) _ none in both_lead (expression_unmoved on parts.0) (arguments_unmoved args parts.1)
    expression_unmoved (method_call line on name args on_line) none = let parts = or_parts (free_in text on) _ none in both_lead (expression_unmoved on parts.0) (arguments_unmoved args parts.1)
    expression_unmoved (and_expression line left right) none = let parts = or_parts (free_in text left) _ none in both_lead (expression_unmoved left parts.0) (expression_unmoved right parts.1)
    expression_unmoved (or_expression line left right) none = let parts = or_parts (free_in text left) _ none in both_lead (expression_unmoved left parts.0) (expression_unmoved right parts.1)
    expression_unmoved (binary_expression line op left right) none = let parts = or_parts (free_in text left) _ none in both_lead (expression_unmoved left parts.0) (expression_unmoved right parts.1)
    expression_unmoved (unary_expression line op e) none = expression_unmoved e none
    expression_unmoved (constructor line fields) none = fields_unmoved fields none
    expression_unmoved (parenthesized line e) none = expression_unmoved e none

    arguments_unmoved : (args : Arguments) → free_in_given text args ≡ false → Unmoved (arguments_part args)
    arguments_unmoved (argument_list es) none = expressions_unmoved es none
    arguments_unmoved (text_argument it) none = nothing_unmoved
    arguments_unmoved (table_argument fields) none = fields_unmoved fields none

    fields_unmoved : (fields : Fields) → free_in_fields text fields ≡ false → Unmoved (fields_part fields)
    fields_unmoved no_fields none = nothing_unmoved
    fields_unmoved (positional e separator rest) none = let parts = or_parts (free_in text e) _ none in both_lead (expression_unmoved e parts.0) (fields_unmoved rest parts.1)
    fields_unmoved (named name e separator rest) none = let parts = or_parts (free_in text e) _ none in both_lead (expression_unmoved e parts.0) (fields_unmoved rest parts.1)
    fields_unmoved (keyed key e separator rest) none =
        let parts = or_parts (free_in text key || free_in text e) _ none in
        let item = or_parts (free_in text key) _ parts.0 in
        both_lead (both_lead (expression_unmoved key item.0) (expression_unmoved e item.1)) (fields_unmoved rest parts.1)

    expressions_unmoved : (es : Expressions) → free_in_all text es ≡ false → Unmoved (expressions_part es)
    expressions_unmoved no_expressions none = nothing_unmoved
    expressions_unmoved (syntax.expression e es) none = let parts = or_parts (free_in text e) _ none in both_lead (expression_unmoved e parts.0) (expressions_unmoved es parts.1)

    body_unmoved : (method : Bool) (body : FunctionBody) → free_in_body text method body ≡ false → Unmoved (body_part method body)
    body_unmoved method (function_body params vararg block first last) none =
        function_unmoved method params vararg block first last (inside_ends method params block first none (λ none. block_leads block none))

    block_leads : (block : Statements) → BlockLeads block
    block_leads no_statements none = nothing_unmoved
    block_leads (syntax.statement line semi s rest) none =
        let parts = or_parts (free_in_statement text s) _ none in
        led (brings text s) (free_in_block text rest) (brings_in_block text rest) parts.1 (statement_leads line s parts.0) (λ none. block_leads rest none)

    statement_leads : (line : ℕ) (s : Statement) → free_in_statement text s ≡ false → Leads (brings text s) (statement_part line s)
    statement_leads line (call_statement e) none = expression_unmoved e none
    statement_leads line (assignment targets es) none = let parts = or_parts (free_in_all text targets) _ none in both_lead (expressions_unmoved targets parts.0) (expressions_unmoved es parts.1)
    statement_leads line (local_statement names es) none = local_leads line names es (expressions_unmoved es none)
    statement_leads line (return_statement es) none = expressions_unmoved es none
    statement_leads line (function_statement path method body) none = let parts = or_parts (begins_with text path) _ none in both_lead (path_unmoved line path parts.0) (body_unmoved (is_some method) body parts.1)
    statement_leads line (local_function name body) none = local_function_leads line name body (bytes_eq text name) refl none (λ none. body_unmoved false body none)
    statement_leads line (do_block block) none = block_unmoved stay false block none nothing_unmoved (λ none. block_leads block none)
    statement_leads line (while_loop e block) none =
        let parts = or_parts (free_in text e) _ none in both_lead (expression_unmoved e parts.0) (block_unmoved in_loop false block parts.1 in_loop_leads (λ none. block_leads block none))
    statement_leads line (repeat_loop block e) none =
        let parts = or_parts (free_in_block text block) _ none in repeat_unmoved line block e parts.0 parts.1 (λ none. block_leads block none) (λ none. expression_unmoved e none)
    statement_leads line (if_statement branches last) none =
        let parts = or_parts (free_in_branches text branches) _ none in both_lead (branches_unmoved branches parts.0) (otherwise_unmoved last parts.1)
    statement_leads line (numeric_for name first last by block) none =
        let parts = or_parts (free_in text first) _ none in
        let more = or_parts (free_in text last) _ parts.1 in
        let others = or_parts (free_in_step text by) _ more.1 in
        for_unmoved line (name ∷ []) (both (expression_part first) (both (expression_part last) (step_part by))) block (only_one name (free_in_block text block) others.1)
        (both_lead (expression_unmoved first parts.0) (both_lead (expression_unmoved last more.0) (for_step_unmoved by others.0))) (λ none. block_leads block none)
    statement_leads line (generic_for names es block) none =
        let parts = or_parts (free_in_all text es) _ none in for_unmoved line names (expressions_part es) block parts.1 (expressions_unmoved es parts.0) (λ none. block_leads block none)
    statement_leads line break_statement none = marked_unmoved (λ place. leave line place.looped) (λ P scope. refl)

    branches_unmoved : (branches : Branches) → free_in_branches text branches ≡ false → Unmoved (branches_part branches)
    branches_unmoved no_branches none = nothing_unmoved
    branches_unmoved (branch e block rest) none =
        let parts = or_parts (free_in text e || free_in_block text block) _ none in
        let arm = or_parts (free_in text e) _ parts.0 in
        both_lead (expression_unmoved e arm.0) (both_lead (block_unmoved stay false block arm.1 nothing_unmoved (λ none. block_leads block none)) (branches_unmoved rest parts.1))

    otherwise_unmoved : (last : Otherwise) → free_otherwise text last ≡ false → Unmoved (otherwise_part last)
    otherwise_unmoved no_otherwise none = nothing_unmoved
    otherwise_unmoved (otherwise block) none = block_unmoved stay false block none nothing_unmoved (λ none. block_leads block none)

    for_step_unmoved : (by : ForStep) → free_in_step text by ≡ false → Unmoved (step_part by)
    for_step_unmoved no_step none = nothing_unmoved
    for_step_unmoved (by_step e) none = expression_unmoved e none

-- the name comes into scope before the function, or behind it
pub unfree_part : (text : Text) (body : FunctionBody) → free_in_body text false body ≡ false → (d : ℕ) (here : Place) → both (come 0 (text ∷ []) d) (body_part false body) here ≡ both (body_part false body) (come 0 (text ∷ []) d) here
unfree_part text (function_body params vararg block first last) none d here =
    let later = with_locals 0 (text ∷ []) d here in
    let ends = inside_ends text false params block first none (block_leads text block) (in_function vararg here) (in_function vararg later) (record { scopes = agree; others = refl }) in
    let inside = inside_part text false params block first in
    let mark = opened (innermost here.around) in
    λ i. record {
      marks = (ap (λ (marks : List Mark). mark ∷ marks) (sym ends.marks) ∙ sym (append-nil (mark ∷ (inside (in_function vararg here)).marks))) i;
      next = record later { declarations = sym ends.declarations i; functions = sym ends.functions i };
    }
  where
    agree : AgreeBut text here.scope (with_names (text ∷ []) d (innermost here.around) here.scope)
    agree name apart = ap (λ (is : Bool). if is then Some (record { declaration = d; home = innermost here.around }) else here.scope name) (sym apart)
