-- A part at its place in the source is handed on to its parts: to the first, to the second behind its words, inside, and into a function.
use Rattle.std.proofs.Common.{◌≡◌, ℕ, Bool, true, false, List, [], ◌∷◌, ◌++◌, drop, refl, sym, ap, ◌∙◌, subst, append_assoc, ◌≤◌, length, arith, ◌+◌}
use Rattle.std.specs.Prelude.{Option, Some, None, ◌==◌}
use Rattle.std.proofs.lemmas.Bool.{eqb-true, eq-eqb}
use Rattle.lua_num.specs.Bytes.{Text}
use Rattle.lua_tree.specs.Outline as outline
use Rattle.lua_tree.specs.Outline.{Binding, Mark, mention, Place, innermost, both, within, mentions, nothing, stay, in_loop, with_locals, in_function, beginning, outline, statements_part, statement_part, expressions_part, expression_part, body_part, come, declares, path_part, all_params, step_part, branches_part, otherwise_part, arguments_part, fields_part}
use Rattle.lua_tree.specs.Scoping.{use_in, uses_by, upvalues_of}
use Rattle.lua_tree.specs.Syntax.{Source, Statements, Statement, Expressions, Expression, FunctionBody, function_body, Branches, Otherwise, ForStep, Arguments, Fields, local_statement, local_function, numeric_for, generic_for}
use Rattle.scheme.specs.Making.{Ahead, head_or, where_is}
use Rattle.scheme.specs.Scheme.{ahead_of}
use Rattle.scheme.specs.declared.making.Active.{Active}
use Rattle.scheme.specs.declared.making.Local.{Local}
use Rattle.lua_tree.specs.Resolved.{resolved}
use Rattle.scheme_stands.specs.Words.{Spot, meaning}
use Rattle.scheme_stands.specs.Functions.{Declared}
use Rattle.scheme_stands.specs.Places.{ahead_at, Moves, Counted, Closed, Reached, ScopeAt, ActiveAt, Here, inside_part, Seen, NameIs, own, upvalue, nothing_is, CaptureIs, own_local, own_upvalue, CapturesAre}
use Rattle.scheme_stands.proofs.Apart.{Keeps, apart_all, apart_as, apart_first, apart_function, apart_second, apart_within, good_itself, keeps_both, keeps_come, keeps_more, keeps_own, keeps_turn, keeps_within}
use Rattle.scheme_stands.proofs.KnownMarks.{arguments_lead, body_leads, branches_lead, declares_leads, expression_leads, expressions_lead, fields_lead, nothing_leads, otherwise_leads, path_leads, same_place, statement_leads, statements_lead, step_leads}
use Rattle.scheme_stands.proofs.LowMentions.{low_arguments, low_body, low_branches, low_declares, low_expression, low_expressions, low_fields, low_nothing, low_otherwise, low_path, low_statement, low_statements, low_step}
use Rattle.scheme_stands.proofs.Counting.{counted_row, closed_inner, closed_still, come_counted, path_closed, declares_closed, statements_counted, statement_counted, branches_closed, otherwise_closed, step_closed, body_closed, expressions_closed, expression_closed, arguments_closed, fields_closed, values_closed}
use Rattle.scheme_stands.proofs.Entering.{behind_name, in_numeric, in_generic, entered_by}
use Rattle.scheme_stands.proofs.Origins.{Start, Walked, Walks, bare, bare_start, passes_by, walked_row, walked_inner, walked_still, declares_walked, come_walked, path_walked, start_loop, start_with, statements_walked, statement_walked, branches_walked, otherwise_walked, step_walked, arguments_walked, fields_walked, expressions_walked, expression_walked, body_walked, between_first, between_second, between_within, between_as, between_function, between_all}
use Rattle.scheme_stands.proofs.Upvalues.{AllBindings, KnownAround, upvalues_seen, upvalues_known}
use Rattle.scheme_stands.proofs.Locals.{scope_first, closed_scope, entered_scope, local_is, upvalue_at, global_at, names_scope}
use Rattle.scheme_stands.proofs.Names.{begins, name_means, upvalue_is, sources_are, slot_stands}
use Rattle.scheme_stands.proofs.Walks.{opened_ahead, declared_moves}

-- a part that counts and walks, wherever it stands, where the names that it brings from outside are declared before a number
pub record TameBy (bound : ℕ) (part : outline.Part) : Type 0 where
  pub counted : (place : Place) → Counted part place
  pub walked : (base place : Place) → base.declarations ≡ 0 → Start base place → Walked base part place
  pub keeps : Keeps bound part

-- one that brings none
abbrev pub Tame : outline.Part → Type 0
Tame part = TameBy 0 part

pub tame_more : {bound : ℕ} {part : outline.Part} → Tame part → TameBy bound part
tame_more t = record { counted = t.counted; walked = t.walked; keeps = keeps_more t.keeps }

pub walks : {bound : ℕ} (part : outline.Part) (place : Place) → TameBy bound part → Walks part place
walks part place t h = passes_by part place (t.walked (bare place) place refl (bare_start place h))

pub tame_both : {bound : ℕ} (a b : outline.Part) → TameBy bound a → TameBy bound b → TameBy bound (both a b)
tame_both a b s t = record {
  counted = λ place. counted_row a b place (s.counted place) (t.counted (a place).next);
  walked = λ base place z h. let w = s.walked base place z h in walked_row base a b place w (t.walked base (a place).next z (w.derived, w.around));
  keeps = keeps_both s.keeps t.keeps;
}

pub tame_nothing : Tame nothing
tame_nothing = record { counted = λ place. (closed_still place).counted; walked = λ base place z h. walked_still base place h; keeps = keeps_own (low_nothing) (λ place. nothing_leads place place (same_place place)) }

pub tame_declares : (line hidden : ℕ) (names : List Text) → Tame (declares line hidden names)
tame_declares line hidden names = record { counted = λ place. (declares_closed line hidden names place).counted; walked = λ base place z h. declares_walked base line hidden names place h; keeps = keeps_own (low_declares line hidden names) (λ place. declares_leads place line hidden names place (same_place place)) }

pub tame_come : (hidden : ℕ) (names : List Text) (number : ℕ) → TameBy (number + length names) (come hidden names number)
tame_come hidden names number = record { counted = come_counted hidden names number; walked = λ base place z h. come_walked base hidden names number place (omega (arith, z)) h; keeps = keeps_come hidden names number }

pub tame_path : (line : ℕ) (path : List Text) → Tame (path_part line path)
tame_path line path = record { counted = λ place. (path_closed line path place).counted; walked = λ base place z h. path_walked base line path place h; keeps = keeps_own (low_path line path) (λ place. path_leads place line path place (same_place place)) }

pub tame_stay : (part : outline.Part) → Tame part → Tame (within stay part)
tame_stay part t = record { counted = λ place. (closed_inner stay part place refl refl (t.counted place)).counted; walked = λ base place z h. walked_inner base stay part place refl refl h (t.walked base place z h); keeps = keeps_within stay (λ place. refl) (λ place more low. low) (λ from base place more good. good) t.keeps }

pub tame_loop : (part : outline.Part) → Tame part → Tame (within in_loop part)
tame_loop part t = record { counted = λ place. (closed_inner in_loop part place refl refl (t.counted (in_loop place))).counted; walked = λ base place z h. walked_inner base in_loop part place refl refl h (t.walked base (in_loop place) z (start_loop base place h)); keeps = keeps_within in_loop (λ place. refl) (λ place more low. low) (λ from base place more good. record { declarations = good.declarations; scope = good.scope }) t.keeps }

-- a loop's block with its variables
abbrev pub turn_in : (names : List Text) (number : ℕ) → Place → Place
turn_in names number inside = in_loop (with_locals 3 names number inside)

pub tame_turn : (names : List Text) (number : ℕ) (part : outline.Part) → Tame part → TameBy (number + length names) (within (turn_in names number) part)
tame_turn names number part t = record {
  counted = λ place. (closed_inner (turn_in names number) part place refl refl (t.counted (turn_in names number place))).counted;
  walked = λ base place z h. walked_inner base (turn_in names number) part place refl refl h (t.walked base (turn_in names number place) z (start_with base place names number (omega (arith, z)) h));
  keeps = keeps_turn 3 names number t.keeps;
}

pub tame_statements : (ss : Statements) → Tame (statements_part ss)
tame_statements ss = record { counted = statements_counted ss; walked = λ base place z h. statements_walked base ss place h; keeps = keeps_own (low_statements ss) (λ place. statements_lead place ss place (same_place place)) }

pub tame_statement : (line : ℕ) (s : Statement) → Tame (statement_part line s)
tame_statement line s = record { counted = statement_counted line s; walked = λ base place z h. statement_walked base line s place h; keeps = keeps_own (low_statement line s) (λ place. statement_leads place line s place (same_place place)) }

pub tame_expression : (e : Expression) → Tame (expression_part e)
tame_expression e = record { counted = λ place. (expression_closed e place).counted; walked = λ base place z h. expression_walked base e place h; keeps = keeps_own (low_expression e) (λ place. expression_leads place e place (same_place place)) }

pub tame_expressions : (es : Expressions) → Tame (expressions_part es)
tame_expressions es = record { counted = λ place. (expressions_closed es place).counted; walked = λ base place z h. expressions_walked base es place h; keeps = keeps_own (low_expressions es) (λ place. expressions_lead place es place (same_place place)) }

pub tame_arguments : (args : Arguments) → Tame (arguments_part args)
tame_arguments args = record { counted = λ place. (arguments_closed args place).counted; walked = λ base place z h. arguments_walked base args place h; keeps = keeps_own (low_arguments args) (λ place. arguments_lead place args place (same_place place)) }

pub tame_fields : (items : Fields) → Tame (fields_part items)
tame_fields items = record { counted = λ place. (fields_closed items place).counted; walked = λ base place z h. fields_walked base items place h; keeps = keeps_own (low_fields items) (λ place. fields_lead place items place (same_place place)) }

pub tame_branches : (branches : Branches) → Tame (branches_part branches)
tame_branches arms = record { counted = λ place. (branches_closed arms place).counted; walked = λ base place z h. branches_walked base arms place h; keeps = keeps_own (low_branches arms) (λ place. branches_lead place arms place (same_place place)) }

pub tame_otherwise : (last : Otherwise) → Tame (otherwise_part last)
tame_otherwise last = record { counted = λ place. (otherwise_closed last place).counted; walked = λ base place z h. otherwise_walked base last place h; keeps = keeps_own (low_otherwise last) (λ place. otherwise_leads place last place (same_place place)) }

pub tame_step : (step : ForStep) → Tame (step_part step)
tame_step step = record { counted = λ place. (step_closed step place).counted; walked = λ base place z h. step_walked base step place h; keeps = keeps_own (low_step step) (λ place. step_leads place step place (same_place place)) }

pub tame_body : (method : Bool) (body : FunctionBody) → Tame (body_part method body)
tame_body method body = record { counted = λ place. (body_closed method body place).counted; walked = λ base place z h. body_walked base method body place h; keeps = keeps_own (low_body method body) (λ place. body_leads place method body place (same_place place)) }

-- ---- to its parts

-- the same part, written otherwise
pub here_as : (all : List Mark) (part other : outline.Part) (place : Place) (rest : List Mark) (p : Spot) → part place ≡ other place → Here all part place rest p → Here all other place rest p
here_as all part other place rest p e h = record { between = between_as all part other place rest e h.between; scope = h.scope; ahead = h.ahead ∙ ap (λ w. ahead_at all place (w.marks ++ rest)) e; apart = apart_as all part other place rest e h.apart }

pub here_first_by : {bound : ℕ} (all : List Mark) (a b : outline.Part) (place : Place) (rest : List Mark) (p : Spot) → bound ≤ place.declarations → Tame a → TameBy bound b → Here all (both a b) place rest p → Here all a place ((b (a place).next).marks ++ rest) p
here_first_by all a b place rest p below ta tb h =
    let x = a place in
    record {
      between = between_first all a b place rest (walks a place ta) (walks b x.next tb) h.between;
      scope = h.scope;
      ahead = h.ahead ∙ ap (ahead_at all place) (append_assoc x.marks (b x.next).marks rest);
      apart = apart_first all a b place rest h.apart ((tb.keeps).good place.declarations x.next x.next below (good_itself place.declarations x.next));
    }

pub here_first : (all : List Mark) (a b : outline.Part) (place : Place) (rest : List Mark) (p : Spot) → Tame a → Tame b → Here all (both a b) place rest p → Here all a place ((b (a place).next).marks ++ rest) p
here_first all a b place rest p ta tb h = here_first_by all a b place rest p (omega arith) ta tb h

-- behind the words of the first, which may bring names into scope
pub here_second_by : {bound : ℕ} (all : List Mark) (a b : outline.Part) (place : Place) (rest : List Mark) (p m : Spot) → bound ≤ place.declarations → TameBy bound a → ScopeAt (a place).next → Moves all a p m → Here all (both a b) place rest p → Here all b (a place).next rest m
here_second_by all a b place rest p m below ta s g h =
    let x = a place in
    record {
      between = between_second all a b place rest (ta.counted place) (walks a place ta) h.between;
      scope = s;
      ahead = g place ((b x.next).marks ++ rest) (h.ahead ∙ ap (ahead_at all place) (append_assoc x.marks (b x.next).marks rest));
      apart = apart_second all a b place rest h.apart ((ta.keeps).low place below (h.scope).declared);
    }

pub here_second : (all : List Mark) (a b : outline.Part) (place : Place) (rest : List Mark) (p m : Spot) → Tame a → ScopeAt (a place).next → Moves all a p m → Here all (both a b) place rest p → Here all b (a place).next rest m
here_second all a b place rest p m ta s g h = here_second_by all a b place rest p m (omega arith) ta s g h

-- where the first brings none
pub here_behind : (all : List Mark) (a b : outline.Part) (place : Place) (rest : List Mark) (p m : Spot) → Tame a → Closed a place → Moves all a p m → Here all (both a b) place rest p → Here all b (a place).next rest m
here_behind all a b place rest p m ta c g h = here_second all a b place rest p m ta (closed_scope a place c h.scope) g h

-- at another spot with the same ahead, as behind a word
pub here_at : (all : List Mark) (part : outline.Part) (place : Place) (rest : List Mark) (p q : Spot) → q.ahead ≡ p.ahead → Here all part place rest p → Here all part place rest q
here_at all part place rest p q e h = record { between = h.between; scope = h.scope; ahead = e ∙ h.ahead; apart = h.apart }

-- inside a block
pub here_stay : (all : List Mark) (part : outline.Part) (place : Place) (rest : List Mark) (p : Spot) → Tame part → Here all (within stay part) place rest p → Here all part place rest p
here_stay all part place rest p t h = record { between = between_within all stay part place rest refl refl refl (walks part place t) h.between; scope = h.scope; ahead = h.ahead; apart = apart_within stay refl (h.scope).declared h.apart }

looped_scope : (place : Place) → ScopeAt place → ScopeAt (in_loop place)
looped_scope place s = record { function = s.function; others = s.others; is = s.is; homes = s.homes; declared = s.declared }

pub here_loop : (all : List Mark) (part : outline.Part) (place : Place) (rest : List Mark) (p : Spot) → Tame part → Here all (within in_loop part) place rest p → Here all part (in_loop place) rest p
here_loop all part place rest p t h = record { between = between_within all in_loop part place rest refl refl refl (walks part (in_loop place) t) h.between; scope = looped_scope place h.scope; ahead = h.ahead; apart = apart_within in_loop refl (h.scope).declared h.apart }

-- inside a loop with its variables, which were declared before
pub here_turn : (all : List Mark) (names : List Text) (number : ℕ) (part : outline.Part) (place : Place) (rest : List Mark) (p : Spot) → Tame part → number + length names ≤ place.declarations → Here all (within (turn_in names number) part) place rest p → Here all part (turn_in names number place) rest p
here_turn all names number part place rest p t l h = record {
  between = between_within all (turn_in names number) part place rest refl refl refl (walks part (turn_in names number place) t) h.between;
  scope = looped_scope (with_locals 3 names number place) (names_scope 3 names place number l h.scope);
  ahead = h.ahead;
  apart = apart_within (turn_in names number) refl (names_scope 3 names place number l h.scope).declared h.apart;
}

-- inside a function that is opened, whose words begin where its chunk does
pub here_function : (all : List Mark) (method : Bool) (params : List Text) (vararg : Bool) (block : Statements) (first last : ℕ) (place : Place) (rest : List Mark) (p : Spot) → Here all (body_part method (function_body params vararg block first last)) place rest p →
    Here all (inside_part method (function_body params vararg block first last)) (in_function vararg place) rest (record { pc = 0; ahead = record (p.ahead) { sources = drop 1 p.ahead.sources }; functions = 0 })
here_function all method params vararg block first last place rest p h =
    let part = inside_part method (function_body params vararg block first last) in
    record {
      between = between_function all method (function_body params vararg block first last) place rest h.between;
      scope = entered_scope vararg place h.scope;
      ahead = ap (λ (a : Ahead). record a { sources = drop 1 a.sources }) h.ahead ∙ opened_ahead all place.declarations place.functions ((part (in_function vararg place)).marks ++ rest);
      apart = apart_function all method (function_body params vararg block first last) place rest h.apart;
    }

-- the main chunk
pub here_all : (source : Source) (p : Spot) → p.ahead ≡ ahead_of (resolved source) → Here (outline source) (statements_part source.body) beginning [] p
here_all source p e = record { between = between_all source.body; scope = scope_first; ahead = e ∙ begins source; apart = apart_all source }

-- ---- to the parts of what declares

-- the values of a `local`, before which its names are declared, and behind them all the statements that follow
pub here_local : (all : List Mark) (line : ℕ) (names : List Text) (es : Expressions) (place : Place) (rest : List Mark) (locals : List Local) (p m : Spot) → Declared names p.ahead locals m.ahead → Here all (statement_part line (local_statement names es)) place rest p →
    Here all (expressions_part es) (declares line 0 names place).next rest m
here_local all line names es place rest locals p m d h =
    let second = both (expressions_part es) (come 0 names place.declarations) in
    let p1 = (declares line 0 names place).next in
    let h1 = here_as all (statement_part line (local_statement names es)) (both (declares line 0 names) second) place rest p refl h in
    let h2 = here_behind all (declares line 0 names) second place rest p m (tame_declares line 0 names) (declares_closed line 0 names place) (declared_moves all line 0 names locals p m d) h1 in
    here_first_by all (expressions_part es) (come 0 names place.declarations) p1 rest m (omega arith) (tame_expressions es) (tame_come 0 names place.declarations) h2

-- the scope behind a `local`
pub local_scope : (line : ℕ) (names : List Text) (es : Expressions) (place : Place) → ScopeAt place → ScopeAt (statement_part line (local_statement names es) place).next
local_scope line names es place s =
    let p1 = (declares line 0 names place).next in
    let c = expressions_closed es p1 in
    let k = c.counted in
    let d = k.declarations in
    names_scope 0 names (expressions_part es p1).next place.declarations (omega (arith, d)) (closed_scope (expressions_part es) p1 c (closed_scope (declares line 0 names) place (declares_closed line 0 names place) s))

-- the closure of a `local function`, before which its name is in scope
pub here_local_function : (all : List Mark) (line : ℕ) (text : Text) (body : FunctionBody) (place : Place) (rest : List Mark) (locals : List Local) (p m : Spot) → Declared (text ∷ []) p.ahead locals m.ahead → Here all (statement_part line (local_function text body)) place rest p →
    Here all (body_part false body) (behind_name line text place) rest m
here_local_function all line text body place rest locals p m d h =
    let names = text ∷ [] in
    let second = both (come 0 names place.declarations) (body_part false body) in
    let p1 = (declares line 0 names place).next in
    let h1 = here_as all (statement_part line (local_function text body)) (both (declares line 0 names) second) place rest p refl h in
    let h2 = here_behind all (declares line 0 names) second place rest p m (tame_declares line 0 names) (declares_closed line 0 names place) (declared_moves all line 0 names locals p m d) h1 in
    here_second_by all (come 0 names place.declarations) (body_part false body) p1 rest m m (omega arith) (tame_come 0 names place.declarations)
    (names_scope 0 names p1 place.declarations (omega arith) (closed_scope (declares line 0 names) place (declares_closed line 0 names place) h.scope)) (λ place rest e. e) h2

-- the values of a numeric `for` with what follows them, and its block
abbrev pub numbers_part : (first last : Expression) → ForStep → outline.Part
numbers_part first last step = both (expression_part first) (both (expression_part last) (step_part step))

pub tame_numbers : (first last : Expression) (step : ForStep) → Tame (numbers_part first last step)
tame_numbers first last step = tame_both (expression_part first) (both (expression_part last) (step_part step)) (tame_expression first) (tame_both (expression_part last) (step_part step) (tame_expression last) (tame_step step))

pub here_numeric : (all : List Mark) (line : ℕ) (text : Text) (first last : Expression) (step : ForStep) (block : Statements) (place : Place) (rest : List Mark) (locals : List Local) (p m : Spot) → Declared (text ∷ []) p.ahead locals m.ahead → Here all (statement_part line (numeric_for text first last step block)) place rest p →
    Here all (both (numbers_part first last step) (within (turn_in (text ∷ []) place.declarations) (statements_part block))) (declares line 3 (text ∷ []) place).next rest m
here_numeric all line text first last step block place rest locals p m d h =
    let names = text ∷ [] in
    let second = both (numbers_part first last step) (within (turn_in names place.declarations) (statements_part block)) in
    let h1 = here_as all (statement_part line (numeric_for text first last step block)) (both (declares line 3 names) second) place rest p refl h in
    here_behind all (declares line 3 names) second place rest p m (tame_declares line 3 names) (declares_closed line 3 names place) (declared_moves all line 3 names locals p m d) h1

pub here_numeric_block : (all : List Mark) (line : ℕ) (text : Text) (first last : Expression) (step : ForStep) (block : Statements) (place : Place) (rest : List Mark) (m n : Spot) → Moves all (numbers_part first last step) m n →
    Here all (both (numbers_part first last step) (within (turn_in (text ∷ []) place.declarations) (statements_part block))) (declares line 3 (text ∷ []) place).next rest m → Here all (statements_part block) (in_numeric line text first last step place) rest n
here_numeric_block all line text first last step block place rest m n g h =
    let names = text ∷ [] in
    let p1 = (declares line 3 names place).next in
    let c = values_closed first last step p1 in
    let k = c.counted in
    let d = k.declarations in
    here_turn all names place.declarations (statements_part block) (numbers_part first last step p1).next rest n (tame_statements block) (omega (arith, d))
    (here_behind all (numbers_part first last step) (within (turn_in names place.declarations) (statements_part block)) p1 rest m n (tame_numbers first last step) c g h)

-- and of a generic one
pub here_generic : (all : List Mark) (line : ℕ) (names : List Text) (es : Expressions) (block : Statements) (place : Place) (rest : List Mark) (locals : List Local) (p m : Spot) → Declared names p.ahead locals m.ahead → Here all (statement_part line (generic_for names es block)) place rest p →
    Here all (both (expressions_part es) (within (turn_in names place.declarations) (statements_part block))) (declares line 3 names place).next rest m
here_generic all line names es block place rest locals p m d h =
    let second = both (expressions_part es) (within (turn_in names place.declarations) (statements_part block)) in
    let h1 = here_as all (statement_part line (generic_for names es block)) (both (declares line 3 names) second) place rest p refl h in
    here_behind all (declares line 3 names) second place rest p m (tame_declares line 3 names) (declares_closed line 3 names place) (declared_moves all line 3 names locals p m d) h1

pub here_generic_block : (all : List Mark) (line : ℕ) (names : List Text) (es : Expressions) (block : Statements) (place : Place) (rest : List Mark) (m n : Spot) → Moves all (expressions_part es) m n →
    Here all (both (expressions_part es) (within (turn_in names place.declarations) (statements_part block))) (declares line 3 names place).next rest m → Here all (statements_part block) (in_generic line names es place) rest n
here_generic_block all line names es block place rest m n g h =
    let p1 = (declares line 3 names place).next in
    let c = expressions_closed es p1 in
    let k = c.counted in
    let d = k.declarations in
    here_turn all names place.declarations (statements_part block) (expressions_part es p1).next rest n (tame_statements block) (omega (arith, d))
    (here_behind all (expressions_part es) (within (turn_in names place.declarations) (statements_part block)) p1 rest m n (tame_expressions es) c g h)

-- the statements of a function, behind its parameters
pub here_entered : (all : List Mark) (method : Bool) (params : List Text) (vararg : Bool) (block : Statements) (first last : ℕ) (inside : Place) (rest : List Mark) (locals : List Local) (p m : Spot) → Declared (all_params method params) p.ahead locals m.ahead → Here all (inside_part method (function_body params vararg block first last)) inside rest p →
    Here all (statements_part block) (entered_by (all_params method params) first inside) rest m
here_entered all method params vararg block first last inside rest locals p m d h =
    let ps = all_params method params in
    let second = both (come 0 ps inside.declarations) (statements_part block) in
    let p1 = (declares first 0 ps inside).next in
    let h1 = here_as all (inside_part method (function_body params vararg block first last)) (both (declares first 0 ps) second) inside rest p refl h in
    let h2 = here_behind all (declares first 0 ps) second inside rest p m (tame_declares first 0 ps) (declares_closed first 0 ps inside) (declared_moves all first 0 ps locals p m d) h1 in
    here_second_by all (come 0 ps inside.declarations) (statements_part block) p1 rest m m (omega arith) (tame_come 0 ps inside.declarations)
    (names_scope 0 ps p1 inside.declarations (omega arith) (closed_scope (declares first 0 ps) inside (declares_closed first 0 ps inside) h.scope)) (λ place rest e. e) h2

-- ---- names

same_differ : (a b : ℕ) → (a == b) ≡ false → (b == a) ≡ false
same_differ a b h = go (b == a) refl
  where
    go : (c : Bool) → (b == a) ≡ c → c ≡ false
    go true e = sym (eq-eqb a b (sym (eqb-true b a e))) ∙ h
    go false e = refl

pub name_is : (all : List Mark) (line : ℕ) (name : Text) (place : Place) (rest : List Mark) (active : List Active) (p : Spot) → ActiveAt place active → Here all (mentions line name) place rest p → NameIs all place name active (meaning active p)
name_is all line name place rest active p a h = by_scope (place.scope name) refl
  where
    by_home : (b : Binding) → place.scope name ≡ Some b → (c : Bool) → (b.home == innermost place.around) ≡ c → NameIs all place name active (meaning active p)
    by_home b e true k = let l = local_is all place active name b a e k in own b l.0 l.1 e (eqb-true b.home (innermost place.around) k) l.2 l.3 (name_means all place line name rest active p h.ahead ∙ l.4)
    by_home b e false k =
        let f = innermost place.around in
        let scope = h.scope in
        let between = h.between in
        let r = between.reached in
        let inner : f ≡ scope.function = ap innermost scope.is in
        let around : place.around ≡ f ∷ scope.others = scope.is ∙ ap (λ n. n ∷ scope.others) (sym inner) in
        let reached : Reached all place (mention line name (Some b) place.around ∷ rest) = record { before = r.before; is = r.is ∙ ap (λ o. r.before ++ mention line name o place.around ∷ rest) e; declarations = r.declarations; functions = r.functions } in
        upvalue b e k (upvalue_is all place line name b f scope.others rest reached around (same_differ b.home f k)) (name_means all place line name rest active p h.ahead ∙ upvalue_at all place active name b e k)

    by_scope : (o : Option Binding) → place.scope name ≡ o → NameIs all place name active (meaning active p)
    by_scope None e = nothing_is e (name_means all place line name rest active p h.ahead ∙ global_at all place active name e)
    by_scope (Some b) e = by_home b e (b.home == innermost place.around) refl

-- ---- what a closure captures

capture_is : (all : List Mark) (place : Place) (active : List Active) (f : ℕ) (b : Binding) → innermost place.around ≡ f → ActiveAt place active → Seen place b → KnownAround f all b → CaptureIs all place active b (where_is (use_in f all (Some b)) active)
capture_is all place active f b is a s k = subst (λ g. CaptureIs all place active b (where_is (use_in g all (Some b)) active)) is (by_home (b.home == innermost place.around) refl)
  where
    by_home : (c : Bool) → (b.home == innermost place.around) ≡ c → CaptureIs all place active b (where_is (use_in (innermost place.around) all (Some b)) active)
    by_home true e =
        let l = local_is all place active s.0 b a s.1 e in
        own_local l.0 l.1 (eqb-true b.home (innermost place.around) e) l.2 l.3 (ap (λ o. where_is (use_in (innermost place.around) all o) active) (sym s.1) ∙ l.4)
    by_home false e =
        let g = innermost place.around in
        let known = subst (λ f. KnownAround f all b) (sym is) k in
        let t = slot_stands b.declaration (upvalues_of g all) (known (same_differ b.home g e)) in
        own_upvalue e (record { known = t.0; is = t.1; same = t.2 }) (ap (λ o. where_is (use_in g all o) active) (sym s.1) ∙ upvalue_at all place active s.0 b s.1 e)

captures_by : (all : List Mark) (place : Place) (active : List Active) (f : ℕ) (bs : List Binding) → innermost place.around ≡ f → ActiveAt place active → AllBindings (Seen place) bs → AllBindings (KnownAround f all) bs → CapturesAre all place active bs (uses_by f all bs)
captures_by all place active f [] is a s k = refl
captures_by all place active f (b ∷ bs) is a s k = (use_in f all (Some b), uses_by f all bs, refl, s.0, capture_is all place active f b is a s.0 k.0, captures_by all place active f bs is a s.1 k.1)

-- what the further words of a CLOSURE capture: in order the upvalues of its function, each of which is in scope
pub captures_are : (all : List Mark) (method : Bool) (body : FunctionBody) (place : Place) (rest : List Mark) (active : List Active) (p : Spot) → ActiveAt place active → Here all (body_part method body) place rest p →
    CapturesAre all place active (upvalues_of place.functions all) (head_or [] p.ahead.sources)
captures_are all method body place rest active p a h =
    let s = h.scope in
    let t = h.between in
    let is : innermost place.around ≡ s.function = ap innermost s.is in
    subst (CapturesAre all place active (upvalues_of place.functions all)) (sym (sources_are all method body place rest p t.reached h.ahead))
    (subst (λ g. CapturesAre all place active (upvalues_of place.functions all) (uses_by g all (upvalues_of place.functions all))) (sym is)
    (captures_by all place active s.function (upvalues_of place.functions all) is a (upvalues_seen all method body place rest t) (upvalues_known all method body place rest s.function s.others s.is t)))
