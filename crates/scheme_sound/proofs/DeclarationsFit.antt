-- Declarations, loops with variables and functions: what stands ahead of them fits.
use Rattle.std.proofs.Common.{◌≡◌, ◌≤◌, ℕ, Bool, false, List, [], ◌∷◌, length, refl, sym, ap, ◌∙◌, arith, ◌+◌, ◌++◌, subst, append_assoc, append-nil, inr}
use Rattle.std.proofs.lemmas.List.{length-map}
use Rattle.lua_num.specs.Bytes.{Text}
use Rattle.lua_tree.specs.Outline.{Part, Place, Mark, innermost, with_locals, both, within, come, in_loop, in_function, declares, all_params, statements_part, statement_part, body_part, expressions_part}
use Rattle.lua_tree.specs.Scoping.{is_one_of, upvalues_of}
use Rattle.lua_tree.specs.Syntax.{Expressions, FunctionBody, Statements, function_body, local_statement, local_function}
use Rattle.scheme.specs.Making.{Ahead, head_or}
use Rattle.scheme.specs.Functions.{without_sources}
use Rattle.scheme.specs.declared.making.Local.{Local}
use Rattle.scheme_stands.specs.Words.{Spot}
use Rattle.scheme_stands.specs.Functions.{Declared}
use Rattle.scheme_stands.specs.Places.{Closed, ScopeAt, locals_from, ahead_at, Reached, sources_at, inside_part}
use Rattle.scheme_stands.proofs.Counting.{declares_closed, come_counted, body_closed, statement_counted}
use Rattle.scheme_stands.proofs.Locals.{closed_scope, entered_scope, names_scope, none_of}
use Rattle.scheme_stands.proofs.Names.{declared_are, sources_are}
use Rattle.scheme_stands.proofs.Origins.{walked_inner, declares_walked, come_walked, start_with, body_walked, statement_walked, between_as, between_within, between_function}
use Rattle.scheme_stands.proofs.Upvalues.{upvalues_seen, upvalues_known, upvalues_captured}
use Rattle.scheme_stands.proofs.Walks.{declared_moves, opened_ahead}
use Rattle.scheme_sound.proofs.Fitting.{Context, Fitting, CapturesFit, declared_ahead, declared_locals, more_locals, FittingStep, Looped, Function}
use Rattle.scheme_sound.proofs.Contexts.{Marked, Knows, knows_behind, knows_more, captures_good}
use Rattle.scheme_sound.proofs.PartsFit.{Comes, AnyWalk, walk_from, both_walked, comes_first, comes_second, comes_behind, PartFits, StepBehind, StepFits, knows_looped, scope_looped}

-- ---- names that are declared

declared_by : (names : List Text) (a : Ahead) → Declared names a (declared_locals names a) (declared_ahead names a)
declared_by [] a = (refl, refl)
declared_by (name ∷ names) a = (declared_locals names _, refl, declared_by names _)

-- names that are declared at a place: the locals that they become, and what is ahead behind them
record AreDeclared (all : List Mark) (names : List Text) (place behind : Place) (rest : List Mark) (a : Ahead) : Type 0 where
  locals : declared_locals names a ≡ locals_from all place.declarations names
  ahead : declared_ahead names a ≡ ahead_at all behind rest

abbrev begins : Ahead → Spot
begins a = record { pc = 0; ahead = a; functions = 0 }

are_declared : (all : List Mark) (line hidden : ℕ) (names : List Text) (place : Place) (rest : List Mark) (a : Ahead) → Reached all place ((declares line hidden names place).marks ++ rest) → a ≡ ahead_at all place ((declares line hidden names place).marks ++ rest) → AreDeclared all names place (declares line hidden names place).next rest a
are_declared all line hidden names place rest a r e = record {
  locals = declared_are all line hidden names (declared_locals names a) place rest a (declared_ahead names a) r e (declared_by names a);
  ahead = declared_moves all line hidden names (declared_locals names a) (begins a) (begins (declared_ahead names a)) (declared_by names a) place rest e;
}

any_declares : (line hidden : ℕ) (names : List Text) → AnyWalk (declares line hidden names)
any_declares line hidden names base place z s = declares_walked base line hidden names place s

any_come : (names : List Text) (number : ℕ) → AnyWalk (come 0 names number)
any_come names number base place z s = come_walked base 0 names number place (omega (arith, z)) s

-- names come into scope, and their locals become active
comes_named : (all : List Mark) (names : List Text) (number : ℕ) (other : Part) (place : Place) (rest : List Mark) (c : Context) → AnyWalk other → number + length names ≤ place.declarations → Comes all (both (come 0 names number) other) place rest c → Comes all other (with_locals 0 names number place) rest (more_locals c (locals_from all number names))
comes_named all names number other place rest c w l t = comes_second all (come 0 names number) other place rest c (more_locals c (locals_from all number names)) (any_come names number) (come_counted 0 names number place) (names_scope 0 names place number l t.scope) (knows_more all 0 [] names number place c tt t.knows) t

-- ---- loops with variables

-- the block of a loop with its variables in scope
abbrev turn_in : List Text → ℕ → Place → Place
turn_in names number inside = in_loop (with_locals 3 names number inside)

abbrev looped_part : ℕ → List Text → Part → Part → Part
looped_part line names values block place = both (declares line 3 names) (both values (within (λ inside. in_loop (with_locals 3 names place.declarations inside)) block)) place

any_turn : (names : List Text) (number : ℕ) (block : Part) → AnyWalk block → AnyWalk (within (turn_in names number) block)
any_turn names number block w base place z s = walked_inner base (turn_in names number) block place refl refl s (w base (turn_in names number place) z (start_with base place names number (omega (arith, z)) s))

pub looped_fits : (line : ℕ) (hidden : List Local) (names : List Text) {values block : Part} {i : Fitting} {step : FittingStep} → ((all : List Mark) → Marked all hidden) → PartFits values i → StepFits block step → ((place : Place) → Closed (looped_part line names values block) place) → AnyWalk (looped_part line names values block) → PartFits (looped_part line names values block) (Looped hidden names i step)
looped_fits line hidden names {values} {block} {i} {step} marked r s closed walked = record { closed = closed; walked = walked; fits = ahead_fits }
  where
    ahead_fits : (all : List Mark) (place : Place) (rest : List Mark) (c : Context) → Comes all (looped_part line names values block) place rest c → Looped hidden names i step c (ahead_at all place ((looped_part line names values block place).marks ++ rest)) (ahead_at all (looped_part line names values block place).next rest)
    ahead_fits all place rest c t =
        let first = declares line 3 names in
        let inside = within (turn_in names place.declarations) block in
        let second = both values inside in
        let p1 = (first place).next in
        let p2 = (values p1).next in
        let p3 = turn_in names place.declarations p2 in
        let md = (first place).marks in
        let mv = (values p1).marks in
        let mb = (block p3).marks in
        let any_inside : AnyWalk inside = any_turn names place.declarations block s.walked in
        let any_second : AnyWalk second = both_walked values inside r.walked any_inside in
        let t0 : Comes all (both first second) place rest c = record { between = between_as all (looped_part line names values block) (both first second) place rest refl t.between; scope = t.scope; knows = t.knows; dots = t.dots } in
        let t1 = comes_first all first second place rest c (any_declares line 3 names) any_second t0 in
        let t2 = comes_behind all first second place rest c (any_declares line 3 names) (declares_closed line 3 names place) t0 in
        let tv = comes_first all values inside p1 rest c r.walked any_inside t2 in
        let ti = comes_behind all values inside p1 rest c r.walked (r.closed p1) t2 in
        let counted = (r.closed p1).counted in
        let grown = counted.declarations in
        let ls = locals_from all place.declarations names in
        let d : Context = more_locals c (hidden ++ ls) in
        let tb : Comes all block p3 rest d = record {
          between = between_within all (turn_in names place.declarations) block p2 rest refl refl refl (walk_from block s.walked p3) ti.between;
          scope = scope_looped (names_scope 3 names p2 place.declarations (omega (arith, grown)) ti.scope);
          knows = knows_looped (knows_more all 3 hidden names place.declarations p2 c (marked all) ti.knows);
          dots = t.dots;
        } in
        let a = ahead_at all place ((md ++ (mv ++ mb)) ++ rest) in
        let h = are_declared all line 3 names place ((mv ++ mb) ++ rest) a (t1.between).reached (ap (ahead_at all place) (append_assoc md (mv ++ mb) rest)) in
        let f = s.steps all p3 rest d tb in
        record {
          mid = ahead_at all p2 (mb ++ rest);
          inner = f.after;
          values_fit = subst (λ x. i c x (ahead_at all p2 (mb ++ rest))) (sym (h.ahead ∙ ap (ahead_at all p1) (append_assoc mv mb rest))) (r.fits all p1 (mb ++ rest) c tv);
          body_fits = subst (λ xs. step (more_locals c (hidden ++ xs)) f.after (ahead_at all p2 (mb ++ rest)) (ahead_at all (block p3).next rest)) (sym h.locals) f.fits;
        }

-- ---- locals

-- the step of a `local`, and that of a `local function`
abbrev pub LocalStep : Type 0 → List Text → Fitting → FittingStep
LocalStep P names i c after a b = P × (after ≡ c.locals ++ declared_locals names a) × i c (declared_ahead names a) b

-- names that are in scope behind their values
pub local_fits : (line : ℕ) (names : List Text) (es : Expressions) {i : Fitting} {P : Type 0} → P → PartFits (expressions_part es) i → StepFits (statement_part line (local_statement names es)) (LocalStep P names i)
local_fits line names es {i} {P} p r = record {
  counted = statement_counted line (local_statement names es);
  walked = λ base place z s. statement_walked base line (local_statement names es) place s;
  scope = scope;
  steps = steps;
}
  where
    values : Part
    values = expressions_part es

    room : (place : Place) → place.declarations + length names ≤ (expressions_part es (declares line 0 names place).next).next.declarations
    room place = (let counted = (r.closed (declares line 0 names place).next).counted in let grown = counted.declarations in omega (arith, grown))

    scope : (place : Place) → ScopeAt place → ScopeAt (statement_part line (local_statement names es) place).next
    scope place s =
        let p1 = (declares line 0 names place).next in
        names_scope 0 names (expressions_part es p1).next place.declarations (room place) (closed_scope (expressions_part es) p1 (r.closed p1) (closed_scope (declares line 0 names) place (declares_closed line 0 names place) s))

    steps : (all : List Mark) (place : Place) (rest : List Mark) (c : Context) → Comes all (statement_part line (local_statement names es)) place rest c → StepBehind all (statement_part line (local_statement names es)) place rest c (LocalStep P names i)
    steps all place rest c t =
        let first = declares line 0 names in
        let last = come 0 names place.declarations in
        let second = both (expressions_part es) last in
        let p1 = (first place).next in
        let p2 = (expressions_part es p1).next in
        let md = (first place).marks in
        let mv = (expressions_part es p1).marks in
        let any_second : AnyWalk second = both_walked (expressions_part es) last r.walked (any_come names place.declarations) in
        let t0 : Comes all (both first second) place rest c = record { between = between_as all (statement_part line (local_statement names es)) (both first second) place rest refl t.between; scope = t.scope; knows = t.knows; dots = t.dots } in
        let t1 = comes_first all first second place rest c (any_declares line 0 names) any_second t0 in
        let t2 = comes_behind all first second place rest c (any_declares line 0 names) (declares_closed line 0 names place) t0 in
        let tv = comes_first all (expressions_part es) last p1 rest c r.walked (any_come names place.declarations) t2 in
        let a = ahead_at all place ((md ++ (mv ++ [])) ++ rest) in
        let h = are_declared all line 0 names place ((mv ++ []) ++ rest) a (t1.between).reached (ap (ahead_at all place) (append_assoc md (mv ++ []) rest)) in
        let ls = locals_from all place.declarations names in
        record {
          after = c.locals ++ declared_locals names a;
          fits = (p, refl, subst (λ x. i c x (ahead_at all p2 rest)) (sym (h.ahead ∙ ap (λ xs. ahead_at all p1 (xs ++ rest)) (append-nil mv))) (r.fits all p1 rest c tv));
          knows = subst (λ xs. Knows all (with_locals 0 names place.declarations p2) (more_locals c xs)) (sym h.locals) (knows_more all 0 [] names place.declarations p2 c tt (knows_behind all (expressions_part es) p1 c (r.closed p1) (knows_behind all first place c (declares_closed line 0 names place) t.knows)));
        }

abbrev pub FunctionStep : List Text → Fitting → FittingStep
FunctionStep names i c after a b = (after ≡ c.locals ++ declared_locals names a) × i (more_locals c (declared_locals names a)) (declared_ahead names a) b

-- a name that is in scope in the function that follows it
pub local_function_fits : (line : ℕ) (name : Text) (body : FunctionBody) {i : Fitting} → PartFits (body_part false body) i → StepFits (statement_part line (local_function name body)) (FunctionStep (name ∷ []) i)
local_function_fits line name body {i} r = record {
  counted = statement_counted line (local_function name body);
  walked = λ base place z s. statement_walked base line (local_function name body) place s;
  scope = scope;
  steps = steps;
}
  where
    names : List Text
    names = name ∷ []

    scope : (place : Place) → ScopeAt place → ScopeAt (statement_part line (local_function name body) place).next
    scope place s =
        let p1 = (declares line 0 (name ∷ []) place).next in
        let p2 = with_locals 0 (name ∷ []) place.declarations p1 in
        closed_scope (body_part false body) p2 (r.closed p2) (names_scope 0 (name ∷ []) p1 place.declarations (omega arith) (closed_scope (declares line 0 (name ∷ [])) place (declares_closed line 0 (name ∷ []) place) s))

    steps : (all : List Mark) (place : Place) (rest : List Mark) (c : Context) → Comes all (statement_part line (local_function name body)) place rest c → StepBehind all (statement_part line (local_function name body)) place rest c (FunctionStep (name ∷ []) i)
    steps all place rest c t =
        let first = declares line 0 (name ∷ []) in
        let last = body_part false body in
        let second = both (come 0 (name ∷ []) place.declarations) last in
        let p1 = (first place).next in
        let p2 = with_locals 0 (name ∷ []) place.declarations p1 in
        let md = (first place).marks in
        let mb = (body_part false body p2).marks in
        let any_second : AnyWalk second = both_walked (come 0 (name ∷ []) place.declarations) last (any_come (name ∷ []) place.declarations) r.walked in
        let t0 : Comes all (both first second) place rest c = record { between = between_as all (statement_part line (local_function name body)) (both first second) place rest refl t.between; scope = t.scope; knows = t.knows; dots = t.dots } in
        let t1 = comes_first all first second place rest c (any_declares line 0 (name ∷ [])) any_second t0 in
        let t2 = comes_behind all first second place rest c (any_declares line 0 (name ∷ [])) (declares_closed line 0 (name ∷ []) place) t0 in
        let tb = comes_named all (name ∷ []) place.declarations last p1 rest c r.walked (omega arith) t2 in
        let a = ahead_at all place ((md ++ mb) ++ rest) in
        let h = are_declared all line 0 (name ∷ []) place (mb ++ rest) a (t1.between).reached (ap (ahead_at all place) (append_assoc md mb rest)) in
        let ls = locals_from all place.declarations (name ∷ []) in
        let b = ahead_at all (body_part false body p2).next rest in
        record {
          after = c.locals ++ declared_locals (name ∷ []) a;
          fits = (refl, subst (λ x. i (more_locals c (declared_locals (name ∷ []) a)) x b) (sym h.ahead) (subst (λ xs. i (more_locals c xs) (ahead_at all p2 (mb ++ rest)) b) (sym h.locals) (r.fits all p2 rest (more_locals c ls) tb)));
          knows = subst (λ xs. Knows all (body_part false body p2).next (more_locals c xs)) (sym h.locals) (knows_behind all (body_part false body) p2 (more_locals c ls) (r.closed p2) tb.knows);
        }

-- ---- functions

-- the upvalues of a function that is opened
opened_captures : (all : List Mark) (method : Bool) (body : FunctionBody) (place : Place) (rest : List Mark) (c : Context) → Comes all (body_part method body) place rest c → CapturesFit c (sources_at all place)
opened_captures all method body place rest c t =
    let s = t.scope in
    let around : place.around ≡ innermost place.around ∷ s.others = s.is ∙ ap (λ n. n ∷ s.others) (sym (ap innermost s.is)) in
    captures_good all place c (upvalues_of place.functions all) t.knows t.scope (upvalues_seen all method body place rest t.between) (upvalues_known all method body place rest (innermost place.around) s.others around t.between) (upvalues_captured all place.functions)

pub function_fits : (method : Bool) (params : List Text) (vararg : Bool) (block : Statements) (first last : ℕ) {step : FittingStep} → StepFits (statements_part block) step → PartFits (body_part method (function_body params vararg block first last)) (Function (all_params method params) vararg step)
function_fits method params vararg block line last {step} s = record {
  closed = body_closed method (function_body params vararg block line last);
  walked = λ base place z h. body_walked base method (function_body params vararg block line last) place h;
  fits = ahead_fits;
}
  where
    ahead_fits : (all : List Mark) (place : Place) (rest : List Mark) (c : Context) → Comes all (body_part method (function_body params vararg block line last)) place rest c → Function (all_params method params) vararg step c (ahead_at all place ((body_part method (function_body params vararg block line last) place).marks ++ rest)) (ahead_at all (body_part method (function_body params vararg block line last) place).next rest)
    ahead_fits all place rest c t =
        let body = function_body params vararg block line last in
        let ps = all_params method params in
        let q = in_function vararg place in
        let first = declares line 0 ps in
        let second = both (come 0 ps q.declarations) (statements_part block) in
        let p1 = (first q).next in
        let p2 = with_locals 0 ps q.declarations p1 in
        let md = (first q).marks in
        let mb = (statements_part block p2).marks in
        let a = ahead_at all place ((body_part method body place).marks ++ rest) in
        let sources : head_or [] a.sources ≡ sources_at all place = sources_are all method body place rest (begins a) (t.between).reached refl in
        let c0 : Context = record { locals = []; upvalues = length (head_or [] a.sources); vararg = vararg } in
        let k0 : Knows all q c0 = record {
          own = λ name b h e. absurd (none_of place.functions place.around (t.between).around_it (sym (ap (λ n. is_one_of n place.around) e) ∙ (t.scope).homes name b h));
          marked = tt;
          upvalues = inr (ap length sources ∙ length-map (upvalues_of place.functions all) _);
          vararg = refl;
        } in
        let any_second : AnyWalk second = both_walked (come 0 ps q.declarations) (statements_part block) (any_come ps q.declarations) s.walked in
        let t0 : Comes all (both first second) q rest c0 = record { between = between_as all (inside_part method body) (both first second) q rest refl (between_function all method body place rest t.between); scope = entered_scope vararg place t.scope; knows = k0; dots = t.dots } in
        let t1 = comes_first all first second q rest c0 (any_declares line 0 ps) any_second t0 in
        let t2 = comes_behind all first second q rest c0 (any_declares line 0 ps) (declares_closed line 0 ps q) t0 in
        let tb = comes_named all ps q.declarations (statements_part block) p1 rest c0 s.walked (omega arith) t2 in
        let ls = locals_from all q.declarations ps in
        let f = s.steps all p2 rest (more_locals c0 ls) tb in
        let entered : without_sources a ≡ ahead_at all q ((md ++ mb) ++ rest) = opened_ahead all place.declarations place.functions ((md ++ mb) ++ rest) in
        let h = are_declared all line 0 ps q (mb ++ rest) (without_sources a) (t1.between).reached (entered ∙ ap (ahead_at all q) (append_assoc md mb rest)) in
        let b = ahead_at all (statements_part block p2).next rest in
        record {
          captures_fit = subst (CapturesFit c) (sym sources) (opened_captures all method body place rest c t);
          inner = f.after;
          body_fits = subst (λ x. step (record { locals = declared_locals ps (without_sources a); upvalues = length (head_or [] a.sources); vararg = vararg }) f.after x b) (sym h.ahead)
              (subst (λ xs. step (record { locals = xs; upvalues = length (head_or [] a.sources); vararg = vararg }) f.after (ahead_at all p2 (mb ++ rest)) b) (sym h.locals) f.fits);
        }
