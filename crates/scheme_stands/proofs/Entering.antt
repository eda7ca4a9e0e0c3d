-- What comes into scope and becomes active at each declaration: `local`, `local function`, both `for`s, and where a function begins.
use Rattle.std.proofs.Common.{◌≡◌, ◌≤◌, ◌<◌, ℕ, ◌+◌, Bool, false, List, [], ◌∷◌, ◌++◌, length, refl, ap, ◌∙◌, subst, append_assoc, arith}
use Rattle.std.specs.Prelude.{None, Option}
use Rattle.lua_num.specs.Bytes.{Text}
use Rattle.lua_tree.specs.Outline as outline
use Rattle.lua_tree.specs.Outline.{Mark, opened, innermost, Place, both, within, declares, come, with_locals, in_loop, in_function, all_params, statements_part, statement_part, step_part, body_part, expressions_part, expression_part}
use Rattle.lua_tree.specs.Syntax.{Statements, local_statement, local_function, numeric_for, generic_for, Expressions, Expression, ForStep, FunctionBody, function_body}
use Rattle.proto.specs.Chunk.{Chunk}
use Rattle.scheme.specs.Making.{Ahead}
use Rattle.scheme.specs.Functions.{without_sources}
use Rattle.scheme.specs.Statements.{numeric_names, generic_names}
use Rattle.scheme.specs.declared.making.Active.{Active}
use Rattle.scheme_stands.specs.Words.{Law, Fn, Spot, Stretch}
use Rattle.scheme_stands.specs.Expressions.{Rel}
use Rattle.scheme_stands.specs.Functions.{Step, FunctionRel, FunctionAt, Activated}
use Rattle.scheme_stands.specs.Statements.{LoopAt, LocalPartAt, LocalFunctionAt, NumericAt, GenericAt}
use Rattle.scheme_stands.specs.Places.{ahead_at, Reached, Closed, ActiveAt, ScopeAt, locals_from, inside_part, AllOf}
use Rattle.scheme_stands.proofs.Counting.{expressions_closed, body_closed, values_closed}
use Rattle.scheme_stands.proofs.Names.{declared_are}
use Rattle.scheme_stands.proofs.Locals.{locals_active, closed_active, entered_active}
use Rattle.scheme_stands.proofs.Walks.{declared_moves, opened_ahead}

-- the first of two parts is reached
pub reached_first_of : (all : List Mark) (a b : outline.Part) (place : Place) (rest : List Mark) → Reached all place ((both a b place).marks ++ rest) → Reached all place ((a place).marks ++ ((b (a place).next).marks ++ rest))
reached_first_of all a b place rest r =
    let x = a place in
    let y = b x.next in
    record { before = r.before; is = r.is ∙ ap (λ marks. r.before ++ marks) (append_assoc x.marks y.marks rest); declarations = r.declarations; functions = r.functions }

ahead_first_of : (all : List Mark) (a b : outline.Part) (place : Place) (rest : List Mark) (h : Ahead) → h ≡ ahead_at all place ((both a b place).marks ++ rest) → h ≡ ahead_at all place ((a place).marks ++ ((b (a place).next).marks ++ rest))
ahead_first_of all a b place rest h e = let x = a place in let y = b x.next in e ∙ ap (ahead_at all place) (append_assoc x.marks y.marks rest)

-- behind declared names and a part that brings nothing into scope, they may come into scope
later_count : (line hidden : ℕ) (names : List Text) (part : outline.Part) (place : Place) → Closed part (declares line hidden names place).next → place.declarations + length names ≤ (part (declares line hidden names place).next).next.declarations
later_count line hidden names part place c = let k = c.counted in let d = k.declarations in omega (arith, d)

-- ---- local

pub local_enters : (all : List Mark) (line : ℕ) (names : List Text) (es : Expressions) (f : Fn) (values : List Rel) (active after : List Active) (p q : Spot) (place : Place) (rest : List Mark) → (t : LocalPartAt f names values active after p q) →
    Reached all place ((statement_part line (local_statement names es) place).marks ++ rest) → p.ahead ≡ ahead_at all place ((statement_part line (local_statement names es) place).marks ++ rest) → ActiveAt place active →
    (t.locals ≡ locals_from all place.declarations names) × ActiveAt (statement_part line (local_statement names es) place).next after
local_enters all line names es f values active after p q place rest t r e a =
    let first = declares line 0 names in
    let second = both (expressions_part es) (come 0 names place.declarations) in
    let p1 = (first place).next in
    let later = (expressions_part es p1).next in
    let c = expressions_closed es p1 in
    let k = c.counted in
    let is = declared_are all line 0 names t.locals place ((second p1).marks ++ rest) p.ahead (t.mid).ahead
    (reached_first_of all first second place rest (record { before = r.before; is = r.is; declarations = r.declarations; functions = r.functions })) (ahead_first_of all first second place rest p.ahead e) t.declared in
    (is, locals_active all [] names place later active active after tt refl (subst (λ ls. Activated ls active after) is t.activated) c.scope k.around c.active (later_count line 0 names (expressions_part es) place c) a)

-- ---- local function: the place at which its closure is made

abbrev pub behind_name : (line : ℕ) → Text → Place → Place
behind_name line text place = (come 0 (text ∷ []) place.declarations (declares line 0 (text ∷ []) place).next).next

pub local_function_enters : (all : List Mark) (line : ℕ) (text : Text) (body : FunctionBody) (f : Fn) (made : Law → FunctionRel) (active after : List Active) (p q : Spot) (place : Place) (rest : List Mark) → (t : LocalFunctionAt f text made active after p q) →
    Reached all place ((statement_part line (local_function text body) place).marks ++ rest) → p.ahead ≡ ahead_at all place ((statement_part line (local_function text body) place).marks ++ rest) → ActiveAt place active →
    (t.locals ≡ locals_from all place.declarations (text ∷ [])) × ActiveAt (behind_name line text place) after × ActiveAt (statement_part line (local_function text body) place).next after
local_function_enters all line text body f made active after p q place rest t r e a =
    let names = text ∷ [] in
    let first = declares line 0 names in
    let second = both (come 0 names place.declarations) (body_part false body) in
    let p1 = (first place).next in
    let is = declared_are all line 0 names t.locals place ((second p1).marks ++ rest) p.ahead (t.mid).ahead
    (reached_first_of all first second place rest (record { before = r.before; is = r.is; declarations = r.declarations; functions = r.functions })) (ahead_first_of all first second place rest p.ahead e) t.declared in
    let h = locals_active all [] names place p1 active active after tt refl (subst (λ ls. Activated ls active after) is t.activated) refl refl refl (omega arith) a in
    (is, h, closed_active (body_part false body) (behind_name line text place) after (body_closed false body (behind_name line text place)) h)

-- ---- the loops: the place inside, with the hidden locals and the variables

abbrev pub in_numeric : (line : ℕ) → Text → (first last : Expression) → ForStep → Place → Place
in_numeric line text first last step place =
    in_loop (with_locals 3 (text ∷ []) place.declarations (both (expression_part first) (both (expression_part last) (step_part step)) (declares line 3 (text ∷ []) place).next).next)

pub looped : (place : Place) (active : List Active) → ActiveAt place active → ActiveAt (in_loop place) active
looped place active a = record { counted = a.counted; low = a.low; order = a.order; stands = a.stands }

pub numeric_enters : (all : List Mark) (line : ℕ) (text : Text) (first last : Expression) (step : ForStep) (block : Statements) (f : Fn) (d e : Rel) (rel : List Active → (free : ℕ) → Stretch) (body : Option LoopAt → Step) (active : List Active) (p q : Spot) (place : Place) (rest : List Mark) →
    (t : NumericAt f text d e rel body active p q) → Reached all place ((statement_part line (numeric_for text first last step block) place).marks ++ rest) → p.ahead ≡ ahead_at all place ((statement_part line (numeric_for text first last step block) place).marks ++ rest) → ActiveAt place active →
    (t.variables ≡ locals_from all place.declarations (text ∷ [])) × ActiveAt (in_numeric line text first last step place) t.turn_at.inner
numeric_enters all line text first last step block f d e rel body active p q place rest t r h a =
    let names = text ∷ [] in
    let one = declares line 3 names in
    let values = both (expression_part first) (both (expression_part last) (step_part step)) in
    let two = both values (within (λ (inside : Place). in_loop (with_locals 3 names place.declarations inside)) (statements_part block)) in
    let p1 = (one place).next in
    let later = (values p1).next in
    let c = values_closed first last step p1 in
    let k = c.counted in
    let turn = t.turn_at in
    let is = declared_are all line 3 names t.variables place ((two p1).marks ++ rest) p.ahead (t.declared_by).ahead
    (reached_first_of all one two place rest (record { before = r.before; is = r.is; declarations = r.declarations; functions = r.functions })) (ahead_first_of all one two place rest p.ahead h) t.declared in (
      is,
      looped (with_locals 3 names place.declarations later) turn.inner
          (locals_active all numeric_names names place later active t.around turn.inner (refl, (refl, (refl, tt))) t.hidden (subst (λ ls. Activated ls t.around turn.inner) is turn.activated) c.scope k.around c.active (later_count line 3 names values place c) a),
    )

abbrev pub in_generic : (line : ℕ) → List Text → Expressions → Place → Place
in_generic line names es place = in_loop (with_locals 3 names place.declarations (expressions_part es (declares line 3 names place).next).next)

pub generic_enters : (all : List Mark) (line : ℕ) (names : List Text) (es : Expressions) (block : Statements) (f : Fn) (values : List Rel) (body : Option LoopAt → Step) (active : List Active) (p q : Spot) (place : Place) (rest : List Mark) →
    (t : GenericAt f names values body active p q) → Reached all place ((statement_part line (generic_for names es block) place).marks ++ rest) → p.ahead ≡ ahead_at all place ((statement_part line (generic_for names es block) place).marks ++ rest) → ActiveAt place active →
    (t.variables ≡ locals_from all place.declarations names) × ActiveAt (in_generic line names es place) t.turn_at.inner
generic_enters all line names es block f values body active p q place rest t r h a =
    let one = declares line 3 names in
    let two = both (expressions_part es) (within (λ (inside : Place). in_loop (with_locals 3 names place.declarations inside)) (statements_part block)) in
    let p1 = (one place).next in
    let later = (expressions_part es p1).next in
    let c = expressions_closed es p1 in
    let k = c.counted in
    let turn = t.turn_at in
    let is = declared_are all line 3 names t.variables place ((two p1).marks ++ rest) p.ahead (t.declared_by).ahead
    (reached_first_of all one two place rest (record { before = r.before; is = r.is; declarations = r.declarations; functions = r.functions })) (ahead_first_of all one two place rest p.ahead h) t.declared in (
      is,
      looped (with_locals 3 names place.declarations later) turn.inner
          (locals_active all generic_names names place later active t.around turn.inner (refl, (refl, (refl, tt))) t.hidden (subst (λ ls. Activated ls t.around turn.inner) is turn.activated) c.scope k.around c.active (later_count line 3 names (expressions_part es) place c) a),
    )

-- ---- where a function begins: the place of its first statement

abbrev pub entered_by : List Text → (first_line : ℕ) → Place → Place
entered_by params line inside = (come 0 params inside.declarations (declares line 0 params inside).next).next

pub function_enters : (all : List Mark) (method : Bool) (params : List Text) (vararg : Bool) (block : Statements) (first last : ℕ) (place : Place) (rest : List Mark) (before behind : Ahead) (chunk : Chunk) (body : Fn → Step) → (t : FunctionAt None (all_params method params) vararg body before behind chunk) →
    Reached all (in_function vararg place) ((inside_part method (function_body params vararg block first last) (in_function vararg place)).marks ++ rest) → AllOf (λ g. g < place.functions) place.around → ScopeAt place →
    before ≡ without_sources (ahead_at all place ((body_part method (function_body params vararg block first last) place).marks ++ rest)) →
    (t.locals ≡ locals_from all place.declarations (all_params method params)) × ActiveAt (entered_by (all_params method params) first (in_function vararg place)) t.active
    × (t.first.ahead ≡ ahead_at all (entered_by (all_params method params) first (in_function vararg place)) ((statements_part block (entered_by (all_params method params) first (in_function vararg place))).marks ++ rest))
function_enters all method params vararg block first last place rest before behind chunk body t r low s e =
    let ps = all_params method params in
    let inside = in_function vararg place in
    let part = inside_part method (function_body params vararg block first last) in
    let one = declares first 0 ps in
    let two = both (come 0 ps inside.declarations) (statements_part block) in
    let p1 = (one inside).next in
    let start : before ≡ ahead_at all inside ((part inside).marks ++ rest) = e ∙ opened_ahead all place.declarations place.functions ((part inside).marks ++ rest) in
    let first_ahead = ahead_first_of all one two inside rest before start in
    let is = declared_are all first 0 ps t.locals inside ((two p1).marks ++ rest) before (t.first).ahead
    (reached_first_of all one two inside rest (record { before = r.before; is = r.is; declarations = r.declarations; functions = r.functions })) first_ahead t.declared in (
      is,
      locals_active all [] ps inside p1 [] [] t.active tt refl (subst (λ ls. Activated ls [] t.active) is t.activated) refl refl refl (omega arith) (entered_active vararg place low s),
      declared_moves all first 0 ps t.locals (record { pc = 0; ahead = before; functions = 0 }) t.first t.declared inside ((two p1).marks ++ rest) first_ahead,
    )
