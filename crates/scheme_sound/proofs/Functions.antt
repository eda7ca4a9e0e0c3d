-- A whole function is sound: the invariant at its beginning, its end, and what is made of it.
use Rattle.std.proofs.Common.{◌≡◌, ◌≤◌, ℕ, suc, Bool, true, false, List, [], length, refl, sym, ap, ◌∙◌, arith, inl, ◌⊎◌, subst, true≢false, inr}
use Rattle.std.specs.Prelude.{Option, None}
use Rattle.std.proofs.lemmas.List.{length-map}
use Rattle.lua_num.specs.Bytes.{Text}
use Rattle.opcode.specs.declared.op.Op.{Op}
use Rattle.scheme.specs.Making.{Maker, Ahead, put, take_registers, Part, end_locals, head_or, activate}
use Rattle.scheme.specs.Statements.{Loop}
use Rattle.scheme.specs.declared.making.Piece.{Piece}
use Rattle.scheme.specs.declared.making.Local.{Local}
use Rattle.scheme.specs.Functions.{without_sources, whole_function, empty_maker, function_from}
use Rattle.scheme.specs.Scheme.{inner}
use Rattle.scheme_stands.proofs.Growth.{front_empty, back_empty, at_end, length_end}
use Rattle.scheme_sound.proofs.Ghosts.{locals_of, Ghost, ending, IsIn, Placed, AllSound, Invariant}
use Rattle.scheme_sound.proofs.States.{updated_other, State, leads_on, widens_self, invariant_same, take_leads}
use Rattle.scheme_sound.proofs.Words.{next_ghost, put_word, put_place, put_left, put_ok, return_sane}
use Rattle.scheme_sound.proofs.Fitting.{Context, declared_ahead, declared_locals, FittingStep, Function}
use Rattle.scheme_sound.proofs.Closures.{InnerKeeps}
use Rattle.scheme_sound.proofs.Blocks.{Brings, brings_none, brings_then, carry_brought, StepKeeps}
use Rattle.scheme_sound.proofs.Locals.{declared_length, declared_leads, behind_declared, activated, activate_brings}
use Rattle.scheme_sound.proofs.Turns.{take_activate}
use Rattle.scheme_sound.proofs.Known.{LabelStands, Ready}
use Rattle.scheme_sound.proofs.Finished.{sound_of}

-- ---- the beginning and the end

-- nothing stands yet, and the first pc is a place
abbrev start_ghost : Bool → Ghost
start_ghost vararg = record { note = λ i. []; left = λ i. None; is_place = λ i. true; need = λ l. []; unplaced = []; size = 2; vararg = vararg }

start_state : (a : Ahead) (names : List Text) (vararg : Bool) → State (empty_maker a names) (start_ghost vararg) None
start_state a names vararg = record {
  invariant = record {
    words = λ i x e. cc;
    labels = λ l k. absurd (omega (arith, k));
    here = refl;
    begins = record { is_place = refl; left = refl };
    start = λ r l. (let h = l.index in omega (arith, h));
    functions = λ e. tt;
    least = omega arith;
  };
  now = refl;
  left = refl;
  held = omega arith;
  room = omega arith;
}

-- a whole function
pub record Made (m : Maker) (params : ℕ) (vararg : Bool) (names : List Text) (b : Ahead) : Type 0 where
  pub ghost : Ghost
  pub ready : Ready m ghost
  pub extra : ghost.vararg ≡ vararg
  pub ahead : m.ahead ≡ b
  pub upvalues : m.upvalue_names ≡ names
  pub functions : m.misfits ≡ [] → AllSound m.functions
  pub high : params ≤ m.high

end_made : (end_line k : ℕ) (vararg : Bool) (names : List Text) (b : Ahead) (e z : Maker) (inner : List Local) (r : Brings e (start_ghost vararg) z inner b) → e.upvalue_names ≡ names → k ≤ z.high → Made (put end_line (Piece.Abc Op.Return 0 1 0) (end_locals 0 z)) k vararg names b
end_made end_line k vararg names b e z inner r u h =
    let piece = Piece.Abc Op.Return 0 1 0 in
    let p = length z.items in
    let g = next_ghost r.ghost p (locals_of z.active) None in
    let f = put end_line piece (end_locals 0 z) in
    let least = r.state.invariant.least in
    let ok = put_ok end_line piece z r.ghost None None r.state refl (return_sane 0 1 z r.ghost (omega (arith, least)) (omega (arith, least))) tt (ending 0 1 refl (record { is_place = put_place end_line piece z r.ghost None None r.state; left = put_left end_line piece z r.ghost None None r.state })) in
    let v0 : Invariant (put end_line piece z) g = put_word end_line piece z r.ghost (locals_of z.active) None r.state.invariant ok in
    let v : Invariant f g = invariant_same {m = put end_line piece z} {n = f} (record { items = refl; labels = refl; constants = refl; functions = refl; upvalues = refl; misfits = refl }) (widens_self (put end_line piece z) g) refl v0 in
    let long : length f.items ≡ suc p = length_end z.items (record { line = end_line; piece = piece }) in
    let unplaced : r.ghost.unplaced ≡ [] = r.unplaced in
    record {
      ghost = g;
      ready = record {
        invariant = v;
        labels = λ l i. stand l (before l unplaced (r.state.invariant.labels l i)) (after l unplaced (v.labels l i)) long;
        line = end_line;
        last = p;
        ends = at_end z.items (record { line = end_line; piece = piece });
        long = long;
        is_place = updated_other r.ghost.is_place (suc p) true p (λ x. omega (arith, x)) ∙ r.state.invariant.here;
        size = (let q = r.onward.size in omega (arith, q));
      };
      extra = r.onward.vararg;
      ahead = r.ahead;
      upvalues = r.onward.upvalues ∙ u;
      functions = v.functions;
      high = h;
    }
  where
    before : (l : ℕ) → r.ghost.unplaced ≡ [] → IsIn l r.ghost.unplaced ⊎ Placed z r.ghost l → Placed z r.ghost l
    before l o (inl i) = absurd (subst (λ os. IsIn l os) o i)
    before l o (inr a) = a

    after : (l : ℕ) → r.ghost.unplaced ≡ [] → IsIn l r.ghost.unplaced ⊎ Placed (put end_line (Piece.Abc Op.Return 0 1 0) (end_locals 0 z)) (next_ghost r.ghost (length z.items) (locals_of z.active) None) l → Placed (put end_line (Piece.Abc Op.Return 0 1 0) (end_locals 0 z)) (next_ghost r.ghost (length z.items) (locals_of z.active) None) l
    after l o (inl i) = absurd (subst (λ os. IsIn l os) o i)
    after l o (inr a) = a

    stand : (l : ℕ) → Placed z r.ghost l → Placed (put end_line (Piece.Abc Op.Return 0 1 0) (end_locals 0 z)) (next_ghost r.ghost (length z.items) (locals_of z.active) None) l → length (put end_line (Piece.Abc Op.Return 0 1 0) (end_locals 0 z)).items ≡ suc (length z.items) → LabelStands (put end_line (Piece.Abc Op.Return 0 1 0) (end_locals 0 z)) (next_ghost r.ghost (length z.items) (locals_of z.active) None) l
    stand l a c long = record { within = (let w = a.within in omega (arith, w, long)); clear = c.clear; allows = c.allows }

pub whole_made : (end_line : ℕ) (params : List Text) (vararg : Bool) (body : Option Loop → Part) (step : FittingStep) → StepKeeps body step → (a : Ahead) (names : List Text) (inner : List Local) (b : Ahead) → step (record { locals = declared_locals params a; upvalues = length names; vararg = vararg }) inner (declared_ahead params a) b
    → Made (whole_function end_line params (body None) (empty_maker a names)) (length params) vararg names b
whole_made end_line params vararg body step f a names inner b x =
    let e = empty_maker a names in
    let k = length params in
    behind_declared params (λ locals n. put end_line (Piece.Abc Op.Return 0 1 0) (end_locals 0 (body None (take_registers k (activate locals n))))) e (λ w. Made w k vararg names b) (
    let g = start_ghost vararg in
    let ds = declared_locals params a in
    let m1 : Maker = record e { ahead = declared_ahead params a } in
    let d0 = declared_leads params (start_state a names vararg) in
    let m2 = take_registers k m1 in
    let d1 = take_leads k d0.state in
    let d = leads_on d0 d1 in
    let none = ap length d.active in
    let r = activate_brings params a m2 d.ghost d.state (omega (arith, none)) (omega (arith, none)) in
    let m3 = activate ds m2 in
    let w = brings_then (brings_none d) r in
    let free3 = (activated ds m2).free in
    let high3 = (activated ds m2).high in
    let long3 : length m3.active ≡ k = sym (length-map m3.active (λ one. one.local)) ∙ ap length r.locals ∙ declared_length params a in
    let q = f None m3 w.ghost inner b w.state (omega (arith, free3, long3)) tt (carry_brought (λ c a' b'. step c inner a' b') b (record { ghost = w.ghost; state = w.state; onward = w.onward; unplaced = w.unplaced; more = w.more; grown = w.grown; locals = w.locals; ahead = w.ahead ∙ d.ahead }) x) in
    let z = body None m3 in
    let all = brings_then w q in
    let high = q.onward.high in
    subst (λ n. Made (put end_line (Piece.Abc Op.Return 0 1 0) (end_locals 0 (body None n))) k vararg names b) (sym (take_activate k ds m1))
    (end_made end_line k vararg names b e z inner all refl (omega (arith, high, high3))))

-- ---- a function that stands in another

pub inner_keeps : (params : List Text) (vararg : Bool) (first last : ℕ) (body : Option Loop → Part) (step : FittingStep) → StepKeeps body step
    → InnerKeeps (function_from (record { source = None; first_line = first; last_line = last; params = length params; vararg = vararg }) last params (body None)) (Function params vararg step)
inner_keeps params vararg first last body step f = record {
  ahead_is = λ names c a b x e. (made names c a b x e).ahead;
  sound = λ names c a b x e few. (
      let w = made names c a b x e in
      let m = whole_function last params (body None) (empty_maker (without_sources a) names) in
      let high = w.high in
      sound_of false (record { source = None; first_line = first; last_line = last; params = length params; vararg = vararg }) m w.ghost w.ready (back_empty m.misfits _ few) (w.functions (front_empty m.misfits _ few)) (omega (arith, high)) w.extra (λ n. absurd (true≢false (sym n))));
  count = λ names c a b x e. ap length (made names c a b x e).upvalues;
  sources = λ c a b x. x.captures_fit;
}
  where
    made : (names : List Text) (c : Context) (a b : Ahead) → Function params vararg step c a b → length names ≡ length (head_or [] a.sources) → Made (whole_function last params (body None) (empty_maker (without_sources a) names)) (length params) vararg names b
    made names c a b x e = whole_made last params vararg body step f (without_sources a) names x.inner b (subst (λ k. step (record { locals = declared_locals params (without_sources a); upvalues = k; vararg = vararg }) x.inner (declared_ahead params (without_sources a)) b) (sym e) x.body_fits)
