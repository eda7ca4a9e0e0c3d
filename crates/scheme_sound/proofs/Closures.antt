-- CLOSURE with its further words keeps the invariant, and so do functions in expressions.
use Rattle.std.proofs.Common.{◌≡◌, ◌≤◌, ◌<◌, ℕ, zero, suc, true, false, List, [], ◌∷◌, length, refl, sym, ap, ◌∙◌, arith, inl, ◌+◌, cond, eqb-true, ◌⊎◌, ◌++◌, subst, length-append, append_assoc, append-nil, nat_lt, inr, eq-eqb, ne_eqb, lt-ltb, map, le-ltb}
use Rattle.std.specs.Prelude.{Option, None, ◌==◌, Some, slice_get}
use Rattle.std.proofs.lemmas.Option.{slice_get_within}
use Rattle.std.proofs.lemmas.List.{length-map}
use Rattle.std.proofs.lemmas.Bool.{cases_lt}
use Rattle.lua_num.specs.Bytes.{Text}
use Rattle.lua_tree.specs.Scoping.{global_use, local_use, upvalue_use, Use}
use Rattle.lua_tree.specs.Syntax.{FunctionBody, function_expression}
use Rattle.opcode.specs.declared.op.Op.{Op}
use Rattle.proto.specs.Chunk.{Chunk, own}
use Rattle.rules.specs.Sound.{IsSound}
use Rattle.scheme.specs.Making.{Maker, Ahead, put, head_or, where_is}
use Rattle.scheme.specs.declared.making.Piece.{Piece}
use Rattle.scheme.specs.Functions.{without_sources, further_words, further_word, Inner, closure, Finished, with_function, next_sources, source_names, source_name, coded_function}
use Rattle.scheme.specs.declared.making.Item.{Item}
use Rattle.scheme_stands.proofs.Growth.{front_empty, back_empty, Kept, calm, kept_end, at_end, function_step}
use Rattle.scheme_sound.proofs.Ghosts.{locals_of, kind_at, captured_at, Below, Ghost, plain_instr, Meets, FurtherFits, Clear, FurtherAt, capturing, Ok, AllSound, Grew, Widens}
use Rattle.scheme_sound.proofs.Later.{below_self, sane_later}
use Rattle.scheme_sound.proofs.States.{kept_same, grew_by, invariant_later, no_new_word, State, Leads, leads_on, leads_as, widens_self}
use Rattle.scheme_sound.proofs.Fitting.{Context, Fitting, CaptureFits, CapturesFit}
use Rattle.scheme_sound.proofs.Operands.{context, carry, ValueLeads, among_place, register_holds}
use Rattle.scheme_sound.proofs.Expressions.{Keeps, ReadsNames, single_keeps}

-- ---- the further words

-- what stands behind the end of a list stands in what was put there
at_more : {A : Type 0} (xs more : List A) (i : ℕ) → length xs ≤ i → (j : ℕ) → i ≡ length xs + j → slice_get (xs ++ more) i ≡ slice_get more j
at_more [] more i l j e = ap (slice_get more) (omega (arith, e))
at_more (x ∷ xs) more zero l j e = absurd (omega arith)
at_more (x ∷ xs) more (suc i) l j e = at_more xs more i (omega arith) j (omega arith)

-- a function of pcs, with other values behind one
abbrev switched : {A : Type 0} → (ℕ → A) → ℕ → (ℕ → A) → ℕ → A
switched f p x j = cond (nat_lt p j) (x j) (f j)

switched_before : {A : Type 0} (f x : ℕ → A) (p j : ℕ) → j ≤ p → switched f p x j ≡ f j
switched_before f x p j l = ap (λ b. cond b (x j) (f j)) (le-ltb p j l)

switched_behind : {A : Type 0} (f x : ℕ → A) (p j : ℕ) → p < j → switched f p x j ≡ x j
switched_behind f x p j l = ap (λ b. cond b (x j) (f j)) (lt-ltb p j l)

-- the further words as items
abbrev further_items : (line : ℕ) → Maker → List Use → List Item
further_items line m uses = map (λ one. record { line = line; piece = further_word (where_is one m.active) }) uses

abbrev pub AllFurther : Maker → Ghost → List Use → Type 0
AllFurther m g [] = Unit {0}
AllFurther m g (one ∷ uses) = FurtherFits m g (locals_of m.active) (further_word (where_is one m.active)) × AllFurther m g uses

-- what further words leave as it is
pub record FurtherPut (line : ℕ) (uses : List Use) (m n : Maker) : Type 0 where
  pub items : n.items ≡ m.items ++ further_items line m uses
  pub labels : n.labels ≡ m.labels
  pub constants : n.constants ≡ m.constants
  pub functions : n.functions ≡ m.functions
  pub upvalues : n.upvalue_names ≡ m.upvalue_names
  pub active : n.active ≡ m.active
  pub free : n.free ≡ m.free
  pub high : n.high ≡ m.high
  pub ahead : n.ahead ≡ m.ahead
  pub misfits : n.misfits ≡ m.misfits

furthered : (line : ℕ) (uses : List Use) (m : Maker) → FurtherPut line uses m (further_words line uses m)
furthered line [] m = record { items = sym (append-nil m.items); labels = refl; constants = refl; functions = refl; upvalues = refl; active = refl; free = refl; high = refl; ahead = refl; misfits = refl }
furthered line (one ∷ uses) m =
    let n = put line (further_word (where_is one m.active)) m in
    let f = furthered line uses n in
    record { items = f.items ∙ append_assoc m.items _ (further_items line m uses); labels = f.labels; constants = f.constants; functions = f.functions; upvalues = f.upvalues; active = f.active; free = f.free; high = f.high; ahead = f.ahead; misfits = f.misfits }

further_there : (line : ℕ) (m : Maker) (g : Ghost) (uses : List Use) → AllFurther m g uses → (j : ℕ) → j < length uses → (x : Item) × (slice_get (further_items line m uses) j ≡ Some x) × FurtherFits m g (locals_of m.active) x.piece
further_there line m g [] a j l = absurd (omega arith)
further_there line m g (one ∷ uses) a zero l = (record { line = line; piece = further_word (where_is one m.active) }, refl, a.0)
further_there line m g (one ∷ uses) a (suc j) l = further_there line m g uses a.1 j (omega arith)

module _ (line r k : ℕ) (m : Maker) (g : Ghost) (s : State m g None) (c : Chunk) (uses : List Use) (there : slice_get m.functions k ≡ Some c) (count : (own c).upvalues ≡ length uses) (fits : AllFurther m g uses) (within : r < g.size) (kind : kind_at (locals_of m.active) r ≡ 0) where
  abbrev p : ℕ
  p = length m.items

  abbrev first : Item
  first = record { line = line; piece = Piece.Abx Op.Closure r k }

  abbrev n : Maker
  n = further_words line uses (put line (Piece.Abx Op.Closure r k) m)

  abbrev e : ℕ
  e = suc p + (own c).upvalues

  abbrev h : Ghost
  h = record g { note = switched g.note p (λ j. locals_of m.active); left = switched g.left p (λ j. None); is_place = switched g.is_place p (λ j. j == e) }

  all : FurtherPut line uses (put line (Piece.Abx Op.Closure r k) m) n
  all = furthered line uses (put line (Piece.Abx Op.Closure r k) m)

  items : n.items ≡ m.items ++ first ∷ further_items line m uses
  items = all.items ∙ append_assoc m.items (first ∷ []) (further_items line m uses)

  long : length n.items ≡ e
  long =
      let mapped : length (further_items line m uses) ≡ length uses = length-map uses _ in
      omega (arith, ap length items, length-append m.items (first ∷ further_items line m uses), mapped, count)

  grew : Grew m n
  grew = record {
    items = subst (λ xs. Kept m.items xs) (sym items) (kept_end m.items (first ∷ further_items line m uses));
    longer = omega (arith, long);
    constants = subst (λ xs. Kept m.constants xs) (sym all.constants) (kept_same m.constants);
    count = omega (arith, ap length all.constants);
    functions = subst (λ xs. Kept m.functions xs) (sym all.functions) (kept_same m.functions);
    labels = omega (arith, ap length all.labels);
    upvalues = all.upvalues;
  }

  widens : Widens m g h
  widens = record {
    note = λ i l. switched_before g.note (λ j. locals_of m.active) p i (omega (arith, l));
    last = subst (λ ys. Below (g.note p) ys) (sym (switched_before g.note (λ j. locals_of m.active) p p (omega arith))) (below_self (g.note p));
    left = λ i l. switched_before g.left (λ j. None) p i l;
    is_place = λ i l. switched_before g.is_place (λ j. j == e) p i l;
    need = λ l x. refl;
    size = omega arith;
    vararg = refl;
  }

  at_p : h.note p ≡ locals_of m.active
  at_p = switched_before g.note (λ j. locals_of m.active) p p (omega arith) ∙ s.now

  behind : Clear h e
  behind = record { is_place = switched_behind g.is_place (λ j. j == e) p e (omega arith) ∙ eq-eqb e e refl; left = switched_behind g.left (λ j. None) p e (omega arith) }

  further_move : (piece : Piece) → FurtherFits m g (locals_of m.active) piece → FurtherFits n h (h.note p) piece
  further_move (Piece.Abc Op.Move a b c) f = (f.0, f.1, f.2, subst (λ xs. captured_at xs b ≡ true) (sym at_p) f.3, subst (λ xs. kind_at xs b ≡ 0) (sym at_p) f.4)
  further_move (Piece.Abc Op.GetUpval a b c) f = (f.0, f.1, subst (λ u. b < length u) (sym all.upvalues) f.2)
  further_move piece f = absurd f

  further_at : (j : ℕ) → j < (own c).upvalues → FurtherAt n h (h.note p) (suc p + j)
  further_at j l =
      let t = further_there line m g uses fits j (omega (arith, l, count)) in
      let step : suc p + j ≡ p + suc j = omega arith in
      record {
        item = t.0;
        there = subst (λ xs. slice_get xs (suc p + j) ≡ Some t.0) (sym items) (at_more m.items (first ∷ further_items line m uses) (suc p + j) (omega arith) (suc j) step ∙ t.1);
        fits = further_move t.0.piece t.2;
        is_place = switched_behind g.is_place (λ j. j == e) p (suc p + j) (omega arith) ∙ ne_eqb (suc p + j) e (λ x. omega (arith, x, l));
      }

  here : slice_get n.items p ≡ Some first
  here = subst (λ xs. slice_get xs p ≡ Some first) (sym items) (at_more m.items (first ∷ further_items line m uses) p (omega arith) 0 (omega arith))

  ok : Ok n h p (Piece.Abx Op.Closure r k)
  ok = record {
    format = refl;
    sane = sane_later m n g h (locals_of m.active) (h.note p) (plain_instr (Piece.Abx Op.Closure r k)) grew widens at_p
        (record { first = within; ordered = refl; registers = (within, tt); fields = tt; constant = tt; upvalues = tt; small = inl (omega arith); extra = tt; spares = λ x t. subst (λ y. kind_at (locals_of m.active) y ≡ 0) (eqb-true r x t) kind });
    meets = subst (λ x. Meets None x) (sym (switched_before g.left (λ j. None) p p (omega arith) ∙ s.left)) tt;
    flow = capturing r k c refl (subst (λ fs. slice_get fs k ≡ Some c) (sym all.functions) there) further_at (omega (arith, long)) behind
        (subst (λ xs. Below (h.note p) xs) (at_p ∙ sym (switched_behind g.note (λ j. locals_of m.active) p e (omega arith))) (below_self (h.note p)));
  }

  new : (i : ℕ) (x : Item) → p ≤ i → slice_get n.items i ≡ Some x → h.is_place i ≡ true → (i < suc p) ⊎ (suc p ≤ i) → Ok n h i x.piece
  new i x l t u (inl a) =
      let same : i ≡ p = omega (arith, l, a) in
      let t' : slice_get n.items p ≡ Some x = subst (λ j. slice_get n.items j ≡ Some x) same t in
      let is : first ≡ x = (let q = here in cc) in
      subst (λ y. Ok n h i y.piece) is (subst (λ j. Ok n h j (Piece.Abx Op.Closure r k)) (sym same) ok)
  new i x l t u (inr a) =
      let q = slice_get_within n.items i x t in
      let is : i ≡ e = eqb-true i e (sym (switched_behind g.is_place (λ j. j == e) p i a) ∙ u) in
      absurd (omega (arith, q, long, is))

  closure_leads : Leads m g n None m.ahead
  closure_leads = record {
    ghost = h;
    state = record {
      invariant = invariant_later m n g h s.invariant grew widens all.labels refl (λ x. subst (λ fs. AllSound fs) (sym all.functions) (s.invariant.functions (sym all.misfits ∙ x))) (λ i x l t u. new i x l t u (cases_lt i (suc p))) (subst (λ j. h.is_place j ≡ true) (sym long) behind.is_place);
      now = subst (λ j. h.note j ≡ locals_of n.active) (sym long) (switched_behind g.note (λ j. locals_of m.active) p e (omega arith) ∙ ap locals_of (sym all.active));
      left = subst (λ j. h.left j ≡ None) (sym long) behind.left;
      held = omega (arith, s.held, ap length all.active);
      room = omega (arith, s.room, ap length all.active, all.free);
    };
    onward = record { need = λ l x. refl; labels = omega (arith, ap length all.labels); high = omega (arith, all.high); count = omega (arith, ap length all.constants); upvalues = all.upvalues; larger = omega arith; size = omega arith; vararg = refl };
    unplaced = refl;
    active = all.active;
    ahead = all.ahead;
  }

-- ---- functions

-- what is known of a function that stands in another
pub record InnerKeeps (inner : Inner) (i : Fitting) : Type 0 where
  pub ahead_is : (names : List Text) (c : Context) (a b : Ahead) → i c a b → length names ≡ length (head_or [] a.sources) → (inner names (without_sources a)).ahead ≡ b
  pub sound : (names : List Text) (c : Context) (a b : Ahead) → i c a b → length names ≡ length (head_or [] a.sources) → (inner names (without_sources a)).misfits ≡ [] → IsSound (inner names (without_sources a)).chunk false
  pub count : (names : List Text) (c : Context) (a b : Ahead) → i c a b → length names ≡ length (head_or [] a.sources) → (own (inner names (without_sources a)).chunk).upvalues ≡ length names
  pub sources : (c : Context) (a b : Ahead) → i c a b → CapturesFit c (head_or [] a.sources)

all_sound_more : (cs : List Chunk) (c : Chunk) → AllSound cs → IsSound c false → AllSound (cs ++ c ∷ [])
all_sound_more [] c a s = (s, tt)
all_sound_more (d ∷ cs) c a s = (a.0, all_sound_more cs c a.1 s)

function_leads : (made : Finished) (m : Maker) (g : Ghost) → State m g None → (made.misfits ≡ [] → IsSound made.chunk false) → Leads m g (with_function made m) None made.ahead
function_leads made m g s w =
    let n = with_function made m in
    let r : Grew m n = grew_by (function_step {v = calm} made m) in
    record {
      ghost = g;
      state = record {
        invariant = invariant_later m n g g s.invariant r (widens_self m g) refl refl (λ e. all_sound_more m.functions made.chunk (s.invariant.functions (front_empty m.misfits made.misfits e)) (w (back_empty m.misfits made.misfits e))) (λ i x l a e. no_new_word m (λ i p. Ok n g i p) i x l a) s.invariant.here;
        now = s.now;
        left = s.left;
        held = s.held;
        room = s.room;
      };
      onward = record { need = λ l k. refl; labels = omega arith; high = omega arith; count = omega arith; upvalues = refl; larger = omega arith; size = omega arith; vararg = refl };
      unplaced = refl;
      active = refl;
      ahead = refl;
    }

source_fits : (u : Use) (m : Maker) (g : Ghost) (o : Option ℕ) → State m g o → CaptureFits (context m g) u → FurtherFits m g (locals_of m.active) (further_word (where_is u m.active))
source_fits (local_use d) m g o s x =
    let r = register_holds d m g o s x.0 in
    (refl, refl, r.0, ap (captured_at (locals_of m.active)) (among_place d m.active) ∙ x.1, r.1)
source_fits (upvalue_use slot) m g o s x = (refl, refl, x)
source_fits global_use m g o s x = absurd x

sources_fit : (us : List Use) (m : Maker) (g : Ghost) (o : Option ℕ) → State m g o → CapturesFit (context m g) us → AllFurther m g us
sources_fit [] m g o s x = tt
sources_fit (u ∷ us) m g o s x = (source_fits u m g o s x.0, sources_fit us m g o s x.1)

pub closure_to : (line : ℕ) (inner : Inner) (i : Fitting) → InnerKeeps inner i → ValueLeads (closure line inner) i
closure_to line inner i f r m g b s x l k =
    let uses = next_sources m in
    let names = source_names m uses in
    let many : length names ≡ length uses = length-map uses (source_name m) in
    let made = inner names (without_sources m.ahead) in
    let n = with_function made m in
    let d = function_leads made m g s (f.sound names (context m g) m.ahead b x many) in
    let q = d.onward.larger in
    let sources = carry (λ c a' b'. CapturesFit c uses) b d (f.sources (context m g) m.ahead b x) in
    let e = closure_leads line r (length m.functions) n d.ghost d.state made.chunk uses (at_end m.functions made.chunk) (f.count names (context m g) m.ahead b x many ∙ many) (sources_fit uses n d.ghost None d.state sources) (omega (arith, q, l)) k in
    let z = leads_on d e in
    leads_as z (f.ahead_is names (context m g) m.ahead b x many)

pub function_keeps : (line : ℕ) (body : FunctionBody) (inner : Inner) (i : Fitting) → InnerKeeps inner i → ReadsNames (function_expression line body) i → Keeps (coded_function line body inner) i
function_keeps line body inner i f z = single_keeps line (function_expression line body) (closure line inner) i (closure_to line inner i f) z refl refl
