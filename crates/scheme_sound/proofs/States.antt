-- States of a function that is being made, and what leads from one to another. Here and in all files of this crate m, n and z are makers,
-- g and h their ghosts, o the open results that are left, and b what is ahead behind a part.
use Rattle.std.proofs.Common.{◌≡◌, ◌≤◌, ◌<◌, ℕ, suc, true, List, [], ◌∷◌, length, refl, sym, ap, ◌∙◌, arith, inl, cond, ◌⊎◌, subst, inr, eq-eqb, ne_eqb, get_or, max}
use Rattle.std.specs.Prelude.{Option, None, ◌==◌, Some, slice_get}
use Rattle.std.proofs.lemmas.Option.{slice_get_within}
use Rattle.std.proofs.lemmas.Bool.{cases_lt}
use Rattle.rules.proofs.Lists.{get_some}
use Rattle.scheme.specs.Making.{Maker, Ahead, take_registers, Part, free_from, freeing, pass_name, used}
use Rattle.scheme.specs.declared.making.Piece.{Piece}
use Rattle.scheme.specs.declared.making.Local.{Local}
use Rattle.scheme.specs.declared.making.Item.{Item}
use Rattle.scheme_stands.proofs.Growth.{Kept, Grown, Mode}
use Rattle.scheme_sound.proofs.Ghosts.{locals_of, Below, Ghost, Ok, IsIn, Placed, AllSound, Invariant, Grew, Widens}
use Rattle.scheme_sound.proofs.Later.{below_self, note_below, clear_later, ok_later, placed_later}

-- ---- functions of pcs and labels

-- a function with another value at one number
abbrev pub updated : {A : Type 0} → (ℕ → A) → ℕ → A → ℕ → A
updated f i x j = cond (j == i) x (f j)

pub updated_same : {A : Type 0} (f : ℕ → A) (i : ℕ) (x : A) → updated f i x i ≡ x
updated_same f i x = ap (λ b. cond b x (f i)) (eq-eqb i i refl)

pub updated_other : {A : Type 0} (f : ℕ → A) (i : ℕ) (x : A) (j : ℕ) → ((j ≡ i) → ⊥) → updated f i x j ≡ f j
updated_other f i x j n = ap (λ b. cond b x (f j)) (ne_eqb j i n)

-- ---- growth

pub kept_same : {A : Type 0} (xs : List A) → Kept xs xs
kept_same xs i x e = e

kept_length : {A : Type 0} (xs ys : List A) → Kept xs ys → length xs ≤ length ys
kept_length [] ys k = omega arith
kept_length (x ∷ xs) [] k = absurd (let h = k 0 x refl in cc)
kept_length (x ∷ xs) (y ∷ ys) k = let h = kept_length xs ys (λ i z e. k (suc i) z e) in omega (arith, h)

-- what every step keeps that places no label
pub grew_by : {v : Mode} {m n : Maker} → Grown v m n → Grew m n
grew_by {v} {m} {n} r = record { items = r.items; longer = kept_length m.items n.items r.items; constants = r.constants; count = kept_length m.constants n.constants r.constants; functions = r.functions; labels = r.more; upvalues = r.upvalues }

-- ---- the invariant

-- more words, more labels and more functions
pub invariant_more : (m n : Maker) (g h : Ghost) → Invariant m g → Grew m n → Widens m g h → ((l : ℕ) → l < length n.labels → IsIn l h.unplaced ⊎ Placed n h l) → (n.misfits ≡ [] → AllSound n.functions)
    → ((i : ℕ) (x : Item) → length m.items ≤ i → slice_get n.items i ≡ Some x → h.is_place i ≡ true → Ok n h i x.piece) → h.is_place (length n.items) ≡ true → Invariant n h
invariant_more m n g h v r w ls fs new last = record {
  words = λ i x e s. words i x e s (cases_lt i (length m.items));
  labels = ls;
  here = last;
  begins = clear_later r w 0 (omega arith) v.begins;
  start = λ x l. v.start x ((note_below r w 0 (omega arith)).loops x l);
  functions = fs;
  least = omega (arith, v.least, w.size);
}
  where
    words : (i : ℕ) (x : Item) → slice_get n.items i ≡ Some x → h.is_place i ≡ true → (i < length m.items) ⊎ (length m.items ≤ i) → Ok n h i x.piece
    words i x e s (inr l) = new i x l e s
    words i x e s (inl l) =
        let f = get_some m.items i l in
        let same : f.0 ≡ x = (let k = r.items i f.0 f.1 in cc) in
        subst (λ y. Ok n h i y.piece) same (ok_later r w i f.0.piece l (v.words i f.0 f.1 (sym (w.is_place i (omega (arith, l))) ∙ s)))

-- more words and functions
pub invariant_later : (m n : Maker) (g h : Ghost) → Invariant m g → Grew m n → Widens m g h → n.labels ≡ m.labels → h.unplaced ≡ g.unplaced → (n.misfits ≡ [] → AllSound n.functions)
    → ((i : ℕ) (x : Item) → length m.items ≤ i → slice_get n.items i ≡ Some x → h.is_place i ≡ true → Ok n h i x.piece) → h.is_place (length n.items) ≡ true → Invariant n h
invariant_later m n g h v r w el eo fs new last = invariant_more m n g h v r w (λ l k. labels l (omega (arith, k, ap length el)) (v.labels l (omega (arith, k, ap length el)))) fs new last
  where
    labels : (l : ℕ) → l < length m.labels → IsIn l g.unplaced ⊎ Placed m g l → IsIn l h.unplaced ⊎ Placed n h l
    labels l k (inl a) = inl (subst (λ xs. IsIn l xs) (sym eo) a)
    labels l k (inr p) = inr (placed_later r w l k (ap (λ ls. get_or ls l 0) el) p)

-- where no word is new
pub no_new_word : (m : Maker) (P : ℕ → Piece → Type 0) → (i : ℕ) (x : Item) → length m.items ≤ i → slice_get m.items i ≡ Some x → P i x.piece
no_new_word m P i x l e = absurd (let k = slice_get_within m.items i x e in omega (arith, l, k))

-- ---- states

-- at the next pc the note is that of the active locals, so many results are left open, and the active locals have their registers
pub record State (m : Maker) (g : Ghost) (o : Option ℕ) : Type 0 where
  pub invariant : Invariant m g
  pub now : g.note (length m.items) ≡ locals_of m.active
  pub left : g.left (length m.items) ≡ o
  pub held : length m.active ≤ g.size
  pub room : length m.active ≤ m.free

-- from one state to another: what is asked at the labels stays, and a register may be promised in the size before F passes it
pub record Onward (m : Maker) (g : Ghost) (n : Maker) (h : Ghost) : Type 0 where
  pub need : (l : ℕ) → l < length m.labels → h.need l ≡ g.need l
  pub labels : length m.labels ≤ length n.labels
  pub high : m.high ≤ n.high
  pub count : length m.constants ≤ length n.constants
  pub upvalues : n.upvalue_names ≡ m.upvalue_names
  pub larger : g.size ≤ h.size
  pub size : h.size ≤ max g.size n.high
  pub vararg : h.vararg ≡ g.vararg

pub onward_then : {m n o : Maker} {g h k : Ghost} → Onward m g n h → Onward n h o k → Onward m g o k
onward_then a b = record {
  need = λ l k. b.need l (omega (arith, k, a.labels)) ∙ a.need l k;
  labels = omega (arith, a.labels, b.labels);
  high = omega (arith, a.high, b.high);
  count = omega (arith, a.count, b.count);
  upvalues = b.upvalues ∙ a.upvalues;
  larger = omega (arith, a.larger, b.larger);
  size = omega (arith, a.size, b.size, b.high);
  vararg = b.vararg ∙ a.vararg;
}

pub onward_self : (m : Maker) (g : Ghost) → Onward m g m g
onward_self m g = record { need = λ l k. refl; labels = omega arith; high = omega arith; count = omega arith; upvalues = refl; larger = omega arith; size = omega arith; vararg = refl }

-- a part leads from one state to another, and leaves the active locals as they are
pub record Leads (m : Maker) (g : Ghost) (n : Maker) (o : Option ℕ) (b : Ahead) : Type 0 where
  pub ghost : Ghost
  pub state : State n ghost o
  pub onward : Onward m g n ghost
  pub unplaced : ghost.unplaced ≡ g.unplaced
  pub active : n.active ≡ m.active
  pub ahead : n.ahead ≡ b

pub leads_self : {m : Maker} {g : Ghost} {o : Option ℕ} → State m g o → Leads m g m o m.ahead
leads_self {m} {g} s = record { ghost = g; state = s; onward = onward_self m g; unplaced = refl; active = refl; ahead = refl }

-- one part after another
abbrev pub leads_then : {m n z : Maker} {g : Ghost} {o o' : Option ℕ} {a b : Ahead} → (d : Leads m g n o a) → Leads n d.ghost z o' b → Leads m g z o' b
leads_then d e = record { ghost = e.ghost; state = e.state; onward = onward_then d.onward e.onward; unplaced = e.unplaced ∙ d.unplaced; active = e.active ∙ d.active; ahead = e.ahead }

-- what is put behind what was done
abbrev pub leads_on : {m n z : Maker} {g : Ghost} {o o' : Option ℕ} {b : Ahead} → (d : Leads m g n o b) → Leads n d.ghost z o' n.ahead → Leads m g z o' b
leads_on d e = record { ghost = e.ghost; state = e.state; onward = onward_then d.onward e.onward; unplaced = e.unplaced ∙ d.unplaced; active = e.active ∙ d.active; ahead = e.ahead ∙ d.ahead }

-- what is ahead may be written otherwise
abbrev pub leads_as : {m n : Maker} {g : Ghost} {o : Option ℕ} {a b : Ahead} → (d : Leads m g n o a) → a ≡ b → Leads m g n o b
leads_as d e = record { ghost = d.ghost; state = d.state; onward = d.onward; unplaced = d.unplaced; active = d.active; ahead = d.ahead ∙ e }

-- ---- the same words, labels, constants and functions

pub widens_self : (m : Maker) (g : Ghost) → Widens m g g
widens_self m g = record { note = λ i l. refl; last = below_self _; left = λ i l. refl; is_place = λ i l. refl; need = λ l k. refl; size = omega arith; vararg = refl }

pub record SameMade (m n : Maker) : Type 0 where
  pub items : n.items ≡ m.items
  pub labels : n.labels ≡ m.labels
  pub constants : n.constants ≡ m.constants
  pub functions : n.functions ≡ m.functions
  pub upvalues : n.upvalue_names ≡ m.upvalue_names
  pub misfits : n.misfits ≡ m.misfits

same_grew : {m n : Maker} → SameMade m n → Grew m n
same_grew {m} {n} s = record {
  items = subst (λ xs. Kept m.items xs) (sym s.items) (kept_same m.items);
  longer = omega (arith, ap length s.items);
  constants = subst (λ xs. Kept m.constants xs) (sym s.constants) (kept_same m.constants);
  count = omega (arith, ap length s.constants);
  functions = subst (λ xs. Kept m.functions xs) (sym s.functions) (kept_same m.functions);
  labels = omega (arith, ap length s.labels);
  upvalues = s.upvalues;
}

-- no new word: also where what comes next is allowed more
pub invariant_same : {m n : Maker} {g h : Ghost} → SameMade m n → Widens m g h → h.unplaced ≡ g.unplaced → Invariant m g → Invariant n h
invariant_same {m} {n} {g} {h} s w e v =
    invariant_later m n g h v (same_grew s) w s.labels e (λ x. subst (λ fs. AllSound fs) (sym s.functions) (v.functions (sym s.misfits ∙ x)))
    (λ i x l a k. no_new_word m (λ i p. Ok n h i p) i x l (subst (λ xs. slice_get xs i ≡ Some x) s.items a))
    (ap h.is_place (ap length s.items) ∙ w.is_place (length m.items) (omega arith) ∙ v.here)

-- the same locals
pub state_same : {m n : Maker} {g : Ghost} {o : Option ℕ} → State m g o → SameMade m n → n.active ≡ m.active → length m.active ≤ n.free → State n g o
state_same {m} {n} {g} s e a k = record {
  invariant = invariant_same e (widens_self m g) refl s.invariant;
  now = ap g.note (ap length e.items) ∙ s.now ∙ ap locals_of (sym a);
  left = ap g.left (ap length e.items) ∙ s.left;
  held = omega (arith, s.held, ap length a);
  room = omega (arith, k, ap length a);
}

onward_same : {m n : Maker} {g : Ghost} → SameMade m n → m.high ≤ n.high → Onward m g n g
onward_same e l = record { need = λ l k. refl; labels = omega (arith, ap length e.labels); high = l; count = omega (arith, ap length e.constants); upvalues = e.upvalues; larger = omega arith; size = omega arith; vararg = refl }

-- a step that makes nothing
pub leads_same : {m n : Maker} {g : Ghost} {o : Option ℕ} → State m g o → SameMade m n → n.active ≡ m.active → length m.active ≤ n.free → m.high ≤ n.high → Leads m g n o n.ahead
leads_same {m} {n} {g} s e a k l = record { ghost = g; state = state_same s e a k; onward = onward_same e l; unplaced = refl; active = a; ahead = refl }

-- ---- other locals are active from here on

-- the ghost allows other locals at a pc
abbrev pub with_note : Ghost → (p : ℕ) → List Local → Ghost
with_note g p xs = record g { note = updated g.note p xs }

with_note_widens : (m : Maker) (g : Ghost) (xs : List Local) → Below (g.note (length m.items)) xs → Widens m g (with_note g (length m.items) xs)
with_note_widens m g xs b =
    let p = length m.items in
    record { note = λ i l. updated_other g.note p xs i (λ e. omega (arith, e, l)); last = subst (λ ys. Below (g.note p) ys) (sym (updated_same g.note p xs)) b; left = λ i l. refl; is_place = λ i l. refl; need = λ l k. refl; size = omega arith; vararg = refl }

pub state_with_note : {m n : Maker} {g : Ghost} {o : Option ℕ} → State m g o → SameMade m n → Below (locals_of m.active) (locals_of n.active) → length n.active ≤ g.size → length n.active ≤ n.free → State n (with_note g (length m.items) (locals_of n.active)) o
state_with_note {m} {n} {g} s e b k l = record {
  invariant = invariant_same e (with_note_widens m g _ (subst (λ xs. Below xs (locals_of n.active)) (sym s.now) b)) refl s.invariant;
  now = ap (updated g.note (length m.items) (locals_of n.active)) (ap length e.items) ∙ updated_same g.note (length m.items) (locals_of n.active);
  left = ap g.left (ap length e.items) ∙ s.left;
  held = k;
  room = l;
}

-- ---- registers

pub take_leads : (k : ℕ) {m : Maker} {g : Ghost} {o : Option ℕ} → State m g o → Leads m g (take_registers k m) o m.ahead
take_leads k s = leads_same s (record { items = refl; labels = refl; constants = refl; functions = refl; upvalues = refl; misfits = refl }) refl (let r = s.room in omega (arith, r)) (omega arith)

pub used_leads : (k : ℕ) {m : Maker} {g : Ghost} {o : Option ℕ} → State m g o → Leads m g (used k m) o m.ahead
used_leads k s = leads_same s (record { items = refl; labels = refl; constants = refl; functions = refl; upvalues = refl; misfits = refl }) refl s.room (omega arith)

pub free_leads : (r : ℕ) {m : Maker} {g : Ghost} {o : Option ℕ} → length m.active ≤ r → State m g o → Leads m g (free_from r m) o m.ahead
free_leads r l s = leads_same s (record { items = refl; labels = refl; constants = refl; functions = refl; upvalues = refl; misfits = refl }) refl l (omega arith)

pub freed : (m : Maker) (g : Ghost) (part : Part) (b : Ahead) → length m.active ≤ m.free → Leads m g (part m) None b → Leads m g (freeing part m) None b
freed m g part b l d = leads_on d (free_leads m.free (omega (arith, l, ap length d.active)) d.state)

pub pass_leads : {m : Maker} {g : Ghost} {o : Option ℕ} → State m g o → Leads m g (pass_name m) o (pass_name m).ahead
pass_leads s = leads_same s (record { items = refl; labels = refl; constants = refl; functions = refl; upvalues = refl; misfits = refl }) refl s.room (omega arith)

-- so many registers are promised
abbrev pub sized : Ghost → ℕ → Ghost
sized g k = record g { size = max g.size k }

pub sized_state : (k : ℕ) {m : Maker} {g : Ghost} {o : Option ℕ} → State m g o → State m (sized g k) o
sized_state k {m} {g} s = record {
  invariant = invariant_same (record { items = refl; labels = refl; constants = refl; functions = refl; upvalues = refl; misfits = refl })
      (record { note = λ i l. refl; last = below_self _; left = λ i l. refl; is_place = λ i l. refl; need = λ l k. refl; size = omega arith; vararg = refl }) refl s.invariant;
  now = s.now;
  left = s.left;
  held = omega (arith, s.held);
  room = s.room;
}

-- and they were taken in the end
abbrev pub sized_leads : (k : ℕ) {m n : Maker} {g : Ghost} {o : Option ℕ} {b : Ahead} → Leads m (sized g k) n o b → k ≤ n.high → Leads m g n o b
sized_leads k d l = record {
  ghost = d.ghost;
  state = d.state;
  onward = record { need = d.onward.need; labels = d.onward.labels; high = d.onward.high; count = d.onward.count; upvalues = d.onward.upvalues; larger = (let a = d.onward.larger in omega (arith, a)); size = (let a = d.onward.size in omega (arith, a, l)); vararg = d.onward.vararg };
  unplaced = d.unplaced;
  active = d.active;
  ahead = d.ahead;
}
