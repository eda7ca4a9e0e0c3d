-- Cells that are read, written and captured, in the state of a sound chunk's run.
use Rattle.std.proofs.Common.{◌≡◌, ◌⊎◌, inl, inr, ℕ, zero, suc, ◌+◌, ◌<◌, ◌≤◌, Bool, true, false, cond, List, [], ◌∷◌, ◌++◌, length, None, Some, refl, sym, ap, subst, ◌∙◌, arith, eqb-true, eq-eqb, ne_eqb, length-set, length-append}
use Rattle.std.specs.Prelude.{Option, slice_get, slice_set, option_and_then, nat_eq, ◌==◌}
use Rattle.std.proofs.lemmas.Option.{slice_get_within}
use Rattle.opcode.specs.declared.op.Op.{Op}
use Rattle.opcode.specs.declared.word.Instr.{Instr}
use Rattle.proto.specs.Chunk.{Chunk}
use Rattle.lua_model.specs.Datum.{Datum}
use Rattle.opcode.specs.Reading.{instr_of}
use Rattle.rules.specs.Notes.{Notes, Registers}
use Rattle.rules.specs.Breaks.{wanted_at}
use Rattle.rules.specs.State.{Landing, into, test, pairs, fixed, open_at, turn, nowhere, Frame, Cell, Open, Closed, Closure, State, Effect, register}
use Rattle.rules.specs.Cells.{frame_at, cell_value, read_cell, write_register, with_frames, with_cell, write_cell, is_open_at, find_open, capture_as, capture, take_cell_by, take_cells}
use Rattle.rules.proofs.Lists.{get_some, set_other, set_same, none_some, some_one, clash, get_pushed}
use Rattle.rules.proofs.Invariant.{IsOpen, Met, Arrival, nothing, only, Branches, Awaits, AreCells, AreAwaiting, HasRegister, InRange, Base, BaseOf, left_of, Inv, Fine}
use Rattle.rules.proofs.Starting.{has_frame}
use Rattle.rules.proofs.Landing.{need_fine, registers_fine, arrival_any}
use Rattle.rules.proofs.Closing.{Fewer, arrival_cells, base_cells, closed_open, open_one}

-- ---- reading

frame_value : (frames : List Frame) (k r : ℕ) → HasRegister frames k r → (v : Datum) × (option_and_then (λ x. slice_get x.registers r) (frame_at frames k) ≡ Some v)
frame_value [] k r has = absurd has
frame_value (x ∷ below) k r (inl has) =
    let v = get_some x.registers r has.1 in
    (v.0, subst (λ b. option_and_then (λ y. slice_get y.registers r) (cond b (Some x) (frame_at below k)) ≡ Some v.0) (sym (eq-eqb k (length below) has.0)) v.1)
frame_value (x ∷ below) k r (inr has) =
    let v = frame_value below k r has in
    let low = has_frame below k r has in
    (v.0, subst (λ b. option_and_then (λ y. slice_get y.registers r) (cond b (Some x) (frame_at below k)) ≡ Some v.0) (sym (ne_eqb k (length below) (λ e. omega arith))) v.1)

cell_has_value : (m : State) (base : BaseOf m) (c : ℕ) (cell : Cell) → slice_get m.cells c ≡ Some cell → (v : Datum) × (cell_value m cell ≡ Some v)
cell_has_value m base c (Closed v) e = (v, refl)
cell_has_value m base c (Open k r) e = frame_value (m.top ∷ m.below) k r (base.opens k r (c, e))

pub cell_is_read : (m : State) (base : BaseOf m) (c : ℕ) → c < length m.cells → (v : Datum) × (read_cell m c ≡ Some v)
cell_is_read m base c there =
    let cell = get_some m.cells c there in
    let v = cell_has_value m base c cell.0 cell.1 in
    (v.0, subst (λ o. option_and_then (cell_value m) o ≡ Some v.0) (sym cell.1) v.1)

-- ---- writing an open cell's register

pub arrival_set : (f : Chunk) (notes : Notes) (cells : List Cell) (k : ℕ) (registers : List Datum) (pc : ℕ) (written : Registers) (left : Option ℕ) (r : ℕ) (v : Datum) → IsOpen cells k r → Arrival f notes cells k registers pc written left → Arrival f notes cells k (slice_set registers r v) pc written left
arrival_set f notes cells k registers pc written left r v is a = record {
  place = a.place;
  note = a.note;
  noted = a.noted;
  holds = record {
    captured = a.holds.captured;
    numbers = λ x s l low high. let n = a.holds.numbers x s l low high in (n.0, set_other registers r s v (λ e. a.holds.alone x s l low high (subst (λ t. IsOpen cells k t) e is)) ∙ n.1);
    alone = a.holds.alone;
  };
  spared = a.spared;
  met = subst (λ size. Met size (wanted_at f pc) left) (sym (length-set registers r v)) a.met;
}

branches_set : (f : Chunk) (notes : Notes) (cells : List Cell) (k : ℕ) (registers : List Datum) (pc : ℕ) (written : Registers) (r : ℕ) (v : Datum) → IsOpen cells k r → Branches f notes cells k registers pc written → Branches f notes cells k (slice_set registers r v) pc written
branches_set f notes cells k registers pc written r v is ways = record {
  s = ways.s;
  jmp = ways.jmp;
  t = ways.t;
  goes = ways.goes;
  yes = arrival_set f notes cells k registers ways.t written None r v is ways.yes;
  skips = arrival_set f notes cells k registers (suc pc) written None r v is ways.skips;
}

awaits_set : (f : Chunk) (notes : Notes) (cells : List Cell) (k : ℕ) (registers : List Datum) (pc r : ℕ) (v : Datum) → IsOpen cells k r → (landing : Landing) → Awaits f notes cells k registers pc landing → Awaits f notes cells k (slice_set registers r v) pc landing
awaits_set f notes cells k registers pc r v is (into a) w = let len = length-set registers r v in (omega arith, arrival_set f notes cells k registers pc _ None r v is w.1)
awaits_set f notes cells k registers pc r v is (test a negated) w = branches_set f notes cells k registers pc _ r v is w
awaits_set f notes cells k registers pc r v is (pairs a first n) w =
    let len = length-set registers r v in
    (omega arith, omega arith, arrival_set f notes cells k registers pc _ None r v is w.2)
awaits_set f notes cells k registers pc r v is (fixed a n) w = let len = length-set registers r v in (λ some. let fits = w.0 some in omega arith, arrival_set f notes cells k registers pc _ None r v is w.1)
awaits_set f notes cells k registers pc r v is (open_at a) w = let len = length-set registers r v in (omega arith, arrival_set f notes cells k registers pc _ (Some a) r v is w.1)
awaits_set f notes cells k registers pc r v is (turn a n) w =
    let len = length-set registers r v in
    (omega arith, omega arith, branches_set f notes cells k registers pc _ r v is w.2)
awaits_set f notes cells k registers pc r v is nowhere w = arrival_set f notes cells k registers pc _ None r v is w

length-cond : (b : Bool) (xs ys : List Frame) (n : ℕ) → length xs ≡ n → length ys ≡ n → length (cond b xs ys) ≡ n
length-cond true xs ys n e h = e
length-cond false xs ys n e h = h

length-write_register : (below : List Frame) (k r : ℕ) (v : Datum) → length (write_register below k r v) ≡ length below
length-write_register [] k r v = refl
length-write_register (x ∷ below) k r v =
    length-cond (nat_eq k (length below)) _ _ (suc (length below)) refl (ap suc (length-write_register below k r v))

has_written : (below : List Frame) (k r : ℕ) (v : Datum) (j s : ℕ) → HasRegister below j s → HasRegister (write_register below k r v) j s
has_written [] k r v j s has = absurd has
has_written (x ∷ below) k r v j s has = go (nat_eq k (length below)) (has_written below k r v j s) has
  where
    go : (b : Bool) → (HasRegister below j s → HasRegister (write_register below k r v) j s) → ((j ≡ length below) × (s < length x.registers)) ⊎ HasRegister below j s → HasRegister (cond b (record x { registers = slice_set x.registers r v } ∷ below) (x ∷ write_register below k r v)) j s
    go true next (inl here) = let len = length-set x.registers r v in inl (here.0, omega arith)
    go true next (inr there) = inr there
    go false next (inl here) = inl (here.0 ∙ sym (length-write_register below k r v), here.1)
    go false next (inr there) = inr (next there)

awaiting_written : (cells : List Cell) (k r : ℕ) (v : Datum) → IsOpen cells k r → (below : List Frame) (landing : Landing) → AreAwaiting cells landing below → AreAwaiting cells landing (write_register below k r v)
awaiting_written cells k r v is [] landing are = tt
awaiting_written cells k r v is (x ∷ below) landing are = go (nat_eq k (length below)) refl (awaiting_written cells k r v is below x.landing are.1)
  where
    go : (b : Bool) → nat_eq k (length below) ≡ b → AreAwaiting cells x.landing (write_register below k r v) → AreAwaiting cells landing (cond b (record x { registers = slice_set x.registers r v } ∷ below) (x ∷ write_register below k r v))
    go true e next =
        let w = are.0 in (
          record {
            known = w.known;
            size = length-set x.registers r v ∙ w.size;
            upvalues = w.upvalues;
            named = w.named;
            awaits = awaits_set x.function w.known.notes cells (length below) x.registers x.pc r v (subst (λ j. IsOpen cells j r) (eqb-true k (length below) e) is) landing w.awaits;
          },
          are.1,
        )
    go false e next =
        let w = are.0 in (
          record {
            known = w.known;
            size = w.size;
            upvalues = w.upvalues;
            named = w.named;
            awaits = subst (λ j. Awaits x.function w.known.notes cells j x.registers x.pc landing) (sym (length-write_register below k r v)) w.awaits;
          },
          next,
        )

-- a register of the running frame that is open is in no loop of its note
arrival_open : (f : Chunk) (notes : Notes) (cells : List Cell) (k : ℕ) (registers : List Datum) (pc r : ℕ) → IsOpen cells k r → Arrival f notes cells k registers pc nothing None → Arrival f notes cells k registers pc (only r) None
arrival_open f notes cells k registers pc r is a = record {
  place = a.place;
  note = a.note;
  noted = a.noted;
  holds = a.holds;
  spared = λ x s l low high. ne_eqb r s (λ e. a.holds.alone x s l low high (subst (λ t. IsOpen cells k t) e is));
  met = a.met;
}

abbrev pub base_below : (f : Chunk) (ups : List ℕ) (registers : List Datum) (landing : Landing) (below after : List Frame) (cells : List Cell) (closures : List Closure) → Base f ups registers landing below cells closures → length after ≡ length below → ((k r : ℕ) → HasRegister below k r → HasRegister after k r) → AreAwaiting cells landing after → Base f ups registers landing after cells closures
base_below f ups registers landing below after cells closures base len has are = record {
  known = base.known;
  size = base.size;
  counted = base.counted;
  named = base.named;
  closures_are = base.closures_are;
  opens = λ k r is. elim (base.opens k r is) [ inl here ↦ inl (here.0 ∙ sym len, here.1) | inr there ↦ inr (has k r there) ];
  waiting = are;
}

with_cell_fine : (m : State) (base : BaseOf m) → Arrival m.top.function base.known.notes m.cells (length m.below) m.top.registers m.top.pc nothing None → (c : ℕ) (v : Datum) (cell : Cell) → slice_get m.cells c ≡ Some cell → Inv (with_cell m c v cell)
with_cell_fine m base arrival c v (Closed old) e = record {
  base = base_cells m.top.function m.top.cells m.top.registers m.top.landing m.below m.cells (slice_set m.cells c (Closed v)) m.closures base (let len = length-set m.cells c (Closed v) in omega arith) (λ k low. fewer k) (λ k r is. base.opens k r (fewer k r is));
  ready = arrival_any m.top.function base.known.notes (slice_set m.cells c (Closed v)) (length m.below) m.top.registers m.top.pc nothing (left_of m.top.results) (arrival_cells m.top.function base.known.notes m.cells (slice_set m.cells c (Closed v)) (length m.below) m.top.registers m.top.pc nothing None (fewer (length m.below)) arrival);
}
  where
    other : (d : ℕ) (b : Bool) → (c == d) ≡ b → (k r : ℕ) → slice_get (slice_set m.cells c (Closed v)) d ≡ Some (Open k r) → slice_get m.cells d ≡ Some (Open k r)
    other d true same k r h =
        closed_open v k r (sym (set_same m.cells c (Closed v) (slice_get_within m.cells c (Closed old) e)) ∙ ap (λ x. slice_get (slice_set m.cells c (Closed v)) x) (eqb-true c d same) ∙ h)
    other d false differ k r h = sym (set_other m.cells c d (Closed v) (λ s. clash (eq-eqb c d s) differ)) ∙ h

    fewer : (k : ℕ) → Fewer m.cells (slice_set m.cells c (Closed v)) k
    fewer k r is = (is.0, other is.0 (c == is.0) refl k r is.1)
with_cell_fine m base arrival c v (Open k r) e = go (nat_eq k (length m.below)) refl
  where
    is : IsOpen m.cells k r
    is = (c, e)

    go : (b : Bool) → nat_eq k (length m.below) ≡ b → Inv (with_frames m (cond b (record m.top { registers = slice_set m.top.registers r v } ∷ m.below) (m.top ∷ write_register m.below k r v)))
    go true same =
        registers_fine m base (slice_set m.top.registers r v) (only r) (arrival_open m.top.function base.known.notes m.cells (length m.below) m.top.registers m.top.pc r (subst (λ j. IsOpen m.cells j r) (eqb-true k (length m.below) same) (c, e)) arrival) (length-set m.top.registers r v) (λ s h. set_other m.top.registers r s v (λ q. clash (eq-eqb r s q) h))
    go false differ = record {
      base = base_below m.top.function m.top.cells m.top.registers m.top.landing m.below (write_register m.below k r v) m.cells m.closures base (length-write_register m.below k r v) (has_written m.below k r v) (awaiting_written m.cells k r v (c, e) m.below m.top.landing base.waiting);
      ready = subst (λ j. Arrival m.top.function base.known.notes m.cells j m.top.registers m.top.pc nothing (left_of m.top.results)) (sym (length-write_register m.below k r v)) (arrival_any m.top.function base.known.notes m.cells (length m.below) m.top.registers m.top.pc nothing (left_of m.top.results) arrival);
    }

pub write_cell_fine : (m : State) (base : BaseOf m) → Arrival m.top.function base.known.notes m.cells (length m.below) m.top.registers m.top.pc nothing None → (c : ℕ) → c < length m.cells → (v : Datum) → Fine (write_cell m c v)
write_cell_fine m base arrival c there v =
    let old = cell_is_read m base c there in
    let cell = get_some m.cells c there in
    need_fine (read_cell m c) old.0 _ old.1 (need_fine (slice_get m.cells c) cell.0 _ cell.1 (with_cell_fine m base arrival c v cell.0 cell.1))

-- ---- capturing

found_below : (frame r n : ℕ) (cells : List Cell) (c : ℕ) → find_open frame r n cells ≡ Some c → c < n + length cells
found_below frame r n [] c e = none_some c e
found_below frame r n (cell ∷ rest) c e = go (is_open_at frame r cell) (found_below frame r (suc n) rest c) e
  where
    go : (b : Bool) → (find_open frame r (suc n) rest ≡ Some c → c < suc n + length rest) → cond b (Some n) (find_open frame r (suc n) rest) ≡ Some c → c < n + suc (length rest)
    go true next h = let same : n ≡ c = some_one n c h in omega arith
    go false next h = let low = next h in omega arith

-- cells that a CLOSURE has added to those of a state: open ones are registers that are there, those of other frames were
-- there before, and those of the running frame were or are captured by the word
pub record Grown (m : State) (caps : Registers) (cells : List Cell) : Type 0 where
  pub more : length m.cells ≤ length cells
  pub fewer : (k : ℕ) → k < length m.below → Fewer m.cells cells k
  pub opens : (k r : ℕ) → IsOpen cells k r → InRange m.top.registers m.below k r
  pub own_opens : (r : ℕ) → IsOpen cells (length m.below) r → IsOpen m.cells (length m.below) r ⊎ (caps r ≡ true)

abbrev pub with_cells : State → List Cell → State
with_cells m cells = record m { cells = cells }

pushed_open : (cells : List Cell) (k r j s : ℕ) → IsOpen (cells ++ Open k r ∷ []) j s → IsOpen cells j s ⊎ ((k ≡ j) × (r ≡ s))
pushed_open cells k r j s is =
    elim (get_pushed cells (Open k r) is.0 (Open j s) is.1) [
      | inl old ↦ inl (is.0, old)
      | inr new ↦ inr (open_one k r j s (ap Some new))
    ]

grown_more : (m : State) (caps : Registers) (cells : List Cell) (r : ℕ) → r < length m.top.registers → caps r ≡ true → Grown m caps cells → Grown m caps (cells ++ Open (length m.below) r ∷ [])
grown_more m caps cells r there named g = record {
  more = let len = length-append cells (Open (length m.below) r ∷ []) in let was = g.more in omega arith;
  fewer = λ k low s is. elim (pushed_open cells (length m.below) r k s is) [ inl old ↦ g.fewer k low s old | inr new ↦ absurd (let same = new.0 in omega arith) ];
  opens = λ k s is. elim (pushed_open cells (length m.below) r k s is) [
    | inl old ↦ g.opens k s old
    | inr new ↦ inl (sym new.0, let same = new.1 in omega arith)
  ];
  own_opens = λ s is. elim (pushed_open cells (length m.below) r (length m.below) s is) [
    | inl old ↦ g.own_opens s old
    | inr new ↦ inr (subst (λ t. caps t ≡ true) new.1 named)
  ];
}

-- a further word captures a register that is there, or shares an upvalue that is there
abbrev pub IsCapture : State → Registers → Op → Instr → Type 0
IsCapture m caps Op.Move i = (i.b < length m.top.registers) × (caps i.b ≡ true)
IsCapture m caps Op.GetUpval i = i.b < length m.top.cells
IsCapture m caps _ i = ⊥

abbrev pub AreCaptures : State → Registers → List ℕ → Type 0
AreCaptures m caps [] = Unit {0}
AreCaptures m caps (w ∷ rest) = ((i : Instr) × (instr_of w ≡ Some i) × IsCapture m caps i.op i) × AreCaptures m caps rest

abbrev pub Next : State → Registers → ℕ → ℕ → (State → List ℕ → Effect) → Type 0
Next m caps least count next = (cells : List Cell) (cs : List ℕ) → Grown m caps cells → least ≤ length cells → length cs ≡ count → AreCells cells cs → Fine (next (with_cells m cells) cs)

-- what is to be shown of one cell that was taken
abbrev pub NextOne : State → Registers → ℕ → (State → ℕ → Effect) → Type 0
NextOne m caps least next = (cells : List Cell) (c : ℕ) → Grown m caps cells → least ≤ length cells → c < length cells → Fine (next (with_cells m cells) c)

capture_fine : (m : State) (caps : Registers) (cells : List Cell) → Grown m caps cells → (r : ℕ) → r < length m.top.registers → caps r ≡ true → (next : State → ℕ → Effect) → NextOne m caps (length cells) next → Fine (capture (with_cells m cells) r next)
capture_fine m caps cells g r there named next fine = go (find_open (length m.below) r 0 cells) refl
  where
    go : (o : Option ℕ) → find_open (length m.below) r 0 cells ≡ o → Fine (capture_as (with_cells m cells) r o next)
    go (Some c) e = fine cells c g (omega arith) (let low = found_below (length m.below) r 0 cells c e in omega arith)
    go None e =
        let len = length-append cells (Open (length m.below) r ∷ []) in
        fine (cells ++ Open (length m.below) r ∷ []) (length cells) (grown_more m caps cells r there named g) (omega arith) (omega arith)

take_one_fine : (m : State) → BaseOf m → (caps : Registers) (cells : List Cell) → Grown m caps cells → (op : Op) (i : Instr) → IsCapture m caps op i → (next : State → ℕ → Effect) → NextOne m caps (length cells) next → Fine (take_cell_by op (with_cells m cells) i next)
take_one_fine m base caps cells g Op.Move i is next fine =
    let v = get_some m.top.registers i.b is.0 in
    need_fine (register (with_cells m cells) i.b) v.0 _ v.1 (capture_fine m caps cells g i.b is.0 is.1 next fine)
take_one_fine m base caps cells g Op.GetUpval i is next fine =
    let c = get_some m.top.cells i.b is in
    need_fine (slice_get m.top.cells i.b) c.0 _ c.1 (fine cells c.0 g (omega arith) (let low = base.named i.b c.0 c.1 in let more = g.more in omega arith))
take_one_fine m base caps cells g _ i is next fine = absurd is

cons_cells : (cells : List Cell) (c : ℕ) (cs : List ℕ) → c < length cells → AreCells cells cs → AreCells cells (c ∷ cs)
cons_cells cells c cs low are zero d e = let same : c ≡ d = some_one c d e in omega arith
cons_cells cells c cs low are (suc u) d e = are u d e

pub take_cells_fine : (m : State) → BaseOf m → (caps : Registers) (words : List ℕ) → AreCaptures m caps words → (cells : List Cell) → Grown m caps cells → (next : State → List ℕ → Effect) → Next m caps (length cells) (length words) next → Fine (take_cells (with_cells m cells) words next)
take_cells_fine m base caps [] are cells g next fine = fine cells [] g (omega arith) refl (λ u c e. none_some c e)
take_cells_fine m base caps (w ∷ rest) are cells g next fine =
    let i = are.0 in
    need_fine (instr_of w) i.0 _ i.1 (
    take_one_fine m base caps cells g i.0.op i.0 i.2 (λ m1 c. take_cells m1 rest (λ m2 cs. next m2 (c ∷ cs))) (λ cells1 c g1 more1 low.
    take_cells_fine m base caps rest are.1 cells1 g1 (λ m2 cs. next m2 (c ∷ cs)) (λ cells2 cs g2 more2 len are2.
    fine cells2 (c ∷ cs) g2 (omega arith) (ap suc len) (cons_cells cells2 c cs (omega arith) are2))))
