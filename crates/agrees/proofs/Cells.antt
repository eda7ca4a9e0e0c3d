-- The cells of the source that a function has as upvalues are read and written where they are: in a register of some frame, or in a
-- machine's cell.
use Rattle.std.proofs.Common.{◌≡◌, ◌≢◌, ◌<◌, ℕ, zero, suc, Bool, true, false, ◌⊎◌, inl, inr, List, [], ◌∷◌, ◌++◌, map, length, Some, refl, sym, ap, ◌∙◌, subst, arith, nat_eq, option_and_then}
use Rattle.std.specs.Prelude.{slice_get, slice_set, if◌then◌else◌}
use Rattle.opcode.specs.declared.op.Op.{Op}
use Rattle.scheme.specs.declared.making.Piece.{Piece}
use Rattle.lua_model.specs.Datum.{Datum}
use Rattle.lua_model.specs.Store.{Outside}
use Rattle.source_meaning.specs.State.{State as SourceState, with_cell}
use Rattle.rules.specs.State.{State, Closed, Goes as Going_on, need}
use Rattle.rules.specs.Cells.{frame_at, cell_value, read_cell, write_register, with_frames, write_cell}
use Rattle.rules.specs.Cells as rules
use Rattle.rules.specs.Run.{Going, step, after}
use Rattle.scheme_stands.specs.Words.{Spot, WordAt}
use Rattle.agrees.proofs.Lists.{nat_cases, eq_yes, eq_no, some_same, within, get_map, length_map, length_set, map_same, set_app_left, map_change}
use Rattle.agrees.proofs.Words.{word_abc}
use Rattle.agrees.proofs.Picture.{code_of, Setup, Slot, of_cell, holds, Home, At, Off, Waiter, Ghost, Site, cell_in_home, cell_at, read, slot_value, registers, frame_of, at, SlotAt, ActsFine, Carry, Fine, Ok, waits}
use Rattle.agrees.proofs.PictureChanges.{frames_same, slot_below, same_home, mark_of, top_register}

pub read_new : (cells : List Datum) (c : ℕ) (v : Datum) → c < length cells → read (slice_set cells c v) c ≡ v
read_new [] c v l = absurd (omega arith)
read_new (x ∷ xs) zero v l = refl
read_new (x ∷ xs) (suc c) v l = read_new xs c v (omega arith)

pub read_other : (cells : List Datum) (c d : ℕ) (v : Datum) → d ≢ c → read cells d ≡ read (slice_set cells c v) d
read_other [] c d v h = refl
read_other (x ∷ xs) zero zero v h = absurd (h refl)
read_other (x ∷ xs) zero (suc d) v h = refl
read_other (x ∷ xs) (suc c) zero v h = refl
read_other (x ∷ xs) (suc c) (suc d) v h = read_other xs c d v (λ e. h (ap suc e))

-- the machine's cell of an upvalue
pub carry_get : (owner ks cs : List ℕ) (i c : ℕ) → Carry owner ks cs → slice_get cs i ≡ Some c → (k : ℕ) × (slice_get ks i ≡ Some k) × (slice_get owner k ≡ Some c)
carry_get owner [] [] i c h e = cc
carry_get owner [] (d ∷ cs) i c h e = absurd h
carry_get owner (k ∷ ks) [] i c h e = absurd h
carry_get owner (k ∷ ks) (d ∷ cs) zero c h e = (k, refl, h.0 ∙ ap Some (some_same d c e))
carry_get owner (k ∷ ks) (d ∷ cs) (suc i) c h e = carry_get owner ks cs i c h.1 e

-- a register that a cell lives in
frame_slot : (cells : List Datum) (f r c : ℕ) (b : Bool) (gs : List Waiter) → SlotAt f r c b gs → option_and_then (λ y. slice_get y.registers r) (frame_at (map (frame_of cells) gs) f) ≡ Some (read cells c)
frame_slot cells f r c b [] h = absurd h
frame_slot cells f r c b (g ∷ gs) (inl h) =
    ap (λ t. option_and_then (λ y. slice_get y.registers r) (if t then Some (frame_of cells g) else frame_at (map (frame_of cells) gs) f)) (eq_yes f (length (map (frame_of cells) gs)) (h.at_frame ∙ sym (length_map (frame_of cells) gs)))
    ∙ top_register cells g.act g.high r (of_cell c) h.slot
frame_slot cells f r c b (g ∷ gs) (inr h) =
    ap (λ t. option_and_then (λ y. slice_get y.registers r) (if t then Some (frame_of cells g) else frame_at (map (frame_of cells) gs) f)) (eq_no f (length (map (frame_of cells) gs)) (λ e. let l = slot_below f r c b gs h in let m = length_map (frame_of cells) gs in omega (arith, l, m, e)))
    ∙ frame_slot cells f r c b gs h

-- a cell is written in its register
frames_write : (owner : List ℕ) (cells : List Datum) (f r c : ℕ) (b : Bool) (v : Datum) (gs : List Waiter) → c < length cells → ActsFine owner gs → SlotAt f r c b gs → ((f1 r1 : ℕ) (b1 : Bool) → SlotAt f1 r1 c b1 gs → (f1 ≡ f) × (r1 ≡ r)) → write_register (map (frame_of cells) gs) f r v ≡ map (frame_of (slice_set cells c v)) gs
frames_write owner cells f r c b v [] l acts h alone = absurd h
frames_write owner cells f r c b v (g ∷ gs) l acts (inl h) alone =
    ap (λ t. if t then record (frame_of cells g) { registers = slice_set (registers cells g.act g.high) r v } ∷ map (frame_of cells) gs else frame_of cells g ∷ write_register (map (frame_of cells) gs) f r v) (eq_yes f (length (map (frame_of cells) gs)) (h.at_frame ∙ sym (length_map (frame_of cells) gs)))
    ∙ ap (λ rs. record (frame_of cells g) { registers = rs } ∷ map (frame_of cells) gs) regs
    ∙ ap (λ fs. frame_of (slice_set cells c v) g ∷ fs) (frames_same owner cells (slice_set cells c v) gs acts.2 (λ f1 r1 d b1 q. read_other cells c d v (λ e. not_below f1 r1 b1 (subst (λ y. SlotAt f1 r1 y b1 gs) e q))))
  where
    not_below : (f1 r1 : ℕ) (b1 : Bool) → SlotAt f1 r1 c b1 gs → ⊥
    not_below f1 r1 b1 q =
        let a = (alone f1 r1 b1 (inr q)).0 in
        let m = slot_below f1 r1 c b1 gs q in
        let n = h.at_frame in absurd (omega (arith, a, m, n))

    other : (i : ℕ) (y : Slot) → slice_get g.act.slots i ≡ Some y → i ≢ r → slot_value cells y ≡ slot_value (slice_set cells c v) y
    other i (holds w) e n = refl
    other i (of_cell d) e n = read_other cells c d v (λ q. n (here i d e q))
      where
        here : (i d : ℕ) → slice_get g.act.slots i ≡ Some (of_cell d) → d ≡ c → i ≡ r
        here i d e q =
            let k = mark_of (g ∷ gs) owner acts g i (of_cell d) acts.0 e in
            (alone (length gs) i k.0 (inl (record { at_frame = refl; slot = e ∙ ap (λ y. Some (of_cell y)) q; marked = k.1 }))).1

    regs : slice_set (registers cells g.act g.high) r v ≡ registers (slice_set cells c v) g.act g.high
    regs =
        set_app_left (map (slot_value cells) g.act.slots) g.high r v (let m = within g.act.slots r (of_cell c) h.slot in omega (arith, m, length_map (slot_value cells) g.act.slots))
        ∙ ap (λ y. y ++ g.high) (map_change (slot_value cells) (slot_value (slice_set cells c v)) g.act.slots r (of_cell c) v h.slot (read_new cells c v l) other)
frames_write owner cells f r c b v (g ∷ gs) l acts (inr h) alone =
    ap (λ t. if t then record (frame_of cells g) { registers = slice_set (registers cells g.act g.high) r v } ∷ map (frame_of cells) gs else frame_of cells g ∷ write_register (map (frame_of cells) gs) f r v) (eq_no f (length (map (frame_of cells) gs)) (λ e. let n = slot_below f r c b gs h in let m = length_map (frame_of cells) gs in omega (arith, n, m, e)))
    ∙ ap (λ rs. record (frame_of cells g) { registers = rs ++ g.high } ∷ write_register (map (frame_of cells) gs) f r v) (map_same (slot_value cells) (slot_value (slice_set cells c v)) g.act.slots same)
    ∙ ap (λ fs. frame_of (slice_set cells c v) g ∷ fs) (frames_write owner cells f r c b v gs l acts.2 h (λ f1 r1 b1 q. alone f1 r1 b1 (inr q)))
  where
    same : (i : ℕ) (y : Slot) → slice_get g.act.slots i ≡ Some y → slot_value cells y ≡ slot_value (slice_set cells c v) y
    same i (holds w) e = refl
    same i (of_cell d) e = read_other cells c d v (λ q. apart i d e q)
      where
        apart : (i d : ℕ) → slice_get g.act.slots i ≡ Some (of_cell d) → d ≡ c → ⊥
        apart i d e q =
            let k = mark_of (g ∷ gs) owner acts g i (of_cell d) acts.0 e in
            let a = (alone (length gs) i k.0 (inl (record { at_frame = refl; slot = e ∙ ap (λ y. Some (of_cell y)) q; marked = k.1 }))).0 in
            let n = slot_below f r c b gs h in absurd (omega (arith, a, n))

module _ (z : Setup) (s : SourceState) (o : Outside) (g : Ghost) (x : Site) (ok : Ok z s g x) where
  -- a machine's cell is read
  pub cell_read : (pc k c : ℕ) → slice_get g.owner k ≡ Some c → read_cell (at s o g x pc) k ≡ Some (read s.cells c)
  cell_read pc k c e =
      ap (option_and_then (cell_value (at s o g x pc))) (get_map (cell_at s.cells g.home) g.owner k c e) ∙ by (g.home c) refl
    where
      by : (h : Home) → g.home c ≡ h → cell_value (at s o g x pc) (cell_in_home (read s.cells c) h) ≡ Some (read s.cells c)
      by Off q = refl
      by (At f r b) q = frame_slot s.cells f r c b (waits x pc ∷ x.below) (ok.back c f r b (ok.owned k c e) q)

  -- and written
  pub cell_written : (pc k c : ℕ) (v : Datum) → slice_get g.owner k ≡ Some c → write_cell (at s o g x pc) k v ≡ Going_on (at (with_cell s c v) o g x pc)
  cell_written pc k c v e =
      ap (λ r. need r (λ old. need (slice_get (map (cell_at s.cells g.home) g.owner) k) (λ cell. Going_on (rules.with_cell (at s o g x pc) k v cell)))) (cell_read pc k c e)
      ∙ ap (λ r. need r (λ cell. Going_on (rules.with_cell (at s o g x pc) k v cell))) (get_map (cell_at s.cells g.home) g.owner k c e)
      ∙ ap Going_on (by (g.home c) refl)
    where
      small : c < length s.cells
      small = ok.owned k c e

      by : (h : Home) → g.home c ≡ h → rules.with_cell (at s o g x pc) k v (cell_in_home (read s.cells c) h) ≡ at (with_cell s c v) o g x pc
      by Off q =
          ap (λ cs. record (at s o g x pc) { cells = cs }) (map_change (cell_at s.cells g.home) (cell_at (slice_set s.cells c v) g.home) g.owner k c (Closed v) e (ap (cell_in_home (read (slice_set s.cells c v) c)) q ∙ ap Closed (read_new s.cells c v small)) (λ j d p n. ap (λ y. cell_in_home y (g.home d)) (read_other s.cells c d v (λ i. n (ok.once j k c (p ∙ ap Some i) e)))))
          ∙ ap (λ fs. record (with_frames (at s o g x pc) fs) { cells = map (cell_at (slice_set s.cells c v) g.home) g.owner }) (frames_same g.owner s.cells (slice_set s.cells c v) (waits x pc ∷ x.below) ok.acts (λ f r d b p. read_other s.cells c d v (λ i. off f r d b p i)))
        where
          off : (f r d : ℕ) (b : Bool) → SlotAt f r d b (waits x pc ∷ x.below) → d ≡ c → ⊥
          off f r d b p i = let a : At f r b ≡ Off = sym (ok.loc f r d b p).1 ∙ ap g.home i ∙ q in cc
      by (At f r b) q =
          ap (with_frames (at s o g x pc)) (frames_write g.owner s.cells f r c b v (waits x pc ∷ x.below) small ok.acts (ok.back c f r b small q) alone)
          ∙ ap (λ cs. record (with_frames (at s o g x pc) (map (frame_of (slice_set s.cells c v)) (waits x pc ∷ x.below))) { cells = cs }) (map_same _ _ g.owner (λ j d p. cell_same d (nat_cases d c)))
        where
          alone : (f1 r1 : ℕ) (b1 : Bool) → SlotAt f1 r1 c b1 (waits x pc ∷ x.below) → (f1 ≡ f) × (r1 ≡ r)
          alone f1 r1 b1 p = let a = same_home f1 r1 f r b1 b (sym (ok.loc f1 r1 c b1 p).1 ∙ q) in (a.0, a.1)

          cell_same : (d : ℕ) → ((nat_eq d c ≡ true) × (d ≡ c)) ⊎ ((nat_eq d c ≡ false) × (d ≢ c)) → cell_at s.cells g.home d ≡ cell_at (slice_set s.cells c v) g.home d
          cell_same d (inl h) =
              let k1 : g.home d ≡ At f r b = ap g.home h.1 ∙ q in
              ap (cell_in_home (read s.cells d)) k1 ∙ sym (ap (cell_in_home (read (slice_set s.cells c v) d)) k1)
          cell_same d (inr h) = ap (λ y. cell_in_home y (g.home d)) (read_other s.cells c d v h.1)

  pub ok_cell : (c : ℕ) (v : Datum) → Ok z (with_cell s c v) g x
  ok_cell c v = subst (λ n. Fine z n s.closures g (waits x 0 ∷ x.below)) (sym (length_set s.cells c v)) ok

  -- SETUPVAL
  pub upvalue_word : (r i c : ℕ) (v : Datum) (p q : Spot) → slice_get x.a.source_cells i ≡ Some c → slice_get (registers s.cells x.a x.high) r ≡ Some v → WordAt (code_of x.a) (Piece.Abc Op.SetUpval r i 0) p q → step (at s o g x p.pc) ≡ Going (at (with_cell s c v) o g x q.pc)
  upvalue_word r i c v p q known there w =
      let k = carry_get g.owner x.a.machine_cells x.a.source_cells i c ok.acts.0.carry known in
      let m0 : State = at s o g x p.pc in
      let m1 : State = at s o g x (suc p.pc) in
      word_abc x.a Op.SetUpval r i 0 p q m0 w refl refl
      ∙ ap (λ y. after m0 (need y (λ u. need (slice_get m1.top.cells i) (λ j. write_cell m1 j u)))) there
      ∙ ap (λ y. after m0 (need y (λ j. write_cell m1 j v))) k.1
      ∙ ap (after m0) (cell_written (suc p.pc) k.0 c v k.2)
      ∙ ap (λ pc. Going (at (with_cell s c v) o g x pc)) (sym w.next)
