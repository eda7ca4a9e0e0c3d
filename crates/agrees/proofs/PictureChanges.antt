-- The picture stays in order where the homes of cells, the registers above the locals or the frames change.
use Rattle.std.proofs.Common.{◌≡◌, ◌≢◌, ◌≤◌, ◌<◌, ℕ, zero, suc, ◌+◌, Bool, true, false, ◌⊎◌, inl, inr, List, [], ◌∷◌, ◌++◌, map, length, Some, None, refl, sym, ap, ◌∙◌, subst, arith, nat_eq, nat_le, ◌&&◌}
use Rattle.std.specs.Prelude.{get_or, slice_get, if◌then◌else◌}
use Rattle.proto.specs.Chunk.{own}
use Rattle.lua_model.specs.Datum.{Datum, nil}
use Rattle.source_meaning.specs.State.{Closure as Function}
use Rattle.rules.specs.State.{Open, Closed}
use Rattle.rules.specs.Cells.{close_one}
use Rattle.scheme_stands.specs.Words.{is_marked}
use Rattle.agrees.proofs.Lists.{nat_cases, le_cases, some_same, within, get_within, get_map, get_app, map_same, map_map_same, length_map}
use Rattle.agrees.proofs.Picture.{Setup, Slot, of_cell, holds, Home, At, Off, Act, Waiter, Ghost, cell_in_home, cell_at, read, slot_value, registers, frame, frame_of, SlotIn, SlotAt, ActFine, ActsFine, Fine}

pub slot_below : (f r c : ℕ) (b : Bool) (gs : List Waiter) → SlotAt f r c b gs → f < length gs
slot_below f r c b [] h = absurd h
slot_below f r c b (g ∷ gs) (inl h) = let e = h.at_frame in omega arith
slot_below f r c b (g ∷ gs) (inr h) = let e = slot_below f r c b gs h in omega arith

pub same_home : (f r f1 r1 : ℕ) (b b1 : Bool) → At f r b ≡ At f1 r1 b1 → (f ≡ f1) × (r ≡ r1) × (b ≡ b1)
same_home f r f1 r1 b b1 e = (cc, cc, cc)

pub same_cell : (c d : ℕ) → of_cell c ≡ of_cell d → c ≡ d
same_cell c d e = cc

-- the marks of a row of slots
pub mark_of : (gs : List Waiter) (owner : List ℕ) → ActsFine owner gs → (g : Waiter) (r : ℕ) (v : Slot) → ActFine owner g.act → slice_get g.act.slots r ≡ Some v → (b : Bool) × (slice_get (map is_marked g.act.active) r ≡ Some b)
mark_of gs owner fine g r v fa e =
    let l = within g.act.slots r v e in let k = fa.as_many in
    get_within (map is_marked g.act.active) r (omega (arith, l, k, length_map is_marked g.act.active))

-- frames none of whose cells changed
pub frames_same : (owner : List ℕ) (cells cells1 : List Datum) (gs : List Waiter) → ActsFine owner gs → ((f r c : ℕ) (b : Bool) → SlotAt f r c b gs → read cells c ≡ read cells1 c) → map (frame_of cells) gs ≡ map (frame_of cells1) gs
frames_same owner cells cells1 [] m h = refl
frames_same owner cells cells1 (g ∷ gs) m h =
    ap (λ l. frame g.act g.pc (l ++ g.high) None ∷ map (frame_of cells) gs) (map_same (slot_value cells) (slot_value cells1) g.act.slots by)
    ∙ ap (λ r. frame_of cells1 g ∷ r) (frames_same owner cells cells1 gs m.2 (λ f r c b q. h f r c b (inr q)))
  where
    by : (i : ℕ) (v : Slot) → slice_get g.act.slots i ≡ Some v → slot_value cells v ≡ slot_value cells1 v
    by i (holds v) q = refl
    by i (of_cell c) q = let b = mark_of gs owner m.2 g i (of_cell c) m.0 q in h (length gs) i c b.0 (inl (record { at_frame = refl; slot = q; marked = b.1 }))

-- ## the end of locals

abbrev pub shut : ℕ → ℕ → Home → Home
shut f m (At g r b) = if nat_eq g f && nat_le m r then Off else At g r b
shut f m Off = Off

abbrev pub shuts : Ghost → ℕ → ℕ → Ghost
shuts g f m = record g { home = λ c. shut f m (g.home c) }

test_of : (f m g r : ℕ) → ((nat_eq g f && nat_le m r ≡ true) × (g ≡ f) × (m ≤ r)) ⊎ ((nat_eq g f && nat_le m r ≡ false) × (g ≡ f → r < m))
test_of f m g r = by (nat_cases g f) (le_cases m r)
  where
    by : ((nat_eq g f ≡ true) × (g ≡ f)) ⊎ ((nat_eq g f ≡ false) × (g ≢ f)) → ((nat_le m r ≡ true) × (m ≤ r)) ⊎ ((nat_le m r ≡ false) × (r < m)) → ((nat_eq g f && nat_le m r ≡ true) × (g ≡ f) × (m ≤ r)) ⊎ ((nat_eq g f && nat_le m r ≡ false) × (g ≡ f → r < m))
    by (inl a) (inl b) = inl (ap (λ t. t && nat_le m r) a.0 ∙ b.0, a.1, b.1)
    by (inl a) (inr b) = inr (ap (λ t. t && nat_le m r) a.0 ∙ b.0, λ e. b.1)
    by (inr a) q = inr (ap (λ t. t && nat_le m r) a.0, λ e. absurd (a.1 e))

pub shut_stays : (f m g r : ℕ) (b : Bool) → (g ≡ f → r < m) → shut f m (At g r b) ≡ At g r b
shut_stays f m g r b h = by (test_of f m g r)
  where
    by : ((nat_eq g f && nat_le m r ≡ true) × (g ≡ f) × (m ≤ r)) ⊎ ((nat_eq g f && nat_le m r ≡ false) × (g ≡ f → r < m)) → shut f m (At g r b) ≡ At g r b
    by (inl t) = let l = h t.1 in let k = t.2 in absurd (omega arith)
    by (inr t) = ap (λ x. if x then Off else At g r b) t.0

pub shut_back : (f m : ℕ) (h : Home) (g r : ℕ) (b : Bool) → shut f m h ≡ At g r b → (h ≡ At g r b) × (g ≡ f → r < m)
shut_back f m Off g r b e = cc
shut_back f m (At g1 r1 b1) g r b e = by (test_of f m g1 r1)
  where
    by : ((nat_eq g1 f && nat_le m r1 ≡ true) × (g1 ≡ f) × (m ≤ r1)) ⊎ ((nat_eq g1 f && nat_le m r1 ≡ false) × (g1 ≡ f → r1 < m)) → (At g1 r1 b1 ≡ At g r b) × (g ≡ f → r < m)
    by (inl t) = let q : Off ≡ At g r b = sym (ap (λ x. if x then Off else At g1 r1 b1) t.0) ∙ e in cc
    by (inr t) =
        let q : At g1 r1 b1 ≡ At g r b = sym (ap (λ x. if x then Off else At g1 r1 b1) t.0) ∙ e in
        let w = same_home g1 r1 g r b1 b q in
        (q, λ x. let l = t.1 (w.0 ∙ x) in let k = w.1 in omega arith)

-- what CLOSE does to the machine's cells
close_home : (f m : ℕ) (regs : List Datum) (v : Datum) (h : Home) → ((r : ℕ) (b : Bool) → h ≡ At f r b → get_or regs r nil ≡ v) → close_one f m regs (cell_in_home v h) ≡ cell_in_home v (shut f m h)
close_home f m regs v Off k = refl
close_home f m regs v (At g r b) k = by (test_of f m g r)
  where
    by : ((nat_eq g f && nat_le m r ≡ true) × (g ≡ f) × (m ≤ r)) ⊎ ((nat_eq g f && nat_le m r ≡ false) × (g ≡ f → r < m)) → close_one f m regs (Open g r) ≡ cell_in_home v (shut f m (At g r b))
    by (inl t) =
        ap (λ x. if x then Closed (get_or regs r nil) else Open g r) t.0
        ∙ ap Closed (k r b (ap (λ x. At x r b) t.1))
        ∙ sym (ap (λ x. cell_in_home v (if x then Off else At g r b)) t.0)
    by (inr t) = ap (λ x. if x then Closed (get_or regs r nil) else Open g r) t.0 ∙ sym (ap (λ x. cell_in_home v (if x then Off else At g r b)) t.0)

pub get_or_is : {A : Type 0} (xs : List A) (i : ℕ) (x d : A) → slice_get xs i ≡ Some x → get_or xs i d ≡ x
get_or_is [] i x d e = cc
get_or_is (y ∷ ys) zero x d e = some_same y x e
get_or_is (y ∷ ys) (suc i) x d e = get_or_is ys i x d e

-- a local of the top frame is in its register
pub top_register : (cells : List Datum) (a : Act) (high : List Datum) (r : ℕ) (v : Slot) → slice_get a.slots r ≡ Some v → slice_get (registers cells a high) r ≡ Some (slot_value cells v)
top_register cells a high r v e = get_app (map (slot_value cells) a.slots) high r (slot_value cells v) (get_map (slot_value cells) a.slots r v e)

module _ (z : Setup) (n : ℕ) (fs : List Function) where
  pub cells_close : (cells : List Datum) (g : Ghost) (h : Waiter) (gs : List Waiter) (m : ℕ) → Fine z n fs g (h ∷ gs) → map (close_one (length gs) m (registers cells h.act h.high)) (map (cell_at cells g.home) g.owner) ≡ map (cell_at cells (shuts g (length gs) m).home) g.owner
  cells_close cells g h gs m fine =
      map_map_same _ _ _ g.owner (λ k c e. close_home (length gs) m (registers cells h.act h.high) (read cells c) (g.home c) (λ r b q. there c r b (fine.back c (length gs) r b (fine.owned k c e) q)))
    where
      there : (c r : ℕ) (b : Bool) → SlotAt (length gs) r c b (h ∷ gs) → get_or (registers cells h.act h.high) r nil ≡ read cells c
      there c r b (inl q) = get_or_is (registers cells h.act h.high) r (read cells c) nil (top_register cells h.act h.high r (of_cell c) q.slot)
      there c r b (inr q) = let l = slot_below (length gs) r c b gs q in absurd (omega arith)

  -- a frame's cells are closed, and it is gone
  pub fine_leave : (g : Ghost) (h : Waiter) (gs : List Waiter) → Fine z n fs g (h ∷ gs) → Fine z n fs (shuts g (length gs) 0) gs
  fine_leave g h gs fine = record {
    loc = λ f r c b q. let x = fine.loc f r c b (inr q) in let l = slot_below f r c b gs q in (x.0, ap (shut (length gs) 0) x.1 ∙ shut_stays (length gs) 0 f r b (λ e. absurd (omega arith)));
    back = λ c f r b l e. let q = shut_back (length gs) 0 (g.home c) f r b e in below c f r b q.1 (fine.back c f r b l q.0);
    owned = fine.owned;
    marked = λ k c f r b e q. fine.marked k c f r b e (shut_back (length gs) 0 (g.home c) f r b q).0;
    once = fine.once;
    acts = fine.acts.2;
    closures = fine.closures;
    deep = (let d = fine.deep in omega (arith, d));
  }
    where
      below : (c f r : ℕ) (b : Bool) → (f ≡ length gs → r < 0) → SlotAt f r c b (h ∷ gs) → SlotAt f r c b gs
      below c f r b l (inl q) = let k = l q.at_frame in absurd (omega arith)
      below c f r b l (inr q) = q

-- of a waiting frame only its act and how many registers it has matters
pub fine_waiter : (z : Setup) (n : ℕ) (fs : List Function) (g : Ghost) (h k : Waiter) (gs : List Waiter) → h.act ≡ k.act → length h.high ≡ length k.high → Fine z n fs g (h ∷ gs) → Fine z n fs g (k ∷ gs)
fine_waiter z n fs g h k gs e l fine = record {
  loc = λ f r c b x. fine.loc f r c b (there f r c b (sym e) x);
  back = λ c f r b m q. over f r c b e (fine.back c f r b m q);
  owned = fine.owned;
  marked = fine.marked;
  once = fine.once;
  acts = (subst (ActFine g.owner) e fine.acts.0, room, fine.acts.2);
  closures = fine.closures;
  deep = fine.deep;
}
  where
    room : length k.act.slots + length k.high ≡ (own k.act.chunk).registers
    room = ap (λ i. length k.act.slots + i) (sym l) ∙ ap (λ a. length a.slots + length h.high) (sym e) ∙ fine.acts.1 ∙ ap (λ a. (own a.chunk).registers) e

    over : (f r c : ℕ) (b : Bool) → h.act ≡ k.act → SlotAt f r c b (h ∷ gs) → SlotAt f r c b (k ∷ gs)
    over f r c b e1 (inl x) = inl (subst (SlotIn (length gs) f r c b) e1 x)
    over f r c b e1 (inr x) = inr x

    there : (f r c : ℕ) (b : Bool) → k.act ≡ h.act → SlotAt f r c b (k ∷ gs) → SlotAt f r c b (h ∷ gs)
    there f r c b e1 (inl x) = inl (subst (SlotIn (length gs) f r c b) e1 x)
    there f r c b e1 (inr x) = inr x
