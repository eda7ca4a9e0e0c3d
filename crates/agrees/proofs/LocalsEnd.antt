-- Locals end: they are closed where one of them is captured, and their registers are above the locals again.
use Rattle.std.proofs.Common.{◌≡◌, ◌≤◌, ◌<◌, ℕ, zero, suc, ◌+◌, ◌-◌, Bool, true, false, ◌⊎◌, inl, inr, List, [], ◌∷◌, ◌++◌, map, length, Some, None, refl, sym, ap, ◌∙◌, subst, arith, nat_le, length-append, append_assoc}
use Rattle.std.specs.Prelude.{slice_get, drop, ◌||◌}
use Rattle.opcode.specs.declared.op.Op.{Op}
use Rattle.scheme.specs.Making.{any_captured}
use Rattle.scheme.specs.declared.making.Active.{Active}
use Rattle.lua_model.specs.Datum.{Datum}
use Rattle.lua_model.specs.Store.{Outside}
use Rattle.source_meaning.specs.State.{State as SourceState, Env, Closure as Function}
use Rattle.rules.specs.State.{State, Cell}
use Rattle.rules.specs.Cells.{close_one}
use Rattle.rules.specs.Run.{Going}
use Rattle.scheme_stands.specs.Words.{is_marked, Spot}
use Rattle.scheme_stands.specs.Statements.{CloseAt}
use Rattle.agrees.proofs.Posts.{Grown, Named}
use Rattle.agrees.proofs.Lists.{le_cases, within, get_within, get_app, get_app_right, map_same, map_append, length_map}
use Rattle.agrees.proofs.Accounts.{Place, Now, Arrive, to_here, to_word}
use Rattle.agrees.proofs.Words.{word_abc}
use Rattle.agrees.proofs.Picture.{code_of, Setup, Slot, of_cell, Home, At, Off, Act, Waiter, Ghost, Site, cell_in_home, cell_at, read, slot_value, registers, frame, frame_of, at, SlotAt, Fine, Ok}
use Rattle.agrees.proofs.PictureChanges.{slot_below, shut, shuts, shut_stays, shut_back, cells_close}
use Rattle.agrees.proofs.PictureApart.{apart_cut}
use Rattle.agrees.proofs.LocalsBegin.{grown_act, put}

pub named_of : (z : Setup) (s : SourceState) (g : Ghost) (x : Site) → Ok z s g x → Named x.a
named_of z s g x ok = record { owned = ok.acts.0.owned; as_many = ok.acts.0.as_many }

abbrev pub row : Act → List Datum → Waiter
row a high = record { act = a; pc = 0; high = high }

get_left : {A : Type 0} (xs ys : List A) (i : ℕ) → i < length xs → slice_get (xs ++ ys) i ≡ slice_get xs i
get_left xs ys i l = let x = get_within xs i l in get_app xs ys i x.0 x.1 ∙ sym x.1

module _ (z : Setup) (n : ℕ) (fs : List Function) where
  pub fine_cut : (g : Ghost) (a : Act) (env : Env) (bs : List Active) (ss : List Slot) (high high1 : List Datum) (gs : List Waiter) → Named a → length high1 ≡ length ss + length high → Fine z n fs g (row (grown_act a env (a.active ++ bs) (a.slots ++ ss)) high ∷ gs) → Fine z n fs (shuts g (length gs) (length a.slots)) (row a high1 ∷ gs)
  fine_cut g a env bs ss high high1 gs named room fine = record {
    loc = loc1;
    back = λ c f r b l e. let q = shut_back (length gs) (length a.slots) (g.home c) f r b e in back1 c f r b q.1 (fine.back c f r b l q.0);
    owned = fine.owned;
    marked = λ k c f r b e q. fine.marked k c f r b e (shut_back (length gs) (length a.slots) (g.home c) f r b q).0;
    once = fine.once;
    acts = (record { carry = fine.acts.0.carry; known = fine.acts.0.known; owned = named.owned; as_many = named.as_many; apart = apart_cut a (grown_act a env (a.active ++ bs) (a.slots ++ ss)) ss refl refl fine.acts.0.apart; limits = fine.acts.0.limits }, (let k = fine.acts.1 in omega (arith, k, room, length-append a.slots ss)), fine.acts.2);
    closures = fine.closures;
    deep = fine.deep;
  }
    where
      many : length a.active ≡ length a.slots
      many = named.as_many

      loc1 : (f r c : ℕ) (b : Bool) → SlotAt f r c b (row a high1 ∷ gs) → (c < n) × (shut (length gs) (length a.slots) (g.home c) ≡ At f r b)
      loc1 f r c b (inl h) =
          let l = within a.slots r (of_cell c) h.slot in
          let x = fine.loc f r c b (inl (record { at_frame = h.at_frame; slot = get_app a.slots ss r (of_cell c) h.slot; marked = ap (λ y. slice_get y r) (map_append is_marked a.active bs) ∙ get_app (map is_marked a.active) (map is_marked bs) r b h.marked })) in
          (x.0, ap (shut (length gs) (length a.slots)) x.1 ∙ shut_stays (length gs) (length a.slots) f r b (λ e. l))
      loc1 f r c b (inr h) =
          let x = fine.loc f r c b (inr h) in let l = slot_below f r c b gs h in
          (x.0, ap (shut (length gs) (length a.slots)) x.1 ∙ shut_stays (length gs) (length a.slots) f r b (λ e. absurd (omega arith)))

      back1 : (c f r : ℕ) (b : Bool) → (f ≡ length gs → r < length a.slots) → SlotAt f r c b (row (grown_act a env (a.active ++ bs) (a.slots ++ ss)) high ∷ gs) → SlotAt f r c b (row a high1 ∷ gs)
      back1 c f r b l (inl h) =
          let k = l h.at_frame in
          inl (record { at_frame = h.at_frame; slot = sym (get_left a.slots ss r k) ∙ h.slot; marked = sym (get_left (map is_marked a.active) (map is_marked bs) r (omega (arith, k, many, length_map is_marked a.active))) ∙ sym (ap (λ y. slice_get y r) (map_append is_marked a.active bs)) ∙ h.marked })
      back1 c f r b l (inr h) = inr h

  some_is : (x y : Bool) → Some x ≡ Some y → x ≡ y
  some_is x y p = cc

  none_marked : (bs : List Active) (i : ℕ) (b : Bool) → any_captured bs ≡ false → slice_get (map is_marked bs) i ≡ Some b → b ≡ false
  none_marked [] i b e q = cc
  none_marked (one ∷ bs) i b e q = by (is_marked one) refl i q (λ j e1 q1. none_marked bs j b e1 q1)
    where
      by : (t : Bool) → is_marked one ≡ t → (i : ℕ) → slice_get (map is_marked (one ∷ bs)) i ≡ Some b → ((j : ℕ) → any_captured bs ≡ false → slice_get (map is_marked bs) j ≡ Some b → b ≡ false) → b ≡ false
      by true h i q1 ih = let w : true ≡ false = sym (ap (λ t. t || any_captured bs) h) ∙ e in cc
      by false h zero q1 ih = sym (some_is (is_marked one) b q1) ∙ h
      by false h (suc i) q1 ih = ih i (sym (ap (λ t. t || any_captured bs) h) ∙ e) q1

  -- where nothing is captured there is nothing to close
  pub cells_uncaptured : (cells : List Datum) (g : Ghost) (a : Act) (env : Env) (bs : List Active) (ss : List Slot) (high : List Datum) (gs : List Waiter) → Named a → any_captured bs ≡ false → Fine z n fs g (row (grown_act a env (a.active ++ bs) (a.slots ++ ss)) high ∷ gs) → map (cell_at cells g.home) g.owner ≡ map (cell_at cells (shuts g (length gs) (length a.slots)).home) g.owner
  cells_uncaptured cells g a env bs ss high gs named un fine =
      map_same _ _ g.owner (λ k c e. ap (cell_in_home (read cells c)) (sym (stays k c e (g.home c) refl)))
    where
      small : (k c f r : ℕ) (b : Bool) → slice_get g.owner k ≡ Some c → g.home c ≡ At f r b → f ≡ length gs → SlotAt f r c b (row (grown_act a env (a.active ++ bs) (a.slots ++ ss)) high ∷ gs) → r < length a.slots
      small k c f r b e h q (inl x) = by (le_cases (length a.active) r)
        where
          by : ((nat_le (length a.active) r ≡ true) × (length a.active ≤ r)) ⊎ ((nat_le (length a.active) r ≡ false) × (r < length a.active)) → r < length a.slots
          by (inl l) =
              let m = length a.active in
              let i = r - m in
              let there : slice_get (map is_marked bs) i ≡ Some b = sym (get_app_right (map is_marked a.active) (map is_marked bs) r i (let k1 = l.1 in omega (arith, k1, length_map is_marked a.active))) ∙ sym (ap (λ y. slice_get y r) (map_append is_marked a.active bs)) ∙ x.marked in
              let f1 = none_marked bs i b un there in
              let t1 = fine.marked k c f r b e h in
              let w : true ≡ false = sym t1 ∙ f1 in cc
          by (inr l) = let k1 = l.1 in let k2 = named.as_many in omega (arith, k1, k2)
      small k c f r b e h q (inr x) = let l = slot_below f r c b gs x in absurd (omega arith)

      stays : (k c : ℕ) → slice_get g.owner k ≡ Some c → (h : Home) → g.home c ≡ h → shut (length gs) (length a.slots) (g.home c) ≡ g.home c
      stays k c e Off q = ap (shut (length gs) (length a.slots)) q ∙ sym q
      stays k c e (At f r b) q =
          ap (shut (length gs) (length a.slots)) q ∙ shut_stays (length gs) (length a.slots) f r b (λ y. small k c f r b e q y (fine.back c f r b (fine.owned k c e) q)) ∙ sym q

drop_front : {A : Type 0} (xs ys : List A) → drop (length xs) (xs ++ ys) ≡ ys
drop_front [] ys = refl
drop_front (x ∷ xs) ys = drop_front xs ys

-- the machine is at q with the locals of a again
pub record Ended (z : Setup) (s : SourceState) (o : Outside) (a : Act) (below : List Waiter) (high : List Datum) (q : ℕ) (p : Place) : Type 0 where
  pub g : Ghost
  pub is : p ≡ Now (at s o g (put a below high) q)
  pub ok : Ok z s g (put a below high)

module _ (z : Setup) where
  ends_as : (s : SourceState) (o : Outside) (g : Ghost) (a : Act) (env : Env) (bs : List Active) (ss : List Slot) (high : List Datum) (below : List Waiter) (p q : Spot) (t : ℕ) → Named a → Ok z s g (put (grown_act a env (a.active ++ bs) (a.slots ++ ss)) below high) → CloseAt (any_captured bs) (code_of a) (length a.active) p q → Arrive z.bound 1 0 t (Now (at s o g (put (grown_act a env (a.active ++ bs) (a.slots ++ ss)) below high) p.pc)) t (Ended z s o a below (map (slot_value s.cells) ss ++ high) q.pc)
  ends_as s o g a env bs ss high below p q t named ok c = by (any_captured bs) refl c
    where
      high1 : List Datum
      high1 = map (slot_value s.cells) ss ++ high

      g1 : Ghost
      g1 = shuts g (length below) (length a.slots)

      regs : registers s.cells (grown_act a env (a.active ++ bs) (a.slots ++ ss)) high ≡ registers s.cells a (map (slot_value s.cells) ss ++ high)
      regs = ap (λ l. l ++ high) (map_append (slot_value s.cells) a.slots ss) ∙ append_assoc (map (slot_value s.cells) a.slots) (map (slot_value s.cells) ss) high

      ok1 : Ok z s (shuts g (length below) (length a.slots)) (put a below (map (slot_value s.cells) ss ++ high))
      ok1 = fine_cut z (length s.cells) s.closures g a env bs ss high (map (slot_value s.cells) ss ++ high) below named (omega (arith, length-append (map (slot_value s.cells) ss) high, length_map (slot_value s.cells) ss)) ok

      state_by : List Datum → List Cell → ℕ → State
      state_by rs cs pc = record { top = frame a pc rs None; below = map (frame_of s.cells) below; cells = cs; closures = g.closures; store = s.store; outside = o }

      by : (b : Bool) → any_captured bs ≡ b → CloseAt b (code_of a) (length a.active) p q → Arrive z.bound 1 0 t (Now (at s o g (put (grown_act a env (a.active ++ bs) (a.slots ++ ss)) below high) p.pc)) t (Ended z s o a below (map (slot_value s.cells) ss ++ high) q.pc)
      by true e w =
          let m = at s o g (put (grown_act a env (a.active ++ bs) (a.slots ++ ss)) below high) p.pc in
          to_word z.bound t m (at s o (shuts g (length below) (length a.slots)) (put a below (map (slot_value s.cells) ss ++ high)) q.pc) (Ended z s o a below (map (slot_value s.cells) ss ++ high) q.pc)
          (word_abc a Op.Close (length a.active) 0 0 p q m w refl refl
          ∙ ap (λ k. Going (state_by (registers s.cells (grown_act a env (a.active ++ bs) (a.slots ++ ss)) high) (map (close_one k (length a.active) (registers s.cells (grown_act a env (a.active ++ bs) (a.slots ++ ss)) high)) (map (cell_at s.cells g.home) g.owner)) (suc p.pc))) (length_map (frame_of s.cells) below)
          ∙ ap (λ k. Going (state_by (registers s.cells (grown_act a env (a.active ++ bs) (a.slots ++ ss)) high) (map (close_one (length below) k (registers s.cells (grown_act a env (a.active ++ bs) (a.slots ++ ss)) high)) (map (cell_at s.cells g.home) g.owner)) (suc p.pc))) named.as_many
          ∙ ap (λ cs. Going (state_by (registers s.cells (grown_act a env (a.active ++ bs) (a.slots ++ ss)) high) cs (suc p.pc))) (cells_close z (length s.cells) s.closures s.cells g (row (grown_act a env (a.active ++ bs) (a.slots ++ ss)) high) below (length a.slots) ok)
          ∙ ap (λ rs. Going (state_by rs (map (cell_at s.cells (shuts g (length below) (length a.slots)).home) g.owner) (suc p.pc))) regs
          ∙ ap (λ pc. Going (at s o (shuts g (length below) (length a.slots)) (put a below (map (slot_value s.cells) ss ++ high)) pc)) (sym w.next))
          (record { g = shuts g (length below) (length a.slots); is = refl; ok = ok1 })
      by false e w =
          to_here z.bound 1 t _ (Ended z s o a below (map (slot_value s.cells) ss ++ high) q.pc)
          (record {
            g = shuts g (length below) (length a.slots);
            is =
                ap (λ rs. Now (state_by rs (map (cell_at s.cells g.home) g.owner) p.pc)) regs
                ∙ ap (λ cs. Now (state_by (registers s.cells a (map (slot_value s.cells) ss ++ high)) cs p.pc)) (cells_uncaptured z (length s.cells) s.closures s.cells g a env bs ss high below named e ok)
                ∙ ap (λ pc. Now (at s o (shuts g (length below) (length a.slots)) (put a below (map (slot_value s.cells) ss ++ high)) pc)) (sym w.pc);
            ok = ok1;
          })

  pub ends : (s : SourceState) (o : Outside) (g : Ghost) (a b : Act) (w : Grown a b) (high : List Datum) (below : List Waiter) (p q : Spot) (t : ℕ) → Named a → Ok z s g (put b below high) → CloseAt (any_captured (drop (length a.active) b.active)) (code_of a) (length a.active) p q → Arrive z.bound 1 0 t (Now (at s o g (put b below high) p.pc)) t (Ended z s o a below (map (slot_value s.cells) w.slots ++ high) q.pc)
  ends s o g a b w high below p q t named ok c =
      subst (λ y. Arrive z.bound 1 0 t (Now (at s o g (put y below high) p.pc)) t (Ended z s o a below (map (slot_value s.cells) w.slots ++ high) q.pc)) (sym w.is)
      (ends_as s o g a w.env w.active w.slots high below p q t named (subst (λ y. Ok z s g (put y below high)) w.is ok)
      (subst (λ l. CloseAt (any_captured l) (code_of a) (length a.active) p q) (ap (λ y. drop (length a.active) y.active) w.is ∙ drop_front a.active w.active) c))
