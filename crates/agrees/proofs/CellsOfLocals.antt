-- A value that is stored to a local of the running frame: the register is the local.
use Rattle.std.proofs.Common.{◌≡◌, ◌≢◌, ◌<◌, ℕ, Bool, true, false, ◌⊎◌, inl, inr, List, ◌∷◌, ◌++◌, map, length, Option, Some, None, refl, sym, ap, ◌∙◌, subst, arith, nat_eq}
use Rattle.std.specs.Prelude.{slice_get, slice_set}
use Rattle.lua_model.specs.Datum.{Datum, first_of}
use Rattle.lua_model.specs.Store.{Outside}
use Rattle.source_meaning.specs.State.{State as SourceState, Place as Scope, with_cell, to_cell, Closure as Function}
use Rattle.source_meaning.specs.Meaning.{store_to}
use Rattle.rules.specs.State.{OpenResults}
use Rattle.scheme_stands.specs.Words.{is_marked}
use Rattle.agrees.proofs.Cells.{read_new, read_other}
use Rattle.agrees.proofs.Posts.{ValuePost, AtPost, fail_of}
use Rattle.agrees.proofs.Lists.{nat_cases, within, get_within, length_map, length_set, map_same, set_app_left, map_change}
use Rattle.agrees.proofs.Accounts.{Place, Now, Self, Goes, goes_done}
use Rattle.agrees.proofs.Picture.{Setup, Slot, of_cell, holds, At, Waiter, Ghost, Site, raised, cell_in_home, cell_at, read, slot_value, registers, frame_of, pic, SlotAt, Fine, Ok, waits}
use Rattle.agrees.proofs.PictureChanges.{frames_same, slot_below, same_home}

-- the places of one cell are one
one_place : (z : Setup) (n : ℕ) (fs : List Function) (g : Ghost) (gs : List Waiter) → Fine z n fs g gs → (f r f1 r1 c : ℕ) (b b1 : Bool) → SlotAt f r c b gs → SlotAt f1 r1 c b1 gs → (f ≡ f1) × (r ≡ r1) × (b ≡ b1)
one_place z n fs g gs fine f r f1 r1 c b b1 h h1 = same_home f r f1 r1 b b1 (sym (fine.loc f r c b h).1 ∙ (fine.loc f1 r1 c b1 h1).1)

module _ (z : Setup) (s : SourceState) (g : Ghost) (x : Site) (r c : ℕ) (v : Datum) (ok : Ok z s g x) (there : slice_get x.a.slots r ≡ Some (of_cell c)) where
  here : (b : Bool) × SlotAt (length x.below) r c b (waits x 0 ∷ x.below)
  here =
      let l = within x.a.slots r (of_cell c) there in let k = ok.acts.0.as_many in
      let b = get_within (map is_marked x.a.active) r (omega (arith, l, k, length_map is_marked x.a.active)) in
      (b.0, inl (record { at_frame = refl; slot = there; marked = b.1 }))

  small : c < length s.cells
  small = (ok.loc (length x.below) r c here.0 here.1).0

  slots_set : slice_set (map (slot_value s.cells) x.a.slots) r v ≡ map (slot_value (slice_set s.cells c v)) x.a.slots
  slots_set = map_change (slot_value s.cells) (slot_value (slice_set s.cells c v)) x.a.slots r (of_cell c) v there (read_new s.cells c v small) by
    where
      by : (i : ℕ) (y : Slot) → slice_get x.a.slots i ≡ Some y → i ≢ r → slot_value s.cells y ≡ slot_value (slice_set s.cells c v) y
      by i (holds w) e n = refl
      by i (of_cell d) e n = read_other s.cells c d v (λ q. n (alone i d e q))
        where
          alone : (i d : ℕ) → slice_get x.a.slots i ≡ Some (of_cell d) → d ≡ c → i ≡ r
          alone i d e q =
              let l = within x.a.slots i (of_cell d) e in let k = ok.acts.0.as_many in
              let b = get_within (map is_marked x.a.active) i (omega (arith, l, k, length_map is_marked x.a.active)) in
              (one_place z (length s.cells) s.closures g (waits x 0 ∷ x.below) ok (length x.below) i (length x.below) r c b.0 here.0 (inl (record { at_frame = refl; slot = e ∙ ap (λ y. Some (of_cell y)) q; marked = b.1 })) here.1).1

  -- the register that is written is the local
  pub writes_local : (o : Outside) (pc : ℕ) (results : Option OpenResults) → pic s o g x pc (slice_set (registers s.cells x.a x.high) r v) results ≡ pic (with_cell s c v) o g x pc (registers (slice_set s.cells c v) x.a x.high) results
  writes_local o pc results =
      ap (λ rs. pic s o g x pc rs results) (set_app_left (map (slot_value s.cells) x.a.slots) x.high r v (let l = within x.a.slots r (of_cell c) there in omega (arith, l, length_map (slot_value s.cells) x.a.slots)) ∙ ap (λ l. l ++ x.high) slots_set)
      ∙ ap (λ fs. record (pic s o g x pc (registers (slice_set s.cells c v) x.a x.high) results) { below = fs }) (frames_same g.owner s.cells (slice_set s.cells c v) x.below ok.acts.2 (λ f r1 d b q. read_other s.cells c d v (λ e. elsewhere f r1 d b q e)))
      ∙ ap (λ cs. record (pic s o g x pc (registers (slice_set s.cells c v) x.a x.high) results) { below = map (frame_of (slice_set s.cells c v)) x.below; cells = cs }) (map_same _ _ g.owner (λ k d e. cell_same d (nat_cases d c)))
    where
      elsewhere : (f r1 d : ℕ) (b : Bool) → SlotAt f r1 d b x.below → d ≡ c → ⊥
      elsewhere f r1 d b q e =
          let p = one_place z (length s.cells) s.closures g (waits x 0 ∷ x.below) ok f r1 (length x.below) r c b here.0 (inr (subst (λ y. SlotAt f r1 y b x.below) e q)) here.1 in
          let l = slot_below f r1 d b x.below q in
          let k = p.0 in absurd (omega (arith, l, k))

      cell_same : (d : ℕ) → ((nat_eq d c ≡ true) × (d ≡ c)) ⊎ ((nat_eq d c ≡ false) × (d ≢ c)) → cell_at s.cells g.home d ≡ cell_at (slice_set s.cells c v) g.home d
      cell_same d (inl h) =
          let k : g.home d ≡ At (length x.below) r here.0 = ap g.home h.1 ∙ (ok.loc (length x.below) r c here.0 here.1).1 in
          ap (cell_in_home (read s.cells d)) k ∙ sym (ap (cell_in_home (read (slice_set s.cells c v) d)) k)
      cell_same d (inr h) = ap (λ y. cell_in_home y (g.home d)) (read_other s.cells c d v h.1)

  pub ok_local : Ok z (with_cell s c v) g x
  ok_local = subst (λ n. Fine z n s.closures g (waits x 0 ∷ x.below)) (sym (length_set s.cells c v)) ok

-- the last right side that is stored to a local directly: the value in its register is the store
pub direct_store : (z : Setup) (x : Site) (k r c q : ℕ) (vs : List Datum) (place : Scope) (self : Self) (s : SourceState) (o : Outside) (p : Place) → slice_get x.a.slots r ≡ Some (of_cell c) → ValuePost z x k r q vs s o p → Goes z.bound self (fail_of z x) 0 0 o p (λ u s1 o1 p1. AtPost z x k q s1 o1 p1) (store_to (to_cell c) (first_of vs) place s)
direct_store z x k r c q vs place self s o p there h =
    goes_done z.bound self (fail_of z x) 0 0 o p _ tt (with_cell s c (first_of vs))
    (record {
      g = h.g;
      high = h.high;
      keeps = h.keeps;
      is = h.is ∙ ap Now (writes_local z s h.g (raised x h.high) r c (first_of vs) h.ok there o q None);
      ok = ok_local z s h.g (raised x h.high) r c (first_of vs) h.ok there;
    })
