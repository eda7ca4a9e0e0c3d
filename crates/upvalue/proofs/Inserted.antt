-- A new open cell among the others.
use Rattle.std.proofs.Common.{◌≡◌, ℕ, zero, suc, ◌<◌, List, [], ◌∷◌, ◌++◌, length, Option, Some, ◌⊎◌, inl, inr, refl, sym, ap, subst, ◌∙◌, arith}
use Rattle.std.specs.Prelude.{slice_get}
use Rattle.std.specs.List.{insert}
use Rattle.std.proofs.lemmas.Option.{same_Some}
use Rattle.lua_model.specs.declared.Value.{Value}
use Rattle.lua_heap.specs.State.{HeapState, in_stack}
use Rattle.lua_heap.specs.declared.cells.CellId.{CellId}
use Rattle.rules.proofs.Lists.{get_front, get_last}
use Rattle.upvalue.specs.declared.shared.OpenCell.{OpenCell}
use Rattle.upvalue.specs.Shared.{AreInOrder}
use Rattle.upvalue.specs.Gaps.{IsGap, Fits}
use Rattle.upvalue.proofs.Lists.{put_there, still_there, WasAt, was_at}
use Rattle.upvalue.proofs.Closing.{same_place}

last_or_before : {X : Type 0} (xs : List X) (y : X) (i : ℕ) (x : X) → slice_get (xs ++ y ∷ []) i ≡ Some x → (slice_get xs i ≡ Some x) ⊎ ((i ≡ length xs) × (y ≡ x))
last_or_before [] y zero x e = inr (refl, same_Some y x e)
last_or_before [] y (suc i) x e = cc
last_or_before (z ∷ xs) y zero x e = inl e
last_or_before (z ∷ xs) y (suc i) x e = next (last_or_before xs y i x e)
  where
    next : (slice_get xs i ≡ Some x) ⊎ ((i ≡ length xs) × (y ≡ x)) → (slice_get xs i ≡ Some x) ⊎ ((suc i ≡ suc (length xs)) × (y ≡ x))
    next (inl before) = inl before
    next (inr last) = inr (ap suc last.0, last.1)

module _ (shared : List OpenCell) (place at : ℕ) (cell : CellId) (gap : IsGap shared place at) where
  abbrev new : OpenCell
  new = record { place = place; cell = cell }

  in_order_with : AreInOrder shared → AreInOrder (insert shared at new)
  in_order_with order i j a b less e f = by (was_at shared at new i a gap.within e) (was_at shared at new j b gap.within f)
    where
      by : WasAt shared at new i a → WasAt shared at new j b → a.place < b.place
      by (inl low) (inl low') = order i j a b less low.1 low'.1
      by (inl low) (inr (inl it)) = subst (λ (o : OpenCell). a.place < o.place) it.1 (gap.lower i a low.0 low.1)
      by (inl low) (inr (inr high)) = order i high.0 a b (omega (arith, low.0, high.1)) low.1 high.3
      by (inr (inl it)) (inl low) = absurd (omega (arith, less, it.0, low.0))
      by (inr (inl it)) (inr (inl it')) = absurd (omega (arith, less, it.0, it'.0))
      by (inr (inl it)) (inr (inr high)) = subst (λ (o : OpenCell). o.place < b.place) it.1 (gap.higher high.0 b high.1 high.3)
      by (inr (inr high)) (inl low) = absurd (omega (arith, less, high.1, high.2, low.0))
      by (inr (inr high)) (inr (inl it)) = absurd (omega (arith, less, high.1, high.2, it.0))
      by (inr (inr high)) (inr (inr high')) = order high.0 high'.0 a b (omega (arith, less, high.2, high'.2)) high.3 high'.3

  pub fits_with : (values : List Value) (h : HeapState) → Fits values shared h → place < length values → cell.index ≡ length h.cells → Fits values (insert shared at new) (record h { cells = h.cells ++ in_stack place ∷ [] })
  fits_with values h fits there last = record {
    known = fits.known;
    stands = λ i o e. stands_of i o (was_at shared at new i o gap.within e);
    there = λ i o e. there_of i o (was_at shared at new i o gap.within e);
    all = λ number p e. all_of number p (last_or_before h.cells (in_stack place) number (in_stack p) e);
    in_order = in_order_with fits.in_order;
  }
    where
      stands_of : (i : ℕ) (o : OpenCell) → WasAt shared at new i o → slice_get (h.cells ++ in_stack place ∷ []) o.cell.index ≡ Some (in_stack o.place)
      stands_of i o (inl low) = get_front h.cells (in_stack place ∷ []) o.cell.index (in_stack o.place) (fits.stands i o low.1)
      stands_of i o (inr (inl it)) =
          subst (λ (o : OpenCell). slice_get (h.cells ++ in_stack place ∷ []) o.cell.index ≡ Some (in_stack o.place)) it.1
          (ap (slice_get (h.cells ++ in_stack place ∷ [])) last ∙ get_last h.cells (in_stack place))
      stands_of i o (inr (inr high)) = get_front h.cells (in_stack place ∷ []) o.cell.index (in_stack o.place) (fits.stands high.0 o high.3)

      there_of : (i : ℕ) (o : OpenCell) → WasAt shared at new i o → o.place < length values
      there_of i o (inl low) = fits.there i o low.1
      there_of i o (inr (inl it)) = subst (λ (o : OpenCell). o.place < length values) it.1 there
      there_of i o (inr (inr high)) = fits.there high.0 o high.3

      all_of : (number p : ℕ) → (slice_get h.cells number ≡ Some (in_stack p)) ⊎ ((number ≡ length h.cells) × (in_stack place ≡ in_stack p)) → (i : ℕ) × (slice_get (insert shared at new) i ≡ Some (record { place = p; cell = record { index = number } }))
      all_of number p (inl before) = let found = fits.all number p before in still_there shared at new found.0 _ found.1
      all_of number p (inr it) =
          let made : ℕ → ℕ → Option OpenCell = λ q n. Some (record { place = q; cell = record { index = n } }) in
          (at, put_there shared at new gap.within ∙ ap (λ q. made q cell.index) (same_place place p (ap Some it.1)) ∙ ap (made p) (last ∙ sym it.0))
