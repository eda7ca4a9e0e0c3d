-- The topmost frame taken off.
use Rattle.std.proofs.Common.{◌≡◌, ℕ, ◌<◌, ◌≤◌, List, [], ◌∷◌, ◌++◌, length, take, drop, reverse, Option, None, Some, sym, ap, subst, ◌∙◌, arith}
use Rattle.std.specs.Prelude.{slice_get}
use Rattle.std.specs.Option.{option_to_list, IsSome}
use Rattle.std.proofs.lemmas.Bool.{false≢true}
use Rattle.std.proofs.lemmas.List.{length-take-le, length-reverse, reverse-append}
use Rattle.std.proofs.lemmas.List.Elements.{All-take}
use Rattle.lua_model.specs.declared.Value.{Value}
use Rattle.lua_heap.specs.State.{HeapState, in_stack, IsOf}
use Rattle.upvalue.specs.declared.shared.OpenCell.{OpenCell}
use Rattle.upvalue.specs.declared.stack.ValueStack.TheInside.{Inside}
use Rattle.upvalue.specs.State.{StackState, size, cells_of}
use Rattle.upvalue.specs.Inside.{cut, AreLaid, first_base, view_of, IsLaid}
use Rattle.upvalue.specs.Gaps.{Fits}
use Rattle.upvalue.proofs.Rows.{laid_below, row-cut, length-cut}
use Rattle.upvalue.proofs.Closing.{AreLower, stands_within}
use Rattle.upvalue.proofs.Cells.{cells_under}

-- the values below a place, where all open cells have lower ones
fits_below : (values : List Value) (shared : List OpenCell) (h : HeapState) (from : ℕ) → Fits values shared h → AreLower from shared → from ≤ length values → Fits (take from values) shared h
fits_below values shared h from fits low within = record {
  known = All-take (IsOf h) from values fits.known;
  stands = fits.stands;
  there = λ i o e. let lower = low i o e in omega (arith, lower, length-take-le from values within);
  all = fits.all;
  in_order = fits.in_order;
}

module _ (s : Inside) (self : StackState) (is : view_of s ≡ self) (laid : IsLaid s) where
  some_base : 0 < length self.frames → 0 < length s.bases.items
  some_base some =
      let long = length-cut (reverse s.bases.items) s.values.items in
      let count = length-reverse s.bases.items in
      let there : 0 < length (view_of s).frames = subst (λ (u : StackState). 0 < length u.frames) (sym is) some in
      omega (arith, long, count, there)

  -- the base that is taken off is the topmost frame's
  pub top_is : (rest : List ℕ) (last : Option ℕ) → s.bases.items ≡ rest ++ option_to_list last → (0 < length s.bases.items → IsSome last) → 0 < length self.frames → reverse s.bases.items ≡ s.base ∷ reverse rest
  top_is rest None e taken some = absurd (false≢true (taken (some_base some)))
  top_is rest (Some base) e taken some =
      let at : reverse s.bases.items ≡ base ∷ reverse rest = ap reverse e ∙ reverse-append rest (base ∷ []) in
      at ∙ ap (λ n. n ∷ reverse rest) (sym (laid.base ∙ ap first_base at))

-- the fields then
module _ (s : Inside) (laid : IsLaid s) (rest : List ℕ) (left : List Value) (top_at : reverse s.bases.items ≡ s.base ∷ reverse rest) (left_is : left ≡ take s.base s.values.items) where
  laid_top : AreLaid (s.base ∷ reverse rest) (length s.values.items)
  laid_top = subst (λ bases. AreLaid bases (length s.values.items)) top_at laid.laid

  pub laid_popped : AreLaid (reverse rest) (length left)
  laid_popped = subst (λ row. AreLaid (reverse rest) (length row)) (sym left_is) (laid_below s.base (reverse rest) s.values.items laid_top)

  module _ (shared : List OpenCell) (h : HeapState) (fits : Fits s.values.items shared h) (low : AreLower s.base shared) where
    pub fits_popped : Fits left shared h
    fits_popped = subst (λ row. Fits row shared h) (sym left_is) (fits_below s.values.items shared h s.base fits low laid_top.0)

    pub cells_popped : cells_of (cut (reverse rest) left) h ≡ cells_of (view_of s).frames h
    cells_popped =
        let size_is : size (cut (reverse rest) left) ≡ length left = ap length (row-cut (reverse rest) left laid_popped) in
        let there : (number place : ℕ) → slice_get h.cells number ≡ Some (in_stack place) → place < size (cut (reverse rest) left) = λ number place e. let lower = stands_within left shared h fits_popped number place e in omega (arith, lower, size_is) in
        sym (cells_under (drop s.base s.values.items) (cut (reverse rest) left) h there)
        ∙ ap (λ row. cells_of (drop s.base s.values.items ∷ cut (reverse rest) row) h) left_is
        ∙ sym (ap (λ bases. cells_of (cut bases s.values.items) h) top_at)
