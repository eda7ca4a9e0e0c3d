-- The registers of all frames in a row are the values of the stack, and what the one shares with a heap the other does.
use Rattle.std.proofs.Common.{◌≡◌, ℕ, suc, Some, ◌+◌, ◌<◌, List, [], ◌∷◌, ◌++◌, length, take, drop, reverse, refl, sym, ap, subst, ◌∙◌, arith}
use Rattle.std.specs.Prelude.{slice_get}
use Rattle.std.proofs.lemmas.List.{length-take-le, length-drop, take-append-drop, nil_from_length}
use Rattle.lua_model.specs.declared.Value.{Value}
use Rattle.lua_heap.specs.State.{HeapState, in_stack, AreOf}
use Rattle.upvalue.specs.declared.shared.OpenCell.{OpenCell}
use Rattle.upvalue.specs.declared.stack.ValueStack.TheInside.{Inside}
use Rattle.upvalue.specs.State.{StackState, top, below, in_a_row, size, place_of}
use Rattle.upvalue.specs.Shared.{Shares}
use Rattle.upvalue.specs.Inside.{cut, AreLaid, first_base, view_of, IsLaid}
use Rattle.upvalue.specs.Gaps.{Fits}

pub laid_below : (base : ℕ) (bases : List ℕ) (values : List Value) → AreLaid (base ∷ bases) (length values) → AreLaid bases (length (take base values))
laid_below base bases values laid = subst (AreLaid bases) (sym (length-take-le base values laid.0)) laid.1

pub row-cut : (bases : List ℕ) (values : List Value) → AreLaid bases (length values) → in_a_row (cut bases values) ≡ values
row-cut [] values laid = sym (nil_from_length values laid)
row-cut (base ∷ bases) values laid =
    ap (λ row. row ++ drop base values) (row-cut bases (take base values) (laid_below base bases values laid)) ∙ take-append-drop base values

top-cut : (bases : List ℕ) (values : List Value) → AreLaid bases (length values) → top (cut bases values) ≡ drop (first_base bases) values
top-cut [] values laid = sym (nil_from_length values laid)
top-cut (base ∷ bases) values laid = refl

pub size-below : (bases : List ℕ) (values : List Value) → AreLaid bases (length values) → size (below (cut bases values)) ≡ first_base bases
size-below [] values laid = refl
size-below (base ∷ bases) values laid =
    ap length (row-cut bases (take base values) (laid_below base bases values laid)) ∙ length-take-le base values laid.0

pub length-cut : (bases : List ℕ) (values : List Value) → length (cut bases values) ≡ length bases
length-cut [] values = refl
length-cut (base ∷ bases) values = ap suc (length-cut bases (take base values))

-- a stack of these fields
abbrev pub stack_of : List ℕ → List Value → List OpenCell → StackState
stack_of bases values shared = record { frames = cut (reverse bases) values; shared = shared }

pub shares_by_fits : (bases : List ℕ) (values : List Value) (shared : List OpenCell) (h : HeapState) → AreLaid (reverse bases) (length values) → Fits values shared h → Shares (stack_of bases values shared) h
shares_by_fits bases values shared h laid fits =
    let row = row-cut (reverse bases) values laid in
    record {
      known = subst (AreOf h) (sym row) fits.known;
      stands = fits.stands;
      there = λ i o e. subst (λ row. o.place < length row) (sym row) (fits.there i o e);
      all = fits.all;
      in_order = fits.in_order;
    }

-- the places of the cells of a heap that stand for one are there
pub stands_there : (self : StackState) (h : HeapState) → Shares self h → (number place : ℕ) → slice_get h.cells number ≡ Some (in_stack place) → place < size self.frames
stands_there self h shares number place e = let found = shares.all number place e in shares.there found.0 _ found.1

-- ---- the fields of a stack

module _ (s : Inside) (self : StackState) (is : view_of s ≡ self) (laid : IsLaid s) where
  pub row_is : in_a_row self.frames ≡ s.values.items
  row_is = sym (ap (λ (u : StackState). in_a_row u.frames) is) ∙ row-cut (reverse s.bases.items) s.values.items laid.laid

  pub base_is : s.base ≡ size (below self.frames)
  base_is =
      laid.base ∙ sym (size-below (reverse s.bases.items) s.values.items laid.laid) ∙ ap (λ (u : StackState). size (below u.frames)) is

  pub place_is : (register : ℕ) → s.base + register ≡ place_of self.frames register
  place_is register = ap (λ n. n + register) base_is

  pub register_there : (register : ℕ) → register < length (top self.frames) → s.base + register < length s.values.items
  register_there register l =
      let there : register < length (top (view_of s).frames) = subst (λ (u : StackState). register < length (top u.frames)) (sym is) l in
      let long = ap length (top-cut (reverse s.bases.items) s.values.items laid.laid) ∙ length-drop (first_base (reverse s.bases.items)) s.values.items in
      omega (arith, there, long, laid.base)

  pub fits_of : (h : HeapState) → Shares self h → Fits s.values.items s.shared.items h
  fits_of h shares =
      let open_cells : s.shared.items ≡ self.shared = ap (λ (u : StackState). u.shared) is in
      subst (λ shared. Fits s.values.items shared h) (sym open_cells) (record {
        known = subst (AreOf h) row_is shares.known;
        stands = shares.stands;
        there = λ i o e. subst (λ row. o.place < length row) row_is (shares.there i o e);
        all = shares.all;
        in_order = shares.in_order;
      })
