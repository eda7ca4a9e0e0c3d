-- The value of a cell, and values written to registers and cells: the stack as contracts see it, and that it shares its cells as before.
use Rattle.std.proofs.Common.{◌≡◌, ℕ, ◌+◌, ◌<◌, List, [], ◌∷◌, length, map, take, drop, set, reverse, get_or, Some, ◌⊎◌, inl, inr, refl, sym, ap, subst, ◌∙◌, arith}
use Rattle.std.specs.Prelude.{slice_get, slice_set, option_map}
use Rattle.std.proofs.lemmas.Bool.{cases_eq}
use Rattle.std.proofs.lemmas.List.{length-set, map-set, take-set-le, drop-set-add}
use Rattle.std.proofs.lemmas.List.Elements.{All-set}
use Rattle.std.proofs.lemmas.Option.{slice_get-get_or, slice_get-map, slice_get_within}
use Rattle.lua_model.specs.declared.Value.{Value}
use Rattle.lua_model.specs.Datum.{Datum}
use Rattle.lua_heap.specs.State.{HeapState, in_stack, held, no_cell, datum, IsOf, AreOf}
use Rattle.rules.specs.State.{Cell, Open, Closed}
use Rattle.rules.proofs.Lists.{set_same, set_other}
use Rattle.upvalue.specs.declared.stack.ValueStack.TheInside.{Inside}
use Rattle.upvalue.specs.State.{StackState, top, with_top, size, register_at, cell_of, cells_of, value_of, with_value, with_held}
use Rattle.upvalue.specs.Shared.{Shares}
use Rattle.upvalue.specs.Inside.{cut, first_base, view_of, IsLaid}
use Rattle.upvalue.proofs.Rows.{stack_of, row_is, fits_of}
use Rattle.upvalue.proofs.Lent.{cells-with_row, shares-with_row, with_row_is}
use Rattle.upvalue.proofs.Places.{IsWithin, at_is_within, value_at, put_at}
use Rattle.upvalue.proofs.Closing.{held_is_no_place, stands_within}

written-cut : (bases : List ℕ) (values : List Value) (register : ℕ) (v : Value) → cut bases (set values (first_base bases + register) v) ≡ with_top (cut bases values) (slice_set (top (cut bases values)) register v)
written-cut [] values register v = refl
written-cut (base ∷ bases) values register v =
    ap (λ registers. registers ∷ cut bases (take base (set values (base + register) v))) (drop-set-add base values register v)
    ∙ ap (λ row. set (drop base values) register v ∷ cut bases row) (take-set-le base values (base + register) v (omega arith))

-- a cell that stands for a register is no other than it was
with_held_open : (n : ℕ) (cells : List Cell) (number : ℕ) (c : Cell) (v : Datum) → IsWithin n c → with_held cells number c v ≡ cells
with_held_open n cells number (Open frame register) v w = refl
with_held_open n cells number (Closed old) v w = absurd w

module _ (s : Inside) (self : StackState) (is : view_of s ≡ self) (laid : IsLaid s) where
  -- ---- a register of the topmost frame

  pub written_is : (register : ℕ) (v : Value) → stack_of s.bases.items (set s.values.items (s.base + register) v) s.shared.items ≡ record self { frames = with_top self.frames (slice_set (top self.frames) register v) }
  written_is register v =
      ap (λ n. stack_of s.bases.items (set s.values.items (n + register) v) s.shared.items) laid.base
      ∙ ap (λ frames. record (view_of s) { frames = frames }) (written-cut (reverse s.bases.items) s.values.items register v)
      ∙ ap (λ (u : StackState). record u { frames = with_top u.frames (slice_set (top u.frames) register v) }) is

  -- ---- the register at a place

  as_long : (place : ℕ) (v : Value) → length (set s.values.items place v) ≡ size self.frames
  as_long place v = length-set s.values.items place v ∙ sym (ap length (row_is s self is laid))

  pub put_cells : (h : HeapState) (place : ℕ) (v : Value) → cells_of (cut (reverse s.bases.items) (set s.values.items place v)) h ≡ cells_of self.frames h
  put_cells h place v =
      let row = set s.values.items place v in
      ap (λ (u : StackState). cells_of u.frames h) (with_row_is s self is laid row) ∙ cells-with_row self.frames row h (as_long place v)

  pub put_shares : (h : HeapState) (place : ℕ) (v : Value) → Shares self h → IsOf h v → Shares (stack_of s.bases.items (set s.values.items place v) s.shared.items) h
  put_shares h place v shares known =
      let row = set s.values.items place v in
      let all_known = All-set (IsOf h) s.values.items place v known (subst (AreOf h) (row_is s self is laid) shares.known) in
      subst (λ u. Shares u h) (sym (with_row_is s self is laid row)) (shares-with_row self row h (as_long place v) all_known shares)

  -- ---- a cell that stands for a place

  pub place_there : (h : HeapState) (number place : ℕ) → Shares self h → number < length h.cells → in_stack place ≡ get_or h.cells number no_cell → place < length s.values.items
  place_there h number place shares l at =
      stands_within s.values.items s.shared.items h (fits_of s self is laid h shares) number place (slice_get-get_or h.cells number no_cell l ∙ ap Some (sym at))

  pub read_is : (h : HeapState) (place : ℕ) (v : Value) → place < length s.values.items → slice_get s.values.items place ≡ Some v → value_of h self.frames (register_at self.frames place) ≡ Some (datum h v)
  read_is h place v l got =
      let row = row_is s self is laid in
      value_at h self.frames place (subst (λ values. place < length values) (sym row) l)
      ∙ ap (λ values. slice_get (map (datum h) values) place) row
      ∙ slice_get-map (datum h) s.values.items place
      ∙ ap (λ o. option_map (datum h) o) got

  pub put_is : (h : HeapState) (number place : ℕ) (v : Value) → place < length s.values.items → (cut (reverse s.bases.items) (set s.values.items place v), h) ≡ with_value self.frames h number (register_at self.frames place) v
  put_is h number place v l =
      put_at h number v (reverse s.bases.items) s.values.items place laid.laid l ∙ ap (λ (u : StackState). with_value u.frames h number (register_at u.frames place) v) is

  pub put_held : (h : HeapState) (number place : ℕ) (v : Value) → place < length s.values.items → cells_of (cut (reverse s.bases.items) (set s.values.items place v)) h ≡ with_held (cells_of self.frames h) number (register_at self.frames place) (datum h v)
  put_held h number place v l =
      let there : place < size self.frames = subst (λ values. place < length values) (sym (row_is s self is laid)) l in
      put_cells h place v
      ∙ sym (with_held_open (length self.frames) (cells_of self.frames h) number (register_at self.frames place) (datum h v) (at_is_within self.frames place there))

-- ---- a cell that is held

pub held_shares : (self : StackState) (h : HeapState) (number : ℕ) (old new : Datum) → Shares self h → slice_get h.cells number ≡ Some (held old) → Shares self (record h { cells = set h.cells number (held new) })
held_shares self h number old new shares was = record {
  known = shares.known;
  stands = λ i o e. set_other h.cells number o.cell.index (held new) (λ same. held_is_no_place old o.place (sym was ∙ ap (slice_get h.cells) same ∙ shares.stands i o e)) ∙ shares.stands i o e;
  there = shares.there;
  all = λ n place e. all_of n place e (cases_eq number n);
  in_order = shares.in_order;
}
  where
    within : number < length h.cells
    within = slice_get_within h.cells number (held old) was

    all_of : (n place : ℕ) → slice_get (set h.cells number (held new)) n ≡ Some (in_stack place) → (number ≡ n) ⊎ (number ≡ n → ⊥) → (i : ℕ) × (slice_get self.shared i ≡ Some (record { place = place; cell = record { index = n } }))
    all_of n place e (inl same) =
        absurd (held_is_no_place new place (sym (set_same h.cells number (held new) within) ∙ ap (slice_get (set h.cells number (held new))) same ∙ e))
    all_of n place e (inr other) = shares.all n place (sym (set_other h.cells number n (held new) other) ∙ e)

pub held_cells : (frames : List (List Value)) (h : HeapState) (number : ℕ) (old new : Datum) → held old ≡ get_or h.cells number no_cell → cells_of frames (record h { cells = set h.cells number (held new) }) ≡ with_held (cells_of frames h) number (cell_of frames (get_or h.cells number no_cell)) new
held_cells frames h number old new was =
    map-set (cell_of frames) h.cells number (held new) ∙ ap (λ c. with_held (cells_of frames h) number (cell_of frames c) new) was
