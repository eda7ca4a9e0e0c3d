-- The cells of a heap as the rules see them: under one more frame on top, and after closing.
use Rattle.std.proofs.Common.{◌≡◌, ℕ, ◌+◌, ◌-◌, ◌<◌, ◌≤◌, Bool, true, ◌&&◌, List, [], ◌∷◌, length, map, get_or, Some, ◌⊎◌, inl, inr, refl, sym, ap, ◌∙◌, arith}
use Rattle.std.specs.Prelude.{nat_le, slice_get, if◌then◌else◌}
use Rattle.std.proofs.Math.ListN.{get_or-map}
use Rattle.std.proofs.lemmas.Bool.{le-leb, lt-leb, eq-eqb, ne_eqb, cases_lt}
use Rattle.std.proofs.lemmas.List.{get_or-append_right}
use Rattle.std.proofs.lemmas.Simd.{map-map}
use Rattle.lua_model.specs.declared.Value.{Value}
use Rattle.lua_model.specs.declared.Value.TheVariants.{Nil}
use Rattle.lua_model.specs.Datum.{Datum, nil}
use Rattle.lua_heap.specs.State.{HeapState, CellState, in_stack, held, datum}
use Rattle.rules.specs.State.{Cell, Open, Closed}
use Rattle.rules.specs.Cells.{close_one}
use Rattle.upvalue.specs.declared.stack.ValueStack.TheInside.{Inside}
use Rattle.upvalue.specs.State.{StackState, top, below, in_a_row, size, place_of, register_at, cell_of, cells_of}
use Rattle.upvalue.specs.Shared.{Shares}
use Rattle.upvalue.specs.Captured.{closed_from}
use Rattle.upvalue.specs.Inside.{view_of, IsLaid}
use Rattle.upvalue.specs.Gaps.{closed}
use Rattle.upvalue.proofs.Lists.{images_agree}
use Rattle.upvalue.proofs.Rows.{stands_there, row_is, place_is}
use Rattle.upvalue.proofs.Places.{IsWithin, at_top, at_rest, at_is_within}

-- where the cell stands for a place, that is lower
abbrev IsBefore : ℕ → CellState → Type 0
IsBefore n c = (place : ℕ) → c ≡ in_stack place → place < n

-- ---- one more frame on top

cell_under : (top : List Value) (rest : List (List Value)) (c : CellState) → IsBefore (size rest) c → cell_of (top ∷ rest) c ≡ cell_of rest c
cell_under top rest (in_stack place) low = at_rest top rest place (low place refl)
cell_under top rest (held v) low = refl

pub cells_under : (top : List Value) (rest : List (List Value)) (h : HeapState) → ((number place : ℕ) → slice_get h.cells number ≡ Some (in_stack place) → place < size rest) → cells_of (top ∷ rest) h ≡ cells_of rest h
cells_under top rest h low =
    images_agree (cell_of (top ∷ rest)) (cell_of rest) h.cells (λ k c e. cell_under top rest c (λ place is. low k place (e ∙ ap Some is)))

-- ---- closing

module _ (frame from : ℕ) (registers : List Datum) where
  abbrev by_tests : ℕ → ℕ → Bool → Bool → Cell
  by_tests other r b c = if b && c then Closed (get_or registers r nil) else Open other r

  other_stays : (c : Cell) → IsWithin frame c → close_one frame from registers c ≡ c
  other_stays (Open other r) w = ap (λ b. by_tests other r b (nat_le from r)) (ne_eqb other frame (λ same. omega arith))
  other_stays (Closed v) w = absurd w

  low_stays : (r : ℕ) → r < from → close_one frame from registers (Open frame r) ≡ Open frame r
  low_stays r low = ap (λ b. by_tests frame r b (nat_le from r)) (eq-eqb frame frame refl) ∙ ap (by_tests frame r true) (lt-leb from r low)

  high_closes : (r : ℕ) → from ≤ r → close_one frame from registers (Open frame r) ≡ Closed (get_or registers r nil)
  high_closes r high = ap (λ b. by_tests frame r b (nat_le from r)) (eq-eqb frame frame refl) ∙ ap (by_tests frame r true) (le-leb from r high)

module _ (h : HeapState) (top : List Value) (rest : List (List Value)) (register place : ℕ) where
  -- the cell of the place then, where it is closed or not, and as the rules close it
  abbrev after : Bool → Cell
  after b = cell_of (top ∷ rest) (if b then held (datum h (get_or (in_a_row (top ∷ rest)) place Nil)) else in_stack place)

  abbrev by_rules : Cell → Cell
  by_rules c = close_one (length rest) register (map (datum h) top) c

  closed_in_rest : place < size rest → after (nat_le (size rest + register) place) ≡ by_rules (register_at (top ∷ rest) place)
  closed_in_rest under =
      let at = at_rest top rest place under in
      ap after (lt-leb (size rest + register) place (omega arith))
      ∙ at
      ∙ sym (ap by_rules at ∙ other_stays (length rest) register (map (datum h) top) (register_at rest place) (at_is_within rest place under))

  closed_lower : size rest ≤ place → place < size rest + register → after (nat_le (size rest + register) place) ≡ by_rules (register_at (top ∷ rest) place)
  closed_lower over low =
      let at = at_top top rest place over in
      ap after (lt-leb (size rest + register) place low)
      ∙ at
      ∙ sym (ap by_rules at ∙ low_stays (length rest) register (map (datum h) top) (place - size rest) (omega arith))

  closed_higher : size rest ≤ place → size rest + register ≤ place → after (nat_le (size rest + register) place) ≡ by_rules (register_at (top ∷ rest) place)
  closed_higher over high =
      let at = at_top top rest place over in
      ap after (le-leb (size rest + register) place high)
      ∙ ap (λ v. Closed (datum h v)) (get_or-append_right (in_a_row rest) top (size rest) place Nil refl over)
      ∙ ap Closed (sym (get_or-map (datum h) top (place - size rest) Nil))
      ∙ sym (ap by_rules at ∙ high_closes (length rest) register (map (datum h) top) (place - size rest) (omega arith))

module _ (h : HeapState) where
  closed_cell : (frames : List (List Value)) (register : ℕ) (c : CellState) → IsBefore (size frames) c → cell_of frames (closed h (in_a_row frames) (place_of frames register) c) ≡ close_one (length (below frames)) register (map (datum h) (top frames)) (cell_of frames c)
  closed_cell frames register (held v) before = refl
  closed_cell [] register (in_stack place) before = let low : place < 0 = before place refl in absurd (omega (arith, low))
  closed_cell (top ∷ rest) register (in_stack place) before = by (cases_lt place (size rest)) (cases_lt place (size rest + register))
    where
      by : (place < size rest) ⊎ (size rest ≤ place) → (place < size rest + register) ⊎ (size rest + register ≤ place) → after h top rest register place (nat_le (size rest + register) place) ≡ by_rules h top rest register place (register_at (top ∷ rest) place)
      by (inl under) _ = closed_in_rest h top rest register place under
      by (inr over) (inl low) = closed_lower h top rest register place over low
      by (inr over) (inr high) = closed_higher h top rest register place over high

  closed_cells : (frames : List (List Value)) (register : ℕ) → ((number place : ℕ) → slice_get h.cells number ≡ Some (in_stack place) → place < size frames) → map (cell_of frames) (map (closed h (in_a_row frames) (place_of frames register)) h.cells) ≡ closed_from h frames register (cells_of frames h)
  closed_cells frames register there =
      let close = close_one (length (below frames)) register (map (datum h) (top frames)) in
      let close_state = closed h (in_a_row frames) (place_of frames register) in
      map-map (cell_of frames) close_state h.cells
      ∙ images_agree (λ c. cell_of frames (close_state c)) (λ c. close (cell_of frames c)) h.cells (λ k c e. closed_cell frames register c (λ place is. there k place (e ∙ ap Some is)))
      ∙ sym (map-map close (cell_of frames) h.cells)

-- the cells of the places from a register's on are closed
module _ (s : Inside) (self : StackState) (is : view_of s ≡ self) (laid : IsLaid s) (h : HeapState) (shares : Shares self h) where
  pub cells_closed : (values : List Value) (now : HeapState) (register from : ℕ) → values ≡ s.values.items → from ≡ s.base + register → now ≡ record h { cells = map (closed h values from) h.cells } → cells_of (view_of s).frames now ≡ closed_from h self.frames register (cells_of self.frames h)
  cells_closed values now register from these at closes =
      let close : List Value → ℕ → HeapState = λ row place. record h { cells = map (closed h row place) h.cells } in
      ap (λ (u : StackState). cells_of u.frames now) is
      ∙ ap (cells_of self.frames) (closes ∙ ap (close values) (at ∙ place_is s self is laid register) ∙ ap (λ row. close row (place_of self.frames register)) (these ∙ sym (row_is s self is laid)))
      ∙ closed_cells h self.frames register (stands_there self h shares)
