-- Closing one open cell after another.
use Rattle.std.proofs.Common.{◌≡◌, ℕ, suc, ◌-◌, ◌<◌, ◌≤◌, List, length, map, take, set, get_or, Option, Some, ◌⊎◌, inl, inr, refl, sym, ap, subst, ◌∙◌, arith}
use Rattle.std.specs.Prelude.{slice_get, if◌then◌else◌}
use Rattle.std.proofs.lemmas.Bool.{le-leb, lt-leb, cases_eq}
use Rattle.std.proofs.lemmas.List.{map-id}
use Rattle.std.proofs.lemmas.Option.{slice_get_within, same_Some}
use Rattle.lua_model.specs.declared.Value.{Value}
use Rattle.lua_model.specs.declared.Value.TheVariants.{Nil}
use Rattle.lua_model.specs.Datum.{Datum}
use Rattle.lua_heap.specs.State.{HeapState, CellState, in_stack, held, datum}
use Rattle.rules.proofs.Lists.{set_same, set_other}
use Rattle.upvalue.specs.declared.shared.OpenCell.{OpenCell}
use Rattle.upvalue.specs.Gaps.{Fits, closed}
use Rattle.upvalue.proofs.Lists.{get_take, taken_from, image_of_set, images_agree}

pub held_is_no_place : (v : Datum) (p : ℕ) → ◌≡◌ {A = Option CellState} (Some (held v)) (Some (in_stack p)) → ⊥
held_is_no_place v p e = cc

pub same_place : (p q : ℕ) → ◌≡◌ {A = Option CellState} (Some (in_stack p)) (Some (in_stack q)) → p ≡ q
same_place p q e = cc

-- the places of the open cells are lower than this one
abbrev pub AreLower : ℕ → List OpenCell → Type 0
AreLower from shared = (i : ℕ) (o : OpenCell) → slice_get shared i ≡ Some o → o.place < from

-- the heap with a value in a cell
abbrev with_held : HeapState → ℕ → Datum → HeapState
with_held h cell v = record h { cells = set h.cells cell (held v) }

module _ (values : List Value) (shared : List OpenCell) (h : HeapState) (fits : Fits values shared h) where
  -- the places of the cells that stand for one are there
  pub stands_within : (number place : ℕ) → slice_get h.cells number ≡ Some (in_stack place) → place < length values
  stands_within number place e = let found = fits.all number place e in fits.there found.0 _ found.1

  -- no two of them have one cell
  apart : (i j : ℕ) (a b : OpenCell) → i < j → slice_get shared i ≡ Some a → slice_get shared j ≡ Some b → a.cell.index ≡ b.cell.index → ⊥
  apart i j a b less at_i at_j same =
      let places : a.place ≡ b.place = same_place a.place b.place (sym (fits.stands i a at_i) ∙ ap (slice_get h.cells) same ∙ fits.stands j b at_j) in
      let order : a.place < b.place = fits.in_order i j a b less at_i at_j in
      omega (arith, places, order)

  -- after the last one is closed, the rest fits
  pub fits_without : (n : ℕ) (last : OpenCell) (v : Datum) → length shared ≡ suc n → slice_get shared n ≡ Some last → Fits values (take n shared) (with_held h last.cell.index v)
  fits_without n last v long at = record {
    known = fits.known;
    stands = λ i o e.
        let was = taken_from n shared i o e in
        set_other h.cells last.cell.index o.cell.index (held v) (λ same. apart i n o last was.0 was.1 at (sym same)) ∙ fits.stands i o was.1;
    there = λ i o e. fits.there i o (taken_from n shared i o e).1;
    all = λ number place e. all_of number place e (cases_eq last.cell.index number);
    in_order = λ i j a b less e f. fits.in_order i j a b less (taken_from n shared i a e).1 (taken_from n shared j b f).1;
  }
    where
      within : last.cell.index < length h.cells
      within = slice_get_within h.cells last.cell.index (in_stack last.place) (fits.stands n last at)

      all_of : (number place : ℕ) → slice_get (set h.cells last.cell.index (held v)) number ≡ Some (in_stack place) → (last.cell.index ≡ number) ⊎ (last.cell.index ≡ number → ⊥) → (i : ℕ) × (slice_get (take n shared) i ≡ Some (record { place = place; cell = record { index = number } }))
      all_of number place e (inl same) =
          absurd (held_is_no_place v place (sym (set_same h.cells last.cell.index (held v) within) ∙ ap (slice_get (set h.cells last.cell.index (held v))) same ∙ e))
      all_of number place e (inr other) =
          let found = fits.all number place (sym (set_other h.cells last.cell.index number (held v) other) ∙ e) in
          let inside : found.0 < length shared = slice_get_within shared found.0 _ found.1 in
          let not_last : found.0 ≡ n → ⊥ = λ same. other (ap (λ (o : OpenCell). o.cell.index) (same_Some _ _ (sym at ∙ ap (slice_get shared) (sym same) ∙ found.1))) in
          let less : found.0 < n = omega (arith, inside, long, not_last) in
          (found.0, get_take n shared found.0 less ∙ found.1)

  -- the last one has the highest place
  pub all_lower : (from : ℕ) (last : OpenCell) → slice_get shared (length shared - 1) ≡ Some last → last.place < from → AreLower from shared
  all_lower from last at low i o e = by (cases_eq i (length shared - 1))
    where
      inside : i < length shared
      inside = slice_get_within shared i o e

      by : (i ≡ length shared - 1) ⊎ (i ≡ length shared - 1 → ⊥) → o.place < from
      by (inl same) = subst (λ (x : OpenCell). x.place < from) (same_Some last o (sym at ∙ ap (slice_get shared) (sym same) ∙ e)) low
      by (inr other) =
          let before : i < length shared - 1 = omega (arith, inside, other) in
          let less : o.place < last.place = fits.in_order i (length shared - 1) o last before e at in
          omega (arith, less, low)

pub none_lower : (shared : List OpenCell) (from : ℕ) → length shared ≡ 0 → AreLower from shared
none_lower shared from none i o e =
    let inside : i < length shared = slice_get_within shared i o e in absurd (omega (arith, none, inside))

-- ---- what is closed

module _ (h : HeapState) (values : List Value) (from : ℕ) where
  abbrev all : List CellState → List CellState
  all cells = map (closed h values from) cells

  abbrev datum_at : HeapState → ℕ → Datum
  datum_at heap place = datum heap (get_or values place Nil)

  -- closing one cell and then all is closing all
  closed_one : (cells : List CellState) (number place : ℕ) → slice_get cells number ≡ Some (in_stack place) → from ≤ place → all (set cells number (held (datum_at h place))) ≡ all cells
  closed_one cells number place e high =
      image_of_set (closed h values from) cells number (in_stack place) (held (datum_at h place)) e
      (ap (λ b. if b then held (datum_at h place) else in_stack place) (sym (le-leb from place high)))

  low_stays : (c : CellState) → ((place : ℕ) → c ≡ in_stack place → place < from) → closed h values from c ≡ c
  low_stays (in_stack place) low = ap (λ b. if b then held (datum_at h place) else in_stack place) (lt-leb from place (low place refl))
  low_stays (held v) low = refl

  -- where all places are lower nothing is closed
  all_stay : (shared : List OpenCell) (now : HeapState) → Fits values shared now → AreLower from shared → all now.cells ≡ now.cells
  all_stay shared now fits low =
      images_agree (closed h values from) (λ c. c) now.cells (λ k c e. low_stays c (λ place is. let found = fits.all k place (e ∙ ap Some is) in low found.0 _ found.1)) ∙ map-id now.cells

  -- `now` is h but for its cells, and closing those that are left is closing all of h: where none is left, `now` is h with all closed
  pub all_closed : (shared : List OpenCell) (now : HeapState) → Fits values shared now → AreLower from shared → now ≡ record h { cells = now.cells } → all now.cells ≡ all h.cells → now ≡ record h { cells = all h.cells }
  all_closed shared now fits low only same =
      let with_cells : List CellState → HeapState = λ cells. record h { cells = cells } in
      only ∙ ap with_cells (sym (all_stay shared now fits low) ∙ same)

  -- both still hold after one more cell is closed
  pub still_only : (was now : HeapState) (cells : List CellState) → was ≡ record h { cells = was.cells } → now ≡ record was { cells = cells } → now ≡ record h { cells = now.cells }
  still_only was now cells only is =
      let over : HeapState → HeapState = λ u. record u { cells = cells } in
      let with_cells : List CellState → HeapState = λ cells. record h { cells = cells } in
      is ∙ ap over only ∙ ap with_cells (sym (ap (λ (u : HeapState). u.cells) is))

  pub still_same : (was now : HeapState) (number place : ℕ) → was ≡ record h { cells = was.cells } → now ≡ with_held was number (datum_at was place) → slice_get was.cells number ≡ Some (in_stack place) → from ≤ place → all was.cells ≡ all h.cells → all now.cells ≡ all h.cells
  still_same was now number place only is stands high same =
      ap (λ (u : HeapState). all u.cells) is
      ∙ ap (λ (u : HeapState). all (set was.cells number (held (datum_at u place)))) only
      ∙ closed_one was.cells number place stands high
      ∙ same
