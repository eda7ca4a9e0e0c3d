-- Serves the open cells: where a place stands among them, and cells before and behind a change.
use Rattle.std.specs.Prelude.{◌≡◌, ℕ, ◌<◌, ◌≤◌, nat_le, List, length, Some, slice_get, get_or, if◌then◌else◌}
use Rattle.lua_model.specs.declared.Value.{Value}
use Rattle.lua_model.specs.declared.Value.TheVariants.{Nil}
use Rattle.lua_heap.specs.State.{HeapState, CellState, in_stack, held, datum, AreOf}
use Rattle.upvalue.specs.declared.shared.OpenCell.{OpenCell}
use Rattle.upvalue.specs.Shared.{AreInOrder}

-- so many open cells have lower places, and all others higher ones
pub record IsGap (shared : List OpenCell) (place at : ℕ) : Type 0 where
  pub within : at ≤ length shared
  pub lower : (i : ℕ) (o : OpenCell) → i < at → slice_get shared i ≡ Some o → o.place < place
  pub higher : (i : ℕ) (o : OpenCell) → at ≤ i → slice_get shared i ≡ Some o → place < o.place

-- these open cells are the ones of the heap that stand for places of these values
pub record Fits (values : List Value) (shared : List OpenCell) (h : HeapState) : Type 0 where
  pub known : AreOf h values
  pub stands : (i : ℕ) (o : OpenCell) → slice_get shared i ≡ Some o → slice_get h.cells o.cell.index ≡ Some (in_stack o.place)
  pub there : (i : ℕ) (o : OpenCell) → slice_get shared i ≡ Some o → o.place < length values
  pub all : (number place : ℕ) → slice_get h.cells number ≡ Some (in_stack place) → (i : ℕ) × (slice_get shared i ≡ Some (record { place = place; cell = record { index = number } }))
  pub in_order : AreInOrder shared

-- a cell after those of the places from one on are closed
abbrev pub closed : HeapState → List Value → ℕ → CellState → CellState
closed h values from (in_stack place) = if nat_le from place then held (datum h (get_or values place Nil)) else in_stack place
closed h values from (held v) = held v
