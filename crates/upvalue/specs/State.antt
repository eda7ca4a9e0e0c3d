-- To be believed. The registers of the frames as contracts see them, and which register an open cell is (manual 2.6). The place of a register is
-- where it stands when the registers of all frames stand one after the other, those of the main frame first.
use Rattle.std.specs.Prelude.{ℕ, ◌+◌, ◌-◌, nat_le, nat_eq, List, [], ◌∷◌, ◌++◌, length, map, take, drop, slice_get, slice_set, Option, Some, if◌then◌else◌}
use Rattle.std.specs.List.{refill}
use Rattle.lua_model.specs.declared.Value.{Value}
use Rattle.lua_model.specs.Datum.{Datum}
use Rattle.lua_heap.specs.State.{HeapState, CellState, in_stack, held, datum}
use Rattle.rules.specs.State.{Cell, Open, Closed}
use Rattle.upvalue.specs.declared.shared.OpenCell.{OpenCell}

pub record StackState : Type 0 where
  -- the registers of each frame, the topmost first
  pub frames : List (List Value)
  -- the cells that stand for registers, in the order of their places
  pub shared : List OpenCell

abbrev pub no_frames : StackState
no_frames = record { frames = []; shared = [] }

-- the registers of the topmost frame, and the frames below it
abbrev pub top : List (List Value) → List Value
top [] = []
top (registers ∷ below) = registers

abbrev pub below : List (List Value) → List (List Value)
below [] = []
below (registers ∷ rest) = rest

-- the frames with other registers in the topmost one
abbrev pub with_top : List (List Value) → List Value → List (List Value)
with_top [] registers = []
with_top (old ∷ rest) registers = registers ∷ rest

-- ---- places

-- the registers of all frames in the order of their places
abbrev pub in_a_row : List (List Value) → List Value
in_a_row [] = []
in_a_row (registers ∷ rest) = in_a_row rest ++ registers

-- how many registers these frames have, which is the place where the next one begins
abbrev pub size : List (List Value) → ℕ
size frames = length (in_a_row frames)

-- the place of a register of the topmost frame
abbrev pub place_of : List (List Value) → ℕ → ℕ
place_of frames register = size (below frames) + register

-- the register at a place, as the open cell of the rules: a frame's number is how many frames are below it
abbrev pub register_at : List (List Value) → ℕ → Cell
register_at [] place = Open 0 place
register_at (registers ∷ rest) place = if nat_le (size rest) place then Open (length rest) (place - size rest) else register_at rest place

-- ---- cells

-- a cell of the heap as one of the rules
abbrev pub cell_of : List (List Value) → CellState → Cell
cell_of frames (in_stack place) = register_at frames place
cell_of frames (held v) = Closed v

abbrev pub cells_of : List (List Value) → HeapState → List Cell
cells_of frames h = map (cell_of frames) h.cells

-- the registers of the frame with a number
abbrev pub frame_at : List (List Value) → ℕ → List Value
frame_at [] n = []
frame_at (registers ∷ rest) n = if nat_eq n (length rest) then registers else frame_at rest n

-- the value of a cell
abbrev pub value_of : HeapState → List (List Value) → Cell → Option Datum
value_of h frames (Open n register) = slice_get (map (datum h) (frame_at frames n)) register
value_of h frames (Closed v) = Some v

-- the frames with a value in a register of the frame with a number
abbrev pub with_register : List (List Value) → ℕ → ℕ → Value → List (List Value)
with_register [] n register v = []
with_register (registers ∷ rest) n register v =
    if nat_eq n (length rest) then slice_set registers register v ∷ rest else registers ∷ with_register rest n register v

-- the frames and the heap with a value in the cell of this number, which is this one: its register's, or by itself
abbrev pub with_value : List (List Value) → HeapState → (number : ℕ) → Cell → Value → List (List Value) × HeapState
with_value frames h number (Open n register) v = (with_register frames n register v, h)
with_value frames h number (Closed old) v = (frames, record h { cells = slice_set h.cells number (held (datum h v)) })

-- the cells of the rules with a value in the cell of this number, which is this one
abbrev pub with_held : List Cell → (number : ℕ) → Cell → Datum → List Cell
with_held cells number (Open n register) v = cells
with_held cells number (Closed old) v = slice_set cells number (Closed v)

-- the frames with these registers in the order of their places
abbrev pub with_row : List (List Value) → List Value → List (List Value)
with_row [] row = []
with_row (registers ∷ rest) row = drop (size rest) row ∷ with_row rest (take (size rest) row)

-- a row as long as that of these frames: cut, or filled up from it
abbrev pub fitted : List (List Value) → List Value → List Value
fitted frames row = refill (size frames) (in_a_row frames) row
