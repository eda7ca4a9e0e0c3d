-- To be believed. Cells: what closures share (manual 2.6; the instructions GETUPVAL, SETUPVAL, CLOSE and CLOSURE). An open cell is a register of a frame, a closed one has a value.
use Rattle.std.specs.Prelude.{ℕ, suc, Bool, false, ◌&&◌, nat_le, nat_eq, List, [], ◌∷◌, ◌++◌, map, length, get_or, slice_get, slice_set, Option, Some, None, option_and_then, if◌then◌else◌}
use Rattle.opcode.specs.declared.op.Op.{Op}
use Rattle.opcode.specs.declared.word.Instr.{Instr}
use Rattle.lua_model.specs.Datum.{Datum, nil}
use Rattle.opcode.specs.Reading.{instr_of}
use Rattle.rules.specs.State.{Frame, Cell, Open, Closed, State, Effect, Goes, IsStuck, need, register}

-- the frame with a number
abbrev pub frame_at : List Frame → ℕ → Option Frame
frame_at [] n = None
frame_at (x ∷ below) n = if nat_eq n (length below) then Some x else frame_at below n

abbrev pub cell_value : State → Cell → Option Datum
cell_value m (Closed v) = Some v
cell_value m (Open frame r) = option_and_then (λ x. slice_get x.registers r) (frame_at (m.top ∷ m.below) frame)

-- the value of the cell with a number
abbrev pub read_cell : State → ℕ → Option Datum
read_cell m c = option_and_then (cell_value m) (slice_get m.cells c)

abbrev pub write_register : List Frame → ℕ → ℕ → Datum → List Frame
write_register [] frame r v = []
write_register (x ∷ below) frame r v =
    if nat_eq frame (length below) then record x { registers = slice_set x.registers r v } ∷ below else x ∷ write_register below frame r v

abbrev pub with_frames : State → List Frame → State
with_frames m [] = m
with_frames m (x ∷ below) = record m { top = x; below = below }

abbrev pub with_cell : State → ℕ → Datum → Cell → State
with_cell m c v (Closed old) = record m { cells = slice_set m.cells c (Closed v) }
with_cell m c v (Open frame r) = with_frames m (write_register (m.top ∷ m.below) frame r v)

abbrev pub write_cell : State → ℕ → Datum → Effect
write_cell m c v = need (read_cell m c) (λ old. need (slice_get m.cells c) (λ cell. Goes (with_cell m c v cell)))

-- Closes the cells of the running frame's registers from one on: each takes its register's value.
abbrev pub close_one : ℕ → ℕ → List Datum → Cell → Cell
close_one frame from registers (Closed v) = Closed v
close_one frame from registers (Open other r) =
    if nat_eq other frame && nat_le from r then Closed (get_or registers r nil) else Open other r

abbrev pub close_from : State → ℕ → State
close_from m from = record m { cells = map (close_one (length m.below) from m.top.registers) m.cells }

abbrev pub is_open_at : ℕ → ℕ → Cell → Bool
is_open_at frame r (Closed v) = false
is_open_at frame r (Open other s) = nat_eq other frame && nat_eq s r

-- the number of the open cell of a register, of cells that are numbered from n on
abbrev pub find_open : ℕ → ℕ → ℕ → List Cell → Option ℕ
find_open frame r n [] = None
find_open frame r n (cell ∷ rest) = if is_open_at frame r cell then Some n else find_open frame r (suc n) rest

-- the cell of a register of the running frame, a new one where there is none
abbrev pub capture_as : State → ℕ → Option ℕ → (State → ℕ → Effect) → Effect
capture_as m r (Some c) next = next m c
capture_as m r None next = next (record m { cells = m.cells ++ Open (length m.below) r ∷ [] }) (length m.cells)

abbrev pub capture : State → ℕ → (State → ℕ → Effect) → Effect
capture m r next = capture_as m r (find_open (length m.below) r 0 m.cells) next

-- the cell that a further word names: MOVE captures a register of this frame, GETUPVAL shares an upvalue of its function
abbrev pub take_cell_by : Op → State → Instr → (State → ℕ → Effect) → Effect
take_cell_by Op.Move m i next = need (register m i.b) (λ v. capture m i.b next)
take_cell_by Op.GetUpval m i next = need (slice_get m.top.cells i.b) (λ c. next m c)
take_cell_by _ m i next = IsStuck

abbrev pub take_cells : State → List ℕ → (State → List ℕ → Effect) → Effect
take_cells m [] next = next m []
take_cells m (w ∷ rest) next =
    need (instr_of w) (λ i. take_cell_by i.op m i (λ m1 c. take_cells m1 rest (λ m2 cs. next m2 (c ∷ cs))))
