-- To be believed. What capturing and closing registers of the topmost frame does, by the rules of the instructions CLOSURE and CLOSE (manual 2.6).
use Rattle.std.specs.Prelude.{ℕ, List, [], ◌∷◌, ◌++◌, length, map, None, Some}
use Rattle.lua_model.specs.declared.Value.{Value}
use Rattle.lua_heap.specs.State.{HeapState, in_stack, datum}
use Rattle.rules.specs.State.{Cell}
use Rattle.rules.specs.Cells.{find_open, close_one}
use Rattle.upvalue.specs.State.{top, below, place_of, cells_of}

-- the number of the cell that stands for a register, and the heap with it: a new one, which stands last, where there was none
abbrev pub captured : List (List Value) → (register : ℕ) → HeapState → ℕ × HeapState
captured frames register h =
    elim (find_open (length (below frames)) register 0 (cells_of frames h)) [
      | None ↦ (length h.cells, record h { cells = h.cells ++ in_stack (place_of frames register) ∷ [] })
      | Some number ↦ (number, h)
    ]

-- cells after those of this register and of higher ones took their values
abbrev pub closed_from : HeapState → List (List Value) → (register : ℕ) → List Cell → List Cell
closed_from h frames register cells = map (close_one (length (below frames)) register (map (datum h) (top frames))) cells
