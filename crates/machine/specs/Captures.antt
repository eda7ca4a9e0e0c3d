-- Serves CLOSURE: what its further words do, from one machine to the next.
use Rattle.std.specs.Prelude.{◌≡◌, ℕ, ◌≤◌, List, length, map}
use Rattle.proto.specs.Chunk.{Chunk}
use Rattle.lua_heap.specs.declared.cells.CellId.{CellId}
use Rattle.lua_heap.specs.State.{AreCellsOf, Keeps}
use Rattle.rules.specs.State.{State, Effect}
use Rattle.rules.specs.Cells.{take_cells}
use Rattle.upvalue.specs.Shared.{Shares}
use Rattle.machine.specs.declared.function.Function.{Function}
use Rattle.machine.specs.declared.running.Running.{Running}
use Rattle.machine.specs.Seen.{Around, seen}
use Rattle.machine.specs.Whole.{IsSafe}

-- of a machine only the cells changed, and which of them are open; there are no fewer
pub record OnlyCells (old new : Running) : Type 0 where
  pub machine : new ≡ record old { heap = new.heap; stack = new.stack }
  pub heap : new.heap ≡ record old.heap { cells = new.heap.cells }
  pub frames : new.stack.frames ≡ old.stack.frames
  pub shares : Shares new.stack new.heap
  pub keeps : Keeps old.heap new.heap
  pub no_fewer : length old.heap.cells ≤ length new.heap.cells

-- by the rules these words give these cells
pub record TakesCells (words : List ℕ) (old new : Running) (cells : List CellId) : Type 0 where
  pub is : (c : Chunk) (a : Around) (fs : List Function) → IsSafe fs old → (next : State → List ℕ → Effect) → take_cells (seen c a old) words next ≡ next (seen c a new) (map (λ cell. cell.index) cells)
  pub known : AreCellsOf new.heap cells
  pub only_cells : OnlyCells old new
