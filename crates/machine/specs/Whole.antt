-- Serves the machine: what holds of all that it runs, of a chunk whose functions were loaded so.
use Rattle.std.specs.Prelude.{◌≡◌, ℕ, ◌<◌, ◌≤◌, suc, slice_get, List, [], ◌∷◌, length, reverse, Option, None, Some}
use Rattle.std.specs.List.{All}
use Rattle.proto.specs.Chunk.{Chunk}
use Rattle.lua_model.specs.declared.ClosureId.{ClosureId}
use Rattle.lua_model.specs.declared.Value.{Value}
use Rattle.lua_heap.specs.State.{HeapState, AreOf, Keeps}
use Rattle.upvalue.specs.State.{top, below}
use Rattle.upvalue.specs.Shared.{Shares}
use Rattle.machine.specs.declared.function.Function.{Function}
use Rattle.machine.specs.declared.frame.Frame.{Frame}
use Rattle.machine.specs.declared.running.Running.{Running}
use Rattle.machine.specs.Loaded.{all_functions, AreLoaded}
use Rattle.rules.specs.State.{State, Effect}
use Rattle.machine.specs.declared.did.Landing.{Landing}
use Rattle.machine.specs.declared.did.Did.{Did}
use Rattle.machine.specs.Frames.{effect_of}
use Rattle.machine.specs.Seen.{Around, seen}
use Rattle.machine.specs.Words.{AreResultsOf, IsLanding, IsDidOf, IsAwaited}

abbrev pub IsClosureOf : HeapState → Option ClosureId → Type 0
IsClosureOf h None = Unit {0}
IsClosureOf h (Some id) = id.index < length h.closures

-- a frame's function and closure are there, and its values are the heap's
pub record IsFrameOf (h : HeapState) (functions : List Function) (x : Frame) : Type 0 where
  pub function : x.function < length functions
  pub closure : IsClosureOf h x.closure
  pub extra : AreOf h x.extra
  pub results : AreResultsOf h x.results

-- a function has registers for its parameters, and for the table of further arguments where its flags ask for one
abbrev pub HasRoom : List Function → ℕ → Type 0
HasRoom functions n =
    (f : Function) → slice_get functions n ≡ Some f → (f.params ≤ f.registers) × (f.vararg ≡ 7 → f.params < f.registers)

-- a frame awaits results at a landing
abbrev pub IsWaiting : List Function → Landing → Frame → List Value → Type 0
IsWaiting functions landing x registers =
    (f : Function) → slice_get functions x.function ≡ Some f → IsLanding f registers x.pc landing

-- frames below, the topmost first, with their registers: each awaits the results of the one above it
abbrev pub AreWaiting : List Function → Landing → List Frame → List (List Value) → Type 0
AreWaiting functions landing [] frames = Unit {0}
AreWaiting functions landing (x ∷ xs) frames = IsWaiting functions landing x (top frames) × AreWaiting functions x.landing xs (below frames)

-- whatever the chunk is
pub record IsSafe (functions : List Function) (k : Running) : Type 0 where
  pub shares : Shares k.stack k.heap
  pub depth : length k.stack.frames ≡ suc (length k.below.items)
  pub constants : (n : ℕ) (f : Function) → slice_get functions n ≡ Some f → AreOf k.heap f.constants.items
  pub room : (n : ℕ) → HasRoom functions n
  pub top_frame : IsFrameOf k.heap functions k.top
  pub lower : All (IsFrameOf k.heap functions) (reverse k.below.items)
  pub closures : All (λ f. f.function < length functions) k.heap.closures
  pub waiting : AreWaiting functions k.top.landing (reverse k.below.items) (below k.stack.frames)

pub record IsWhole (c : Chunk) (functions : List Function) (k : Running) : Type 0 where
  pub safe : IsSafe functions k
  pub loaded : AreLoaded k.heap (all_functions c) functions

-- from one machine to the next, whatever the chunk and what is around it: the effect is what was done, and all is safe behind it
pub record DoesSeen (functions : List Function) (effect : State → Effect) (old new : Running) (did : Did) : Type 0 where
  pub is : (c : Chunk) (a : Around) → IsWhole c functions old → effect (seen c a old) ≡ effect_of new.heap did (seen c a new)
  pub safe : IsSafe functions old → IsSafe functions new
  pub known : IsDidOf new.heap did
  pub awaited : (f : Function) → slice_get functions new.top.function ≡ Some f → IsAwaited f (top new.stack.frames) new.top.pc did
  pub keeps : Keeps old.heap new.heap
  pub named : new.heap.host_names ≡ old.heap.host_names
  pub pieces : new.pieces ≡ old.pieces
