-- To be believed. What a machine runs, as a state of the rules.
use Rattle.std.specs.Prelude.{ℕ, List, [], ◌∷◌, map, reverse, get_or, Option, None, Some, option_map}
use Rattle.proto.specs.Chunk.{Chunk}
use Rattle.lua_model.specs.declared.ClosureId.{ClosureId}
use Rattle.lua_model.specs.declared.Value.{Value}
use Rattle.lua_model.specs.Store.{Host, Outside}
use Rattle.lua_heap.specs.State.{HeapState, ClosureState, no_closure, store_of}
use Rattle.rules.specs.State as rules
use Rattle.rules.specs.State.{State}
use Rattle.upvalue.specs.State.{top, below, cells_of}
use Rattle.machine.specs.declared.frame.Frame.{Frame}
use Rattle.machine.specs.declared.running.Running.{Running}
use Rattle.machine.specs.Frames.{landing_of, data_of, results_of}
use Rattle.machine.specs.Loaded.{all_functions}

-- what is around a machine: the hosts, and what happened, with the replies that are left
pub record Around : Type 0 where
  pub hosts : List Host
  pub outside : Outside

-- the function of a chunk with a number
abbrev pub numbered : Chunk → ℕ → Chunk
numbered c n = get_or (all_functions c) n c

abbrev pub cells_in : HeapState → Option ClosureId → List ℕ
cells_in h None = []
cells_in h (Some id) = (get_or h.closures id.index no_closure).cells

abbrev pub frame_seen : Chunk → HeapState → Frame → List Value → rules.Frame
frame_seen c h x registers = record {
  function = numbered c x.function;
  cells = cells_in h x.closure;
  pc = x.pc;
  registers = data_of h registers;
  extra = data_of h x.extra;
  results = option_map (results_of h) x.results;
  landing = landing_of x.landing;
  protections = x.protections;
}

-- frames and their registers, the topmost first
abbrev pub frames_seen : Chunk → HeapState → List Frame → List (List Value) → List rules.Frame
frames_seen c h [] frames = []
frames_seen c h (x ∷ xs) frames = frame_seen c h x (top frames) ∷ frames_seen c h xs (below frames)

abbrev pub closure_seen : Chunk → ClosureState → rules.Closure
closure_seen c f = record { function = numbered c f.function; cells = f.cells }

abbrev pub seen : Chunk → Around → Running → State
seen c around k = record {
  top = frame_seen c k.heap k.top (top k.stack.frames);
  below = frames_seen c k.heap (reverse k.below.items) (below k.stack.frames);
  cells = cells_of k.stack.frames k.heap;
  closures = map (closure_seen c) k.heap.closures;
  store = store_of k.heap around.hosts;
  outside = around.outside;
}
