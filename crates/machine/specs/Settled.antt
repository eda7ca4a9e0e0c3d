-- Serves the machine: what it did with what happened outside, and what a step comes to.
use Rattle.std.specs.Prelude.{◌≡◌, ℕ, suc, ◌+◌, ◌*◌, slice_get, List, ◌∷◌, ◌++◌, Option, None, Some}
use Rattle.proto.specs.Chunk.{Chunk}
use Rattle.lua_model.specs.declared.Value.{Value}
use Rattle.lua_model.specs.Store.{Event, Reply}
use Rattle.lua_model.specs.Builtins.{failure_text}
use Rattle.lua_heap.specs.State.{HeapState, datum, IsOf, Keeps}
use Rattle.host.specs.Hosts.{HostSetState}
use Rattle.rules.specs.State.{State, Effect}
use Rattle.rules.specs.Run.{Conf, Going, Ended, Failed, unwind, after}
use Rattle.upvalue.specs.State.{top}
use Rattle.machine.specs.declared.function.Function.{Function}
use Rattle.machine.specs.declared.running.Running.{Running}
use Rattle.machine.specs.declared.did.Did.{Did}
use Rattle.machine.specs.declared.settling.Settled.{Settled}
use Rattle.machine.specs.Frames.{effect_of}
use Rattle.machine.specs.Outside.{around, replies_in, Happened}
use Rattle.machine.specs.Seen.{Around, seen}
use Rattle.machine.specs.Whole.{IsSafe, IsWhole}
use Rattle.machine.specs.Words.{IsDidOf, IsAwaited, calls_left}

-- a call that is asked for from the topmost frame fits it
abbrev pub IsAwaitedIn : List Function → Running → Did → Type 0
IsAwaitedIn functions k did = (f : Function) → slice_get functions k.top.function ≡ Some f → IsAwaited f (top k.stack.frames) k.top.pc did

-- from one machine and its hosts to the next, with what happened outside: the effect is what was done, and all is safe behind it
pub record DoesOutside (functions : List Function) (effect : State → Effect) (old new : Running) (before behind : HostSetState) (did : Did) : Type 0 where
  pub es : List Event
  pub happened : Happened es old.pieces.items new.pieces.items before behind
  pub is : (c : Chunk) (events : List Event) (left : List Reply) → IsWhole c functions old → effect (seen c (around before events (replies_in es ++ left)) old) ≡ effect_of new.heap did (seen c (around behind (events ++ es) left) new)
  pub safe : IsSafe functions old → IsSafe functions new
  pub known : IsDidOf new.heap did
  pub awaited : IsAwaitedIn functions new did
  pub keeps : Keeps old.heap new.heap
  pub named : new.heap.host_names ≡ old.heap.host_names

-- how much there is to do at most, of calls and frames, until all has settled
abbrev pub to_do : (below : ℕ) → Did → ℕ
to_do below (Did.Calls landing callee args) = 2048 * below + suc (calls_left (Did.Calls landing callee args))
to_do below (Did.Fails v) = 2048 * below + 1
to_do below _ = 0

-- a failure with a value went down one frame: something was done there, or the run has failed
abbrev pub went_down : HeapState → Value → Option Did → State → State → Conf
went_down h v (Some did) m0 m = after m0 (effect_of h did m)
went_down h v None m0 m = Failed (failure_text (datum h v)) m.store m.outside

pub record Descends (functions : List Function) (v : Value) (old new : Running) (outcome : Option Did) : Type 0 where
  pub is : (c : Chunk) (a : Around) (m0 : State) → IsWhole c functions old → unwind m0 ((seen c a old).top ∷ (seen c a old).below) (seen c a old) (datum old.heap v) ≡ went_down new.heap v outcome m0 (seen c a new)
  pub safe : IsSafe functions old → IsSafe functions new
  pub value_known : IsOf new.heap v
  pub known : (did : Did) → outcome ≡ Some did → IsDidOf new.heap did
  pub awaited : (did : Did) → outcome ≡ Some did → IsAwaitedIn functions new did
  pub keeps : Keeps old.heap new.heap
  pub named : new.heap.host_names ≡ old.heap.host_names
  pub pieces : new.pieces ≡ old.pieces

-- what a step comes to
abbrev pub conf_of : Settled → State → Conf
conf_of Settled.Going m = Going m
conf_of Settled.Done m = Ended m.store m.outside
conf_of (Settled.Failed text) m = Failed text m.store m.outside

-- what was done comes to this, whatever state the step began in
pub record Settles (functions : List Function) (did : Did) (old new : Running) (before behind : HostSetState) (settled : Settled) : Type 0 where
  pub es : List Event
  pub happened : Happened es old.pieces.items new.pieces.items before behind
  pub is : (c : Chunk) (m0 : State) (events : List Event) (left : List Reply) → IsWhole c functions old → after m0 (effect_of old.heap did (seen c (around before events (replies_in es ++ left)) old)) ≡ conf_of settled (seen c (around behind (events ++ es) left) new)
  pub safe : IsSafe functions old → IsSafe functions new
  pub keeps : Keeps old.heap new.heap
  pub named : new.heap.host_names ≡ old.heap.host_names
