-- Serves the machine: what had happened where memory ran out within a step.
use Rattle.std.specs.Prelude.{◌≡◌, ℕ, List, ◌++◌, map}
use Rattle.proto.specs.Chunk.{Chunk}
use Rattle.lua_model.specs.declared.Value.{Value}
use Rattle.lua_model.specs.Datum.{Datum}
use Rattle.lua_model.specs.Store.{Event, Reply}
use Rattle.lua_model.specs.Endings.{IsPrefix}
use Rattle.lua_heap.specs.State.{HeapState, datum}
use Rattle.host.specs.declared.log.LogEntry.{LogEntry}
use Rattle.host.specs.Hosts.{HostSetState}
use Rattle.rules.specs.State as rules
use Rattle.rules.specs.State.{State, Effect, Goes, Fails, Ends, Waits, IsStuck}
use Rattle.rules.specs.Calls.{apply, call_by}
use Rattle.rules.specs.Run.{Conf, Waiting, Stuck, events_of, after, step}
use Rattle.machine.specs.declared.function.Function.{Function}
use Rattle.machine.specs.declared.running.Running.{Running}
use Rattle.machine.specs.declared.did.Did.{Did}
use Rattle.machine.specs.Frames.{data_of, effect_of}
use Rattle.machine.specs.Seen.{closure_seen, seen}
use Rattle.machine.specs.Outside.{around, hosts_of, replies_in, calls_in, hosts_behind, IsUnanswered}
use Rattle.machine.specs.Called.{Enters, Lands, beside, asked_to}
use Rattle.machine.specs.Whole.{IsWhole}

-- ---- first events

-- these are the first events of a state; of what an effect tells, unless it waits or is stuck; and of a run
abbrev pub BeginsState : List Event → State → Type 0
BeginsState es m = IsPrefix es m.outside.events

abbrev pub BeginsEffect : List Event → Effect → Type 0
BeginsEffect es (Goes m) = BeginsState es m
BeginsEffect es (Fails m v) = BeginsState es m
BeginsEffect es (Ends m) = BeginsState es m
BeginsEffect es Waits = Unit {0}
BeginsEffect es IsStuck = Unit {0}

abbrev pub BeginsConf : List Event → Conf → Type 0
BeginsConf es (Waiting m) = Unit {0}
BeginsConf es Stuck = Unit {0}
BeginsConf es conf = IsPrefix es (events_of conf)

-- frames that are made and results that land, in states whose first events these are, tell them first
pub record KeepFirst (es : List Event) (enters : Enters) (lands : Lands) : Type 0 where
  pub entering : (p : ℕ) (m : State) (f : rules.Closure) (args : List Datum) → BeginsState es m → BeginsEffect es (enters p m f args)
  pub landing : (m : State) (vs : List Datum) → BeginsState es m → BeginsEffect es (lands m vs)

-- whatever the events are
abbrev pub KeepEvents : Enters → Lands → Type 0
KeepEvents enters lands = (es : List Event) → KeepFirst es enters lands

-- another call that is made, before which nothing more happened, does so too
abbrev pub KeepsAgain : List Event → (Datum → List Datum → Effect) → Type 0
KeepsAgain es again = (g : Datum) (xs : List Datum) → BeginsEffect es (again g xs)

-- ---- where memory ran out

-- Some events happened, of which this holds. The hosts and the log are as they left them, but for one call that may have found no memory for its reply.
pub record BrokeOff (Begins : List Event → Type 0) (before behind : HostSetState) : Type 0 where
  pub begun : List Event
  pub begins : Begins begun
  pub closes : hosts_of behind ≡ hosts_behind begun (hosts_of before)
  pub unanswered : List LogEntry
  pub no_reply : IsUnanswered unanswered
  pub log : behind.log ≡ (before.log ++ calls_in begun) ++ unanswered

-- a call of one function has these events first
abbrev pub BeginsApply : Value → List Value → HeapState → HostSetState → List Event → Type 0
BeginsApply f args h before begun =
    (enters : Enters) (lands : Lands) (p : ℕ) (again : Datum → List Datum → Effect) (m : State) (events : List Event) (left : List Reply) → KeepEvents enters lands → KeepsAgain events again → BeginsEffect (events ++ begun) (apply enters lands p again (beside m h (around before events (replies_in begun ++ left))) (datum h f) (data_of h args))

-- one turn of a call
abbrev pub BeginsTurn : Value → List Value → ℕ → HeapState → HostSetState → List Event → Type 0
BeginsTurn f args p h before begun =
    (c : Chunk) (enters : Enters) (lands : Lands) (again : Datum → List Datum → Effect) (m : State) (events : List Event) (left : List Reply) → m.closures ≡ map (closure_seen c) h.closures → KeepEvents enters lands → KeepsAgain events again → BeginsEffect (events ++ begun) (asked_to enters lands p again (beside m h (around before events (replies_in begun ++ left))) (datum h f) (data_of h args))

-- a whole call
abbrev pub BeginsCall : Value → List Value → HeapState → HostSetState → List Event → Type 0
BeginsCall f args h before begun =
    (c : Chunk) (enters : Enters) (lands : Lands) (m : State) (events : List Event) (left : List Reply) → m.closures ≡ map (closure_seen c) h.closures → KeepEvents enters lands → BeginsEffect (events ++ begun) (call_by enters lands (beside m h (around before events (replies_in begun ++ left))) (datum h f) (data_of h args))

-- an effect in the state that is seen
abbrev pub BeginsSeen : List Function → (State → Effect) → Running → HostSetState → List Event → Type 0
BeginsSeen functions effect k before begun =
    (c : Chunk) (events : List Event) (left : List Reply) → IsWhole c functions k → BeginsEffect (events ++ begun) (effect (seen c (around before events (replies_in begun ++ left)) k))

-- what is left to be done of a step
abbrev pub BeginsSettling : List Function → Did → Running → HostSetState → List Event → Type 0
BeginsSettling functions did k before begun =
    (c : Chunk) (m0 : State) (events : List Event) (left : List Reply) → IsWhole c functions k → BeginsConf (events ++ begun) (after m0 (effect_of k.heap did (seen c (around before events (replies_in begun ++ left)) k)))

-- a whole step
abbrev pub BeginsWhole : List Function → Running → HostSetState → List Event → Type 0
BeginsWhole functions k before begun =
    (c : Chunk) (events : List Event) (left : List Reply) → IsWhole c functions k → BeginsConf (events ++ begun) (step (seen c (around before events (replies_in begun ++ left)) k))
