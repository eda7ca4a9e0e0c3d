-- To be believed. Runs of a chunk, step by step (manual 2.7 for failures).
use Rattle.std.specs.Prelude.{ℕ, zero, suc, List, [], ◌∷◌, Option, Some, None, if◌then◌else◌}
use Rattle.opcode.specs.declared.word.Instr.{Instr}
use Rattle.proto.specs.Chunk.{Chunk}
use Rattle.lua_model.specs.Datum.{Datum}
use Rattle.lua_model.specs.Store.{Store, Outside, Host, Reply, Event}
use Rattle.lua_model.specs.Endings.{Course}
use Rattle.lua_model.specs.Endings as ending
use Rattle.lua_model.specs.Builtins.{start as first_store, failure_text}
use Rattle.rules.specs.Words.{instr_at}
use Rattle.rules.specs.Places.{is_further}
use Rattle.rules.specs.State.{nowhere, Frame, State, Effect, Goes, Fails, Ends, Waits, IsStuck, need, at_pc}
use Rattle.rules.specs.Cells.{close_from}
use Rattle.rules.specs.Calls.{broke, frame_of, begin, give_to}
use Rattle.rules.specs.Step.{effect}

pub data Conf : Type 0 where
  Going : State → Conf
  Ended : Store → Outside → Conf
  Failed : List ℕ → Store → Outside → Conf
  Waiting : State → Conf
  Stuck : Conf

-- what an effect makes of the state before the step, where `fail` says what a failure does; a step that is Waiting changes nothing
abbrev pub settled : State → (State → Datum → Conf) → Effect → Conf
settled m fail (Goes next) = Going next
settled m fail (Fails at v) = fail at v
settled m fail (Ends at) = Ended at.store at.outside
settled m fail Waits = Waiting m
settled m fail IsStuck = Stuck

-- A failure that its own call does not take goes down the frames, the topmost first: each is removed, with its cells closed, and
-- the first that has protections lands false and the value in the frame below. Where that landing fails, this is a failure in
-- the frame below: no landing changes frames or cells and then fails, so the store and the outside alone are taken over.
abbrev pub unwind : State → List Frame → State → Datum → Conf
unwind m [] at v = Failed (failure_text v) at.store at.outside
unwind m (x ∷ below) at v =
    let left = close_from (record at { top = x; below = below }) 0 in
    elim x.protections [
      | zero ↦ unwind m below left v
      | suc p ↦ settled m (λ at1 v1. unwind m below (record left { store = at1.store; outside = at1.outside }) v1) (give_to below left x.landing (broke p v))
    ]

abbrev pub after : State → Effect → Conf
after m effect = settled m (λ at v. unwind m (at.top ∷ at.below) at v) effect

-- the instruction to be done next; further words are none
abbrev pub current : State → Option Instr
current m = if is_further m.top.function m.top.pc then None else instr_at m.top.function m.top.pc

abbrev pub step : State → Conf
step m = after m (need (current m) (λ i. effect i.op (at_pc m (suc m.top.pc)) i))

-- n steps; after an end it stays
abbrev pub run : ℕ → Conf → Conf
run zero conf = conf
run (suc n) (Going m) = run n (step m)
run (suc n) conf = conf

-- one main frame of nils, without arguments
abbrev pub first_state : Chunk → Store → List Reply → State
first_state chunk store replies = record {
  top = frame_of (record { function = chunk; cells = [] }) [] nowhere 0;
  below = [];
  cells = [];
  closures = [];
  store = store;
  outside = record { events = []; replies = replies };
}

abbrev pub start : Chunk → Store → List Reply → Conf
start chunk store replies = let m = first_state chunk store replies in after m (begin m)

-- the run of a chunk with these hosts and their replies, after n steps
abbrev pub ran : Chunk → List Host → List Reply → ℕ → Conf
ran chunk hosts replies n = run n (start chunk (first_store hosts) replies)

-- what happened so far; of a stuck run nothing counts
abbrev pub events_of : Conf → List Event
events_of (Going m) = m.outside.events
events_of (Ended store outside) = outside.events
events_of (Failed text store outside) = outside.events
events_of (Waiting m) = m.outside.events
events_of Stuck = []

-- how a run is; a stuck one has no course
abbrev pub course : Conf → Option Course
course (Going m) = Some (record { ending = ending.Going; events = m.outside.events })
course (Ended store outside) = Some (record { ending = ending.Ended; events = outside.events })
course (Failed text store outside) = Some (record { ending = ending.Failed text; events = outside.events })
course (Waiting m) = Some (record { ending = ending.Waiting; events = m.outside.events })
course Stuck = None

abbrev pub IsNotStuck : Conf → Type 0
IsNotStuck Stuck = ⊥
IsNotStuck _ = Unit {0}
