-- Serves calls: what a call comes to, before a frame is made or results land.
use Rattle.std.specs.Prelude.{◌≡◌, ℕ, zero, suc, ◌<◌, ◌≤◌, Bool, true, false, List, [], ◌∷◌, map, length, get_or, replicate, ◌++◌}
use Rattle.lua_num.specs.Bytes.{Text}
use Rattle.proto.specs.Chunk.{Chunk}
use Rattle.lua_model.specs.declared.Value.{Value}
use Rattle.lua_model.specs.declared.Value.TheVariants.{Bool as Boolean}
use Rattle.lua_model.specs.Datum.{Datum, boolean, is_function}
use Rattle.lua_model.specs.Store.{Event, Reply}
use Rattle.lua_model.specs.Operators.{callee, with_called, stack_overflow}
use Rattle.lua_heap.specs.State.{HeapState, datum, IsOf, AreOf, Keeps, OnlyTexts, OnlyTables, no_closure, store_of}
use Rattle.lua_heap.specs.Grown.{Grown}
use Rattle.host.specs.Hosts.{HostSetState}
use Rattle.rules.specs.State as rules
use Rattle.rules.specs.State.{State, Effect, Fails}
use Rattle.rules.specs.Calls.{given, failed_in, answered, apply, apply_to, call_within, call_by}
use Rattle.natives.specs.Answers.{closing}
use Rattle.machine.specs.declared.calling.Applied.{Applied}
use Rattle.machine.specs.declared.calling.Called.{Called}
use Rattle.machine.specs.declared.calling.invoking.Target.{Target}
use Rattle.machine.specs.declared.calling.invoking.Turn.{Turn}
use Rattle.machine.specs.Frames.{data_of}
use Rattle.machine.specs.Seen.{Around, closure_seen}
use Rattle.machine.specs.Outside.{around, hosts_of, replies_in, Happened}

-- how a frame is made by a call with some protections, and where results land
abbrev pub Enters : Type 0
Enters = ℕ → State → rules.Closure → List Datum → Effect

abbrev pub Lands : Type 0
Lands = State → List Datum → Effect

-- a state with the tables and globals of this heap, beside these hosts and with what happened
abbrev pub beside : State → HeapState → Around → State
beside m h a = record m { store = store_of h a.hosts; outside = a.outside }

-- ---- one function with these arguments, beside its protected calls

abbrev pub applied_as : Chunk → HeapState → Enters → Lands → ℕ → (Datum → List Datum → Effect) → List Value → Applied → State → Effect
applied_as c h enters lands p again args (Applied.Results vs) m = given enters lands p m (data_of h vs)
applied_as c h enters lands p again args (Applied.Enters id) m = enters p m (closure_seen c (get_or h.closures id.index no_closure)) (data_of h args)
applied_as c h enters lands p again args (Applied.Fails v) m = failed_in lands p m (datum h v)
applied_as c h enters lands p again args (Applied.Protects f xs) m = again (datum h f) (data_of h xs)

abbrev pub IsAppliedOf : HeapState → Applied → Type 0
IsAppliedOf h (Applied.Results vs) = AreOf h vs
IsAppliedOf h (Applied.Enters id) = id.index < length h.closures
IsAppliedOf h (Applied.Fails v) = IsOf h v
IsAppliedOf h (Applied.Protects f xs) = IsOf h f × AreOf h xs

-- a protected call is asked for before anything happened
abbrev pub NothingHappened : List Event → HeapState → HeapState → HostSetState → HostSetState → Applied → Type 0
NothingHappened es old new before behind (Applied.Protects f xs) = (es ≡ []) × OnlyTexts old new × (hosts_of behind ≡ hosts_of before)
NothingHappened es old new before behind _ = Unit {0}

pub record Applies (f : Value) (args : List Value) (old new : HeapState) (pieces_before pieces_behind : List Text) (before behind : HostSetState) (applied : Applied) : Type 0 where
  pub es : List Event
  pub happened : Happened es pieces_before pieces_behind before behind
  pub is : (c : Chunk) (enters : Enters) (lands : Lands) (p : ℕ) (again : Datum → List Datum → Effect) (m : State) (events : List Event) (left : List Reply) → m.closures ≡ map (closure_seen c) old.closures → apply enters lands p again (beside m old (around before events (replies_in es ++ left))) (datum old f) (data_of old args) ≡ applied_as c new enters lands p again args applied (beside m new (around behind (events ++ es) left))
  pub protects : NothingHappened es old new before behind applied
  pub known : IsAppliedOf new applied
  pub only_tables : OnlyTables old new
  pub keeps : Keeps old new

-- ---- parts of one function

-- the live host of a name was closed, where there was one: so a built-in function that asks for it is answered
pub record Closes (name : Text) (before behind : HostSetState) (was_live : Bool) : Type 0 where
  pub es : List Event
  pub happened : (pieces : List Text) → Happened es pieces pieces before behind
  pub is : (enters : Enters) (lands : Lands) (p : ℕ) (again : Datum → List Datum → Effect) (m : State) (old new : HeapState) (events : List Event) (left : List Reply) → answered enters lands p again (beside m old (around before events (replies_in es ++ left))) (closing name (store_of new (hosts_of before))) ≡ given enters lands p (beside m new (around behind (events ++ es) left)) (boolean was_live ∷ [])

-- ---- a call

abbrev pub called_as : Chunk → HeapState → Enters → Lands → Called → State → Effect
called_as c h enters lands (Called.Results vs) m = lands m (data_of h vs)
called_as c h enters lands (Called.Enters id args p) m = enters p m (closure_seen c (get_or h.closures id.index no_closure)) (data_of h args)
called_as c h enters lands (Called.Fails v) m = Fails m (datum h v)

abbrev pub IsCalledOf : HeapState → Called → Type 0
IsCalledOf h (Called.Results vs) = AreOf h vs
IsCalledOf h (Called.Enters id args p) = (id.index < length h.closures) × AreOf h args × (p ≤ 200)
IsCalledOf h (Called.Fails v) = IsOf h v

pub record Invokes (f : Value) (args : List Value) (old new : HeapState) (pieces_before pieces_behind : List Text) (before behind : HostSetState) (called : Called) : Type 0 where
  pub es : List Event
  pub happened : Happened es pieces_before pieces_behind before behind
  pub is : (c : Chunk) (enters : Enters) (lands : Lands) (m : State) (events : List Event) (left : List Reply) → m.closures ≡ map (closure_seen c) old.closures → call_by enters lands (beside m old (around before events (replies_in es ++ left))) (datum old f) (data_of old args) ≡ called_as c new enters lands called (beside m new (around behind (events ++ es) left))
  pub known : IsCalledOf new called
  pub only_tables : OnlyTables old new
  pub keeps : Keeps old new

-- ---- a call, turn by turn

-- these values behind so many `true`
abbrev pub worked_values : ℕ → List Value → List Value
worked_values p vs = replicate p (Boolean true) ++ vs

-- a failure within so many protected calls
abbrev pub failed_with : ℕ → Value → Called
failed_with zero v = Called.Fails v
failed_with (suc p) v = Called.Results (worked_values p (Boolean false ∷ v ∷ []))

-- what a call goes to: a function with its arguments, or a failure
abbrev pub target_as : HeapState → Enters → Lands → ℕ → (Datum → List Datum → Effect) → Target → State → Effect
target_as h enters lands p again (Target.Calls f args) m = apply enters lands p again m (datum h f) (data_of h args)
target_as h enters lands p again (Target.Fails v) m = failed_in lands p m (datum h v)

abbrev pub IsTargetOf : HeapState → Target → Type 0
IsTargetOf h (Target.Calls f args) = IsOf h f × (is_function (datum h f) ≡ true) × AreOf h args
IsTargetOf h (Target.Fails v) = IsOf h v

-- a call of a value with arguments, as the rules have it
abbrev pub asked_to : Enters → Lands → ℕ → (Datum → List Datum → Effect) → State → Datum → List Datum → Effect
asked_to enters lands p again m f args = apply_to enters lands p again m (callee m.store f) (with_called (callee m.store f) f args)

pub record GoesTo (f : Value) (args : List Value) (old new : HeapState) (target : Target) : Type 0 where
  pub is : (enters : Enters) (lands : Lands) (p : ℕ) (again : Datum → List Datum → Effect) (m : State) (a : Around) → asked_to enters lands p again (beside m old a) (datum old f) (data_of old args) ≡ target_as new enters lands p again target (beside m new a)
  pub known : IsTargetOf new target
  pub grown : Grown old new

-- what a turn comes to, from what its function came to
abbrev pub turn_of : ℕ → List Value → Applied → Turn
turn_of p args (Applied.Results vs) = Turn.Done (Called.Results (worked_values p vs))
turn_of p args (Applied.Enters id) = Turn.Done (Called.Enters id args p)
turn_of p args (Applied.Fails v) = Turn.Done (failed_with p v)
turn_of p args (Applied.Protects f xs) = Turn.Again f xs

abbrev pub turned_as : Chunk → HeapState → Enters → Lands → (Datum → List Datum → Effect) → Turn → State → Effect
turned_as c h enters lands again (Turn.Done called) m = called_as c h enters lands called m
turned_as c h enters lands again (Turn.Again f args) m = again (datum h f) (data_of h args)

abbrev pub IsTurnOf : HeapState → Turn → Type 0
IsTurnOf h (Turn.Done called) = IsCalledOf h called
IsTurnOf h (Turn.Again f args) = IsOf h f × AreOf h args

abbrev pub NothingTurned : List Event → HeapState → HeapState → HostSetState → HostSetState → Turn → Type 0
NothingTurned es old new before behind (Turn.Done called) = Unit {0}
NothingTurned es old new before behind (Turn.Again f args) = (es ≡ []) × OnlyTexts old new × (hosts_of behind ≡ hosts_of before)

pub record Turns (f : Value) (args : List Value) (p : ℕ) (old new : HeapState) (pieces_before pieces_behind : List Text) (before behind : HostSetState) (turn : Turn) : Type 0 where
  pub es : List Event
  pub happened : Happened es pieces_before pieces_behind before behind
  pub is : (c : Chunk) (enters : Enters) (lands : Lands) (again : Datum → List Datum → Effect) (m : State) (events : List Event) (left : List Reply) → m.closures ≡ map (closure_seen c) old.closures → asked_to enters lands p again (beside m old (around before events (replies_in es ++ left))) (datum old f) (data_of old args) ≡ turned_as c new enters lands again turn (beside m new (around behind (events ++ es) left))
  pub nothing : NothingTurned es old new before behind turn
  pub known : IsTurnOf new turn
  pub only_tables : OnlyTables old new
  pub keeps : Keeps old new

-- a call within p protected calls that may have so many turns
abbrev pub ahead : Enters → Lands → ℕ → ℕ → State → Datum → List Datum → Effect
ahead enters lands (suc left) p m f args = call_within enters lands left p m f args
ahead enters lands zero (suc p) m f args = failed_in lands p m stack_overflow
ahead enters lands zero zero m f args = Fails m stack_overflow

-- of a call that was asked for beside the first heap, protected calls alone were made, and this one is left
pub record Protected (limit : ℕ) (f : Value) (args : List Value) (old now : HeapState) (pieces_before pieces_now : List Text) (before behind : HostSetState) (left p : ℕ) (g : Value) (xs : List Value) : Type 0 where
  pub happened : Happened [] pieces_before pieces_now before behind
  pub grown : Grown old now
  pub callee_known : IsOf now g
  pub args_known : AreOf now xs
  pub leaves : (c : Chunk) (enters : Enters) (lands : Lands) (m : State) (events : List Event) (replies : List Reply) → m.closures ≡ map (closure_seen c) old.closures → call_within enters lands limit 0 (beside m old (around before events replies)) (datum old f) (data_of old args) ≡ ahead enters lands left p (beside m now (around behind events replies)) (datum now g) (data_of now xs)
