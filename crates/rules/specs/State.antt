-- To be believed. The state of a running chunk: frames, cells, closures, the store, and what happened outside (A No-Frills
-- Introduction to Lua 5.1 VM Instructions, registers and frames).
use Rattle.std.specs.Prelude.{ℕ, zero, suc, ◌+◌, ◌-◌, Bool, true, false, nat_lt, nat_le, List, [], ◌∷◌, length, take, drop, slice_get, slice_set, Option, Some, None, option_map, option_and_then, if◌then◌else◌}
use Rattle.proto.specs.declared.parts.Constant.{Constant}
use Rattle.proto.specs.Chunk.{Chunk, own}
use Rattle.lua_model.specs.Datum.{Datum, nil, boolean, number, text}
use Rattle.lua_model.specs.Store.{Store, Outside}

-- Where the results of a called function go, in the frame that called it.
pub data Landing : Type 0 where
  -- the first result to a register
  into : (a : ℕ) → Landing
  -- the first result's truth, negated or not, to a test with this A
  test : (a : ℕ) → (negated : Bool) → Landing
  -- the first result is the running value of a CONCAT, which is joined to so many registers from the first on
  pairs : (a first count : ℕ) → Landing
  -- so many results to the registers from one on
  fixed : (a count : ℕ) → Landing
  -- all results, as open results
  open_at : (a : ℕ) → Landing
  -- a TFORLOOP's results, its test and its JMP
  turn : (a count : ℕ) → Landing
  nowhere : Landing

-- open results, and their first register
pub record OpenResults : Type 0 where
  pub first : ℕ
  pub values : List Datum

pub record Frame : Type 0 where
  pub function : Chunk
  -- its upvalues, by the numbers of their cells
  pub cells : List ℕ
  pub pc : ℕ
  pub registers : List Datum
  -- the arguments behind its parameters
  pub extra : List Datum
  pub results : Option OpenResults
  -- of the main frame it is not looked at
  pub landing : Landing
  -- how many protected calls stand directly around the call that made it
  pub protections : ℕ

-- a register of the frame with this number, which is how many frames are below it; or a value
pub data Cell : Type 0 where
  Open : (frame register : ℕ) → Cell
  Closed : Datum → Cell

pub record Closure : Type 0 where
  pub function : Chunk
  pub cells : List ℕ

pub record State : Type 0 where
  pub top : Frame
  -- the frames below, the topmost first
  pub below : List Frame
  pub cells : List Cell
  pub closures : List Closure
  pub store : Store
  pub outside : Outside

-- what a word does
pub data Effect : Type 0 where
  Goes : State → Effect
  -- fails with a value, in the state at the failure
  Fails : State → Datum → Effect
  Ends : State → Effect
  -- a host was asked and no reply is left
  Waits : Effect
  IsStuck : Effect

-- what is there, or stuck
abbrev pub need : {A : Type 0} → Option A → (A → Effect) → Effect
need None next = IsStuck
need (Some x) next = next x

-- stuck, where something does not hold
abbrev pub check : Bool → Effect → Effect
check true effect = effect
check false effect = IsStuck

-- The running frame with a change.
abbrev pub at_pc : State → ℕ → State
at_pc m pc = record m { top = record m.top { pc = pc } }

abbrev pub with_registers : State → List Datum → State
with_registers m registers = record m { top = record m.top { registers = registers } }

abbrev pub with_results : State → Option OpenResults → State
with_results m results = record m { top = record m.top { results = results } }

abbrev pub with_store : State → Store → State
with_store m store = record m { store = store }

-- What the running frame has.
abbrev pub register : State → ℕ → Option Datum
register m r = slice_get m.top.registers r

abbrev pub value_of : Constant → Datum
value_of Constant.Nil = nil
value_of (Constant.Bool b) = boolean b
value_of (Constant.Number n) = number n
value_of (Constant.Text t) = text t

abbrev pub constant : State → ℕ → Option Datum
constant m k = option_map value_of (slice_get (own m.top.function).constants k)

-- RK: a register below 256, a constant from 256 on
abbrev pub operand : State → ℕ → Option Datum
operand m x = if nat_lt x 256 then register m x else constant m (x - 256)

abbrev pub name_of : Datum → Option (List ℕ)
name_of (text t) = Some t
name_of _ = None

-- the name of a global
abbrev pub global_name : State → ℕ → Option (List ℕ)
global_name m k = option_and_then name_of (constant m k)

-- whether n registers from a on are there: of none nothing is asked
abbrev pub has_registers : State → ℕ → ℕ → Bool
has_registers m a zero = true
has_registers m a (suc n) = nat_le (a + suc n) (length m.top.registers)

abbrev pub span : State → ℕ → ℕ → Option (List Datum)
span m a n = if has_registers m a n then Some (take n (drop a m.top.registers)) else None

-- A value to a register, and values to registers from one on.
abbrev pub set : State → ℕ → Datum → Effect
set m a v = need (register m a) (λ old. Goes (with_registers m (slice_set m.top.registers a v)))

abbrev pub spliced : List Datum → ℕ → List Datum → List Datum
spliced registers a [] = registers
spliced registers a (v ∷ vs) = spliced (slice_set registers a v) (suc a) vs

abbrev pub set_all : State → ℕ → List Datum → Effect
set_all m a vs = check (has_registers m a (length vs)) (Goes (with_registers m (spliced m.top.registers a vs)))
