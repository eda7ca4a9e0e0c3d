-- Serves the words: what they need of their frame, and what they did.
use Rattle.std.specs.Prelude.{◌≡◌, ◌⊎◌, true, false, codes, ℕ, suc, ◌+◌, ◌-◌, ◌<◌, ◌≤◌, ◌^◌, ℤ, pos, ◌+ℤ◌, List, map, length, get_or, Option, None, Some, slice_get, option_map, option_and_then}
use Rattle.opcode.specs.Reading.{instr_of}
use Rattle.proto.specs.Chunk.{own}
use Rattle.lua_model.specs.declared.TextId.{TextId}
use Rattle.lua_model.specs.declared.Value.{Value}
use Rattle.lua_model.specs.Datum.{Datum, nil, table, is_nil}
use Rattle.lua_model.specs.Store.{Store}
use Rattle.lua_model.specs.Operators.{handler, LoopNumbers, loop_numbers}
use Rattle.lua_heap.specs.State.{HeapState, IsOf, AreOf, Keeps}
use Rattle.rules.specs.State.{State, Effect, value_of, with_results}
use Rattle.rules.specs.Places.{jmp_of, as_pc}
use Rattle.rules.specs.Step.{listed}
use Rattle.machine.specs.declared.function.Function.{Function}
use Rattle.machine.specs.declared.did.Landing.{Landing}
use Rattle.machine.specs.declared.did.OpenResults.{OpenResults}
use Rattle.machine.specs.declared.did.Did.{Did}
use Rattle.machine.specs.Frames.{data_of, showing, results_of, effect_of}

-- the state runs this function, and its pc is that after the word
pub record Runs (m : State) (h : HeapState) (f : Function) (pc : ℕ) : Type 0 where
  pub pc_is : m.top.pc ≡ pc
  pub code : (own m.top.function).code ≡ f.code.items
  pub constants : map value_of (own m.top.function).constants ≡ data_of h f.constants.items

-- the values of the frame are the heap's
pub record AreKnown (h : HeapState) (f : Function) (values : List Value) : Type 0 where
  pub constants : AreOf h f.constants.items
  pub registers : AreOf h values

-- a register that is there, or a constant
pub record IsOperand (f : Function) (registers : List Value) (x : ℕ) : Type 0 where
  pub register : x < 256 → x < length registers
  pub constant : 256 ≤ x → x - 256 < length f.constants.items

-- the number that a value is, and that a register holds
abbrev pub number_of : Value → Option ℤ
number_of (Value.Number n) = Some n
number_of _ = None

abbrev pub number_at : List Value → ℕ → Option ℤ
number_at registers r = option_and_then number_of (slice_get registers r)

abbrev pub IsNumber : List Value → ℕ → Type 0
IsNumber registers r = number_at registers r ≡ None → ⊥

-- the numbers of a loop in the registers from one on
abbrev pub loop_numbers_in : HeapState → List Value → ℕ → LoopNumbers
loop_numbers_in h registers a =
    let ds = data_of h registers in
    loop_numbers (get_or ds a nil) (get_or ds (a + 1) nil) (get_or ds (a + 2) nil)

-- the text that a value is, and that a constant is
abbrev pub text_of : Value → Option TextId
text_of (Value.Text t) = Some t
text_of _ = None

abbrev pub text_at : Function → ℕ → Option TextId
text_at f k = option_and_then text_of (slice_get f.constants.items k)

abbrev pub IsName : Function → ℕ → Type 0
IsName f k = text_at f k ≡ None → ⊥

-- so many registers from one on are there; of none nothing is asked
abbrev pub AreThere : List Value → (first count : ℕ) → Type 0
AreThere registers first count = 0 < count → first + count ≤ length registers

-- the same of a count that may be open
abbrev pub AreResultsThere : List Value → ℕ → Option ℕ → Type 0
AreResultsThere registers a None = Unit {0}
AreResultsThere registers a (Some count) = AreThere registers a count

-- the list is there: so many registers from the first on, or those up to the open results
abbrev pub IsListed : List Value → Option OpenResults → ℕ → Option ℕ → Type 0
IsListed registers results first (Some count) = AreThere registers first count
IsListed registers None first None = ⊥
IsListed registers (Some open_results) first None = (first ≤ open_results.first) × AreThere registers first (open_results.first - first)

-- the list is this one, and leaves these open results
abbrev pub GivesList : List Value → (before behind : Option OpenResults) → ℕ → Option ℕ → List Value → Type 0
GivesList registers before behind first count list =
    (h : HeapState) (m : State) (next : State → List Datum → Effect) → m.top.results ≡ option_map (results_of h) before → listed (showing m h registers) first count next ≡ next (with_results (showing m h registers) (option_map (results_of h) behind)) (data_of h list)

abbrev pub AreResultsOf : HeapState → Option OpenResults → Type 0
AreResultsOf h None = Unit {0}
AreResultsOf h (Some results) = AreOf h results.values

-- a JMP stands at the pc, and what it jumps to is a pc
pub record IsTest (f : Function) (pc : ℕ) : Type 0 where
  pub s : ℤ
  pub jmp : jmp_of (option_and_then instr_of (slice_get f.code.items pc)) ≡ Some s
  pub goes : as_pc (pos (suc pc) +ℤ s) ≡ None → ⊥
  pub room : length f.code.items < 2 ^ 32

-- what a landing needs of the frame
abbrev pub IsLanding : Function → List Value → ℕ → Landing → Type 0
IsLanding f registers pc (Landing.Into a) = a < length registers
IsLanding f registers pc (Landing.Test a negated) = IsTest f pc
IsLanding f registers pc (Landing.Pairs a first count) = (a < length registers) × (first + count ≤ length registers) × (first + count < 1024)
IsLanding f registers pc (Landing.Fixed a count) = AreThere registers a count
IsLanding f registers pc (Landing.Open a) = Unit {0}
IsLanding f registers pc (Landing.Turn a count) = (a < 256) × (a + 3 + count ≤ length registers) × (a + 3 < length registers) × IsTest f pc
IsLanding f registers pc Landing.Nowhere = Unit {0}

-- of a heap only its texts, the pairs and metatables of its tables, and its globals changed
abbrev pub OnlyStore : HeapState → HeapState → Type 0
OnlyStore old new = new ≡ record old { texts = new.texts; tables = new.tables; globals = new.globals }

abbrev pub IsDidOf : HeapState → Did → Type 0
IsDidOf h Did.Next = Unit {0}
IsDidOf h (Did.Jumps pc) = Unit {0}
IsDidOf h (Did.Opens results) = AreOf h results.values
IsDidOf h (Did.Calls landing f args) = IsOf h f × AreOf h args
IsDidOf h (Did.Fails v) = IsOf h v
IsDidOf h Did.Ends = Unit {0}

-- where a call was asked for, its landing fits the frame
abbrev pub IsAwaited : Function → List Value → ℕ → Did → Type 0
IsAwaited f registers pc (Did.Calls landing callee args) = IsLanding f registers pc landing
IsAwaited f registers pc _ = Unit {0}

-- how many calls there may be until results have landed, and until a call that is asked for has
abbrev pub calls_of : Landing → ℕ
calls_of (Landing.Pairs a first count) = suc (suc count)
calls_of _ = 1

abbrev pub calls_left : Did → ℕ
calls_left (Did.Calls landing callee args) = calls_of landing
calls_left _ = 0

-- a word went on within its frame, to this pc
abbrev pub IsStep : Did → Type 0
IsStep Did.Next = Unit {0}
IsStep (Did.Jumps pc) = Unit {0}
IsStep did = ⊥

abbrev pub pc_of : Did → ℕ → ℕ
pc_of (Did.Jumps pc) behind = pc
pc_of did behind = behind

-- where the effect is this one, from one heap to the next and from these registers to others, this was done
pub record Does (effect : State → Effect) (old new : HeapState) (f : Function) (before behind : List Value) (pc : ℕ) (did : Did) : Type 0 where
  pub is : (m : State) → Runs m old f pc → effect (showing m old before) ≡ effect_of new did (showing m new behind)
  pub known : IsDidOf new did
  pub awaited : IsAwaited f behind pc did
  pub registers : AreOf new behind
  pub length_is : length behind ≡ length before
  pub keeps : Keeps old new
  pub only_store : OnlyStore old new

-- the same beside open results, which may have been taken
pub record DoesWith (effect : State → Effect) (old new : HeapState) (f : Function) (before behind : List Value) (taken left : Option OpenResults) (pc : ℕ) (did : Did) : Type 0 where
  pub is : (m : State) → Runs m old f pc → m.top.results ≡ option_map (results_of old) taken → effect (showing m old before) ≡ effect_of new did (with_results (showing m new behind) (option_map (results_of new) left))
  pub known : IsDidOf new did
  pub awaited : IsAwaited f behind pc did
  pub registers : AreOf new behind
  pub results : AreResultsOf new left
  pub length_is : length behind ≡ length before
  pub keeps : Keeps old new
  pub only_store : OnlyStore old new

-- no handler is asked for a write to an entry of a table: it is not nil, or the table has no such handler
abbrev pub AsksNone : Store → ℕ → Datum → Type 0
AsksNone s t entry = (is_nil entry ≡ false) ⊎ (is_nil (handler s (table t) (codes "__newindex")) ≡ true)
