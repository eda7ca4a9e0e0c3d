-- Serves CONCAT: how far values in registers are joined to a running value.
use Rattle.std.specs.Prelude.{◌≡◌, ℕ, ◌≤◌, List, Option, option_and_then, slice_get}
use Rattle.lua_num.specs.Bytes.{Text}
use Rattle.lua_model.specs.declared.Value.{Value}
use Rattle.lua_model.specs.Datum.{to_text}
use Rattle.lua_heap.specs.State.{HeapState, datum, IsOf, AreOf}
use Rattle.lua_heap.specs.Grown.{Grown}
use Rattle.rules.specs.State.{State}
use Rattle.rules.specs.Calls.{join}
use Rattle.machine.specs.Frames.{data_of, showing}

-- the text that the value of a register is taken as
abbrev pub text_at : HeapState → List Value → ℕ → Option Text
text_at h values r = option_and_then to_text (slice_get (data_of h values) r)

-- the pairs that were joined leave these, from one heap to a later one
pub record IsJoining (first_heap now : HeapState) (values : List Value) (a first count left : ℕ) (start value : Value) : Type 0 where
  pub grown : Grown first_heap now
  pub known : AreOf first_heap values
  pub value_known : IsOf now value
  pub fewer : left ≤ count
  pub leaves : (m : State) → join (showing m first_heap values) a first count (datum first_heap start) ≡ join (showing m now values) a first left (datum now value)
