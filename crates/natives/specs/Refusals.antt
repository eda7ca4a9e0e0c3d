-- Serves the built-in functions: what they answer or refuse, before a refusal is a failure with a text.
use Rattle.std.specs.Prelude.{◌≡◌, List, map, Result, Ok, Err}
use Rattle.lua_model.specs.declared.Value.{Value}
use Rattle.lua_model.specs.Datum.{Datum}
use Rattle.lua_model.specs.Acts as model
use Rattle.lua_model.specs.Store.{Store, Host}
use Rattle.lua_model.specs.Builtins.{fails_with, bad_argument, wrong_argument}
use Rattle.lua_heap.specs.State.{HeapState, datum, store_of}
use Rattle.natives.specs.declared.native_act.NativeAct.{NativeAct}
use Rattle.natives.specs.declared.refusal.Refusal.{Refusal}
use Rattle.natives.specs.Answers.{Answers, IsActOf}

-- a call with these arguments that answers so is refused so; where memory runs out, whatever it answers
abbrev pub Refuses : model.NativeAct → List Datum → Refusal → Type 0
Refuses act args (Refusal.Text t) = act ≡ fails_with t.now
Refuses act args (Refusal.BadArgument i f what) = act ≡ bad_argument i f.now what.now
Refuses act args (Refusal.WrongArgument i f wanted) = act ≡ wrong_argument i f.now wanted.now args
Refuses act args Refusal.OutOfMemory = Unit {0}

-- a call of this function with these arguments has this outcome, from one heap to the next
abbrev pub Gives : (List Datum → Store → model.NativeAct) → HeapState → HeapState → List Value → Result NativeAct Refusal → Type 0
Gives f old new args (Ok act) = Answers f old new args act × IsActOf new act
Gives f old new args (Err r) =
    (hosts : List Host) → map (λ k. k.name) hosts ≡ old.host_names → Refuses (f (map (datum old) args) (store_of old hosts)) (map (datum old) args) r
