-- To be believed. What the built-in functions answer in the program, as what the definitions answer (manual 5.1).
use Rattle.std.specs.Prelude.{◌≡◌, false, List, map, None, Some}
use Rattle.lua_num.specs.Bytes.{Text}
use Rattle.lua_model.specs.declared.Value.{Value}
use Rattle.lua_model.specs.Datum.{Datum, boolean}
use Rattle.lua_model.specs.Acts as model
use Rattle.lua_model.specs.Store.{Store, Host}
use Rattle.lua_model.specs.Builtins.{live_host, with_closed, one_result}
use Rattle.lua_heap.specs.State.{HeapState, datum, IsOf, AreOf, OnlyTexts, store_of}
use Rattle.natives.specs.declared.native_act.NativeAct.{NativeAct}

-- the live host of this name is to be closed: there is one, or the answer is false
abbrev pub closing : Text → Store → model.NativeAct
closing name s = elim (live_host s.hosts 0 name) [ None ↦ one_result (boolean false) s | Some k ↦ model.closes k (with_closed s k) ]

-- an answer, where its values are those of this heap, beside these hosts
abbrev pub act_of : HeapState → List Host → NativeAct → model.NativeAct
act_of h hosts (NativeAct.Values vs) = model.results (map (datum h) vs) (store_of h hosts)
act_of h hosts (NativeAct.Print piece) = model.prints piece
act_of h hosts (NativeAct.Fail v) = model.fails (datum h v)
act_of h hosts (NativeAct.Protect f args) = model.protects (datum h f) (map (datum h) args)
act_of h hosts (NativeAct.CloseHost name) = closing name (store_of h hosts)

-- the values of an answer are the heap's
abbrev pub IsActOf : HeapState → NativeAct → Type 0
IsActOf h (NativeAct.Values vs) = AreOf h vs
IsActOf h (NativeAct.Print piece) = Unit {0}
IsActOf h (NativeAct.Fail v) = IsOf h v
IsActOf h (NativeAct.Protect f args) = IsOf h f × AreOf h args
IsActOf h (NativeAct.CloseHost name) = Unit {0}

-- a call of this function with these arguments answers so, from one heap to the next, whichever of the hosts that the heap names are live
abbrev pub Answers : (List Datum → Store → model.NativeAct) → HeapState → HeapState → List Value → NativeAct → Type 0
Answers f old new args act =
    (hosts : List Host) → map (λ k. k.name) hosts ≡ old.host_names → f (map (datum old) args) (store_of old hosts) ≡ act_of new hosts act

-- whatever it answers but results, of the heap only texts changed
abbrev pub ChangesAs : HeapState → HeapState → NativeAct → Type 0
ChangesAs old new (NativeAct.Values vs) = Unit {0}
ChangesAs old new _ = OnlyTexts old new
