-- To be believed. What a call of a host comes to in the program, as what the definitions say of it.
use Rattle.std.specs.Prelude.{◌≡◌, ℕ, Bool, List, map}
use Rattle.lua_model.specs.declared.Value.{Value}
use Rattle.lua_model.specs.Acts as model
use Rattle.lua_model.specs.Store.{Host}
use Rattle.lua_model.specs.Builtins.{call_host, host_at}
use Rattle.lua_heap.specs.State.{HeapState, datum, IsOf, store_of}
use Rattle.natives.specs.declared.hosts.HostAct.{HostAct}

-- what it comes to, where its values are those of this heap
abbrev pub host_act_of : HeapState → ℕ → HostAct → model.NativeAct
host_act_of h host (HostAct.Ask args) = model.asks host args
host_act_of h host (HostAct.Fail v) = model.fails (datum h v)

abbrev pub IsHostActOf : HeapState → HostAct → Type 0
IsHostActOf h (HostAct.Ask args) = Unit {0}
IsHostActOf h (HostAct.Fail v) = IsOf h v

-- a call of this host with these arguments comes to this, from one heap to the next, beside hosts of which it is live or closed so
abbrev pub HostAnswers : HeapState → HeapState → ℕ → Bool → List Value → HostAct → Type 0
HostAnswers old new host live args act =
    (hosts : List Host) → map (λ k. k.name) hosts ≡ old.host_names → (host_at (store_of old hosts) host).live ≡ live → call_host host (map (datum old) args) (store_of old hosts) ≡ host_act_of new host act
