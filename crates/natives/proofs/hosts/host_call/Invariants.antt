use Rattle.std.proofs.Common.{◌≡◌, map, take, Some}
use Rattle.lua_model.specs.Store.{as_plain}
use Rattle.lua_heap.specs.State.{datum}
use Rattle.natives.proofs.hosts.host_call.Given as goal

-- what was read so far is plain
abbrev pub invariant-loop-i : goal.invariant-loop-i
invariant-loop-i l = (map (λ v. as_plain (datum l.fn.heap v)) (take l.i l.fn.args) ≡ map Some l.plain) × (l.heap ≡ l.fn.heap)
