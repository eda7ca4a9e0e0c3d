-- The list so far is the first values.
use Rattle.std.proofs.Common.{◌≡◌, take}
use Rattle.lua_heap.proofs.values.ValueList.from_slice.Given as goal

abbrev pub invariant-loop-value : goal.invariant-loop-value
invariant-loop-value l = l.list ≡ take l.value-index l.values
