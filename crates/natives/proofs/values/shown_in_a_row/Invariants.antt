use Rattle.std.proofs.Common.{◌≡◌, map, take}
use Rattle.std.specs.List.{join_with_byte}
use Rattle.lua_heap.specs.State.{datum}
use Rattle.natives.specs.Shown.{shown_beside}
use Rattle.natives.proofs.values.shown_in_a_row.Given as goal

abbrev pub invariant-loop-index : goal.invariant-loop-index
invariant-loop-index l = l.piece ≡ join_with_byte 9 (map (λ v. shown_beside l.heap.host_names (datum l.heap v)) (take l.index l.values))
