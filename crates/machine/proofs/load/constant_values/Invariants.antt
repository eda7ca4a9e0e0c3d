use Rattle.std.proofs.Common.{take}
use Rattle.lua_heap.specs.Grown.{Grown}
use Rattle.machine.proofs.Loading.{AreConstants}
use Rattle.machine.proofs.load.constant_values.Given as goal

abbrev pub invariant-loop-constant : goal.invariant-loop-constant
invariant-loop-constant l = record {
  so_far : AreConstants l.heap (take l.constant-index l.constants) l.values.items;
  grown : Grown l.initial.heap l.heap;
}
