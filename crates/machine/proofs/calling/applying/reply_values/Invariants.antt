use Rattle.std.proofs.Common.{take}
use Rattle.lua_heap.specs.Grown.{Grown}
use Rattle.machine.proofs.PlainValues.{ArePlain}
use Rattle.machine.proofs.calling.applying.reply_values.Given as goal

abbrev pub invariant-loop-item : goal.invariant-loop-item
invariant-loop-item l = record {
  so_far : ArePlain l.heap (take l.item-index l.plain) l.values;
  grown : Grown l.initial.heap l.heap;
}
