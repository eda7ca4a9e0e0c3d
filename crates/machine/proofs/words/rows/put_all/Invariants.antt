use Rattle.std.proofs.Common.{◌≡◌, length}
use Rattle.lua_model.specs.Datum.{adjusted}
use Rattle.lua_heap.specs.State.{HeapState, AreOf}
use Rattle.rules.specs.State.{spliced}
use Rattle.machine.specs.Frames.{data_of}
use Rattle.machine.proofs.words.rows.put_all.Given as goal

abbrev pub invariant-loop-k : goal.invariant-loop-k
invariant-loop-k l = record {
  put : (h : HeapState) → data_of h l.registers ≡ spliced (data_of h l.initial.registers) l.first (adjusted l.k (data_of h l.values));
  known : (h : HeapState) → AreOf h l.initial.registers → AreOf h l.values → AreOf h l.registers;
  length_is : length l.registers ≡ length l.initial.registers;
}
