-- The values so far are the heap's.
use Rattle.lua_heap.specs.State.{AreOf}
use Rattle.runtime_rows.proofs.environment.Environment.values.Given as goal

abbrev pub invariant-loop-word : goal.invariant-loop-word
invariant-loop-word l = AreOf l.self l.values
