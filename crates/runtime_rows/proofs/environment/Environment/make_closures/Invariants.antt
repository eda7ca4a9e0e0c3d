-- There are so many closures, and the values of before are kept.
use Rattle.std.proofs.Common.{◌≤◌, length}
use Rattle.lua_heap.specs.State.{Keeps}
use Rattle.runtime_rows.proofs.environment.Environment.make_closures.Given as goal

abbrev pub invariant-loop : goal.invariant-loop
invariant-loop l = record { keeps : Keeps l.fn.self l.self; made : l.counter ≤ length l.self.closures }
