use Rattle.std.proofs.Common.{◌≡◌, take, drop}
use Rattle.lua_table.specs.Entries.{first_pair}
use Rattle.lua_table.proofs.few.Few.first_in.Given as goal

abbrev pub invariant-loop-i : goal.invariant-loop-i
invariant-loop-i l = first_pair (drop l.i (take l.end l.self)) ≡ first_pair (drop l.start (take l.end l.self))
