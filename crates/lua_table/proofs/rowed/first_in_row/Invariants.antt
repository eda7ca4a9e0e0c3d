use Rattle.std.proofs.Common.{◌≡◌, drop}
use Rattle.lua_table.proofs.First.{first_in}
use Rattle.lua_table.proofs.rowed.first_in_row.Given as goal

abbrev pub invariant-loop-i : goal.invariant-loop-i
invariant-loop-i l = first_in l.row (drop l.rest.before l.rest.pairs) l.i ≡ first_in l.row (drop l.rest.before l.rest.pairs) l.start
