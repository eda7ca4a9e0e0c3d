use Rattle.lua_table.specs.Rows.{IsFull}
use Rattle.lua_table.proofs.table.walk.Given as goal

abbrev pub invariant-loop-n : goal.invariant-loop-n
invariant-loop-n l = IsFull l.pairs l.n
