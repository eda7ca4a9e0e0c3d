use Rattle.std.proofs.Common.{◌≡◌, map, vec_len}
use Rattle.core_expr.specs.Held.{chained_before}
use Rattle.core_expr.specs.Writing.{chain, view_written}
use Rattle.core_expr.proofs.operators.chained.Given as goal

abbrev pub invariant-loop-operand : goal.invariant-loop-operand
invariant-loop-operand l = chained_before (map view_written l.operands.items) (view_written l.chain) ≡ chain (map view_written l.fn.operands.items)

abbrev pub decreases-loop-operand : goal.decreases-loop-operand
decreases-loop-operand l = vec_len l.operands
