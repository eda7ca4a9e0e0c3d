use Rattle.std.proofs.Common.{◌≡◌, drop}
use Rattle.core_expr.specs.Counting.{taken_behind_values, taken_behind_operands, taken_behind_items}
use Rattle.core_expr.specs.Values.{values_of, operands_of, items_of}
use Rattle.core_expr.proofs.counting.+counting.Given as goal

abbrev pub invariant-behind_items-loop-item : goal.invariant-behind_items-loop-item
invariant-behind_items-loop-item l = taken_behind_items (items_of (drop l.item-index l.items)) l.taken ≡ taken_behind_items (items_of l.items) l.fn.taken

abbrev pub invariant-behind_operands-loop-operand : goal.invariant-behind_operands-loop-operand
invariant-behind_operands-loop-operand l = taken_behind_operands (operands_of (drop l.operand-index l.operands)) l.taken ≡ taken_behind_operands (operands_of l.operands) l.fn.taken

abbrev pub invariant-behind_values-loop-core : goal.invariant-behind_values-loop-core
invariant-behind_values-loop-core l = taken_behind_values (values_of (drop l.core-index l.cores)) l.taken ≡ taken_behind_values (values_of l.cores) l.fn.taken
