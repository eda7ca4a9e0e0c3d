-- What decreases along the calls that write an expression: the size of what is written, and where that stays the rank of the function.
use Rattle.std.proofs.Common.{◌≡◌, ◌+◌, ◌*◌, ◌++◌, max, drop, map}
use Rattle.core_expr.specs.declared.cores.Core.{size-Core}
use Rattle.core_expr.specs.declared.cores.Cores.{size-Cores}
use Rattle.core_expr.specs.declared.cores.Operand.{size-Operand}
use Rattle.core_expr.specs.declared.cores.Operands.{size-Operands}
use Rattle.core_expr.specs.Held.{view_written_items, join_wordings}
use Rattle.core_expr.specs.Standing.{view_writer, behind_values, behind_operands, behind_items, worded_values, worded_each, worded_keys, worded_items, can_word_values, can_word_operands, can_word_items}
use Rattle.core_expr.specs.Values.{values_of, operands_of, items_of}
use Rattle.core_expr.specs.Writing.{view_written, view_written_list}
use Rattle.core_expr.proofs.Turns.{join_lists}
use Rattle.core_expr.proofs.writer.Writer.+writing.Given as goal

abbrev pub decreases-expression : goal.decreases-expression
decreases-expression l = 64 * goal.size-expression l + 10

abbrev pub decreases-value : goal.decreases-value
decreases-value l = 64 * goal.size-value l + 12

abbrev pub decreases-prefix : goal.decreases-prefix
decreases-prefix l = 64 * goal.size-prefix l + 12

abbrev pub decreases-list : goal.decreases-list
decreases-list l = 64 * goal.size-list l + 20

abbrev pub decreases-indexed : goal.decreases-indexed
decreases-indexed l = 64 * max (size-Core l.on.now) (size-Operands l.keys.now) + 30

abbrev pub decreases-with_key : goal.decreases-with_key
decreases-with_key l = 64 * size-Operand l.key.now + 14

abbrev pub decreases-operand : goal.decreases-operand
decreases-operand l = 64 * goal.size-operand l + 12

abbrev pub decreases-binary : goal.decreases-binary
decreases-binary l = 64 * max (size-Operand l.left.now) (size-Operand l.right.now) + 20

abbrev pub decreases-unary : goal.decreases-unary
decreases-unary l = 64 * goal.size-unary l + 12

abbrev pub decreases-concat : goal.decreases-concat
decreases-concat l = 64 * goal.size-concat l + 20

abbrev pub decreases-call : goal.decreases-call
decreases-call l = 64 * max (size-Core l.on.now) (size-Cores l.args.now) + 40

abbrev pub decreases-method : goal.decreases-method
decreases-method l = 64 * max (size-Core l.on.now) (size-Cores l.args.now) + 40

abbrev pub decreases-arguments : goal.decreases-arguments
decreases-arguments l = 64 * goal.size-arguments l + 30

abbrev pub decreases-short_arguments : goal.decreases-short_arguments
decreases-short_arguments l = 64 * goal.size-short_arguments l + 26

abbrev pub decreases-short_argument : goal.decreases-short_argument
decreases-short_argument l = 64 * goal.size-short_argument l + 24

abbrev pub decreases-table : goal.decreases-table
decreases-table l = 64 * goal.size-table l + 24

abbrev pub decreases-items : goal.decreases-items
decreases-items l = 64 * goal.size-items l + 20

abbrev pub decreases-item : goal.decreases-item
decreases-item l = 64 * goal.size-item l + 12

abbrev pub decreases-keyed_item : goal.decreases-keyed_item
decreases-keyed_item l = 64 * max (size-Operand l.key.now) (size-Operand l.value.now) + 20

-- ---- loops: what is written so far, and what is left, make the whole

abbrev pub invariant-list-loop-i : goal.invariant-list-loop-i
invariant-list-loop-i l = record {
  made : join_lists (view_written_list l.list) (worded_values (view_writer l.self) (values_of (drop l.i l.cores)) l.«open») ≡ worded_values (view_writer l.fn.self) (values_of l.cores) l.«open»;
  behind : behind_values (values_of (drop l.i l.cores)) (view_writer l.self) ≡ behind_values (values_of l.cores) (view_writer l.fn.self);
  can : can_word_values (view_writer l.self) (values_of (drop l.i l.cores)) ≡ can_word_values (view_writer l.fn.self) (values_of l.cores);
}

abbrev pub invariant-indexed-loop-key : goal.invariant-indexed-loop-key
invariant-indexed-loop-key l = record {
  made : worded_keys (view_writer l.self) (view_written l.written) (operands_of (drop l.key-index l.key-items)) ≡ worded_keys (view_writer l.initial.self) (view_written l.initial.written) (operands_of l.key-items);
  behind : behind_operands (operands_of (drop l.key-index l.key-items)) (view_writer l.self) ≡ behind_operands (operands_of l.key-items) (view_writer l.initial.self);
  can : can_word_operands (view_writer l.self) (operands_of (drop l.key-index l.key-items)) ≡ can_word_operands (view_writer l.initial.self) (operands_of l.key-items);
}

abbrev pub invariant-concat-loop-operand : goal.invariant-concat-loop-operand
invariant-concat-loop-operand l = record {
  made : map view_written l.written.items ++ worded_each (view_writer l.self) (values_of (drop l.operand-index l.operand-items)) ≡ worded_each (view_writer l.fn.self) (values_of l.operand-items);
  behind : behind_values (values_of (drop l.operand-index l.operand-items)) (view_writer l.self) ≡ behind_values (values_of l.operand-items) (view_writer l.fn.self);
  can : can_word_values (view_writer l.self) (values_of (drop l.operand-index l.operand-items)) ≡ can_word_values (view_writer l.fn.self) (values_of l.operand-items);
}

abbrev pub invariant-items-loop-i : goal.invariant-items-loop-i
invariant-items-loop-i l = record {
  made : join_wordings (view_written_items l.written) (worded_items (view_writer l.self) (items_of (drop l.i l.all)) l.«open») ≡ worded_items (view_writer l.fn.self) (items_of l.all) l.«open»;
  behind : behind_items (items_of (drop l.i l.all)) (view_writer l.self) ≡ behind_items (items_of l.all) (view_writer l.fn.self);
  can : can_word_items (view_writer l.self) (items_of (drop l.i l.all)) ≡ can_word_items (view_writer l.fn.self) (items_of l.all);
}
