use Rattle.std.proofs.Common.{refl, rules}
use Rattle.core_expr.specs.Counting.{taken_behind_values, taken_behind_operands, taken_behind_items}
use Rattle.core_expr.specs.Values.{values_of, operands_of, items_of}
use Rattle.core_expr.proofs.CoreViews.{view_cores_list, view_operands_list, view_items_list}
use Rattle.core_expr.proofs.Counted.{all_counted, value_counted, operand_counted, item_counted}
use Rattle.core_expr.proofs.counting.+counting.Goals as goal

pub behind_value-returns-in-Index : goal.behind_value-returns-in-Index
behind_value-returns-in-Index t c = rw (c.in-Index.is, view_operands_list) (search rules)

pub behind_value-returns-in-Concat : goal.behind_value-returns-in-Concat
behind_value-returns-in-Concat t c = rw (c.in-Concat.is, view_cores_list) (search rules)

pub behind_value-returns-in-Call : goal.behind_value-returns-in-Call
behind_value-returns-in-Call t c = rw (c.in-Call.is, view_cores_list) (search rules)

pub behind_value-returns-in-Method : goal.behind_value-returns-in-Method
behind_value-returns-in-Method t c = rw (c.in-Method.is, view_cores_list) (search rules)

pub behind_value-returns-in-Table : goal.behind_value-returns-in-Table
behind_value-returns-in-Table t c = rw (c.in-Table.is, view_items_list) (search rules)

pub behind_items-loop-item-preserved : goal.behind_items-loop-item-preserved
behind_items-loop-item-preserved t c =
    item_counted c.args.items.now c.loop-item.item-index c.item-item.result c.loop-item-test.true c.item-item.is c.loop-item.taken _ _ c.loop-item.invariant c.behind_item-taken.ensures

pub behind_items-returns : goal.behind_items-returns
behind_items-returns t c = all_counted (λ items n. taken_behind_items (items_of items) n) c.args.items.now c.loop-item.item-index c.loop-item.taken c.loop-item-test.false refl c.loop-item.invariant

pub behind_operands-loop-operand-preserved : goal.behind_operands-loop-operand-preserved
behind_operands-loop-operand-preserved t c =
    operand_counted c.args.operands.now c.loop-operand.operand-index c.operand-item.result c.loop-operand-test.true c.operand-item.is c.loop-operand.taken _ _ c.loop-operand.invariant c.taken_behind-taken.ensures

pub behind_operands-returns : goal.behind_operands-returns
behind_operands-returns t c = all_counted (λ operands n. taken_behind_operands (operands_of operands) n) c.args.operands.now c.loop-operand.operand-index c.loop-operand.taken c.loop-operand-test.false refl c.loop-operand.invariant

pub behind_values-loop-core-preserved : goal.behind_values-loop-core-preserved
behind_values-loop-core-preserved t c =
    value_counted c.args.cores.now c.loop-core.core-index c.core-item.result c.loop-core-test.true c.core-item.is c.loop-core.taken _ _ c.loop-core.invariant c.behind_value-taken.ensures

pub behind_values-returns : goal.behind_values-returns
behind_values-returns t c = all_counted (λ cores n. taken_behind_values (values_of cores) n) c.args.cores.now c.loop-core.core-index c.loop-core.taken c.loop-core-test.false refl c.loop-core.invariant
