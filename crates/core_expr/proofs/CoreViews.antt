-- The lists in values: a row in a value is the list of it.
use Rattle.std.specs.Prelude.{◌≡◌, refl}
use Rattle.std.proofs.Common.{ap, ◌∙◌}
use Rattle.core_expr.specs.Values.{view_core, view_cores, view_operand, view_operands, view_item, view_items, view_core_list, view_operand_list, view_item_list, values_of, operands_of, items_of, and_value, and_operand}
use Rattle.core_expr.specs.declared.cores.Core.{Row_of-Core, end_of-Core, more_of-Core, items-the_row-Core, items_hidden-the_row-Core-1, Row_of-Operand, end_of-Operand, more_of-Operand, items-the_row-Operand, items_hidden-the_row-Operand-0, Row_of-CoreItem, end_of-CoreItem, more_of-CoreItem, items-the_row-CoreItem, items_hidden-the_row-CoreItem-2}
use Rattle.core_expr.specs.declared.cores.Core.TheBlock.{hidden-the_row-Core-1, hidden-the_row-Operand-0, hidden-the_row-CoreItem-2}
use Rattle.core_expr.specs.declared.cores.Cores.{Cores}
use Rattle.core_expr.specs.declared.cores.Operands.{Operands}
use Rattle.core_expr.specs.declared.cores.CoreItems.{CoreItems}

cores_row : (m : _) (row : Row_of-Core m) → view_cores row ≡ values_of (items-the_row-Core m row)
cores_row m end_of-Core = refl
cores_row m (more_of-Core c rest) = ap (and_value (view_core c)) (cores_row _ rest)

pub view_cores_list : (cores : Cores) → view_cores (hidden-the_row-Core-1 cores.cores) ≡ view_core_list cores
view_cores_list cores = cores_row _ (hidden-the_row-Core-1 cores.cores) ∙ ap values_of (items_hidden-the_row-Core-1 cores.cores)

operands_row : (m : _) (row : Row_of-Operand m) → view_operands row ≡ operands_of (items-the_row-Operand m row)
operands_row m end_of-Operand = refl
operands_row m (more_of-Operand o rest) = ap (and_operand (view_operand o)) (operands_row _ rest)

pub view_operands_list : (operands : Operands) → view_operands (hidden-the_row-Operand-0 operands.operands) ≡ view_operand_list operands
view_operands_list operands = operands_row _ (hidden-the_row-Operand-0 operands.operands) ∙ ap operands_of (items_hidden-the_row-Operand-0 operands.operands)

items_row : (m : _) (row : Row_of-CoreItem m) → view_items row ≡ items_of (items-the_row-CoreItem m row)
items_row m end_of-CoreItem = refl
items_row m (more_of-CoreItem i rest) = ap (view_item i) (items_row _ rest)

pub view_items_list : (items : CoreItems) → view_items (hidden-the_row-CoreItem-2 items.items) ≡ view_item_list items
view_items_list items = items_row _ (hidden-the_row-CoreItem-2 items.items) ∙ ap items_of (items_hidden-the_row-CoreItem-2 items.items)
