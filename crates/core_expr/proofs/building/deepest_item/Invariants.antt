use Rattle.std.proofs.Common.{◌≡◌, drop, max}
use Rattle.core_expr.specs.Making.{deepest_item}
use Rattle.core_expr.specs.Values.{items_of}
use Rattle.core_expr.proofs.building.deepest_item.Given as goal

abbrev pub invariant-loop-item : goal.invariant-loop-item
invariant-loop-item l = max l.deepest (deepest_item (items_of (drop l.item-index l.items))) ≡ deepest_item (items_of l.items)
