use Rattle.std.proofs.Common.{refl}
use Rattle.core_expr.specs.Making.{deepest_item}
use Rattle.core_expr.specs.Values.{items_of}
use Rattle.core_expr.proofs.Depths.{item_deep, all_deep}
use Rattle.core_expr.proofs.building.deepest_item.Goals as goal

pub loop-item-preserved : goal.loop-item-preserved
loop-item-preserved c =
    item_deep c.args.items.now c.loop-item.item-index c.item-item.result c.loop-item-test.true c.item-item.is c.loop-item.deepest _ _ c.loop-item.invariant (rw c.depth.ensures at c.max-deepest.ensures)

pub returns : goal.returns
returns c = all_deep (λ items. deepest_item (items_of items)) c.args.items.now c.loop-item.item-index c.loop-item.deepest c.loop-item-test.false refl c.loop-item.invariant
