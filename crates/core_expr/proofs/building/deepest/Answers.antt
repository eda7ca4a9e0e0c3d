use Rattle.std.proofs.Common.{refl}
use Rattle.core_expr.specs.Making.{deepest}
use Rattle.core_expr.specs.Values.{values_of}
use Rattle.core_expr.proofs.Depths.{value_deep, all_deep}
use Rattle.core_expr.proofs.building.deepest.Goals as goal

pub loop-core-preserved : goal.loop-core-preserved
loop-core-preserved c =
    value_deep c.args.cores.now c.loop-core.core-index c.core-item.result c.loop-core-test.true c.core-item.is c.loop-core.deepest _ _ c.loop-core.invariant (rw c.depth.ensures at c.max-deepest.ensures)

pub returns : goal.returns
returns c = all_deep (λ cores. deepest (values_of cores)) c.args.cores.now c.loop-core.core-index c.loop-core.deepest c.loop-core-test.false refl c.loop-core.invariant
