use Rattle.std.proofs.Common.{arith}
use Rattle.codegen.proofs.Sizes.{halved}
use Rattle.codegen.proofs.tables.size_hint.Goals as goal

pub loop-rest-preserved : goal.loop-rest-preserved
loop-rest-preserved c =
    let more = halved c.loop-rest.invariant.fuel c.loop-rest.halvings c.loop-rest.rest _ c.loop-rest-test.true c.loop-rest.invariant.enough c.loop-rest.invariant.hint in
    record { fuel = more.fuel; enough = more.enough; least = omega (arith, c.loop-rest-test.true); few = omega (arith, c.loop-rest-test.true, c.loop-rest.invariant.few); hint = more.hint }
