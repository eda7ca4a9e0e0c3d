use Rattle.scopes.proofs.Entrances.{brought_turn}
use Rattle.scopes.proofs.resolver.Resolver.bring.Goals as goal

pub loop-i-preserved : goal.loop-i-preserved
loop-i-preserved c = (c.in_ok-bring_one.ensures.sound, brought_turn c.args.names.now c.loop-i.i c.index-names-i.result c.bytes.result.now c.args.first c.loop-i-test.true c.index-names-i.is c.bytes.ensures c.loop-i.invariant.1 c.in_ok-bring_one.ensures.brought)
