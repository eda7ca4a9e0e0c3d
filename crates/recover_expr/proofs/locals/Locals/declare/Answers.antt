use Rattle.recover_expr.specs.Locals.{listed, view_locals}
use Rattle.recover_expr.proofs.Listed.{declare_turn}
use Rattle.recover_expr.proofs.locals.Locals.declare.Goals as goal

pub loop-preserved : goal.loop-preserved
loop-preserved c =
    declare_turn (listed c.args.proto.now) c.args.count c.loop.counter c.args.pc c.args.step (view_locals c.loop.self) (view_locals c.declare_next.new.self) c.loop-test.true
    c.in_ok-declare_next.ensures.declared c.loop.invariant
