use Rattle.recover_expr.specs.Locals.{listed}
use Rattle.recover_expr.proofs.Declarations.{names_pushed}
use Rattle.recover_expr.proofs.locals.own_names.Goals as goal

pub loop-entry-preserved : goal.loop-entry-preserved
loop-entry-preserved c =
    names_pushed (listed c.args.proto.now) c.loop-entry.names _ c.in_ok-own_name.field-0 c.loop-entry.entry _ c.loop-entry-test.true c.in_ok-own_name.ensures.name c.in_ok-push.ensures.ok c.loop-entry.invariant
