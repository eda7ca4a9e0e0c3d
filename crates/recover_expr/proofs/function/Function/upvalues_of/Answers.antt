use Rattle.std.proofs.Common.{Some, None}
use Rattle.recover_expr.proofs.Makers.{upvalues_there}
use Rattle.recover_expr.proofs.function.Function.upvalues_of.Goals as goal

pub returns-in-Some : goal.returns-in-Some
returns-in-Some c = upvalues_there c.args.self.now.proto.now c.items.result.now c.args.number (Some c.in-Some.inner) c.items.ensures.view c.in-Some.ensures.lookup

pub returns-in-None : goal.returns-in-None
returns-in-None c = upvalues_there c.args.self.now.proto.now c.items.result.now c.args.number None c.items.ensures.view c.in-None.ensures.lookup
