use Rattle.std.proofs.Common.{◌∙◌}
use Rattle.core_expr.proofs.OwnParts.{constants_are, got_of}
use Rattle.core_expr.proofs.scope.Scope.constant.Goals as goal

pub returns : goal.returns
returns c = got_of c.args.number c.get.result c.get.ensures.lookup (c.items.ensures ∙ constants_are c.args.self.now.proto.now)
