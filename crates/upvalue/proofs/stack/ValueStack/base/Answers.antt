use Rattle.upvalue.proofs.Rows.{base_is}
use Rattle.upvalue.proofs.stack.ValueStack.base.Goals as goal

pub returns : goal.returns
returns c = base_is c.self.inside c.args.self.now c.self.view_is c.self.invariant
