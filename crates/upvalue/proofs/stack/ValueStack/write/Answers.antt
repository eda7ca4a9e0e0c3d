use Rattle.std.proofs.Common.{◌+◌}
use Rattle.upvalue.proofs.Written.{written_is, put_cells, put_shares}
use Rattle.upvalue.proofs.stack.ValueStack.write.Goals as goal

pub returns-clause-written : goal.returns-clause-written
returns-clause-written c = written_is c.self.inside c.args.self.now c.self.view_is c.self.invariant c.args.register c.args.value

pub returns-clause-keeps : goal.returns-clause-keeps
returns-clause-keeps c h shares known =
    let s = c.self.inside in
    let place = s.base + c.args.register in
    (put_shares s c.args.self.now c.self.view_is c.self.invariant h place c.args.value shares known, put_cells s c.args.self.now c.self.view_is c.self.invariant h place c.args.value)
