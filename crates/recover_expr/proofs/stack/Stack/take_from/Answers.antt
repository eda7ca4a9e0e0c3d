use Rattle.std.proofs.Common.{arith}
use Rattle.recover_expr.proofs.EntriesTaken.{taken_from}
use Rattle.recover_expr.proofs.stack.Stack.take_from.Goals as goal

pub returns-clause-taken : goal.returns-clause-taken
returns-clause-taken c = taken_from c.args.self.now.entries.items _ _ c.args.first (omega (arith, c.if-first-len.false, c.len.ensures, c.args.self.now.entries.ok.0)) c.in_ok-split_off.ensures.items c.in_ok-split_off.ensures.tail
