use Rattle.std.proofs.Common.{arith}
use Rattle.recover_flow.proofs.Remembered.{rest_remembered}
use Rattle.recover_flow.proofs.memory.Memory.keep_rest.Goals as goal

pub returns-clause-kept : goal.returns-clause-kept
returns-clause-kept c steps right = rest_remembered steps c.args.self.now c.push.new.self c.args.rest c.in_ok-push.ensures.items right c.len.result (omega (arith, c.len.ensures))
