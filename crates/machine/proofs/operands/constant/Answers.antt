use Rattle.std.proofs.Common.{arith}
use Rattle.std.proofs.lemmas.Grind.{common_steps}
use Rattle.std.proofs.lemmas.Option.{gets}
use Rattle.machine.proofs.Showing.{constant_is}
use Rattle.machine.proofs.operands.constant.Goals as goal

pub returns-clause-value : goal.returns-clause-value
returns-clause-value c h m pc runs = constant_is m h c.args.function.now pc c.args.k c.index.result.now runs (grind (arith, common_steps, gets))
