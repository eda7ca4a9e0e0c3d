use Rattle.lua_num.proofs.Wrapping.{sum_wraps}
use Rattle.lua_num.proofs.arith.add.Goals as goal

pub returns : goal.returns
returns c = sum_wraps c.args.a c.args.b c.ranges.a c.ranges.b
