use Rattle.lua_num.proofs.Wrapping.{difference_wraps}
use Rattle.lua_num.proofs.arith.sub.Goals as goal

pub returns : goal.returns
returns c = difference_wraps c.args.a c.args.b c.ranges.a c.ranges.b
