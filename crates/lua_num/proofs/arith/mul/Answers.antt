use Rattle.lua_num.proofs.Wrapping.{product_wraps}
use Rattle.lua_num.proofs.arith.mul.Goals as goal

pub returns : goal.returns
returns c = product_wraps c.args.a c.args.b c.ranges.a c.ranges.b
