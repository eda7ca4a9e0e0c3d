use Rattle.std.proofs.Common.{SFits, w64, to_z-of_z}
use Rattle.lua_num.proofs.Wrapping.{negation_wraps}
use Rattle.lua_num.proofs.arith.neg.Goals as goal

pub returns : goal.returns
returns c =
    let fits : SFits w64 c.args.a = c.ranges.a in
    negation_wraps c.args.a c.wrapping_neg.result fits (simp to_z-of_z at c.wrapping_neg.ensures)
