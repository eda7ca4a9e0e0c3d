use Rattle.std.proofs.Common.{SFits, w64, to_z-of_z}
use Rattle.lua_num.proofs.Wrapping.{quotient_wraps}
use Rattle.lua_num.proofs.Outcomes.{quotient}
use Rattle.lua_num.proofs.arith.div.Goals as goal

pub returns : goal.returns
returns c =
    let fits : SFits w64 c.args.a = c.ranges.a in
    let divisor_fits : SFits w64 c.args.b = c.ranges.b in
    quotient c.args.a c.args.b _ c.if-b-eq0.false (quotient_wraps c.args.a c.args.b c.wrapping_div.result fits (simp to_z-of_z at c.wrapping_div.ensures))
