use Rattle.std.proofs.Common.{SFits, w64, to_z-of_z, rules}
use Rattle.lua_num.proofs.FloorRemainder.{kept, divides, moved}
use Rattle.lua_num.proofs.Outcomes.{rest}
use Rattle.lua_num.proofs.arith.rem.Goals as goal
use Rattle.lua_num.proofs.arith.rem.Goals.{else-rest-ne0-via-then-rest-ne0+else-rest-b, else-rest-ne0-via-else-rest-ne0}

pub returns-then-rest-b : goal.returns-then-rest-b
returns-then-rest-b c =
    let fits : SFits w64 c.args.a = c.ranges.a in
    let divisor_fits : SFits w64 c.args.b = c.ranges.b in
    let rest_fits : SFits w64 c.wrapping_rem-rest.result = search rules in
    let is = simp to_z-of_z at c.wrapping_rem-rest.ensures in
    let sign = simp to_z-of_z at c.if-rest-b.true in
    rest c.args.a c.args.b _ c.if-b-eq0.false (simp to_z-of_z (moved c.args.a c.args.b c.wrapping_rem-rest.result divisor_fits c.if-b-eq0.false is c.if-rest-ne0.true sign))

pub returns-else-rest-ne0 : goal.returns-else-rest-ne0
returns-else-rest-ne0 c =
    let fits : SFits w64 c.args.a = c.ranges.a in
    let divisor_fits : SFits w64 c.args.b = c.ranges.b in
    let rest_fits : SFits w64 c.wrapping_rem-rest.result = search rules in
    let is = simp to_z-of_z at c.wrapping_rem-rest.ensures in
    elim c.else-rest-ne0.branch [
      | else-rest-ne0-via-then-rest-ne0+else-rest-b w ↦ rest c.args.a c.args.b _ c.if-b-eq0.false (simp to_z-of_z (kept c.args.a c.args.b c.wrapping_rem-rest.result c.if-b-eq0.false is (simp to_z-of_z at w.if-rest-b.false)))
      | else-rest-ne0-via-else-rest-ne0 w ↦ rest c.args.a c.args.b _ c.if-b-eq0.false (simp to_z-of_z (divides c.args.a c.args.b c.wrapping_rem-rest.result rest_fits c.if-b-eq0.false is w.if-rest-ne0.false))
    ]
