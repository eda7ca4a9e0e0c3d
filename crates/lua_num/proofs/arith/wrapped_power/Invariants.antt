use Rattle.std.proofs.Common.{◌≡◌, ◌*ℤ◌, w64}
use Rattle.std.specs.Int.{int_wrap}
use Rattle.lua_num.specs.Arith.{power}
use Rattle.lua_num.proofs.arith.wrapped_power.Given as goal

-- the product so far and what is left of the power make the whole power
abbrev pub invariant-loop-digits : goal.invariant-loop-digits
invariant-loop-digits l = int_wrap w64 (l.product *ℤ power l.square l.digits) ≡ int_wrap w64 (power l.fn.base l.fn.exponent)

abbrev pub decreases-loop-digits : goal.decreases-loop-digits
decreases-loop-digits l = l.digits
