-- The definitions of arithmetic, computed on small numbers and at the ends.
use Rattle.std.proofs.Common.{◌≡◌, ◌^◌, ◌-◌, pos, negsuc, Ok, Err, refl}
use Rattle.lua_num.specs.Arith.{wrap, floor_remainder, negation, outcome}
use Rattle.lua_num.specs.declared.arith.ArithOp.{ArithOp}
use Rattle.lua_num.specs.declared.arith.NumFault.{NumFault}

-- `negsuc n` is -(n + 1)
past_greatest_is_least : wrap (pos (2 ^ 63)) ≡ negsuc (2 ^ 63 - 1)
past_greatest_is_least = refl

below_least_is_greatest : wrap (negsuc (2 ^ 63)) ≡ pos (2 ^ 63 - 1)
below_least_is_greatest = refl

least_is_its_own_negation : negation (negsuc (2 ^ 63 - 1)) ≡ negsuc (2 ^ 63 - 1)
least_is_its_own_negation = refl

-- the remainder of -7 by 3 is 2, and that of 7 by -3 is -2
remainder_has_the_sign_of_the_divisor : floor_remainder (negsuc 6) (pos 3) ≡ pos 2
remainder_has_the_sign_of_the_divisor = refl

remainder_below_zero : floor_remainder (pos 7) (negsuc 2) ≡ negsuc 1
remainder_below_zero = refl

division_truncates : outcome ArithOp.Div (negsuc 6) (pos 2) ≡ Ok (negsuc 2)
division_truncates = refl

no_division_by_zero : outcome ArithOp.Div (pos 1) (pos 0) ≡ Err NumFault.DivideByZero
no_division_by_zero = refl

two_to_the_tenth : outcome ArithOp.Pow (pos 2) (pos 10) ≡ Ok (pos 1024)
two_to_the_tenth = refl

no_exponent_below_zero : outcome ArithOp.Pow (pos 2) (negsuc 0) ≡ Err NumFault.NegativeExponent
no_exponent_below_zero = refl
