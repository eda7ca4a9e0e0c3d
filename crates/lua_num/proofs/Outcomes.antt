-- What an operator gives, from what the code does.
use Rattle.std.proofs.Common.{◌≡◌, ◌≢◌, zero, suc, ℤ, pos, negsuc, int_div, Ok, w64, refl, ap}
use Rattle.std.specs.Int.{cast_unsigned}
use Rattle.lua_num.specs.Arith.{wrap, outcome}
use Rattle.lua_num.specs.Meets.{IsFloorRemainder}
use Rattle.lua_num.specs.declared.arith.ArithOp.{ArithOp}
use Rattle.lua_num.proofs.Wraps.{remainder}

not_zero : (b : ℤ) → (cast_unsigned w64 b ≡ 0 → ⊥) → b ≢ pos 0
not_zero b h e = h (ap (cast_unsigned w64) e)

divided : (a b r : ℤ) → b ≢ pos 0 → r ≡ wrap (int_div a b) → Ok r ≡ outcome ArithOp.Div a b
divided a (pos zero) r n e = absurd (n refl)
divided a (pos (suc b)) r n e = ap Ok e
divided a (negsuc b) r n e = ap Ok e

pub quotient : (a b r : ℤ) → (cast_unsigned w64 b ≡ 0 → ⊥) → r ≡ wrap (int_div a b) → Ok r ≡ outcome ArithOp.Div a b
quotient a b r h e = divided a b r (not_zero b h) e

remains : (a b r : ℤ) → b ≢ pos 0 → IsFloorRemainder a b r → Ok r ≡ outcome ArithOp.Rem a b
remains a (pos zero) r n is = absurd (n refl)
remains a (pos (suc b)) r n is = ap Ok (remainder n is)
remains a (negsuc b) r n is = ap Ok (remainder n is)

pub rest : (a b r : ℤ) → (cast_unsigned w64 b ≡ 0 → ⊥) → IsFloorRemainder a b r → Ok r ≡ outcome ArithOp.Rem a b
rest a b r h is = remains a b r (not_zero b h) is
