-- The folded number of an expression is none below those of 64 bits.
use Rattle.std.proofs.Common.{◌≡◌, ◌≢◌, ℕ, zero, suc, true, ◌<◌, ◌^◌, Option, Some, ℤ, pos, negsuc, ◌+ℤ◌, ◌-ℤ◌, ◌*ℤ◌, FitsSigned, w64, refl, sym, subst, arith, inl, inr}
use Rattle.std.proofs.lemmas.Int.{ints}
use Rattle.std.proofs.lemmas.Option.{same_Some}
use Rattle.std.specs.Prelude.{int_div}
use Rattle.std.specs.Result.{result_ok}
use Rattle.lua_num.proofs.Wraps.{remainder_is, wrap_is, wrapped}
use Rattle.lua_num.specs.Arith.{floor_remainder, outcome, power, wrap}
use Rattle.lua_num.specs.Meets.{IsBelow, IsWrapped}
use Rattle.lua_num.specs.declared.arith.ArithOp.{ArithOp}
use Rattle.lua_tree.specs.Syntax.{Expression, binary_expression, number_literal, parenthesized, unary_expression}
use Rattle.lua_tree.specs.WellFormed.{is_numeral_value}
use Rattle.lua_tree.specs.declared.tree.UnaryOp.{UnaryOp}
use Rattle.scheme.specs.Expressions.{arith_op, fold, fold_binary, fold_unary}
use Rattle.reads_back.specs.Cores.{HasCore}

-- a number that is not negative, or fits 64 bits
abbrev pub IsWhole : ℤ → Type 0
IsWhole (pos n) = Unit {0}
IsWhole (negsuc n) = n < 2 ^ 63

pub wraps_back : (n : ℕ) → n < 2 ^ 63 → wrap (negsuc n) ≡ negsuc n
wraps_back n small = sym (wrapped is)
  where
    is : IsWrapped (negsuc n) (negsuc n)
    is = record { fits = omega (arith, ints, small); turns = pos 0; same = omega (arith, ints) }

fits_whole : (n : ℤ) → FitsSigned w64 n → IsWhole n
fits_whole (pos n) fits = tt
fits_whole (negsuc n) fits = omega (arith, ints, fits)

-- a remainder is above a divisor that is negative
below_whole : (b r : ℤ) → IsWhole b → IsBelow b r → IsWhole r
below_whole b (pos r) whole below = tt
below_whole (pos b) (negsuc r) whole (inl within) = absurd (omega (arith, ints, within.0))
below_whole (pos b) (negsuc r) whole (inr within) = absurd (omega (arith, ints, within.0))
below_whole (negsuc b) (negsuc r) whole (inl within) = absurd (omega (arith, ints, within.0))
below_whole (negsuc b) (negsuc r) whole (inr within) = omega (arith, ints, within.0, whole)

remainder_whole : (a b n : ℤ) → b ≢ pos 0 → IsWhole b → Some (floor_remainder a b) ≡ Some n → IsWhole n
remainder_whole a b n some whole is = subst IsWhole (same_Some (floor_remainder a b) n is) (below_whole b (floor_remainder a b) whole (remainder_is a b some).below)

wrap_whole : (z n : ℤ) → Some (wrap z) ≡ Some n → IsWhole n
wrap_whole z n is = subst IsWhole (same_Some (wrap z) n is) (fits_whole (wrap z) (wrap_is z).fits)

outcome_whole : (op : ArithOp) (a b n : ℤ) → IsWhole b → result_ok (outcome op a b) ≡ Some n → IsWhole n
outcome_whole ArithOp.Add a b n whole is = wrap_whole (a +ℤ b) n is
outcome_whole ArithOp.Sub a b n whole is = wrap_whole (a -ℤ b) n is
outcome_whole ArithOp.Mul a b n whole is = wrap_whole (a *ℤ b) n is
outcome_whole ArithOp.Div a (pos zero) n whole is = cc
outcome_whole ArithOp.Div a (pos (suc b)) n whole is = wrap_whole (int_div a (pos (suc b))) n is
outcome_whole ArithOp.Div a (negsuc b) n whole is = wrap_whole (int_div a (negsuc b)) n is
outcome_whole ArithOp.Rem a (pos zero) n whole is = cc
outcome_whole ArithOp.Rem a (pos (suc b)) n whole is = remainder_whole a (pos (suc b)) n (λ none. cc) whole is
outcome_whole ArithOp.Rem a (negsuc b) n whole is = remainder_whole a (negsuc b) n (λ none. cc) whole is
outcome_whole ArithOp.Pow a (pos b) n whole is = wrap_whole (power a b) n is
outcome_whole ArithOp.Pow a (negsuc b) n whole is = cc

binary_whole : (op : Option ArithOp) (left right : Option ℤ) (n : ℤ) → ((b : ℤ) → right ≡ Some b → IsWhole b) → fold_binary op left right ≡ Some n → IsWhole n
binary_whole (Some op) (Some a) (Some b) n whole is = outcome_whole op a b n (whole b refl) is
binary_whole op left right n whole is = cc

unary_whole : (op : UnaryOp) (of : Option ℤ) (n : ℤ) → fold_unary op of ≡ Some n → IsWhole n
unary_whole UnaryOp.Neg (Some a) n is = wrap_whole (pos 0 -ℤ a) n is
unary_whole op of n is = cc

literal_whole : (n : ℤ) → is_numeral_value n ≡ true → IsWhole n
literal_whole (pos n) has = tt
literal_whole (negsuc n) has = cc

pub folded_whole : (e : Expression) → HasCore e → (n : ℤ) → fold e ≡ Some n → IsWhole n
folded_whole (number_literal line k) has n is = subst IsWhole (same_Some k n is) (literal_whole k has)
folded_whole (parenthesized line e) has n is = folded_whole e has n is
folded_whole (unary_expression line op e) has n is = unary_whole op (fold e) n is
folded_whole (binary_expression line op left right) has n is = binary_whole (arith_op op) (fold left) (fold right) n (folded_whole right has.2) is
folded_whole e has n is = cc
