-- From the remainder of the quotient toward zero to the one of the floor.
use Rattle.std.proofs.Common.{◌≡◌, ◌≢◌, ◌<◌, Bool, true, false, not, ℤ, pos, negsuc, ◌+ℤ◌, ◌-ℤ◌, ◌*ℤ◌, unsigned_abs, int_lt, int_div, int_rem, FitsSigned, w64, refl, sym, ap, subst, ◌∙◌, inl, inr, arith}
use Rattle.std.specs.Int.{cast_signed, cast_unsigned}
use Rattle.std.proofs.Math.IntN.{pred_ℤ, pred_ℤ-*ℤ, *ℤ_comm}
use Rattle.std.proofs.lemmas.Int.{ints, quot-rem, rem_below, to_z-of_z}
use mathlib.Core.Bool.{beq}
use Rattle.lua_num.specs.Meets.{IsFloorRemainder, IsBelow}

pub zero_from_bits : (z : ℤ) → FitsSigned w64 z → cast_unsigned w64 z ≡ 0 → z ≡ pos 0
zero_from_bits (pos n) f e = ap pos e
zero_from_bits (negsuc n) f e = let small = f.sfits in absurd (omega arith)

nonzero_size : (z : ℤ) → (cast_unsigned w64 z ≡ 0 → ⊥) → 0 < unsigned_abs z
nonzero_size (pos n) h = omega arith
nonzero_size (negsuc n) h = omega arith

-- the remainder toward zero, where it has the sign of the divisor or is 0
same_sign : (b r : ℤ) → unsigned_abs r < unsigned_abs b → not (beq (int_lt r (pos 0)) (int_lt b (pos 0))) ≡ false → IsBelow b r
same_sign b r h = by (int_lt r (pos 0)) (int_lt b (pos 0)) refl refl
  where
    by : (t u : Bool) → int_lt r (pos 0) ≡ t → int_lt b (pos 0) ≡ u → not (beq t u) ≡ false → IsBelow b r
    by true true p q e = inr (omega (arith, ints), omega (arith, ints))
    by true false p q e = absurd (cc)
    by false true p q e = absurd (cc)
    by false false p q e = inl (omega (arith, ints), omega (arith, ints))

zero_below : (b : ℤ) → 0 < unsigned_abs b → IsBelow b (pos 0)
zero_below (pos n) h = inl (omega (arith, ints), omega (arith, ints))
zero_below (negsuc n) h = inr (omega (arith, ints), omega (arith, ints))

-- where it has the other sign, the divisor is added
other_sign : (b r : ℤ) → unsigned_abs r < unsigned_abs b → r ≢ pos 0 → not (beq (int_lt r (pos 0)) (int_lt b (pos 0))) ≡ true → IsBelow b (r +ℤ b)
other_sign b r h some = by (int_lt r (pos 0)) (int_lt b (pos 0)) refl refl
  where
    by : (t u : Bool) → int_lt r (pos 0) ≡ t → int_lt b (pos 0) ≡ u → not (beq t u) ≡ true → IsBelow b (r +ℤ b)
    by true true p q e = absurd (cc)
    by true false p q e = inl (omega (arith, ints), omega (arith, ints))
    by false true p q e = inr (omega (arith, ints), omega (arith, ints))
    by false false p q e = absurd (cc)

whole_of : (a b r : ℤ) → r ≡ int_rem a b → a ≡ b *ℤ int_div a b +ℤ r
whole_of a b r e = sym (quot-rem a b) ∙ ap (λ p. p +ℤ int_rem a b) (*ℤ_comm (int_div a b) b) ∙ ap (λ x. b *ℤ int_div a b +ℤ x) (sym e)

small_of : (a b r : ℤ) → (cast_unsigned w64 b ≡ 0 → ⊥) → r ≡ int_rem a b → unsigned_abs r < unsigned_abs b
small_of a b r some e = rw e (rem_below a b (nonzero_size b some))

pub kept : (a b r : ℤ) → (cast_unsigned w64 b ≡ 0 → ⊥) → r ≡ int_rem a b → not (beq (int_lt r (pos 0)) (int_lt b (pos 0))) ≡ false → IsFloorRemainder a b r
kept a b r some e sign = record { quotient = int_div a b; whole = whole_of a b r e; below = same_sign b r (small_of a b r some e) sign }

pub divides : (a b r : ℤ) → FitsSigned w64 r → (cast_unsigned w64 b ≡ 0 → ⊥) → r ≡ int_rem a b → cast_unsigned w64 r ≡ 0 → IsFloorRemainder a b r
divides a b r f some e none =
    let zero_rest = zero_from_bits r f none in
    record { quotient = int_div a b; whole = whole_of a b r e; below = rw zero_rest (zero_below b (nonzero_size b some)) }

fits_below : (b r : ℤ) → FitsSigned w64 b → IsBelow b r → FitsSigned w64 r
fits_below b r f (inl h) = omega (arith, ints)
fits_below b r f (inr h) = omega (arith, ints)

moved_whole : (p m r b : ℤ) → m ≡ p -ℤ b → p +ℤ r ≡ m +ℤ (r +ℤ b)
moved_whole p m r b e = omega (arith, ints)

pub moved : (a b r : ℤ) → FitsSigned w64 b → (cast_unsigned w64 b ≡ 0 → ⊥) → r ≡ int_rem a b → (cast_unsigned w64 r ≡ 0 → ⊥)
    → not (beq (int_lt r (pos 0)) (int_lt b (pos 0))) ≡ true → IsFloorRemainder a b (cast_signed w64 (cast_unsigned w64 (r +ℤ b)))
moved a b r f some e rest sign =
    let q = int_div a b in
    let less : b *ℤ pred_ℤ q ≡ b *ℤ q -ℤ b = *ℤ_comm b (pred_ℤ q) ∙ pred_ℤ-*ℤ q b ∙ ap (λ x. x -ℤ b) (*ℤ_comm q b) in
    let below = other_sign b r (small_of a b r some e) (λ is. rest (ap (cast_unsigned w64) is)) sign in
    let moved_rest : IsFloorRemainder a b (r +ℤ b) = record { quotient = pred_ℤ q; whole = whole_of a b r e ∙ moved_whole (b *ℤ q) (b *ℤ pred_ℤ q) r b less; below = below } in
    subst (IsFloorRemainder a b) (sym (to_z-of_z w64 (r +ℤ b) (fits_below b (r +ℤ b) f below))) moved_rest
