-- Numbers with a sign are their decimal texts.
use Rattle.std.proofs.Common.{◌≡◌, ℕ, zero, suc, ◌<◌, ◌≤◌, ◌^◌, ℤ, pos, negsuc, FitsSigned, w64, ◌∷◌, ◌++◌, Option, None, Some, refl, sym, ap, subst, arith, codes}
use Rattle.std.proofs.lemmas.Bool.{ne_eqb}
use Rattle.std.proofs.lemmas.Int.{ints}
use Rattle.std.specs.Fmt.{decimal}
use Rattle.lua_num.specs.Bytes.{Text}
use Rattle.lua_num.specs.Numeral.{decimal_text}
use Rattle.asm_text.specs.Reading.{◌&>=◌, after, number_at, negated, signed_from, signed_at, whole_number_at}
use Rattle.asm_text.proofs.Cutting.{the_same, after_there, after_back}
use Rattle.asm_text.proofs.Fronts.{NoDigit, Takes, Wholes, whole_of}
use Rattle.asm_text.proofs.Digits.{takes_number, first_of_decimal}

-- above minus low, and below high
abbrev pub Within : (low high : ℕ) → ℤ → Type 0
Within low high (pos n) = n < high
Within low high (negsuc n) = suc n < low

abbrev IsSigned : (low high : ℕ) → Text → ℤ × Text → Type 0
IsSigned low high text x = (text ≡ decimal_text x.0 ++ x.1) × Within low high x.0

negated_back : (low high : ℕ) (rest : Text) (y : ℕ × Text) (x : ℤ × Text) → (rest ≡ decimal y.0 ++ y.1) × (y.0 < low) → negated y ≡ Some x → IsSigned low high (45 ∷ rest) x
negated_back low high rest (zero, r) x h e = absurd cc
negated_back low high rest (suc n, r) x h e = subst (IsSigned low high (45 ∷ rest)) (the_same {A = ℤ × Text} (negsuc n, r) x e) (ap (λ (t : Text). 45 ∷ t) h.0, h.1)

below_zero : (low high : ℕ) (rest : Text) (r : Option (ℕ × Text)) (x : ℤ × Text) → ((y : ℕ × Text) → r ≡ Some y → (rest ≡ decimal y.0 ++ y.1) × (y.0 < low)) → (r &>= negated) ≡ Some x → IsSigned low high (45 ∷ rest) x
below_zero low high rest None x h e = absurd cc
below_zero low high rest (Some y) x h e = negated_back low high rest y x (h y refl) e

not_below : (low high : ℕ) (text : Text) (r : Option (ℕ × Text)) (x : ℤ × Text) → ((y : ℕ × Text) → r ≡ Some y → (text ≡ decimal y.0 ++ y.1) × (y.0 < high)) → (r &>= λ y. Some (pos y.0, y.1)) ≡ Some x → IsSigned low high text x
not_below low high text None x h e = absurd cc
not_below low high text (Some y) x h e = subst (IsSigned low high text) (the_same {A = ℤ × Text} (pos y.0, y.1) x e) (h y refl)

module _ (low high : ℕ) (low_big : 10 ≤ low) (low_wide : low ≤ 10 ^ 64) (high_big : 10 ≤ high) (high_wide : high ≤ 10 ^ 64) where
  signed_back : (text : Text) (r : Option Text) (x : ℤ × Text) → after (codes "-") text ≡ r → signed_from low high text r ≡ Some x → IsSigned low high text x
  signed_back text None x q e = not_below low high text (number_at high text) x ((takes_number high high_big high_wide).sound text) e
  signed_back text (Some rest) x q e =
      let s = below_zero low high rest (number_at low rest) x ((takes_number low low_big low_wide).sound rest) e in
      subst (λ t. IsSigned low high t x) (sym (after_back (codes "-") text rest q)) s

  no_sign : (n : ℕ) (rest : Text) → n < 10 ^ 64 → after (codes "-") (decimal n ++ rest) ≡ None
  unfolding after
  no_sign n rest wide =
      let f = first_of_decimal n wide in
      rw (f.is, ne_eqb f.digit 45 (omega (arith, f.low))) refl

  signed_there : (z : ℤ) (rest : Text) → Within low high z → NoDigit rest → signed_at low high (decimal_text z ++ rest) ≡ Some (z, rest)
  unfolding signed_at
  signed_there (pos n) rest fits none =
      let e : number_at high (decimal n ++ rest) ≡ Some (n, rest) = (takes_number high high_big high_wide).complete n rest fits none in
      rw (no_sign n rest (omega (arith, high_wide)), e) refl
  signed_there (negsuc n) rest fits none =
      let e : number_at low (decimal (suc n) ++ rest) ≡ Some (suc n, rest) = (takes_number low low_big low_wide).complete (suc n) rest fits none in
      rw (after_there (codes "-") (decimal (suc n) ++ rest), e) refl

  pub takes_signed : Takes (signed_at low high) decimal_text (Within low high)
  unfolding signed_at
  takes_signed = record {
    sound = λ text x e. signed_back text (after (codes "-") text) x refl e;
    complete = λ z rest good none. signed_there z rest good none;
  }

-- ---- the numbers of constants

pub whole_numbers : Wholes whole_number_at decimal_text (Within 9223372036854775809 9223372036854775808)
unfolding whole_number_at
whole_numbers = whole_of (takes_signed 9223372036854775809 9223372036854775808 (omega arith) (omega arith) (omega arith) (omega arith))

pub fits_from : (z : ℤ) → Within 9223372036854775809 9223372036854775808 z → FitsSigned w64 z
fits_from (pos n) h = omega (arith, ints)
fits_from (negsuc n) h = omega (arith, ints)

pub fits_to : (z : ℤ) → FitsSigned w64 z → Within 9223372036854775809 9223372036854775808 z
fits_to (pos n) h = omega (arith, ints)
fits_to (negsuc n) h = omega (arith, ints)
