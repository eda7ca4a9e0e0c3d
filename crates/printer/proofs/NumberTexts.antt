-- Decimal digits of a number of 64 bits stand as its numeral where no byte of a numeral follows.
use Rattle.std.proofs.Common.{◌≡◌, ◌≢◌, ℕ, ◌||◌, ◌<◌, ◌^◌, ◌==◌, pos, decimal, Bool, true, false, List, [], ◌∷◌, ◌++◌, refl, sym, ap, inl, arith}
use Rattle.std.proofs.lemmas.Fmt.{digits_decimal, digits_value-decimal, decimal_nonempty}
use Rattle.lua_num.specs.Bytes.{is_digit, Each, BeginsWithout}
use Rattle.lua_num.specs.Meets.{IsNumeral}
use Rattle.lua_num.specs.Numeral.{digits_value}
use Rattle.lua_num.proofs.Bytes.{each_from, each_weaker, digit_passing}
use Rattle.lua_num.proofs.Numerals.{own, some_nonempty}
use Rattle.lua_num.proofs.Written.{numeral_complete}
use Rattle.lua_tree.specs.Bytes.{is_letter, is_numeral}
use Rattle.lua_tree.specs.Tokens.{IsNumber, BeginsNumeral}

pub decimal_digits : (n : ℕ) → n < 2 ^ 63 → Each is_digit (decimal n)
decimal_digits n small = let wide : n < 2 ^ 64 = omega (arith, small) in each_from is_digit digit_passing (decimal n) (digits_decimal own n wide)

pub decimal_some : (n : ℕ) → n < 2 ^ 63 → decimal n ≢ []
decimal_some n small = let wide : n < 2 ^ 64 = omega (arith, small) in some_nonempty (decimal n) (decimal_nonempty n wide)

either_true : (a b : Bool) → b ≡ true → (a || b) ≡ true
either_true true b e = refl
either_true false b e = e

digit_numeral : (byte : ℕ) → is_digit byte ≡ true → is_numeral byte ≡ true
digit_numeral byte e = ap (λ b. b || (byte == 46)) (either_true (is_letter byte) (is_digit byte) e)

begins_numeral : (text after : List ℕ) → text ≢ [] → Each is_digit text → BeginsNumeral (text ++ after)
begins_numeral [] after some digits = absurd (some refl)
begins_numeral (byte ∷ text) after some digits = inl digits.0

pub number_stands : (n : ℕ) (after : List ℕ) → n < 2 ^ 63 → BeginsWithout is_numeral after → IsNumber (pos n) (decimal n) after
number_stands n after small follows =
    let wide : n < 2 ^ 64 = omega (arith, small) in
    let digits = decimal_digits n small in
    let some = decimal_some n small in
    let value_is : n ≡ digits_value (decimal n) = sym (digits_value-decimal own n wide) in
    let numeral : IsNumeral (decimal n) (pos n) = record { value = n; writes = inl (record { some = some; digits = digits; value_is = value_is }); small = small; number_is = refl } in
    record {
      begins = begins_numeral (decimal n) after some digits;
      run = record { each = each_weaker is_digit is_numeral digit_numeral (decimal n) digits; longest = follows };
      numeral = numeral_complete (decimal n) (pos n) numeral;
    }
