-- What std reads from digits is what they are worth.
use Rattle.std.proofs.Common.{◌≡◌, ◌≢◌, ℕ, ◌<◌, ◌≤◌, ◌+◌, ◌*◌, ◌^◌, List, [], ◌∷◌, ◌++◌, length, get_or, Option, None, Some, Result, Ok, Err, SomeIff, OkIff, IfSome, IfNone, ℤ, pos, FitsSigned, w64, refl, sym, ap, subst, ◌∙◌, inl, inr, rules, arith}
use Rattle.std.specs.Char.{IsAsciiDigit, IsAsciiHexdigit, digit_value}
use Rattle.std.specs.List.{AllByRecursion}
use Rattle.std.specs.Prelude.{codes, zero, suc, ◌⊎◌}
use Rattle.std.specs.Result.{result_ok}
use Rattle.std.specs.Str.{IsUtf8, IsAscii}
use Rattle.std.specs.Str.Parse.{AllDigits, IsNumeral as IsRadixNumeral, digits_value as radix_digits_value, digits_value_after, ParsesUnsigned}
use Rattle.std.proofs.lemmas.Bool.Decides.{nat_tests}
use Rattle.std.proofs.lemmas.Str.Parse.{IsNumeralModel, numerals_by_weight, without_leading_plus_none}
use Rattle.std.proofs.lemmas.Str.{IsUtf8-from_ascii}
use Rattle.std.proofs.Math.Nat.{pow-zero, pow-succ'}
use Rattle.lua_num.specs.Bytes.{is_digit, is_hex_digit, Each}
use Rattle.lua_num.specs.Numeral.{digits_value, hex_value, numeral_number}
use Rattle.lua_num.specs.Meets.{IsDecimal, IsHexadecimal, Writes, IsNumeral}
use Rattle.lua_num.specs.Reading.{HasMark, GivesValue}
use Rattle.lua_num.proofs.Bytes.{each_to, each_from, digit_passed, digit_passing, hex_passed, hex_passing, mark_no_digit}
use Rattle.lua_num.proofs.Written.{one_value, numeral_sound, numeral_complete}

pub own : IsNumeralModel (AllByRecursion IsAsciiDigit) digits_value
own = numerals_by_weight _ (search rules) digits_value (search rules)

digits_to : (digits : List ℕ) → Each is_digit digits → AllDigits 10 digits
digits_to digits h = own.to digits (each_to is_digit digit_passed digits h)

digits_from : (digits : List ℕ) → AllDigits 10 digits → Each is_digit digits
digits_from digits h = each_from is_digit digit_passing digits (own.from digits h)

pub some_nonempty : (text : List ℕ) → 0 < length text → text ≢ []
some_nonempty [] h = absurd (omega arith)
some_nonempty (x ∷ xs) h = λ e. cc

pub nonempty_some : (text : List ℕ) → text ≢ [] → 0 < length text
nonempty_some [] h = absurd (h refl)
nonempty_some (x ∷ xs) h = omega arith

-- hexadecimal digits
hex_below : (byte : ℕ) → IsAsciiHexdigit byte → digit_value byte < 16
hex_below byte h = grind (arith, nat_tests)

below_hex : (byte : ℕ) → digit_value byte < 16 → IsAsciiHexdigit byte
below_hex byte h = grind (arith, nat_tests)

hex_to : (digits : List ℕ) → Each is_hex_digit digits → AllDigits 16 digits
hex_to [] h = tt
hex_to (digit ∷ digits) h = (hex_below digit (hex_passed digit h.0), hex_to digits h.1)

hex_from : (digits : List ℕ) → AllDigits 16 digits → Each is_hex_digit digits
hex_from [] h = tt
hex_from (digit ∷ digits) h = (hex_passing digit (below_hex digit h.0), hex_from digits h.1)

hex_after : (n : ℕ) (digits : List ℕ) → n * 16 ^ length digits + hex_value digits ≡ digits_value_after 16 n digits
hex_after n [] = omega (arith, ap (λ x. n * x) (pow-zero 16))
hex_after n (digit ∷ digits) = omega (arith, ap (λ x. n * x) (pow-succ' 16 (length digits)), hex_after (n * 16 + digit_value digit) digits)

hex_same : (digits : List ℕ) → hex_value digits ≡ radix_digits_value 16 digits
hex_same digits = omega (arith, hex_after 0 digits)

-- digits of a radix are text, and no plus sign
digit_ascii : (byte radix : ℕ) → radix ≤ 36 → digit_value byte < radix → byte < 128
digit_ascii byte radix h d = grind (arith, nat_tests)

digits_ascii : (radix : ℕ) (digits : List ℕ) → radix ≤ 36 → AllDigits radix digits → IsAscii digits
digits_ascii radix [] h d i = omega arith
digits_ascii radix (digit ∷ digits) h d zero = digit_ascii digit radix h d.0
digits_ascii radix (digit ∷ digits) h d (suc i) = digits_ascii radix digits h d.1 i

pub digits_utf8 : (radix : ℕ) (digits : List ℕ) → radix ≤ 36 → AllDigits radix digits → IsUtf8 digits
digits_utf8 radix digits h d = IsUtf8-from_ascii digits (digits_ascii radix digits h d)

pub no_plus : (radix : ℕ) (digits : List ℕ) → radix ≤ 36 → AllDigits radix digits → get_or digits 0 0 ≢ 43
no_plus radix [] h d e = omega arith
no_plus radix (digit ∷ digits) h d e = let small : digit_value 43 < radix = subst (λ (b : ℕ). digit_value b < radix) e d.0 in omega arith

-- what `ok` keeps of a result
pub some_if_ok : {T E : Type 0} (P : Type 0) (v : T) (r : Result T E) → OkIff r P v → SomeIff (result_ok r) P v
some_if_ok P v (Ok n) h = h
some_if_ok P v (Err e) h = h

-- what `from_str_radix` gives for a text with no plus sign
pub parsed : {E : Type 0} (radix : ℕ) (digits : List ℕ) (r : Result ℕ E) → get_or digits 0 0 ≢ 43 → ParsesUnsigned 64 radix digits r → GivesValue radix digits (result_ok r)
parsed radix digits r plain h =
    some_if_ok _ _ r (subst (λ (l : List ℕ). OkIff r (IsRadixNumeral radix l × (radix_digits_value radix l < 2 ^ 64)) (radix_digits_value radix l)) (without_leading_plus_none digits plain) h)

-- what reading digits gives is what the text writes
pub record Wrote (text : List ℕ) (o : Option ℕ) : Type 0 where
  pub value : IfSome o (Writes text)
  pub none : IfNone o ((value : ℕ) → value < 2 ^ 64 → Writes text value → ⊥)

marked_has : (text : List ℕ) (value : ℕ) (is : IsHexadecimal text value) → HasMark text is.digits
marked_has text value is = elim is.marked [ inl e ↦ inl (rw (← e) is.whole) | inr e ↦ inr (rw (← e) is.whole) ]

pub wrote_decimal : (text : List ℕ) (o : Option ℕ) → ((digits : List ℕ) → HasMark text digits → ⊥) → GivesValue 10 text o → Wrote text o
wrote_decimal text (Some n) plain h = record {
  value = inl (record { some = some_nonempty text h.0.0.0; digits = digits_from text h.0.0.1; value_is = h.1 ∙ sym (own.same text h.0.0.1) });
  none = tt;
}
wrote_decimal text None plain h = record {
  value = tt;
  none = λ value below writes. elim writes [
    | inl is ↦ let all = digits_to text is.digits in h ((nonempty_some text is.some, all), omega (arith, own.same text all, is.value_is))
    | inr is ↦ plain is.digits (marked_has text value is)
  ];
}

-- a marked text is no decimal numeral
marked_split : (text digits : List ℕ) → HasMark text digits → (mark : ℕ) × ((mark ≡ 120) ⊎ (mark ≡ 88)) × (text ≡ codes "0" ++ mark ∷ digits)
marked_split text digits has = elim has [ inl e ↦ (120, inl refl, e) | inr e ↦ (88, inr refl, e) ]

marked_no_decimal : (text digits : List ℕ) (value : ℕ) → HasMark text digits → IsDecimal text value → ⊥
marked_no_decimal text digits value has is =
    let split = marked_split text digits has in
    mark_no_digit split.0 split.1 (subst (Each is_digit) split.2 is.digits).1.0

marked_digits : (text digits : List ℕ) (value : ℕ) → HasMark text digits → (is : IsHexadecimal text value) → is.digits ≡ digits
marked_digits text digits value has is =
    let split = marked_split text digits has in
    let both : 48 ∷ is.mark ∷ is.digits ≡ 48 ∷ split.0 ∷ digits = sym is.whole ∙ split.2 in
    cc

pub wrote_hexadecimal : (text digits : List ℕ) (o : Option ℕ) → HasMark text digits → GivesValue 16 digits o → Wrote text o
wrote_hexadecimal text digits (Some n) has h =
    let split = marked_split text digits has in
    record {
      value = inr (record { mark = split.0; digits = digits; marked = split.1; whole = split.2; some = some_nonempty digits h.0.0.0; digits_are = hex_from digits h.0.0.1; value_is = h.1 ∙ sym (hex_same digits) });
      none = tt;
    }
wrote_hexadecimal text digits None has h = record {
  value = tt;
  none = λ value below writes. elim writes [
    | inl is ↦ marked_no_decimal text digits value has is
    | inr is ↦
        let same : is.digits ≡ digits = marked_digits text digits value has is in
        let all = hex_to is.digits is.digits_are in
        let is_one : IsRadixNumeral 16 is.digits = (nonempty_some is.digits is.some, all) in
        h (subst (λ (l : List ℕ). IsRadixNumeral 16 l × (radix_digits_value 16 l < 2 ^ 64)) same (is_one, omega (arith, hex_same is.digits, is.value_is)))
  ];
}

-- what has no number is None
pub found_is : (found : Option ℤ) → ((n : ℤ) → found ≡ Some n → ⊥) → None ≡ found
found_is None h = refl
found_is (Some n) h = absurd (h n refl)

-- what reading a numeral gives
pub numeral_read : (text : List ℕ) (value : ℕ) (o : Option ℤ) → Writes text value → SomeIff o (FitsSigned w64 (pos value)) (pos value) → o ≡ numeral_number text
numeral_read text value (Some n) writes h = sym (numeral_complete text n (record { value = value; writes = writes; small = h.0.sfits; number_is = h.1 }))
numeral_read text value None writes h = found_is (numeral_number text) (λ n e.
    let is : IsNumeral text n = numeral_sound text n e in
    h (record { sfits = omega (arith, one_value text is.value value is.writes writes, is.small) }))

pub numeral_none : (text : List ℕ) → ((value : ℕ) → value < 2 ^ 64 → Writes text value → ⊥) → None ≡ numeral_number text
numeral_none text h = found_is (numeral_number text) (λ n e. let is : IsNumeral text n = numeral_sound text n e in h is.value (omega (arith, is.small)) is.writes)
