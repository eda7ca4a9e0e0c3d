-- A text has a number as a numeral exactly where it writes that number.
use Rattle.std.proofs.Common.{◌≡◌, ◌≢◌, ℕ, ◌^◌, ◌<◌, Bool, true, false, ◌&&◌, ◌||◌, ◌==◌, if◌then◌else◌, ℤ, pos, negsuc, FitsSigned, w64, List, [], ◌∷◌, Option, Some, None, refl, sym, ap, subst, ◌∙◌, inl, inr, arith}
use Rattle.std.specs.Prelude.{◌⊎◌, ◌↔◌}
use Rattle.std.specs.List.{list_all}
use Rattle.std.proofs.lemmas.Bool.Decides.{nat_tests}
use Rattle.std.proofs.lemmas.Int.{ints}
use Rattle.lua_num.specs.Bytes.{is_digit, is_hex_digit, Each}
use Rattle.lua_num.specs.Arith.{fits}
use Rattle.lua_num.specs.Numeral.{digits_value, hex_value, worth_of, written, kept_if_fits, as_positive, numeral_number}
use Rattle.lua_num.specs.Meets.{IsDecimal, IsHexadecimal, Writes, IsNumeral}
use Rattle.lua_num.proofs.Bytes.{each_passed, each_passing, mark_no_digit}

cons_some : (c : ℕ) (cs : List ℕ) → c ∷ cs ≢ []
cons_some c cs e = cc

pub some_same : {A : Type 0} (x y : A) → Some x ≡ Some y → x ≡ y
some_same x y e = cc

pub no_some : {A B : Type 0} (x : A) → None ≡ Some x → B
no_some x e = absurd (cc)

-- ---- digits

record Digits (test : ℕ → Bool) (worth : List ℕ → ℕ) (text : List ℕ) (value : ℕ) : Type 0 where
  some : text ≢ []
  all : Each test text
  value_is : value ≡ worth text

digits_sound : (test : ℕ → Bool) (worth : List ℕ → ℕ) (text : List ℕ) (value : ℕ) → worth_of test worth text ≡ Some value → Digits test worth text value
digits_sound test worth [] value e = no_some value e
digits_sound test worth (c ∷ cs) value e = by (list_all test (c ∷ cs)) refl e
  where
    by : (b : Bool) → list_all test (c ∷ cs) ≡ b → (if b then Some (worth (c ∷ cs)) else None) ≡ Some value → Digits test worth (c ∷ cs) value
    by true all same = record { some = cons_some c cs; all = each_passed test (c ∷ cs) all; value_is = sym (some_same (worth (c ∷ cs)) value same) }
    by false all same = no_some value same

digits_complete : (test : ℕ → Bool) (worth : List ℕ → ℕ) (text : List ℕ) (value : ℕ) → text ≢ [] → Each test text → value ≡ worth text → worth_of test worth text ≡ Some value
digits_complete test worth [] value n h e = absurd (n refl)
digits_complete test worth (c ∷ cs) value n h e = ap (λ b. if b then Some (worth (c ∷ cs)) else None) (each_passing test (c ∷ cs) h) ∙ ap Some (sym e)

-- ---- what is written

abbrev is_marked : ℕ → ℕ → Bool
is_marked first mark = (first == 48) && ((mark == 120) || (mark == 88))

decimal_writes : (text : List ℕ) (value : ℕ) → worth_of is_digit digits_value text ≡ Some value → Writes text value
decimal_writes text value e =
    let d : Digits is_digit digits_value text value = digits_sound is_digit digits_value text value e in
    inl (record { some = d.some; digits = d.all; value_is = d.value_is })

mark_is : (first mark : ℕ) → is_marked first mark ≡ true → (first ≡ 48) × ((mark ≡ 120) ⊎ (mark ≡ 88))
mark_is first mark e = (grind (arith, nat_tests), grind (arith, nat_tests))

pub written_sound : (text : List ℕ) (value : ℕ) → written text ≡ Some value → Writes text value
written_sound [] value e = no_some value e
written_sound (c ∷ []) value e = decimal_writes (c ∷ []) value e
written_sound (first ∷ mark ∷ cs) value e = by (is_marked first mark) refl e
  where
    by : (b : Bool) → is_marked first mark ≡ b → (if b then worth_of is_hex_digit hex_value cs else worth_of is_digit digits_value (first ∷ mark ∷ cs)) ≡ Some value → Writes (first ∷ mark ∷ cs) value
    by true t e' =
        let d : Digits is_hex_digit hex_value cs value = digits_sound is_hex_digit hex_value cs value e' in
        let m = mark_is first mark t in
        inr (record { mark = mark; digits = cs; marked = m.1; whole = ap (λ y. y ∷ mark ∷ cs) m.0; some = d.some; digits_are = d.all; value_is = d.value_is })
    by false t e' = decimal_writes (first ∷ mark ∷ cs) value e'

mark_test : (mark : ℕ) → (mark ≡ 120) ⊎ (mark ≡ 88) → ((mark == 120) || (mark == 88)) ≡ true
mark_test mark h = grind (arith, nat_tests)

digit_no_mark : (first mark : ℕ) → is_digit mark ≡ true → is_marked first mark ≡ false
digit_no_mark first mark h = by (is_marked first mark) refl
  where
    by : (b : Bool) → is_marked first mark ≡ b → b ≡ false
    by true e = absurd (mark_no_digit mark (mark_is first mark e).1 h)
    by false e = refl

decimal_complete : (text : List ℕ) (value : ℕ) → IsDecimal text value → written text ≡ Some value
decimal_complete [] value d = absurd (d.some refl)
decimal_complete (c ∷ []) value d = digits_complete is_digit digits_value (c ∷ []) value d.some d.digits d.value_is
decimal_complete (first ∷ mark ∷ cs) value d =
    ap (λ b. if b then worth_of is_hex_digit hex_value cs else worth_of is_digit digits_value (first ∷ mark ∷ cs)) (digit_no_mark first mark d.digits.1.0)
    ∙ digits_complete is_digit digits_value (first ∷ mark ∷ cs) value d.some d.digits d.value_is

hexadecimal_complete : (text : List ℕ) (value : ℕ) → IsHexadecimal text value → written text ≡ Some value
hexadecimal_complete text value h =
    ap written h.whole
    ∙ ap (λ b. if b then worth_of is_hex_digit hex_value h.digits else worth_of is_digit digits_value (48 ∷ h.mark ∷ h.digits)) (mark_test h.mark h.marked)
    ∙ digits_complete is_hex_digit hex_value h.digits value h.some h.digits_are h.value_is

pub written_complete : (text : List ℕ) (value : ℕ) → Writes text value → written text ≡ Some value
written_complete text value (inl d) = decimal_complete text value d
written_complete text value (inr h) = hexadecimal_complete text value h

-- a text writes one value
pub one_value : (text : List ℕ) (v w : ℕ) → Writes text v → Writes text w → v ≡ w
one_value text v w a b = some_same v w (sym (written_complete text v a) ∙ written_complete text w b)

-- ---- numbers of 64 bits

fits_passed : (z : ℤ) → fits z ≡ true → FitsSigned w64 z
fits_passed (pos n) e = let small : n < 2 ^ 63 = grind (arith, nat_tests) in omega (arith, ints)
fits_passed (negsuc n) e = let small : n < 2 ^ 63 = grind (arith, nat_tests) in omega (arith, ints)

fits_passing : (z : ℤ) → FitsSigned w64 z → fits z ≡ true
fits_passing (pos n) f = let small : n < 2 ^ 63 = omega (arith, ints) in grind (arith, nat_tests)
fits_passing (negsuc n) f = let small : n < 2 ^ 63 = omega (arith, ints) in grind (arith, nat_tests)

pub kept_sound : (z n : ℤ) → kept_if_fits z ≡ Some n → (n ≡ z) × FitsSigned w64 n
kept_sound z n e = by (fits z) refl e
  where
    by : (b : Bool) → fits z ≡ b → (if b then Some z else None) ≡ Some n → (n ≡ z) × FitsSigned w64 n
    by true t e' = let same : z ≡ n = some_same z n e' in (sym same, subst (FitsSigned w64) same (fits_passed z t))
    by false t e' = no_some n e'

pub kept_complete : (z : ℤ) → FitsSigned w64 z → kept_if_fits z ≡ Some z
kept_complete z f = ap (λ b. if b then Some z else None) (fits_passing z f)

-- ---- numerals

pub numeral_sound : (text : List ℕ) (n : ℤ) → numeral_number text ≡ Some n → IsNumeral text n
numeral_sound text n e = by (written text) refl e
  where
    by : (o : Option ℕ) → written text ≡ o → as_positive o ≡ Some n → IsNumeral text n
    by None t e' = no_some n e'
    by (Some value) t e' =
        let kept = kept_sound (pos value) n e' in
        let small : FitsSigned w64 (pos value) = subst (FitsSigned w64) kept.0 kept.1 in
        record { value = value; writes = written_sound text value t; small = small.sfits; number_is = kept.0 }

pub numeral_complete : (text : List ℕ) (n : ℤ) → IsNumeral text n → numeral_number text ≡ Some n
numeral_complete text n h =
    ap as_positive (written_complete text h.value h.writes) ∙ kept_complete (pos h.value) (record { sfits = h.small }) ∙ ap Some (sym h.number_is)

pub numeral_is : (text : List ℕ) (n : ℤ) → (numeral_number text ≡ Some n) ↔ IsNumeral text n
numeral_is text n = (numeral_sound text n, numeral_complete text n)
