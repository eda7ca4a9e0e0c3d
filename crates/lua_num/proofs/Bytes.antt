-- Tests of each byte of a text.
use Rattle.std.proofs.Common.{◌≡◌, ℕ, Bool, true, false, not, ◌&&◌, List, [], ◌∷◌, ◌++◌, refl, sym, ap, ◌∙◌, arith, true≢false}
use Rattle.std.specs.Prelude.{◌⊎◌}
use Rattle.std.specs.Char.{IsAsciiDigit, IsAsciiHexdigit}
use Rattle.std.specs.List.{AllByRecursion, list_all}
use Rattle.std.proofs.lemmas.Bool.Decides.{nat_tests}
use Rattle.lua_num.specs.Bytes.{is_space, is_digit, is_hex_digit, Each}
use Rattle.lua_num.specs.Reading.{is_no_space}

both_true : (a b : Bool) → (a && b) ≡ true → (a ≡ true) × (b ≡ true)
both_true true b h = (refl, h)
both_true false b h = absurd (true≢false (sym h))

pub each_passed : (test : ℕ → Bool) (text : List ℕ) → list_all test text ≡ true → Each test text
each_passed test [] h = tt
each_passed test (byte ∷ text) h = let both = both_true (test byte) (list_all test text) h in (both.0, each_passed test text both.1)

pub each_passing : (test : ℕ → Bool) (text : List ℕ) → Each test text → list_all test text ≡ true
each_passing test [] h = refl
each_passing test (byte ∷ text) h = ap (λ t. t && list_all test text) h.0 ∙ each_passing test text h.1

pub each_join : (test : ℕ → Bool) (text more : List ℕ) → Each test text → Each test more → Each test (text ++ more)
each_join test [] more h k = k
each_join test (byte ∷ text) more h k = (h.0, each_join test text more h.1 k)

pub each_weaker : (test other : ℕ → Bool) → ((byte : ℕ) → test byte ≡ true → other byte ≡ true) → (text : List ℕ) → Each test text → Each other text
each_weaker test other weaker [] h = tt
each_weaker test other weaker (byte ∷ text) h = (weaker byte h.0, each_weaker test other weaker text h.1)

-- the same by std's word
pub each_to : {P : ℕ → Type 0} (test : ℕ → Bool) → ((byte : ℕ) → test byte ≡ true → P byte) → (text : List ℕ) → Each test text → AllByRecursion P text
each_to test passed [] h = tt
each_to test passed (byte ∷ text) h = (passed byte h.0, each_to test passed text h.1)

pub each_from : {P : ℕ → Type 0} (test : ℕ → Bool) → ((byte : ℕ) → P byte → test byte ≡ true) → (text : List ℕ) → AllByRecursion P text → Each test text
each_from test passing [] h = tt
each_from test passing (byte ∷ text) h = (passing byte h.0, each_from test passing text h.1)

-- ---- digits

pub digit_passed : (byte : ℕ) → is_digit byte ≡ true → IsAsciiDigit byte
digit_passed byte h = grind (arith, nat_tests)

pub digit_passing : (byte : ℕ) → IsAsciiDigit byte → is_digit byte ≡ true
digit_passing byte h = grind (arith, nat_tests)

pub hex_passed : (byte : ℕ) → is_hex_digit byte ≡ true → IsAsciiHexdigit byte
hex_passed byte h = grind (arith, nat_tests)

pub hex_passing : (byte : ℕ) → IsAsciiHexdigit byte → is_hex_digit byte ≡ true
hex_passing byte h = grind (arith, nat_tests)

-- ---- the bytes of a numeral are no white space

pub digit_no_space : (byte : ℕ) → is_digit byte ≡ true → is_no_space byte ≡ true
digit_no_space byte h = let digit : IsAsciiDigit byte = digit_passed byte h in grind (arith, nat_tests)

pub hex_no_space : (byte : ℕ) → is_hex_digit byte ≡ true → is_no_space byte ≡ true
hex_no_space byte h = let digit : IsAsciiHexdigit byte = hex_passed byte h in grind (arith, nat_tests)

pub mark_no_space : (mark : ℕ) → (mark ≡ 120) ⊎ (mark ≡ 88) → is_no_space mark ≡ true
mark_no_space mark h = grind (arith, nat_tests)

pub mark_no_digit : (mark : ℕ) → (mark ≡ 120) ⊎ (mark ≡ 88) → is_digit mark ≡ true → ⊥
mark_no_digit mark h d = let digit : IsAsciiDigit mark = digit_passed mark d in grind arith

-- what is no white space
pub not_space : (byte : ℕ) → is_no_space byte ≡ true → is_space byte ≡ false
not_space byte h = by (is_space byte) h
  where
    by : (t : Bool) → not t ≡ true → t ≡ false
    by true e = sym e
    by false e = refl

pub space_not : (byte : ℕ) → is_space byte ≡ true → is_no_space byte ≡ false
space_not byte h = ap not h
