-- What the code reads from a string with white space and a sign.
use Rattle.std.proofs.Common.{◌≡◌, ◌≢◌, ℕ, zero, suc, ◌<◌, ◌+◌, ◌^◌, Bool, true, false, cond, List, [], ◌∷◌, ◌++◌, take, drop, Option, None, Some, SomeIff, IfSome, IfNone, ℤ, pos, neg_ℤ, ◌-ℤ◌, FitsSigned, w64, refl, sym, ap, subst, ◌∙◌, inl, inr, one-add, arith, true≢false}
use Rattle.std.specs.Prelude.{codes}
use Rattle.std.specs.List.{list_all, prefix_len}
use Rattle.std.proofs.lemmas.Int.{ints}
use Rattle.lua_num.specs.Bytes.{is_space, is_digit, Each, BeginsWithout, IsRun}
use Rattle.lua_num.specs.Numeral.{text_number}
use Rattle.lua_num.specs.Meets.{Writes, Signs, IsNumberText}
use Rattle.lua_num.specs.Reading.{is_no_space, SplitsRun, DropsPlus, WritesWord, WritesSigned}
use Rattle.lua_num.proofs.Bytes.{each_passed, each_passing, digit_no_space, not_space, space_not}
use Rattle.lua_num.proofs.Written.{one_value}
use Rattle.lua_num.proofs.TextNumbers.{text_sound, text_complete, numeral_no_space, BeginsWithDigit, numeral_begins}
use Rattle.lua_num.proofs.Numerals.{found_is}

-- one more byte of a run
run_longer : (test : ℕ → Bool) (byte : ℕ) (text : List ℕ) (n : ℕ) → test byte ≡ true → SplitsRun test text (take n text) (drop n text) → SplitsRun test (byte ∷ text) (take (1 + n) (byte ∷ text)) (drop (1 + n) (byte ∷ text))
run_longer test byte text n here more = rw one-add (record {
  whole = ap (λ l. byte ∷ l) more.whole;
  is_run = record { each = (here, more.is_run.each); longest = more.is_run.longest };
})

run_from : (test : ℕ → Bool) (byte : ℕ) (text : List ℕ) (n : ℕ) (passes : Bool) → test byte ≡ passes → SplitsRun test text (take n text) (drop n text) → SplitsRun test (byte ∷ text) (take (cond passes (1 + n) 0) (byte ∷ text)) (drop (cond passes (1 + n) 0) (byte ∷ text))
run_from test byte text n true e more = run_longer test byte text n e more
run_from test byte text n false e more = record { whole = refl; is_run = record { each = tt; longest = e } }

-- a run ends where the test first fails
pub prefix_run : (test : ℕ → Bool) (text : List ℕ) → SplitsRun test text (take (prefix_len test text) text) (drop (prefix_len test text) text)
prefix_run test [] = record { whole = refl; is_run = record { each = tt; longest = tt } }
prefix_run test (byte ∷ text) = run_from test byte text (prefix_len test text) (test byte) refl (prefix_run test text)

-- what two splits of one text share
record SameSplit (a x b y : List ℕ) : Type 0 where
  runs : a ≡ b
  rests : x ≡ y

not_both : (t : Bool) → t ≡ true → t ≡ false → ⊥
not_both t p q = true≢false (sym p ∙ q)

-- a text has one longest run
one_run : (test : ℕ → Bool) (a x b y : List ℕ) → a ++ x ≡ b ++ y → IsRun test a x → IsRun test b y → SameSplit a x b y
one_run test [] x [] y e _ _ = record { runs = refl; rests = e }
one_run test [] x (d ∷ b) y e p q = absurd (not_both (test d) q.each.0 (subst (BeginsWithout test) e p.longest))
one_run test (c ∷ a) x [] y e p q = absurd (not_both (test c) p.each.0 (subst (BeginsWithout test) (sym e) q.longest))
one_run test (c ∷ a) x (d ∷ b) y e p q =
    let tails : a ++ x ≡ b ++ y = cc in
    let same : SameSplit a x b y = one_run test a x b y tails (record { each = p.each.1; longest = p.longest }) (record { each = q.each.1; longest = q.longest }) in
    let heads : c ≡ d = cc in
    record { runs = cc; rests = same.rests }

white_begins : (back : List ℕ) → Each is_space back → BeginsWithout is_no_space back
white_begins [] h = tt
white_begins (byte ∷ back) h = space_not byte h.0

-- a word is split in one way, and has one value
word_run : (text : List ℕ) (value : ℕ) (is : WritesWord text value) → IsRun is_no_space is.numeral is.back
word_run text value is = record { each = numeral_no_space is.numeral value is.writes; longest = white_begins is.back is.back_white }

word_split : (text word back : List ℕ) (value : ℕ) → SplitsRun is_no_space text word back → (is : WritesWord text value) → SameSplit word back is.numeral is.back
word_split text word back value split is = one_run is_no_space word back is.numeral is.back (sym split.whole ∙ is.whole) split.is_run (word_run text value is)

one_word_value : (text : List ℕ) (v w : ℕ) → WritesWord text v → WritesWord text w → v ≡ w
one_word_value text v w a b =
    let split : SplitsRun is_no_space text a.numeral a.back = record { whole = a.whole; is_run = word_run text v a } in
    let same : SameSplit a.numeral a.back b.numeral b.back = word_split text a.numeral a.back w split b in
    one_value b.numeral v w (subst (λ (l : List ℕ). Writes l v) same.runs a.writes) b.writes

-- what reading a word gives
pub word_value : (text word back : List ℕ) (o : Option ℕ) → SplitsRun is_no_space text word back → list_all is_space back ≡ true → IfSome o (Writes word) → IfSome o (WritesWord text)
word_value text word back None split white h = tt
word_value text word back (Some value) split white h = record { numeral = word; back = back; whole = split.whole; back_white = each_passed is_space back white; writes = h }

pub word_none : (text word back : List ℕ) (o : Option ℕ) → SplitsRun is_no_space text word back → IfNone o ((value : ℕ) → value < 2 ^ 64 → Writes word value → ⊥) → IfNone o ((value : ℕ) → value < 2 ^ 64 → WritesWord text value → ⊥)
word_none text word back (Some value) split h = tt
word_none text word back None split h = λ value below is.
    let same : SameSplit word back is.numeral is.back = word_split text word back value split is in
    h value below (subst (λ (l : List ℕ). Writes l value) (sym same.runs) is.writes)

pub word_back : (text word back : List ℕ) (value : ℕ) → SplitsRun is_no_space text word back → list_all is_space back ≡ false → WritesWord text value → ⊥
word_back text word back value split other is =
    let same : SameSplit word back is.numeral is.back = word_split text word back value split is in
    let white : list_all is_space back ≡ true = each_passing is_space back (subst (Each is_space) (sym same.rests) is.back_white) in
    cc

word_begins : (text rest : List ℕ) (value byte : ℕ) → WritesWord text value → text ≡ byte ∷ rest → is_digit byte ≡ true
word_begins text rest value byte is e =
    let begins : BeginsWithDigit (is.numeral ++ is.back) = numeral_begins is.numeral value is.writes is.back in
    let both : byte ∷ rest ≡ begins.digit ∷ begins.others = sym e ∙ (is.whole ∙ begins.whole) in
    let same : begins.digit ≡ byte = cc in
    subst (λ (b : ℕ). is_digit b ≡ true) same begins.is_one

no_minus : is_digit 45 ≡ true → ⊥
no_minus h = true≢false (sym h)

no_plus : is_digit 43 ≡ true → ⊥
no_plus h = true≢false (sym h)

same_heads : (x y : ℕ) (a b : List ℕ) → x ∷ a ≡ y ∷ b → x ≡ y
same_heads x y a b e = cc

signs_differ : (a b : List ℕ) → 43 ∷ a ≡ 45 ∷ b → ⊥
signs_differ a b e = omega (arith, same_heads 43 45 a b e)

-- the sign tells what is left, and which number it is
record SignedAs (text : List ℕ) (n : ℤ) (is : WritesSigned text n) (rest : List ℕ) (number : ℤ) : Type 0 where
  rests : is.rest ≡ rest
  numbers : n ≡ number

minus_signed : (text rest : List ℕ) (n : ℤ) → text ≡ codes "-" ++ rest → (is : WritesSigned text n) → SignedAs text n is rest (neg_ℤ (pos is.value))
minus_signed text rest n e is = elim is.signed [
  | inl p ↦ elim p.0 [
    | inl none ↦
        let plain : text ≡ is.rest = subst (λ (sign : List ℕ). text ≡ sign ++ is.rest) none is.whole in
        absurd (no_minus (word_begins is.rest rest is.value 45 is.word (sym plain ∙ e)))
    | inr plus ↦
        let signed : text ≡ 43 ∷ is.rest = subst (λ (sign : List ℕ). text ≡ sign ++ is.rest) plus is.whole in
        let both : 43 ∷ is.rest ≡ 45 ∷ rest = sym signed ∙ e in
        absurd (signs_differ is.rest rest both)
  ]
  | inr p ↦
      let signed : text ≡ 45 ∷ is.rest = subst (λ (sign : List ℕ). text ≡ sign ++ is.rest) p.0 is.whole in
      let both : 45 ∷ is.rest ≡ 45 ∷ rest = sym signed ∙ e in
      record { rests = cc; numbers = p.1 }
]

plain_signed : (text rest : List ℕ) (n : ℤ) → ((other : List ℕ) → text ≢ codes "-" ++ other) → DropsPlus text rest → (is : WritesSigned text n) → SignedAs text n is rest (pos is.value)
plain_signed text rest n other drops is = elim is.signed [
  | inl p ↦ elim p.0 [
    | inl none ↦
        let plain : text ≡ is.rest = subst (λ (sign : List ℕ). text ≡ sign ++ is.rest) none is.whole in
        elim drops [
          | inl plus ↦ absurd (no_plus (word_begins is.rest rest is.value 43 is.word (sym plain ∙ plus)))
          | inr same ↦ record { rests = sym plain ∙ same.0; numbers = p.1 }
        ]
    | inr sign_is ↦
        let signed : text ≡ 43 ∷ is.rest = subst (λ (sign : List ℕ). text ≡ sign ++ is.rest) sign_is is.whole in
        elim drops [
          | inl plus ↦
              let both : 43 ∷ is.rest ≡ 43 ∷ rest = sym signed ∙ plus in
              record { rests = cc; numbers = p.1 }
          | inr same ↦ absurd (same.1 is.rest signed)
        ]
  ]
  | inr p ↦
      let signed : text ≡ 45 ∷ is.rest = subst (λ (sign : List ℕ). text ≡ sign ++ is.rest) p.0 is.whole in
      absurd (other is.rest signed)
]

-- what reading a signed numeral gives
pub record ReadsSigned (text : List ℕ) (o : Option ℤ) : Type 0 where
  pub value : IfSome o (WritesSigned text)
  pub none : IfNone o ((n : ℤ) → WritesSigned text n → ⊥)

negated : (value : ℕ) → pos 0 -ℤ pos value ≡ neg_ℤ (pos value)
negated value = omega (arith, ints)

negated_below : (value : ℕ) → FitsSigned w64 (neg_ℤ (pos value)) → value < 2 ^ 64
negated_below zero h = omega arith
negated_below (suc value) h = omega (arith, h.sfits)

pub minus_read : (text rest : List ℕ) (value : ℕ) (o : Option ℤ) → text ≡ codes "-" ++ rest → WritesWord rest value → SomeIff o (FitsSigned w64 (pos 0 -ℤ pos value)) (pos 0 -ℤ pos value) → ReadsSigned text o
minus_read text rest value (Some n) e word h = record {
  value = record { sign = codes "-"; rest = rest; value = value; whole = e; word = word; signed = inr (refl, h.1 ∙ negated value); fits = subst (FitsSigned w64) (sym h.1) h.0 };
  none = tt;
}
minus_read text rest value None e word h = record {
  value = tt;
  none = λ n is.
      let known : SignedAs text n is rest (neg_ℤ (pos is.value)) = minus_signed text rest n e is in
      let one : is.value ≡ value = one_word_value rest is.value value (subst (λ (l : List ℕ). WritesWord l is.value) known.rests is.word) word in
      h (subst (FitsSigned w64) (known.numbers ∙ (ap (λ v. neg_ℤ (pos v)) one ∙ sym (negated value))) is.fits);
}

pub minus_none : (text rest : List ℕ) (n : ℤ) → text ≡ codes "-" ++ rest → ((value : ℕ) → value < 2 ^ 64 → WritesWord rest value → ⊥) → WritesSigned text n → ⊥
minus_none text rest n e other is =
    let known : SignedAs text n is rest (neg_ℤ (pos is.value)) = minus_signed text rest n e is in
    other is.value (negated_below is.value (subst (FitsSigned w64) known.numbers is.fits)) (subst (λ (l : List ℕ). WritesWord l is.value) known.rests is.word)

pub plain_read : (text rest : List ℕ) (value : ℕ) (o : Option ℤ) → ((other : List ℕ) → text ≢ codes "-" ++ other) → DropsPlus text rest → WritesWord rest value → SomeIff o (FitsSigned w64 (pos value)) (pos value) → ReadsSigned text o
plain_read text rest value (Some n) other (inl plus) word h = record {
  value = record { sign = codes "+"; rest = rest; value = value; whole = plus; word = word; signed = inl (inr refl, h.1); fits = subst (FitsSigned w64) (sym h.1) h.0 };
  none = tt;
}
plain_read text rest value (Some n) other (inr same) word h = record {
  value = record { sign = []; rest = rest; value = value; whole = same.0; word = word; signed = inl (inl refl, h.1); fits = subst (FitsSigned w64) (sym h.1) h.0 };
  none = tt;
}
plain_read text rest value None other drops word h = record {
  value = tt;
  none = λ n is.
      let known : SignedAs text n is rest (pos is.value) = plain_signed text rest n other drops is in
      let one : is.value ≡ value = one_word_value rest is.value value (subst (λ (l : List ℕ). WritesWord l is.value) known.rests is.word) word in
      h (subst (FitsSigned w64) (known.numbers ∙ ap pos one) is.fits);
}

pub plain_none : (text rest : List ℕ) (n : ℤ) → ((other : List ℕ) → text ≢ codes "-" ++ other) → DropsPlus text rest → ((value : ℕ) → value < 2 ^ 64 → WritesWord rest value → ⊥) → WritesSigned text n → ⊥
plain_none text rest n other drops none is =
    let known : SignedAs text n is rest (pos is.value) = plain_signed text rest n other drops is in
    let fits : FitsSigned w64 (pos is.value) = subst (FitsSigned w64) known.numbers is.fits in
    none is.value (omega (arith, fits.sfits)) (subst (λ (l : List ℕ). WritesWord l is.value) known.rests is.word)

-- white space in front of it
number_text : (text space rest : List ℕ) (n : ℤ) → SplitsRun is_space text space rest → WritesSigned rest n → IsNumberText text n
number_text text space rest n split is = record {
  front = space;
  sign = is.sign;
  numeral = is.word.numeral;
  back = is.word.back;
  value = is.value;
  whole = split.whole ∙ ap (λ l. space ++ l) (is.whole ∙ ap (λ l. is.sign ++ l) is.word.whole);
  front_white = split.is_run.each;
  back_white = is.word.back_white;
  writes = is.word.writes;
  signed = is.signed;
  fits = is.fits;
}

-- what may follow white space: a digit or a sign
begins_no_space : (text : List ℕ) → BeginsWithDigit text → BeginsWithout is_space text
begins_no_space text begins = subst (BeginsWithout is_space) (sym begins.whole) (not_space begins.digit (digit_no_space begins.digit begins.is_one))

signed_no_space : (sign rest : List ℕ) (value : ℕ) (n : ℤ) → Signs sign value n → BeginsWithout is_space rest → BeginsWithout is_space (sign ++ rest)
signed_no_space sign rest value n (inl p) h = elim p.0 [
  | inl none ↦ subst (λ (l : List ℕ). BeginsWithout is_space (l ++ rest)) (sym none) h
  | inr plus ↦ subst (λ (l : List ℕ). BeginsWithout is_space (l ++ rest)) (sym plus) refl
]
signed_no_space sign rest value n (inr p) h = subst (λ (l : List ℕ). BeginsWithout is_space (l ++ rest)) (sym p.0) refl

signed_text : (text space rest : List ℕ) (n : ℤ) → SplitsRun is_space text space rest → IsNumberText text n → WritesSigned rest n
signed_text text space rest n split is =
    let left : List ℕ = is.numeral ++ is.back in
    let begins : BeginsWithout is_space (is.sign ++ left) = signed_no_space is.sign left is.value n is.signed (begins_no_space left (numeral_begins is.numeral is.value is.writes is.back)) in
    let same : SameSplit space rest is.front (is.sign ++ left) = one_run is_space space rest is.front (is.sign ++ left) (sym split.whole ∙ is.whole) split.is_run (record { each = is.front_white; longest = begins }) in
    record {
      sign = is.sign;
      rest = left;
      value = is.value;
      whole = same.rests;
      word = record { numeral = is.numeral; back = is.back; whole = refl; back_white = is.back_white; writes = is.writes };
      signed = is.signed;
      fits = is.fits;
    }

pub text_read : (text space rest : List ℕ) (o : Option ℤ) → SplitsRun is_space text space rest → IfSome o (WritesSigned rest) → IfNone o ((n : ℤ) → WritesSigned rest n → ⊥) → o ≡ text_number text
text_read text space rest (Some n) split h none = sym (text_complete text n (number_text text space rest n split h))
text_read text space rest None split h none = found_is (text_number text) (λ n e. none n (signed_text text space rest n split (text_sound text n e)))
