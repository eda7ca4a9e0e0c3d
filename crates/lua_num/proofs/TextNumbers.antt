-- A string is taken as a number exactly where it writes that number.
use Rattle.std.proofs.Common.{◌≡◌, ◌≢◌, ℕ, ◌<◌, Bool, true, false, ◌&&◌, ◌==◌, if◌then◌else◌, ℤ, pos, neg_ℤ, FitsSigned, w64, List, [], ◌∷◌, ◌++◌, Option, Some, None, refl, sym, ap, subst, ◌∙◌, inl, inr, arith}
use Rattle.std.specs.Prelude.{codes, ◌⊎◌, ◌↔◌}
use Rattle.std.specs.Char.{IsAsciiDigit}
use Rattle.std.specs.List.{list_all}
use Rattle.std.proofs.lemmas.Bool.Decides.{nat_tests}
use Rattle.lua_num.specs.Bytes.{is_space, is_digit, is_hex_digit, Each}
use Rattle.lua_num.specs.Numeral.{written, as_positive, as_negative, without_space, without_space_behind, signed_number, text_number}
use Rattle.lua_num.specs.Meets.{Writes, Signs, IsNumberText}
use Rattle.lua_num.specs.Reading.{is_no_space}
use Rattle.lua_num.proofs.Bytes.{each_passed, each_passing, each_join, each_weaker, digit_passed, digit_no_space, hex_no_space, mark_no_space, not_space}
use Rattle.lua_num.proofs.Written.{no_some, written_sound, written_complete, kept_sound, kept_complete}

-- ---- white space

record Front (text rest : List ℕ) : Type 0 where
  front : List ℕ
  whole : text ≡ front ++ rest
  white : Each is_space front

record Back (text rest : List ℕ) : Type 0 where
  back : List ℕ
  whole : text ≡ rest ++ back
  white : Each is_space back

front_of : (text : List ℕ) → Front text (without_space text)
front_of [] = record { front = []; whole = refl; white = tt }
front_of (c ∷ cs) = by (is_space c) refl (front_of cs)
  where
    by : (b : Bool) → is_space c ≡ b → Front cs (without_space cs) → Front (c ∷ cs) (if b then without_space cs else c ∷ cs)
    by true e r = record { front = c ∷ r.front; whole = ap (λ l. c ∷ l) r.whole; white = (e, r.white) }
    by false e r = record { front = []; whole = refl; white = tt }

back_of : (text : List ℕ) → Back text (without_space_behind text)
back_of [] = record { back = []; whole = refl; white = tt }
back_of (c ∷ cs) = by (list_all is_space (c ∷ cs)) refl (back_of cs)
  where
    by : (b : Bool) → list_all is_space (c ∷ cs) ≡ b → Back cs (without_space_behind cs) → Back (c ∷ cs) (if b then [] else c ∷ without_space_behind cs)
    by true e r = record { back = c ∷ cs; whole = refl; white = each_passed is_space (c ∷ cs) e }
    by false e r = record { back = r.back; whole = ap (λ l. c ∷ l) r.whole; white = r.white }

abbrev trimmed : List ℕ → List ℕ
trimmed text = without_space_behind (without_space text)

front_gone : (front rest : List ℕ) → Each is_space front → without_space (front ++ rest) ≡ without_space rest
front_gone [] rest h = refl
front_gone (c ∷ cs) rest h = ap (λ b. if b then without_space (cs ++ rest) else c ∷ (cs ++ rest)) h.0 ∙ front_gone cs rest h.1

core_begins : (core back : List ℕ) → core ≢ [] → Each is_no_space core → without_space (core ++ back) ≡ core ++ back
core_begins [] back n h = absurd (n refl)
core_begins (c ∷ cs) back n h = ap (λ b. if b then without_space (cs ++ back) else c ∷ (cs ++ back)) (not_space c h.0)

back_gone : (core back : List ℕ) → Each is_no_space core → Each is_space back → without_space_behind (core ++ back) ≡ core
back_gone [] [] h w = refl
back_gone [] (c ∷ cs) h w = ap (λ b. if b then [] else c ∷ without_space_behind cs) (each_passing is_space (c ∷ cs) w)
back_gone (c ∷ cs) back h w =
    ap (λ b. if b && list_all is_space (cs ++ back) then [] else c ∷ without_space_behind (cs ++ back)) (not_space c h.0) ∙ ap (λ l. c ∷ l) (back_gone cs back h.1 w)

trimmed_is : (front core back : List ℕ) → Each is_space front → core ≢ [] → Each is_no_space core → Each is_space back → trimmed (front ++ (core ++ back)) ≡ core
trimmed_is front core back f n h w =
    ap without_space_behind (front_gone front (core ++ back) f ∙ core_begins core back n h) ∙ back_gone core back h w

-- ---- signs

record Signed (core : List ℕ) (n : ℤ) : Type 0 where
  sign : List ℕ
  numeral : List ℕ
  value : ℕ
  whole : core ≡ sign ++ numeral
  writes : Writes numeral value
  signed : Signs sign value n
  fits : FitsSigned w64 n

plus_sound : (sign numeral : List ℕ) (n : ℤ) → (sign ≡ []) ⊎ (sign ≡ codes "+") → as_positive (written numeral) ≡ Some n → Signed (sign ++ numeral) n
plus_sound sign numeral n s e = by (written numeral) refl e
  where
    by : (o : Option ℕ) → written numeral ≡ o → as_positive o ≡ Some n → Signed (sign ++ numeral) n
    by None t e' = no_some n e'
    by (Some v) t e' =
        let k = kept_sound (pos v) n e' in
        record { sign = sign; numeral = numeral; value = v; whole = refl; writes = written_sound numeral v t; signed = inl (s, k.0); fits = k.1 }

minus_sound : (numeral : List ℕ) (n : ℤ) → as_negative (written numeral) ≡ Some n → Signed (codes "-" ++ numeral) n
minus_sound numeral n e = by (written numeral) refl e
  where
    by : (o : Option ℕ) → written numeral ≡ o → as_negative o ≡ Some n → Signed (codes "-" ++ numeral) n
    by None t e' = no_some n e'
    by (Some v) t e' =
        let k = kept_sound (neg_ℤ (pos v)) n e' in
        record { sign = codes "-"; numeral = numeral; value = v; whole = refl; writes = written_sound numeral v t; signed = inr (refl, k.0); fits = k.1 }

byte_is : (c d : ℕ) → (c == d) ≡ true → c ≡ d
byte_is c d e = grind (arith, nat_tests)

signed_sound : (core : List ℕ) (n : ℤ) → signed_number core ≡ Some n → Signed core n
signed_sound [] n e = no_some n e
signed_sound (c ∷ cs) n e = by (c == 45) (c == 43) refl refl e
  where
    by : (b d : Bool) → (c == 45) ≡ b → (c == 43) ≡ d → (if b then as_negative (written cs) else (if d then as_positive (written cs) else as_positive (written (c ∷ cs)))) ≡ Some n → Signed (c ∷ cs) n
    by true d t u e' = subst (λ (x : ℕ). Signed (x ∷ cs) n) (sym (byte_is c 45 t)) (minus_sound cs n e')
    by false true t u e' = subst (λ (x : ℕ). Signed (x ∷ cs) n) (sym (byte_is c 43 u)) (plus_sound (codes "+") cs n (inr refl) e')
    by false false t u e' = plus_sound [] (c ∷ cs) n (inl refl) e'

joined : (a b c : List ℕ) → (a ++ b) ++ c ≡ a ++ (b ++ c)
joined [] b c = refl
joined (x ∷ a) b c = ap (λ l. x ∷ l) (joined a b c)

whole_of : (text front sign numeral back rest core : List ℕ) → text ≡ front ++ rest → rest ≡ core ++ back → core ≡ sign ++ numeral → text ≡ front ++ (sign ++ (numeral ++ back))
whole_of text front sign numeral back rest core p q r = p ∙ ap (λ l. front ++ l) (q ∙ ap (λ l. l ++ back) r ∙ joined sign numeral back)

pub text_sound : (text : List ℕ) (n : ℤ) → text_number text ≡ Some n → IsNumberText text n
text_sound text n e =
    let f : Front text (without_space text) = front_of text in
    let b : Back (without_space text) (trimmed text) = back_of (without_space text) in
    let s : Signed (trimmed text) n = signed_sound (trimmed text) n e in
    record {
      front = f.front;
      sign = s.sign;
      numeral = s.numeral;
      back = b.back;
      value = s.value;
      whole = whole_of text f.front s.sign s.numeral b.back (without_space text) (trimmed text) f.whole b.whole s.whole;
      front_white = f.white;
      back_white = b.white;
      writes = s.writes;
      signed = s.signed;
      fits = s.fits;
    }

-- ---- the other way

-- a numeral has no white space
pub numeral_no_space : (text : List ℕ) (value : ℕ) → Writes text value → Each is_no_space text
numeral_no_space text value (inl is) = each_weaker is_digit is_no_space digit_no_space text is.digits
numeral_no_space text value (inr is) =
    subst (Each is_no_space) (sym is.whole) (refl, (mark_no_space is.mark is.marked, each_weaker is_hex_digit is_no_space hex_no_space is.digits is.digits_are))

-- a numeral begins with a digit
pub record BeginsWithDigit (text : List ℕ) : Type 0 where
  pub digit : ℕ
  pub others : List ℕ
  pub whole : text ≡ digit ∷ others
  pub is_one : is_digit digit ≡ true

pub numeral_begins : (text : List ℕ) (value : ℕ) → Writes text value → (back : List ℕ) → BeginsWithDigit (text ++ back)
numeral_begins [] value (inl is) back = absurd (is.some refl)
numeral_begins (digit ∷ digits) value (inl is) back = record { digit = digit; others = digits ++ back; whole = refl; is_one = is.digits.0 }
numeral_begins text value (inr is) back = record { digit = 48; others = (is.mark ∷ is.digits) ++ back; whole = ap (λ l. l ++ back) is.whole; is_one = refl }

no_sign : (byte sign : ℕ) → sign < 48 → is_digit byte ≡ true → (byte == sign) ≡ false
no_sign byte sign small h = let digit : IsAsciiDigit byte = digit_passed byte h in grind (arith, nat_tests)

unsigned : (byte : ℕ) (rest : List ℕ) → is_digit byte ≡ true → signed_number (byte ∷ rest) ≡ as_positive (written (byte ∷ rest))
unsigned byte rest h =
    ap (λ t. if t then as_negative (written rest) else (if byte == 43 then as_positive (written rest) else as_positive (written (byte ∷ rest)))) (no_sign byte 45 (omega arith) h)
    ∙ ap (λ t. if t then as_positive (written rest) else as_positive (written (byte ∷ rest))) (no_sign byte 43 (omega arith) h)

signed_complete : (sign numeral : List ℕ) (v : ℕ) (n : ℤ) → (byte : ℕ) (rest : List ℕ) → numeral ≡ byte ∷ rest → is_digit byte ≡ true → Writes numeral v → Signs sign v n → FitsSigned w64 n → signed_number (sign ++ numeral) ≡ Some n
signed_complete sign numeral v n byte rest whole digit w (inl (inl s, e)) f =
    ap (λ l. signed_number (l ++ numeral)) s ∙ ap signed_number whole ∙ unsigned byte rest digit ∙ ap (λ l. as_positive (written l)) (sym whole) ∙ ap as_positive (written_complete numeral v w) ∙ kept_complete (pos v) (subst (FitsSigned w64) e f) ∙ ap Some (sym e)
signed_complete sign numeral v n byte rest whole digit w (inl (inr s, e)) f =
    ap (λ l. signed_number (l ++ numeral)) s ∙ ap as_positive (written_complete numeral v w) ∙ kept_complete (pos v) (subst (FitsSigned w64) e f) ∙ ap Some (sym e)
signed_complete sign numeral v n byte rest whole digit w (inr (s, e)) f =
    ap (λ l. signed_number (l ++ numeral)) s ∙ ap as_negative (written_complete numeral v w) ∙ kept_complete (neg_ℤ (pos v)) (subst (FitsSigned w64) e f) ∙ ap Some (sym e)

sign_no_space : (sign : List ℕ) (v : ℕ) (n : ℤ) → Signs sign v n → Each is_no_space sign
sign_no_space sign v n (inl (inl s, e)) = subst (Each is_no_space) (sym s) tt
sign_no_space sign v n (inl (inr s, e)) = subst (Each is_no_space) (sym s) (refl, tt)
sign_no_space sign v n (inr (s, e)) = subst (Each is_no_space) (sym s) (refl, tt)

join_some : (a b : List ℕ) (byte : ℕ) (rest : List ℕ) → b ≡ byte ∷ rest → a ++ b ≢ []
join_some [] b byte rest s e = let f : byte ∷ rest ≡ [] = sym s ∙ e in cc
join_some (x ∷ a) b byte rest s e = cc

nothing_behind : (text : List ℕ) → text ++ [] ≡ text
nothing_behind [] = refl
nothing_behind (byte ∷ text) = ap (λ l. byte ∷ l) (nothing_behind text)

pub text_complete : (text : List ℕ) (n : ℤ) → IsNumberText text n → text_number text ≡ Some n
text_complete text n h =
    let begins : BeginsWithDigit (h.numeral ++ []) = numeral_begins h.numeral h.value h.writes [] in
    let whole : h.numeral ≡ begins.digit ∷ begins.others = sym (nothing_behind h.numeral) ∙ begins.whole in
    let core : Each is_no_space (h.sign ++ h.numeral) = each_join is_no_space h.sign h.numeral (sign_no_space h.sign h.value n h.signed) (numeral_no_space h.numeral h.value h.writes) in
    let trims : trimmed text ≡ h.sign ++ h.numeral =
    ap trimmed (h.whole ∙ ap (λ l. h.front ++ l) (sym (joined h.sign h.numeral h.back)))
    ∙ trimmed_is h.front (h.sign ++ h.numeral) h.back h.front_white (join_some h.sign h.numeral begins.digit begins.others whole) core h.back_white in
    ap signed_number trims ∙ signed_complete h.sign h.numeral h.value n begins.digit begins.others whole begins.is_one h.writes h.signed h.fits

pub text_is : (text : List ℕ) (n : ℤ) → (text_number text ≡ Some n) ↔ IsNumberText text n
text_is text n = (text_sound text n, text_complete text n)
