-- Numbers without leading zeros are their decimal texts.
use Rattle.std.proofs.Common.{◌≡◌, ◌≢◌, ℕ, zero, suc, ◌+◌, ◌-◌, ◌*◌, ◌/◌, ◌%◌, ◌^◌, ◌<◌, ◌≤◌, Bool, true, false, cond, eqb, ltb, ◌&&◌, [], ◌∷◌, ◌++◌, Option, None, Some, refl, sym, ap, subst, ◌∙◌, append_assoc, arith}
use Rattle.std.proofs.lemmas.Bool.{ne_eqb, eqb-true, eqb-false}
use Rattle.std.proofs.lemmas.Bool.Decides.{nat_tests}
use Rattle.std.proofs.lemmas.Fmt.{decimal_digit, decimal_step_wide, decimal_by_steps_wide}
use Rattle.std.specs.Fmt.{decimal}
use Rattle.lua_num.specs.Bytes.{Text, is_digit}
use Rattle.asm_text.specs.Reading.{◌&>=◌, if_below, digits_from, begins_digit, number_at}
use Rattle.asm_text.proofs.Cutting.{the_same}
use Rattle.asm_text.proofs.Fronts.{NoDigit, Takes}

abbrev IsDigit : ℕ → Type 0
IsDigit byte = (48 ≤ byte) × (byte ≤ 57)

to_digit : (byte : ℕ) → is_digit byte ≡ true → IsDigit byte
to_digit byte h = grind (arith, nat_tests)

from_digit : (byte : ℕ) → 48 ≤ byte → byte ≤ 57 → is_digit byte ≡ true
from_digit byte h k = grind (arith, nat_tests)

below : (limit n : ℕ) → n < limit → if_below limit n ≡ Some n
below limit n h = grind (arith, nat_tests)

below_back : (limit n m : ℕ) → if_below limit n ≡ Some m → (n ≡ m) × (n < limit)
below_back limit n m e = by (ltb n limit) refl e where
  by : (d : Bool) → ltb n limit ≡ d → cond d (Some n) None ≡ Some m → (n ≡ m) × (n < limit)
  by true q f = (the_same n m f, grind (arith, nat_tests))
  by false q f = absurd cc

-- ---- what is written is read

stops : (limit n : ℕ) (rest : Text) → NoDigit rest → digits_from limit n rest ≡ Some (n, rest)
unfolding digits_from
stops limit n [] h = refl
stops limit n (b ∷ rest) h = rw h refl

goes : (limit n : ℕ) (b : ℕ) (rest : Text) → is_digit b ≡ true → n * 10 + (b - 48) < limit → digits_from limit n (b ∷ rest) ≡ digits_from limit (n * 10 + (b - 48)) rest
unfolding digits_from
goes limit n b rest digit lt = rw (digit, below limit (n * 10 + (b - 48)) lt) refl

-- the digits of a number, from the first on
record Begun (limit n : ℕ) (ds : Text) : Type 0 where
  digit : ℕ
  tail : Text
  is : ds ≡ digit ∷ tail
  is_one : is_digit digit ≡ true
  no_zero : 48 < digit
  reads : (rest : Text) → digits_from limit (digit - 48) (tail ++ rest) ≡ digits_from limit n rest

abbrev Begins : (limit n : ℕ) → Text → Type 0
Begins limit n ds = 0 < n → n < limit → Begun limit n ds

one_digit : (limit n : ℕ) → n < 10 → Begins limit n ((48 + n) ∷ [])
one_digit limit n small some lt = record {
  digit = 48 + n;
  tail = [];
  is = refl;
  is_one = from_digit (48 + n) (omega arith) (omega arith);
  no_zero = omega arith;
  reads = λ rest. ap (λ k. digits_from limit k rest) (omega arith);
}

more_digits : (limit n : ℕ) (ds : Text) → 10 ≤ n → Begins limit (n / 10) ds → Begins limit n (ds ++ ((48 + n % 10) ∷ []))
more_digits limit n ds big before some lt =
    let b = before (omega arith) (omega arith) in
    let last : ℕ = 48 + n % 10 in
    let value : n / 10 * 10 + (48 + n % 10 - 48) ≡ n = omega arith in
    record {
      digit = b.digit;
      tail = b.tail ++ last ∷ [];
      is = ap (λ (t : Text). t ++ last ∷ []) b.is;
      is_one = b.is_one;
      no_zero = b.no_zero;
      reads = λ rest.
          ap (digits_from limit (b.digit - 48)) (append_assoc b.tail (last ∷ []) rest)
          ∙ b.reads (last ∷ rest)
          ∙ goes limit (n / 10) last rest (from_digit last (omega arith) (omega arith)) (omega (arith, value))
          ∙ ap (λ k. digits_from limit k rest) value;
    }

begins : (limit n : ℕ) → n < 10 ^ 64 → Begins limit n (decimal n)
begins limit n wide = decimal_by_steps_wide (Begins limit) (one_digit limit) (more_digits limit) n wide

no_lead : (digit : ℕ) (rest : Text) → 48 < digit → ((eqb digit 48) && begins_digit rest) ≡ false
no_lead digit rest h = rw (ne_eqb digit 48 (omega arith)) refl

written : (limit n : ℕ) (rest : Text) → n < limit → n < 10 ^ 64 → NoDigit rest → number_at limit (decimal n ++ rest) ≡ Some (n, rest)
unfolding number_at
written limit zero rest lt wide none =
    rw (decimal_digit 0 (omega arith), none) (stops limit 0 rest none)
written limit (suc n) rest lt wide none =
    let b = begins limit (suc n) wide (omega arith) lt in
    rw (b.is, b.is_one, no_lead b.digit (b.tail ++ rest) b.no_zero) (b.reads rest ∙ stops limit (suc n) rest none)

-- ---- what is read is written

record IsRead (limit v : ℕ) (text : Text) (x : ℕ × Text) : Type 0 where
  here : decimal v ++ text ≡ decimal x.0 ++ x.1
  small : x.0 < limit

longer : (v b : ℕ) → 0 < v → IsDigit b → v * 10 + (b - 48) < 10 ^ 64 → decimal (v * 10 + (b - 48)) ≡ decimal v ++ b ∷ []
longer v b some digit wide =
    let n = v * 10 + (b - 48) in
    let whole : decimal n ≡ decimal (n / 10) ++ ((48 + n % 10) ∷ []) = decimal_step_wide n (omega arith) wide in
    let front : n / 10 ≡ v = omega arith in
    let last : 48 + n % 10 ≡ b = omega arith in
    whole ∙ ap (λ k. decimal k ++ ((48 + n % 10) ∷ [])) front ∙ ap (λ k. decimal v ++ (k ∷ [])) last

read_on : (limit v b : ℕ) (text : Text) (x : ℕ × Text) → limit ≤ 10 ^ 64 → 0 < v → IsDigit b
    → ((w : ℕ) → 0 < w → w < limit → digits_from limit w text ≡ Some x → IsRead limit w text x)
    → (r : Option ℕ) → if_below limit (v * 10 + (b - 48)) ≡ r → (r &>= λ w. digits_from limit w text) ≡ Some x → IsRead limit v (b ∷ text) x
read_on limit v b text x wide some digit go None q e = absurd cc
read_on limit v b text x wide some digit go (Some w) q e =
    let k = below_back limit (v * 10 + (b - 48)) w q in
    let s = go w (omega (arith, k.0)) (omega (arith, k.0, k.1)) e in
    record {
      here = sym (append_assoc (decimal v) (b ∷ []) text) ∙ ap (λ (t : Text). t ++ text) (sym (longer v b some digit (omega (arith, k.1, wide)))) ∙ ap (λ n. decimal n ++ text) k.0 ∙ s.here;
      small = s.small;
    }

read_step : (limit v b : ℕ) (text : Text) (x : ℕ × Text) → limit ≤ 10 ^ 64 → 0 < v → v < limit
    → ((w : ℕ) → 0 < w → w < limit → digits_from limit w text ≡ Some x → IsRead limit w text x)
    → (d : Bool) → is_digit b ≡ d → cond d (if_below limit (v * 10 + (b - 48)) &>= λ w. digits_from limit w text) (Some (v, b ∷ text)) ≡ Some x → IsRead limit v (b ∷ text) x
read_step limit v b text x wide some lt go true q e = read_on limit v b text x wide some (to_digit b q) go (if_below limit (v * 10 + (b - 48))) refl e
read_step limit v b text x wide some lt go false q e = subst (λ x. IsRead limit v (b ∷ text) x) (the_same {A = ℕ × Text} (v, b ∷ text) x e) (record { here = refl; small = lt })

read_back : (limit v : ℕ) (text : Text) (x : ℕ × Text) → limit ≤ 10 ^ 64 → 0 < v → v < limit → digits_from limit v text ≡ Some x → IsRead limit v text x
unfolding digits_from
read_back limit v [] x wide some lt e = subst (λ x. IsRead limit v [] x) (the_same {A = ℕ × Text} (v, []) x e) (record { here = refl; small = lt })
read_back limit v (b ∷ text) x wide some lt e = read_step limit v b text x wide some lt (λ w k l f. read_back limit w text x wide k l f) (is_digit b) refl e

abbrev IsNumber : (limit : ℕ) → Text → ℕ × Text → Type 0
IsNumber limit text x = (text ≡ decimal x.0 ++ x.1) × (x.0 < limit)

first_zero : (limit : ℕ) (text : Text) (x : ℕ × Text) → 10 ≤ limit → (d : Bool) → begins_digit text ≡ d → cond d None (digits_from limit 0 text) ≡ Some x → IsNumber limit (48 ∷ text) x
first_zero limit text x big true q e = absurd cc
first_zero limit text x big false q e =
    subst (λ x. IsNumber limit (48 ∷ text) x) (the_same {A = ℕ × Text} (0, text) x (sym (stops limit 0 text q) ∙ e)) (ap (λ (t : Text). t ++ text) (sym (decimal_digit 0 (omega arith))), omega arith)

first_some : (limit b : ℕ) (text : Text) (x : ℕ × Text) → limit ≤ 10 ^ 64 → 10 ≤ limit → IsDigit b → b ≢ 48 → digits_from limit (b - 48) text ≡ Some x → IsNumber limit (b ∷ text) x
first_some limit b text x wide big digit some e =
    let s = read_back limit (b - 48) text x wide (omega arith) (omega arith) e in
    let one : decimal (b - 48) ≡ b ∷ [] = decimal_digit (b - 48) (omega arith) ∙ ap (λ k. k ∷ []) (omega arith) in
    (ap (λ (t : Text). t ++ text) (sym one) ∙ s.here, s.small)

first_digit : (limit b : ℕ) (text : Text) (x : ℕ × Text) → limit ≤ 10 ^ 64 → 10 ≤ limit → IsDigit b → (d : Bool) → eqb b 48 ≡ d → cond (d && begins_digit text) None (digits_from limit (b - 48) text) ≡ Some x → IsNumber limit (b ∷ text) x
first_digit limit b text x wide big digit true q e =
    let same : b ≡ 48 = eqb-true b 48 q in
    let f = subst (λ k. cond (begins_digit text) None (digits_from limit (k - 48) text) ≡ Some x) same e in
    subst (λ k. IsNumber limit (k ∷ text) x) (sym same) (first_zero limit text x big (begins_digit text) refl f)
first_digit limit b text x wide big digit false q e = first_some limit b text x wide big digit (eqb-false b 48 q) e

any_first : (limit b : ℕ) (text : Text) (x : ℕ × Text) → limit ≤ 10 ^ 64 → 10 ≤ limit → (d : Bool) → is_digit b ≡ d → cond d (cond ((eqb b 48) && begins_digit text) None (digits_from limit (b - 48) text)) None ≡ Some x → IsNumber limit (b ∷ text) x
any_first limit b text x wide big true q e = first_digit limit b text x wide big (to_digit b q) (eqb b 48) refl e
any_first limit b text x wide big false q e = absurd cc

number_back : (limit : ℕ) (text : Text) (x : ℕ × Text) → limit ≤ 10 ^ 64 → 10 ≤ limit → number_at limit text ≡ Some x → IsNumber limit text x
unfolding number_at
number_back limit [] x wide big e = absurd cc
number_back limit (b ∷ text) x wide big e = any_first limit b text x wide big (is_digit b) refl e

pub takes_number : (limit : ℕ) → 10 ≤ limit → limit ≤ 10 ^ 64 → Takes (number_at limit) decimal (λ n. n < limit)
takes_number limit big wide = record {
  sound = λ text x e. number_back limit text x wide big e;
  complete = λ n rest lt none. written limit n rest lt (omega (arith, wide)) none;
}

-- a decimal text begins with a digit
pub record FirstDigit (n : ℕ) : Type 0 where
  pub digit : ℕ
  pub tail : Text
  pub is : decimal n ≡ digit ∷ tail
  pub low : 48 ≤ digit
  pub high : digit ≤ 57

pub first_of_decimal : (n : ℕ) → n < 10 ^ 64 → FirstDigit n
first_of_decimal zero wide = record { digit = 48; tail = []; is = decimal_digit 0 (omega arith); low = omega arith; high = omega arith }
first_of_decimal (suc n) wide =
    let b = begins (suc (suc n)) (suc n) wide (omega arith) (omega arith) in
    let d = to_digit b.digit b.is_one in
    record { digit = b.digit; tail = b.tail; is = b.is; low = d.0; high = d.1 }
