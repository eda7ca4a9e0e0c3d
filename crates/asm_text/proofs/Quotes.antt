-- Texts between quotes are read from their one spelling.
use Rattle.std.proofs.Common.{◌≡◌, ℕ, ◌+◌, ◌/◌, ◌%◌, ◌<◌, ◌≤◌, Bool, true, false, cond, eqb, ltb, not, ◌&&◌, ◌||◌, [], ◌∷◌, ◌++◌, Option, None, Some, refl, sym, ap, subst, ◌∙◌, append_assoc, arith, codes}
use Rattle.std.specs.List.{flat_map}
use Rattle.std.proofs.lemmas.Bool.{eqb-true}
use Rattle.std.proofs.lemmas.Bool.Decides.{nat_tests}
use Rattle.lua_num.specs.Bytes.{Text, is_digit}
use Rattle.lister.specs.Listing.{quoted_byte, quoted, three_digits}
use Rattle.asm_text.specs.declared.quoted.Spot.{Spot}
use Rattle.asm_text.specs.declared.quoted.Step.{Step}
use Rattle.asm_text.specs.Lines.{AreBytes}
use Rattle.asm_text.specs.Reading.{with_byte, is_plain, code_of, escaped, step_of, scan_at, quoted_at, whole_quoted_at}
use Rattle.asm_text.proofs.Cutting.{the_same}
use Rattle.asm_text.proofs.Fronts.{Takes, takes_behind, Starts, starts_behind, Wholes, whole_of}

abbrev IsDigit : ℕ → Type 0
IsDigit byte = (48 ≤ byte) × (byte ≤ 57)

-- ---- the spelling of a byte, by its kind

plain_quoted : (b : ℕ) → is_plain b ≡ true → eqb b 34 ≡ false → eqb b 92 ≡ false → quoted_byte b ≡ b ∷ []
plain_quoted b h p q = grind (arith, nat_tests)

rare_quoted : (b : ℕ) → is_plain b ≡ false → eqb b 10 ≡ false → quoted_byte b ≡ 92 ∷ three_digits b
rare_quoted b h p = grind (arith, nat_tests)

mark_quoted : (b : ℕ) → ((eqb b 34) || (eqb b 92)) ≡ true → quoted_byte b ≡ 92 ∷ b ∷ []
mark_quoted b h = rw h refl

line_quoted : quoted_byte 10 ≡ 92 ∷ 110 ∷ []
line_quoted = refl

to_digit : (byte : ℕ) → is_digit byte ≡ true → IsDigit byte
to_digit byte h = grind (arith, nat_tests)

-- ---- what was read since the last byte of the text

abbrev held : Spot → Text
held Spot.Plain = []
held Spot.Escape = 92 ∷ []
held (Spot.One x) = 92 ∷ x ∷ []
held (Spot.Two x y) = 92 ∷ x ∷ y ∷ []

abbrev Held : Spot → Type 0
Held Spot.Plain = Unit {0}
Held Spot.Escape = Unit {0}
Held (Spot.One x) = IsDigit x
Held (Spot.Two x y) = IsDigit x × IsDigit y

abbrev Means : Spot → ℕ → Step → Type 0
Means spot b Step.Close = held spot ++ b ∷ [] ≡ 34 ∷ []
Means spot b (Step.Byte v) = (held spot ++ b ∷ [] ≡ quoted_byte v) × (v < 256)
Means spot b (Step.Go next) = (held next ≡ held spot ++ b ∷ []) × Held next
Means spot b Step.Wrong = Unit {0}

plain_means : (b : ℕ) (d e f : Bool) → eqb b 34 ≡ d → eqb b 92 ≡ e → is_plain b ≡ f → Means Spot.Plain b (cond d Step.Close (cond e (Step.Go Spot.Escape) (cond f (Step.Byte b) Step.Wrong)))
plain_means b true e f p q r = ap (λ k. k ∷ []) (eqb-true b 34 p)
plain_means b false true f p q r = (ap (λ k. k ∷ []) (sym (eqb-true b 92 q)), tt)
plain_means b false false true p q r = (sym (plain_quoted b r p q), grind (arith, nat_tests))
plain_means b false false false p q r = tt

escape_means : (b : ℕ) (d e f : Bool) → ((eqb b 34) || (eqb b 92)) ≡ d → eqb b 110 ≡ e → is_digit b ≡ f → Means Spot.Escape b (cond d (Step.Byte b) (cond e (Step.Byte 10) (cond f (Step.Go (Spot.One b)) Step.Wrong)))
escape_means b true e f p q r = (sym (mark_quoted b p), grind (arith, nat_tests))
escape_means b false true f p q r = (ap (λ k. 92 ∷ k ∷ []) (eqb-true b 110 q), omega arith)
escape_means b false false true p q r = (refl, to_digit b r)
escape_means b false false false p q r = tt

one_means : (x b : ℕ) (d : Bool) → IsDigit x → is_digit b ≡ d → Means (Spot.One x) b (cond d (Step.Go (Spot.Two x b)) Step.Wrong)
one_means x b true h p = (refl, (h, to_digit b p))
one_means x b false h p = tt

digits_back : (x y z : ℕ) → IsDigit x → IsDigit y → IsDigit z → three_digits (code_of x y z) ≡ x ∷ y ∷ z ∷ []
digits_back x y z h k l =
    let e : 48 + code_of x y z / 100 ≡ x = omega arith in
    let f : 48 + code_of x y z / 10 % 10 ≡ y = omega arith in
    let g : 48 + code_of x y z % 10 ≡ z = omega arith in
    λ i. e i ∷ f i ∷ g i ∷ []

code_means : (x y z : ℕ) (d e f : Bool) → IsDigit x → IsDigit y → IsDigit z → ltb (code_of x y z) 256 ≡ d → is_plain (code_of x y z) ≡ e → eqb (code_of x y z) 10 ≡ f → Means (Spot.Two x y) z (cond ((d && not e) && not f) (Step.Byte (code_of x y z)) Step.Wrong)
code_means x y z true false false h k l p q r = (ap (λ t. 92 ∷ t) (sym (digits_back x y z h k l)) ∙ sym (rare_quoted (code_of x y z) q r), grind (arith, nat_tests))
code_means x y z true false true h k l p q r = tt
code_means x y z true true f h k l p q r = tt
code_means x y z false e f h k l p q r = tt

two_means : (x y b : ℕ) (d : Bool) → IsDigit x → IsDigit y → is_digit b ≡ d → Means (Spot.Two x y) b (cond d (escaped (code_of x y b)) Step.Wrong)
two_means x y b true h k p = code_means x y b (ltb (code_of x y b) 256) (is_plain (code_of x y b)) (eqb (code_of x y b) 10) h k (to_digit b p) refl refl refl
two_means x y b false h k p = tt

step_means : (spot : Spot) (b : ℕ) → Held spot → Means spot b (step_of spot b)
step_means Spot.Plain b h = plain_means b (eqb b 34) (eqb b 92) (is_plain b) refl refl refl
step_means Spot.Escape b h = escape_means b ((eqb b 34) || (eqb b 92)) (eqb b 110) (is_digit b) refl refl refl
step_means (Spot.One x) b h = one_means x b (is_digit b) h refl
step_means (Spot.Two x y) b h = two_means x y b (is_digit b) h.0 h.1 refl

-- ---- what is read is written

record IsScanned (spot : Spot) (text : Text) (x : Text × Text) : Type 0 where
  here : held spot ++ text ≡ flat_map quoted_byte x.0 ++ 34 ∷ x.1
  bytes : AreBytes x.0

byte_scanned : (spot : Spot) (b v : ℕ) (text : Text) (x : Text × Text) (r : Option (Text × Text)) → Means spot b (Step.Byte v) → ((y : Text × Text) → r ≡ Some y → IsScanned Spot.Plain text y) → with_byte v r ≡ Some x → IsScanned spot (b ∷ text) x
byte_scanned spot b v text x None m go e = absurd cc
byte_scanned spot b v text x (Some y) m go e =
    let s = go y refl in
    subst (IsScanned spot (b ∷ text)) (the_same {A = Text × Text} (v ∷ y.0, y.1) x e) (record {
      here = sym (append_assoc (held spot) (b ∷ []) text) ∙ ap (λ (t : Text). t ++ text) m.0 ∙ ap (λ (t : Text). quoted_byte v ++ t) s.here ∙ sym (append_assoc (quoted_byte v) (flat_map quoted_byte y.0) (34 ∷ y.1));
      bytes = (m.1, s.bytes);
    })

step_scanned : (spot : Spot) (b : ℕ) (text : Text) (x : Text × Text) (s : Step) → Means spot b s → ((next : Spot) → Held next → (y : Text × Text) → scan_at next text ≡ Some y → IsScanned next text y)
    → elim s [ Step.Close ↦ Some ([], text) | Step.Byte value ↦ with_byte value (scan_at Spot.Plain text) | Step.Go next ↦ scan_at next text | Step.Wrong ↦ None ] ≡ Some x → IsScanned spot (b ∷ text) x
step_scanned spot b text x Step.Close m go e =
    subst (IsScanned spot (b ∷ text)) (the_same {A = Text × Text} ([], text) x e) (record {
      here = sym (append_assoc (held spot) (b ∷ []) text) ∙ ap (λ (t : Text). t ++ text) m;
      bytes = tt;
    })
step_scanned spot b text x (Step.Byte v) m go e = byte_scanned spot b v text x (scan_at Spot.Plain text) m (λ y f. go Spot.Plain tt y f) e
step_scanned spot b text x (Step.Go next) m go e =
    let s = go next m.1 x e in
    record { here = sym (append_assoc (held spot) (b ∷ []) text) ∙ ap (λ (t : Text). t ++ text) (sym m.0) ∙ s.here; bytes = s.bytes }
step_scanned spot b text x Step.Wrong m go e = absurd cc

scan_back : (spot : Spot) (text : Text) (x : Text × Text) → Held spot → scan_at spot text ≡ Some x → IsScanned spot text x
unfolding scan_at
scan_back spot [] x h e = absurd cc
scan_back spot (b ∷ text) x h e = step_scanned spot b text x (step_of spot b) (step_means spot b h) (λ next k y f. scan_back next text y k f) e

-- ---- what is written is read

scan_byte : (spot : Spot) (b v : ℕ) (rest : Text) → step_of spot b ≡ Step.Byte v → scan_at spot (b ∷ rest) ≡ with_byte v (scan_at Spot.Plain rest)
unfolding scan_at
scan_byte spot b v rest e = ap (λ (s : Step). elim s [ Step.Close ↦ Some ([], rest) | Step.Byte value ↦ with_byte value (scan_at Spot.Plain rest) | Step.Go next ↦ scan_at next rest | Step.Wrong ↦ None ]) e

scan_go : (spot next : Spot) (b : ℕ) (rest : Text) → step_of spot b ≡ Step.Go next → scan_at spot (b ∷ rest) ≡ scan_at next rest
unfolding scan_at
scan_go spot next b rest e = ap (λ (s : Step). elim s [ Step.Close ↦ Some ([], rest) | Step.Byte value ↦ with_byte value (scan_at Spot.Plain rest) | Step.Go next ↦ scan_at next rest | Step.Wrong ↦ None ]) e

escape_mark : (b : ℕ) → ((eqb b 34) || (eqb b 92)) ≡ true → step_of Spot.Escape b ≡ Step.Byte b
escape_mark b h = rw h refl

plain_byte : (b : ℕ) → is_plain b ≡ true → eqb b 34 ≡ false → eqb b 92 ≡ false → step_of Spot.Plain b ≡ Step.Byte b
plain_byte b h p q = grind (arith, nat_tests)

escape_digit : (d : ℕ) → IsDigit d → step_of Spot.Escape d ≡ Step.Go (Spot.One d)
escape_digit d h = grind (arith, nat_tests)

one_digit : (x d : ℕ) → IsDigit d → step_of (Spot.One x) d ≡ Step.Go (Spot.Two x d)
one_digit x d h = grind (arith, nat_tests)

from_digit : (byte : ℕ) → IsDigit byte → is_digit byte ≡ true
from_digit byte h = grind (arith, nat_tests)

two_digits : (x y d : ℕ) → IsDigit d → step_of (Spot.Two x y) d ≡ escaped (code_of x y d)
two_digits x y d h = rw (from_digit d h) refl

rare_code : (b : ℕ) → b < 256 → is_plain b ≡ false → eqb b 10 ≡ false → escaped b ≡ Step.Byte b
rare_code b lt p q = grind (arith, nat_tests)

code_back : (b : ℕ) → b < 256 → code_of (48 + b / 100) (48 + b / 10 % 10) (48 + b % 10) ≡ b
code_back b lt = omega arith

mark_scanned : (b : ℕ) (more : Text) → ((eqb b 34) || (eqb b 92)) ≡ true → scan_at Spot.Plain (92 ∷ b ∷ more) ≡ with_byte b (scan_at Spot.Plain more)
mark_scanned b more h = scan_go Spot.Plain Spot.Escape 92 (b ∷ more) refl ∙ scan_byte Spot.Escape b b more (escape_mark b h)

plain_scanned : (b : ℕ) (more : Text) → is_plain b ≡ true → eqb b 34 ≡ false → eqb b 92 ≡ false → scan_at Spot.Plain (b ∷ more) ≡ with_byte b (scan_at Spot.Plain more)
plain_scanned b more h p q = scan_byte Spot.Plain b b more (plain_byte b h p q)

line_scanned : (more : Text) → scan_at Spot.Plain (92 ∷ 110 ∷ more) ≡ with_byte 10 (scan_at Spot.Plain more)
line_scanned more = scan_go Spot.Plain Spot.Escape 92 (110 ∷ more) refl ∙ scan_byte Spot.Escape 110 10 more refl

rare_scanned : (b : ℕ) (more : Text) → b < 256 → is_plain b ≡ false → eqb b 10 ≡ false → scan_at Spot.Plain (92 ∷ (three_digits b ++ more)) ≡ with_byte b (scan_at Spot.Plain more)
rare_scanned b more lt p q =
    let x : ℕ = 48 + b / 100 in
    let y : ℕ = 48 + b / 10 % 10 in
    let z : ℕ = 48 + b % 10 in
    let last : step_of (Spot.Two x y) z ≡ Step.Byte b = two_digits x y z (omega arith, omega arith) ∙ ap escaped (code_back b lt) ∙ rare_code b lt p q in
    scan_go Spot.Plain Spot.Escape 92 (x ∷ y ∷ z ∷ more) refl
    ∙ scan_go Spot.Escape (Spot.One x) x (y ∷ z ∷ more) (escape_digit x (omega arith, omega arith))
    ∙ scan_go (Spot.One x) (Spot.Two x y) y (z ∷ more) (one_digit x y (omega arith, omega arith))
    ∙ scan_byte (Spot.Two x y) z b more last

byte_there : (b : ℕ) (more : Text) (d e f : Bool) → b < 256 → ((eqb b 34) || (eqb b 92)) ≡ d → eqb b 10 ≡ e → is_plain b ≡ f → scan_at Spot.Plain (quoted_byte b ++ more) ≡ with_byte b (scan_at Spot.Plain more)
byte_there b more true e f lt p q r = ap (λ (t : Text). scan_at Spot.Plain (t ++ more)) (mark_quoted b p) ∙ mark_scanned b more p
byte_there b more false true f lt p q r =
    let same : b ≡ 10 = eqb-true b 10 q in
    subst (λ k. scan_at Spot.Plain (quoted_byte k ++ more) ≡ with_byte k (scan_at Spot.Plain more)) (sym same) (line_scanned more)
byte_there b more false false true lt p q r =
    let no_quote : eqb b 34 ≡ false = grind (arith, nat_tests) in
    let no_escape : eqb b 92 ≡ false = grind (arith, nat_tests) in
    ap (λ (t : Text). scan_at Spot.Plain (t ++ more)) (plain_quoted b r no_quote no_escape) ∙ plain_scanned b more r no_quote no_escape
byte_there b more false false false lt p q r = ap (λ (t : Text). scan_at Spot.Plain (t ++ more)) (rare_quoted b r q) ∙ rare_scanned b more lt r q

scan_there : (t rest : Text) → AreBytes t → scan_at Spot.Plain ((flat_map quoted_byte t ++ 34 ∷ []) ++ rest) ≡ Some (t, rest)
unfolding scan_at
scan_there [] rest h = refl
scan_there (b ∷ t) rest h =
    let more = (flat_map quoted_byte t ++ 34 ∷ []) ++ rest in
    ap (scan_at Spot.Plain) (ap (λ (k : Text). k ++ rest) (append_assoc (quoted_byte b) (flat_map quoted_byte t) (34 ∷ [])) ∙ append_assoc (quoted_byte b) (flat_map quoted_byte t ++ 34 ∷ []) rest)
    ∙ byte_there b more ((eqb b 34) || (eqb b 92)) (eqb b 10) (is_plain b) h.0 refl refl refl
    ∙ ap (with_byte b) (scan_there t rest h.1)

abbrev inside : Text → Text
inside t = flat_map quoted_byte t ++ 34 ∷ []

takes_scan : Takes (scan_at Spot.Plain) inside AreBytes
takes_scan = record {
  sound = λ text x e.
      let s = scan_back Spot.Plain text x tt e in
      (s.here ∙ sym (append_assoc (flat_map quoted_byte x.0) (34 ∷ []) x.1), s.bytes);
  complete = λ t rest good none. scan_there t rest good;
}

pub takes_quoted : Takes quoted_at quoted AreBytes
unfolding quoted_at
takes_quoted = takes_behind (codes "\"") takes_scan

pub starts_quoted : Starts quoted AreBytes
starts_quoted = starts_behind 34 [] inside AreBytes refl

pub whole_quoted : Wholes whole_quoted_at quoted AreBytes
unfolding whole_quoted_at
whole_quoted = whole_of takes_quoted
