-- The fields of an instruction are read from what shows them.
use Rattle.std.proofs.Common.{◌≡◌, ℕ, ◌+◌, ◌-◌, ◌<◌, ◌≤◌, ℤ, pos, negsuc, Bool, true, false, cond, leb, ◌∷◌, ◌++◌, Option, None, Some, refl, sym, ap, subst, ◌∙◌, arith, codes}
use Rattle.std.proofs.lemmas.Bool.{ne_eqb}
use Rattle.std.proofs.lemmas.Bool.Decides.{nat_tests}
use Rattle.std.specs.Prelude.{neg_ℤ, ◌≤ℤ◌}
use Rattle.std.proofs.lemmas.Int.{ints}
use Rattle.std.specs.Fmt.{decimal}
use Rattle.lua_num.specs.Bytes.{Text}
use Rattle.opcode.specs.declared.op.Op.{Op}
use Rattle.opcode.specs.declared.op.Format.{Format}
use Rattle.opcode.specs.declared.word.Instr.{Instr}
use Rattle.opcode.specs.Word.{format_of, FieldsFit}
use Rattle.lister.specs.Listing.{digits, is_constant, field_text, fields_text, Shape, shows_constant, shows_function, shows_jump, shows_two, shape_of}
use Rattle.asm_text.specs.Reading.{◌&>=◌, after, number_at, field_from, field_at, instr, fields_at}
use Rattle.asm_text.proofs.Cutting.{the_same, after_there, after_back}
use Rattle.asm_text.proofs.Fronts.{NoDigit, Takes, Starts, takes_then, takes_as, takes_behind}
use Rattle.asm_text.proofs.Digits.{takes_number, first_of_decimal}
use Rattle.asm_text.proofs.Signed.{Within, takes_signed}

-- ---- a field that may be a constant

-- a field without the space before it
abbrev bare : (may_be : Bool) → ℕ → Text
bare may_be n = cond (is_constant may_be n) (107 ∷ digits (n - 256)) (digits n)

text_of_field : (may_be : Bool) (n : ℕ) → field_text may_be n ≡ 32 ∷ bare may_be n
text_of_field may_be n = by (is_constant may_be n) where
  by : (d : Bool) → cond d (codes " k" ++ digits (n - 256)) (32 ∷ digits n) ≡ 32 ∷ cond d (107 ∷ digits (n - 256)) (digits n)
  by true = refl
  by false = refl

abbrev IsField : Bool → Text → ℕ × Text → Type 0
IsField may_be text x = (text ≡ bare may_be x.0 ++ x.1) × (x.0 < 512)

high_field : (rest : Text) (n : ℕ) (r : Text) → rest ≡ decimal n ++ r → n < 256 → IsField true (107 ∷ rest) (n + 256, r)
high_field rest n r h lt =
    let high : is_constant true (n + 256) ≡ true = grind (arith, nat_tests) in
    let back : n + 256 - 256 ≡ n = omega arith in
    (rw (high, back) (ap (λ (t : Text). 107 ∷ t) h), omega arith)

low_field : (text : Text) (n : ℕ) (r : Text) → text ≡ decimal n ++ r → n < 256 → IsField true text (n, r)
low_field text n r h lt =
    let low : is_constant true n ≡ false = grind (arith, nat_tests) in
    (rw low h, omega arith)

high_back : (rest : Text) (o : Option (ℕ × Text)) (x : ℕ × Text) → ((y : ℕ × Text) → o ≡ Some y → (rest ≡ decimal y.0 ++ y.1) × (y.0 < 256)) → (o &>= λ y. Some (y.0 + 256, y.1)) ≡ Some x → IsField true (107 ∷ rest) x
high_back rest None x h e = absurd cc
high_back rest (Some y) x h e = let s = h y refl in subst (IsField true (107 ∷ rest)) (the_same {A = ℕ × Text} (y.0 + 256, y.1) x e) (high_field rest y.0 y.1 s.0 s.1)

byte_number : Takes (number_at 256) decimal (λ n. n < 256)
byte_number = takes_number 256 (omega arith) (omega arith)

field_number : Takes (number_at 512) decimal (λ n. n < 512)
field_number = takes_number 512 (omega arith) (omega arith)

field_back : (may_be : Bool) (text : Text) (o : Option Text) (x : ℕ × Text) → after (codes "k") text ≡ o → field_from may_be text o ≡ Some x → IsField may_be text x
field_back true text None x q e = let s = byte_number.sound text x e in low_field text x.0 x.1 s.0 s.1
field_back false text None x q e = field_number.sound text x e
field_back true text (Some rest) x q e = subst (λ t. IsField true t x) (sym (after_back (codes "k") text rest q)) (high_back rest (number_at 256 rest) x (byte_number.sound rest) e)
field_back false text (Some rest) x q e = absurd cc

no_mark : (n : ℕ) (rest : Text) → n < 512 → after (codes "k") (decimal n ++ rest) ≡ None
unfolding after
no_mark n rest lt =
    let f = first_of_decimal n (omega arith) in
    rw (f.is, ne_eqb f.digit 107 (omega (arith, f.high))) refl

field_there : (may_be : Bool) (n : ℕ) (rest : Text) → n < 512 → NoDigit rest → field_from may_be (bare may_be n ++ rest) (after (codes "k") (bare may_be n ++ rest)) ≡ Some (n, rest)
field_there false n rest lt none = rw (no_mark n rest lt) (field_number.complete n rest lt none)
field_there true n rest lt none = by (leb 256 n) refl where
  by : (d : Bool) → leb 256 n ≡ d → field_from true (bare true n ++ rest) (after (codes "k") (bare true n ++ rest)) ≡ Some (n, rest)
  by false q =
      let low : n < 256 = grind (arith, nat_tests) in
      rw (q, no_mark n rest lt) (byte_number.complete n rest low none)
  by true q =
      let high : 256 ≤ n = grind (arith, nat_tests) in
      let e : number_at 256 (decimal (n - 256) ++ rest) ≡ Some (n - 256, rest) = byte_number.complete (n - 256) rest (omega arith) none in
      let back : n - 256 + 256 ≡ n = omega arith in
      rw (q, after_there (codes "k") (decimal (n - 256) ++ rest), e) (ap (λ k. Some (k, rest)) back)

takes_bare : (may_be : Bool) → Takes (λ text. field_from may_be text (after (codes "k") text)) (bare may_be) (λ n. n < 512)
takes_bare may_be = record {
  sound = λ text x e. field_back may_be text (after (codes "k") text) x refl e;
  complete = λ n rest good none. field_there may_be n rest good none;
}

spaced_bare : (may_be : Bool) → Takes (field_at may_be) (λ n. 32 ∷ bare may_be n) (λ n. n < 512)
unfolding field_at
spaced_bare may_be = takes_behind (codes " ") (takes_bare may_be)

-- the same by another text
pub takes_shown : {A : Type 0} {cut : Text → Option (A × Text)} {show : A → Text} {Good : A → Type 0} (other : A → Text) → ((a : A) → other a ≡ show a) → Takes cut show Good → Takes cut other Good
takes_shown other same p = record {
  sound = λ text x e. let s = p.sound text x e in (s.0 ∙ ap (λ t. t ++ x.1) (sym (same x.0)), s.1);
  complete = λ a rest good none. rw (same a) (p.complete a rest good none);
}

takes_field : (may_be : Bool) → Takes (field_at may_be) (field_text may_be) (λ n. n < 512)
takes_field may_be = takes_shown (field_text may_be) (text_of_field may_be) (spaced_bare may_be)

starts_field : (may_be : Bool) → Starts (field_text may_be) (λ n. n < 512)
starts_field may_be = record { no_digit = λ n rest good none. rw (text_of_field may_be n) refl }

-- ---- the fields of a shape

abbrev shape_format : Shape → Format
shape_format shows_constant = Format.Abx
shape_format shows_function = Format.Abx
shape_format shows_jump = Format.Asbx
shape_format (shows_two b c) = Format.Abc

pub format_by_shape : (op : Op) → format_of op ≡ shape_format (shape_of op)
format_by_shape Op.Move = refl
format_by_shape Op.LoadK = refl
format_by_shape Op.LoadBool = refl
format_by_shape Op.LoadNil = refl
format_by_shape Op.GetUpval = refl
format_by_shape Op.GetGlobal = refl
format_by_shape Op.GetTable = refl
format_by_shape Op.SetGlobal = refl
format_by_shape Op.SetUpval = refl
format_by_shape Op.SetTable = refl
format_by_shape Op.NewTable = refl
format_by_shape Op.Self_ = refl
format_by_shape Op.Add = refl
format_by_shape Op.Sub = refl
format_by_shape Op.Mul = refl
format_by_shape Op.Div = refl
format_by_shape Op.Mod = refl
format_by_shape Op.Pow = refl
format_by_shape Op.Unm = refl
format_by_shape Op.Not = refl
format_by_shape Op.Len = refl
format_by_shape Op.Concat = refl
format_by_shape Op.Jmp = refl
format_by_shape Op.Eq = refl
format_by_shape Op.Lt = refl
format_by_shape Op.Le = refl
format_by_shape Op.Test = refl
format_by_shape Op.TestSet = refl
format_by_shape Op.Call = refl
format_by_shape Op.TailCall = refl
format_by_shape Op.Return = refl
format_by_shape Op.ForLoop = refl
format_by_shape Op.ForPrep = refl
format_by_shape Op.TForLoop = refl
format_by_shape Op.SetList = refl
format_by_shape Op.Close = refl
format_by_shape Op.Closure = refl
format_by_shape Op.Vararg = refl

-- an instruction of this opcode and this A, whose fields are those of the shape
pub record IsOf (shape : Shape) (op : Op) (a : ℕ) (i : Instr) : Type 0 where
  pub op_is : i.op ≡ op
  pub a_is : i.a ≡ a
  pub fit : FieldsFit (shape_format shape) i

remade : (op : Op) (a : ℕ) (i : Instr) (b c bx : ℕ) (sbx : ℤ) → i.op ≡ op → i.a ≡ a → i.b ≡ b → i.c ≡ c → i.bx ≡ bx → i.sbx ≡ sbx → instr op a b c bx sbx ≡ i
remade op a i b c bx sbx e f g h k l = λ j. record { op = sym e j; a = sym f j; b = sym g j; c = sym h j; bx = sym k j; sbx = sym l j }

bx_number : Takes (number_at 262144) decimal (λ n. n < 262144)
bx_number = takes_number 262144 (omega arith) (omega arith)

sbx_low : (z : ℤ) → Within 131072 131073 z → FieldsFit Format.Asbx (instr Op.Jmp 0 0 0 0 z)
sbx_low (pos n) h = (refl, refl, refl, omega (arith, ints), omega (arith, ints))
sbx_low (negsuc n) h = (refl, refl, refl, omega (arith, ints), omega (arith, ints))

sbx_within : (op : Op) (a : ℕ) (i : Instr) → FieldsFit Format.Asbx i → Within 131072 131073 i.sbx
sbx_within op a i h = by i.sbx h.3 h.4 where
  by : (z : ℤ) → neg_ℤ (pos 131071) ≤ℤ z → z ≤ℤ pos 131072 → Within 131072 131073 z
  by (pos n) l k = omega (arith, ints)
  by (negsuc n) l k = omega (arith, ints)

pub takes_fields : (shape : Shape) (op : Op) (a : ℕ) → Takes (fields_at shape op a) (fields_text shape) (IsOf shape op a)
unfolding fields_at
takes_fields shows_constant op a =
    takes_as (λ n. instr op a 0 0 n (pos 0)) (fields_text shows_constant) (IsOf shows_constant op a) (takes_behind (codes " k") bx_number)
    (λ n lt. (refl, record { op_is = refl; a_is = refl; fit = (refl, refl, lt, refl) }))
    (λ i is. (i.bx, remade op a i 0 0 i.bx (pos 0) is.op_is is.a_is is.fit.0 is.fit.1 refl is.fit.3, is.fit.2))
takes_fields shows_function op a =
    takes_as (λ n. instr op a 0 0 n (pos 0)) (fields_text shows_function) (IsOf shows_function op a) (takes_behind (codes " f") bx_number)
    (λ n lt. (refl, record { op_is = refl; a_is = refl; fit = (refl, refl, lt, refl) }))
    (λ i is. (i.bx, remade op a i 0 0 i.bx (pos 0) is.op_is is.a_is is.fit.0 is.fit.1 refl is.fit.3, is.fit.2))
takes_fields shows_jump op a =
    takes_as (λ z. instr op a 0 0 0 z) (fields_text shows_jump) (IsOf shows_jump op a) (takes_behind (codes " ") (takes_signed 131072 131073 (omega arith) (omega arith) (omega arith) (omega arith)))
    (λ z fits. (refl, record { op_is = refl; a_is = refl; fit = let s = sbx_low z fits in (refl, refl, refl, s.3, s.4) }))
    (λ i is. (i.sbx, remade op a i 0 0 0 i.sbx is.op_is is.a_is is.fit.0 is.fit.1 is.fit.2 refl, sbx_within op a i is.fit))
takes_fields (shows_two b c) op a =
    takes_as (λ (p : ℕ × ℕ). instr op a p.0 p.1 0 (pos 0)) (fields_text (shows_two b c)) (IsOf (shows_two b c) op a) (takes_then (takes_field b) (λ n. takes_field c) (λ n. starts_field c))
    (λ p lt. (refl, record { op_is = refl; a_is = refl; fit = (lt.0, lt.1, refl, refl) }))
    (λ i is. ((i.b, i.c), remade op a i i.b i.c 0 (pos 0) is.op_is is.a_is refl refl is.fit.2 is.fit.3, (is.fit.0, is.fit.1)))

pub starts_fields : (shape : Shape) (Good : Instr → Type 0) → Starts (fields_text shape) Good
starts_fields shows_constant Good = record { no_digit = λ i rest good none. refl }
starts_fields shows_function Good = record { no_digit = λ i rest good none. refl }
starts_fields shows_jump Good = record { no_digit = λ i rest good none. refl }
starts_fields (shows_two b c) Good = record { no_digit = λ i rest good none. rw (text_of_field b i.b) refl }
