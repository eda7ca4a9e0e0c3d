-- The word of an instruction is read as that instruction, and what is read has the word.
use Rattle.std.proofs.Common.{rules, ◌≡◌, ℕ, zero, suc, ◌+◌, ◌-◌, ◌*◌, ◌/◌, ◌%◌, ◌^◌, ◌<◌, ◌≤◌, ℤ, pos, negsuc, None, Some, List, [], ◌∷◌, IfSome, refl, sym, ap, ◌∙◌, subst, arith, leb→le}
use Rattle.std.proofs.lemmas.Bool.{cases_lt}
use Rattle.std.proofs.lemmas.Int.{ints}
use Rattle.std.proofs.lemmas.Option.{slice_get_past, slice_get_within, slice_get_cases, none-some, same_Some}
use Rattle.std.specs.Prelude.{Option, slice_get, option_map, ◌-ℤ◌, ◌≤ℤ◌, neg_ℤ}
use mathlib.Core.Logic.{⊎_elim}
use Rattle.opcode.specs.declared.op.Op.{Op}
use Rattle.opcode.specs.declared.op.Format.{Format}
use Rattle.opcode.specs.declared.word.Instr.{Instr}
use Rattle.opcode.specs.Word.{op_number, format_of, excess_of, operands_of, word_of, FieldsFit, InRange}
use Rattle.opcode.specs.Reading.{opcodes, fields, instr_of}

-- each opcode stands at its number
number_has : (op : Op) → slice_get opcodes (op_number op) ≡ Some op
number_has Op.Move = refl
number_has Op.LoadK = refl
number_has Op.LoadBool = refl
number_has Op.LoadNil = refl
number_has Op.GetUpval = refl
number_has Op.GetGlobal = refl
number_has Op.GetTable = refl
number_has Op.SetGlobal = refl
number_has Op.SetUpval = refl
number_has Op.SetTable = refl
number_has Op.NewTable = refl
number_has Op.Self_ = refl
number_has Op.Add = refl
number_has Op.Sub = refl
number_has Op.Mul = refl
number_has Op.Div = refl
number_has Op.Mod = refl
number_has Op.Pow = refl
number_has Op.Unm = refl
number_has Op.Not = refl
number_has Op.Len = refl
number_has Op.Concat = refl
number_has Op.Jmp = refl
number_has Op.Eq = refl
number_has Op.Lt = refl
number_has Op.Le = refl
number_has Op.Test = refl
number_has Op.TestSet = refl
number_has Op.Call = refl
number_has Op.TailCall = refl
number_has Op.Return = refl
number_has Op.ForLoop = refl
number_has Op.ForPrep = refl
number_has Op.TForLoop = refl
number_has Op.SetList = refl
number_has Op.Close = refl
number_has Op.Closure = refl
number_has Op.Vararg = refl

-- the numbers of opcodes count up from the first
abbrev numbered : ℕ → List Op → Type 0
numbered k [] = Unit {0}
numbered k (op ∷ ops) = (op_number op ≡ k) × numbered (suc k) ops

number_at : (ops : List Op) (k n : ℕ) (op : Op) → numbered k ops → slice_get ops n ≡ Some op → op_number op ≡ k + n
number_at [] k n op is at = absurd (none-some op at)
number_at (o ∷ ops) k zero op is at = ap op_number (sym (same_Some o op at)) ∙ omega (arith, is.0)
number_at (o ∷ ops) k (suc n) op is at = omega (arith, number_at ops (suc k) n op is.1 at)

opened : (op : Op) (n w : ℕ) → slice_get opcodes n ≡ Some op → w % 64 ≡ n → instr_of w ≡ Some (fields op (format_of op) w)
opened op n w at low = ap (λ k. option_map (λ o. fields o (format_of o) w) (slice_get opcodes k)) low ∙ ap (λ x. option_map (λ o. fields o (format_of o) w) x) at

pub read_as : (op : Op) (f : Format) (w : ℕ) → op_number op ≡ w % 64 → format_of op ≡ f → instr_of w ≡ Some (fields op f w)
read_as op f w low is = opened op (op_number op) w (number_has op) (sym low) ∙ ap (λ g. Some (fields op g w)) is

excess_back : (sbx : ℤ) → neg_ℤ (pos 131071) ≤ℤ sbx → pos (excess_of sbx) -ℤ pos 131071 ≡ sbx
excess_back (pos n) low = omega (arith, ints)
excess_back (negsuc n) low =
    let small : n ≤ 131070 = leb→le n 131070 low.le in
    let whole : 131070 - n + n ≡ 131070 = omega (arith, small) in
    omega (arith, ints, whole)

excess_there : (n : ℕ) → excess_of (pos n -ℤ pos 131071) ≡ n
excess_there n = ⊎_elim below above (cases_lt n 131071) where
  below : n < 131071 → excess_of (pos n -ℤ pos 131071) ≡ n
  below h =
      let is : pos n -ℤ pos 131071 ≡ negsuc (131070 - n) = omega (arith, ints, h) in
      ap excess_of is ∙ omega (arith, h)

  above : 131071 ≤ n → excess_of (pos n -ℤ pos 131071) ≡ n
  above h =
      let is : pos n -ℤ pos 131071 ≡ pos (n - 131071) = omega (arith, ints, h) in
      ap excess_of is ∙ omega (arith, h)

low_six : (f : Format) (i : Instr) (n : ℕ) → n < 64 → (n + 64 * i.a + operands_of f i) % 64 ≡ n
low_six Format.Abc i n h = omega arith
low_six Format.Abx i n h = omega arith
low_six Format.Asbx i n h = omega arith

field_a : (f : Format) (i : Instr) (n : ℕ) → n < 64 → i.a < 256 → (n + 64 * i.a + operands_of f i) / 64 % 256 ≡ i.a
field_a Format.Abc i n h ha = omega arith
field_a Format.Abx i n h ha = omega arith
field_a Format.Asbx i n h ha = omega arith

field_bx : (n a x : ℕ) → n < 64 → a < 256 → (n + 64 * a + 16384 * x) / 16384 ≡ x
field_bx n a x h ha = omega arith

field_b : (n a b c : ℕ) → n < 64 → a < 256 → c < 512 → (n + 64 * a + (16384 * c + 8388608 * b)) / 8388608 ≡ b
field_b n a b c h ha hc = omega arith

field_c : (n a b c : ℕ) → n < 64 → a < 256 → c < 512 → (n + 64 * a + (16384 * c + 8388608 * b)) / 16384 % 512 ≡ c
field_c n a b c h ha hc = omega arith

pub same_fields : (op : Op) (a b c bx a' b' c' bx' : ℕ) (sbx sbx' : ℤ) → a ≡ a' → b ≡ b' → c ≡ c' → bx ≡ bx' → sbx ≡ sbx' → ◌≡◌ {A = Instr} (record { op = op; a = a; b = b; c = c; bx = bx; sbx = sbx }) (record { op = op; a = a'; b = b'; c = c'; bx = bx'; sbx = sbx' })
same_fields op a b c bx a' b' c' bx' sbx sbx' ea eb ec ex es = cc

fields_back : (f : Format) (i : Instr) (n : ℕ) → n < 64 → i.a < 256 → FieldsFit f i → fields i.op f (n + 64 * i.a + operands_of f i) ≡ i
fields_back Format.Abc i n h ha fit = same_fields i.op _ _ _ _ _ _ _ _ _ _ (field_a Format.Abc i n h ha) (field_b n i.a i.b i.c h ha fit.1) (field_c n i.a i.b i.c h ha fit.1) (sym fit.2) (sym fit.3)
fields_back Format.Abx i n h ha fit = same_fields i.op _ _ _ _ _ _ _ _ _ _ (field_a Format.Abx i n h ha) (sym fit.0) (sym fit.1) (field_bx n i.a i.bx h ha) (sym fit.3)
fields_back Format.Asbx i n h ha fit = same_fields i.op _ _ _ _ _ _ _ _ _ _ (field_a Format.Asbx i n h ha) (sym fit.0) (sym fit.1) (sym fit.2) (ap (λ x. pos x -ℤ pos 131071) (field_bx n i.a (excess_of i.sbx) h ha) ∙ excess_back i.sbx fit.3)

pub word_is_read : (i : Instr) → InRange i → instr_of (word_of i) ≡ Some i
word_is_read i r =
    let f : Format = format_of i.op in
    let n : ℕ = op_number i.op in
    let small : n < 38 = slice_get_within opcodes n i.op (number_has i.op) in
    let below : n < 64 = omega arith in
    opened i.op n (word_of i) (number_has i.op) (low_six f i n below) ∙ ap (λ j. Some j) (fields_back f i n below r.a r.others)

pub no_word_is_read : (w : ℕ) → 38 ≤ w % 64 → instr_of w ≡ None
no_word_is_read w h = ap (λ o. option_map (λ op. fields op (format_of op) w) o) (slice_get_past opcodes (w % 64) h)

-- what a word of 32 bits is read as
abbrev IsKept : ℕ → Instr → Type 0
IsKept w i = InRange i × (word_of i ≡ w)

kept : (op : Op) (f : Format) (w : ℕ) → format_of op ≡ f → w < 2 ^ 32 → op_number op ≡ w % 64 → IsKept w (fields op f w)
kept op Format.Abc w is h low =
    (record { a = omega arith; others = subst (λ g. FieldsFit g (fields op Format.Abc w)) (sym is) (omega arith, omega arith, refl, refl) }, ap (λ g. op_number op + 64 * (w / 64 % 256) + operands_of g (fields op Format.Abc w)) is ∙ omega arith)
kept op Format.Abx w is h low =
    (record { a = omega arith; others = subst (λ g. FieldsFit g (fields op Format.Abx w)) (sym is) (refl, refl, omega arith, refl) }, ap (λ g. op_number op + 64 * (w / 64 % 256) + operands_of g (fields op Format.Abx w)) is ∙ omega arith)
kept op Format.Asbx w is h low =
    (record { a = omega arith; others = subst (λ g. FieldsFit g (fields op Format.Asbx w)) (sym is) (refl, refl, refl, omega (arith, ints), omega (arith, ints)) }, ap (λ g. op_number op + 64 * (w / 64 % 256) + operands_of g (fields op Format.Asbx w)) is ∙ omega (arith, excess_there (w / 16384)))

pub read_back : (w : ℕ) → w < 2 ^ 32 → IfSome (instr_of w) (λ i. InRange i × (word_of i ≡ w))
read_back w h =
    ⊎_elim
    (λ p. subst (λ o. IfSome o (IsKept w)) (sym (opened p.0 (w % 64) w p.2 refl)) (kept p.0 (format_of p.0) w refl h (number_at opcodes 0 (w % 64) p.0 (search rules) p.2 ∙ omega arith)))
    (λ p. subst (λ o. IfSome o (IsKept w)) (sym (no_word_is_read w p.0)) tt)
    (slice_get_cases opcodes (w % 64)).1

pub unread : (w : ℕ) → instr_of w ≡ None → 38 ≤ w % 64
unread w e =
    ⊎_elim (λ p. absurd (none-some _ (sym e ∙ opened p.0 (w % 64) w p.2 refl))) (λ p. p.0) (slice_get_cases opcodes (w % 64)).1

pub by_reading : (r : Option Instr) (w : ℕ) → r ≡ instr_of w → (i : Instr) → InRange i → w ≡ word_of i → r ≡ Some i
by_reading r w e i fits is = e ∙ ap instr_of is ∙ word_is_read i fits
