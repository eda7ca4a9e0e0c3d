-- The line of a word says which word it is.
use Rattle.std.proofs.Common.{◌≡◌, ◌≢◌, ℕ, ◌+◌, ◌*◌, ◌<◌, ◌^◌, ℤ, pos, negsuc, Bool, true, false, cond, IfSome, [], ◌∷◌, ◌++◌, Option, None, Some, refl, sym, ap, subst, ◌∙◌, append_assoc, arith, codes}
use Rattle.std.specs.Prelude.{neg_ℤ, ◌≤ℤ◌}
use Rattle.std.proofs.lemmas.Int.{ints}
use Rattle.std.proofs.lemmas.List.{append-nil}
use Rattle.std.specs.List.{AllByRecursion}
use Rattle.std.specs.Fmt.{decimal}
use Rattle.lua_num.specs.Bytes.{Text}
use Rattle.opcode.specs.declared.op.Op.{Op}
use Rattle.opcode.specs.declared.op.Format.{Format}
use Rattle.opcode.specs.declared.word.Instr.{Instr}
use Rattle.opcode.specs.Word.{op_number, format_of, excess_of, operands_of, word_of, FieldsFit, InRange}
use Rattle.opcode.specs.Reading.{instr_of}
use Rattle.opcode.proofs.WordReading.{word_is_read, read_back}
use Rattle.lister.specs.Listing.{digits, fields_text, shape_of, op_name, shown}
use Rattle.asm_text.specs.Lines.{bare_text, names_something, has_comment, ShowsWord}
use Rattle.asm_text.specs.Reading.{◌&>=◌, cut_at, after, behind, number_at, fields_at, op_at, instr_at, is_some_text, is_empty, ends_line, if_ends, if_not_shown, plain_word_at, shown_word_at, bare_from, bare_at, word_at, whole}
use Rattle.asm_text.proofs.Cutting.{the_same, IsCut, cut_there, cut_back, after_there, after_back}
use Rattle.asm_text.proofs.Fronts.{NoDigit, Takes, Wholes, whole_of, behind_back, behind_there}
use Rattle.asm_text.proofs.Digits.{takes_number}
use Rattle.asm_text.proofs.Names.{op_back, op_there, name_cut, no_word}
use Rattle.asm_text.proofs.Fields.{format_by_shape, IsOf, takes_fields, starts_fields}

-- ---- an instruction

abbrev instr_text : Instr → Text
instr_text i = op_name i.op ++ ((32 ∷ digits i.a) ++ fields_text (shape_of i.op) i)

byte_number : Takes (number_at 256) decimal (λ n. n < 256)
byte_number = takes_number 256 (omega arith) (omega arith)

IsInstr : Text → Instr × Text → Type 0
IsInstr text x = (text ≡ instr_text x.0 ++ x.1) × InRange x.0

in_range : (op : Op) (a : ℕ) (i : Instr) → a < 256 → IsOf (shape_of op) op a i → InRange i
in_range op a i lt is = record {
  a = omega (arith, is.a_is, lt);
  others = subst (λ o. FieldsFit (format_of o) i) (sym is.op_is) (subst (λ f. FieldsFit f i) (sym (format_by_shape op)) is.fit);
}

regroup : (name number fields rest : Text) → (name ++ ((32 ∷ number) ++ fields)) ++ rest ≡ name ++ (32 ∷ (number ++ (fields ++ rest)))
regroup name number fields rest = append_assoc name ((32 ∷ number) ++ fields) rest ∙ ap (λ (t : Text). name ++ (32 ∷ t)) (append_assoc number fields rest)

instr_sound : (text : Text) (cutting : Text × Text) (op : Op) (a : ℕ × Text) (x : Instr × Text) → IsCut 32 text cutting.0 cutting.1 → cutting.0 ≡ op_name op → (cutting.1 ≡ decimal a.0 ++ a.1) × (a.0 < 256) → (a.1 ≡ fields_text (shape_of op) x.0 ++ x.1) × IsOf (shape_of op) op a.0 x.0 → IsInstr text x
unfolding IsInstr
instr_sound text cutting op a x c named number fields =
    let i = x.0 in
    let is = fields.1 in
    let start : text ≡ op_name op ++ (32 ∷ cutting.1) = c.here ∙ append_assoc cutting.0 (32 ∷ []) cutting.1 ∙ ap (λ (t : Text). t ++ (32 ∷ cutting.1)) named in
    let all : text ≡ op_name op ++ (32 ∷ (decimal a.0 ++ (fields_text (shape_of op) i ++ x.1))) = start ∙ ap (λ (t : Text). op_name op ++ (32 ∷ t)) (number.0 ∙ ap (λ (t : Text). decimal a.0 ++ t) fields.0) in
    let mine : op_name op ++ (32 ∷ (decimal a.0 ++ (fields_text (shape_of op) i ++ x.1))) ≡ op_name i.op ++ (32 ∷ (decimal i.a ++ (fields_text (shape_of i.op) i ++ x.1))) =
    ap (λ o. op_name o ++ (32 ∷ (decimal a.0 ++ (fields_text (shape_of o) i ++ x.1)))) (sym is.op_is) ∙ ap (λ n. op_name i.op ++ (32 ∷ (decimal n ++ (fields_text (shape_of i.op) i ++ x.1)))) (sym is.a_is) in
    (all ∙ mine ∙ sym (regroup (op_name i.op) (decimal i.a) (fields_text (shape_of i.op) i) x.1), in_range op a.0 i number.1 is)

number_step : (text : Text) (cutting : Text × Text) (op : Op) (x : Instr × Text) → IsCut 32 text cutting.0 cutting.1 → cutting.0 ≡ op_name op → (r : Option (ℕ × Text)) → number_at 256 cutting.1 ≡ r → (r &>= λ a. fields_at (shape_of op) op a.0 a.1) ≡ Some x → IsInstr text x
number_step text cutting op x c named None q e = absurd cc
number_step text cutting op x c named (Some a) q e =
    instr_sound text cutting op a x c named (byte_number.sound cutting.1 a q) ((takes_fields (shape_of op) op a.0).sound a.1 x e)

op_step : (text : Text) (cutting : Text × Text) (x : Instr × Text) → IsCut 32 text cutting.0 cutting.1 → (r : Option Op) → op_at cutting.0 ≡ r → (r &>= λ op. number_at 256 cutting.1 &>= λ a. fields_at (shape_of op) op a.0 a.1) ≡ Some x → IsInstr text x
op_step text cutting x c None q e = absurd cc
op_step text cutting x c (Some op) q e = number_step text cutting op x c (op_back cutting.0 op q) (number_at 256 cutting.1) refl e

name_step : (text : Text) (x : Instr × Text) (r : Option (Text × Text)) → cut_at 32 text ≡ r → (r &>= λ y. op_at y.0 &>= λ op. number_at 256 y.1 &>= λ a. fields_at (shape_of op) op a.0 a.1) ≡ Some x → IsInstr text x
name_step text x None q e = absurd cc
name_step text x (Some y) q e = op_step text y x (cut_back 32 text y q) (op_at y.0) refl e

instr_there : (i : Instr) (rest : Text) → InRange i → NoDigit rest → instr_at (instr_text i ++ rest) ≡ Some (i, rest)
unfolding instr_at
instr_there i rest r none =
    let op = i.op in
    let fields = fields_text (shape_of op) i in
    let is : IsOf (shape_of op) op i.a i = record { op_is = refl; a_is = refl; fit = subst (λ f. FieldsFit f i) (format_by_shape op) r.others } in
    let starts : NoDigit (fields ++ rest) = (starts_fields (shape_of op) (λ j. Unit {0})).no_digit i rest tt none in
    let cut : cut_at 32 (op_name op ++ (32 ∷ (decimal i.a ++ (fields ++ rest)))) ≡ Some (op_name op, decimal i.a ++ (fields ++ rest)) = name_cut op (decimal i.a ++ (fields ++ rest)) in
    let number : number_at 256 (decimal i.a ++ (fields ++ rest)) ≡ Some (i.a, fields ++ rest) = byte_number.complete i.a (fields ++ rest) r.a starts in
    let last : fields_at (shape_of op) op i.a (fields ++ rest) ≡ Some (i, rest) = (takes_fields (shape_of op) op i.a).complete i rest is none in
    rw (regroup (op_name op) (decimal i.a) fields rest, cut, op_there op, number, last) refl

instr_back : (text : Text) (x : Instr × Text) → instr_at text ≡ Some x → IsInstr text x
unfolding instr_at
instr_back text x e = name_step text x (cut_at 32 text) refl e

-- the fields of an instruction that is read are in range
pub read_in_range : (text : Text) (i : Instr) (rest : Text) → instr_at text ≡ Some (i, rest) → InRange i
unfolding IsInstr
read_in_range text i rest e = (instr_back text (i, rest) e).1

-- ---- behind the brackets

abbrev Ended : Text → (commented : Bool) → Text → Type 0
Ended bare false t = t ≡ bare
Ended bare true t = (comment : Text) × (t ≡ bare ++ (codes " ; " ++ comment))

IsBare : (raw : Bool) → ℕ → Text → Type 0
IsBare raw w t = (w < 2 ^ 32) × Ended (bare_text w (shown raw w)) (has_comment (shown raw w)) t

word_number : Takes (number_at 4294967296) decimal (λ n. n < 4294967296)
word_number = takes_number 4294967296 (omega arith) (omega arith)

whole_word : Wholes (whole (number_at 4294967296)) decimal (λ n. n < 4294967296)
whole_word = whole_of word_number

plain_shown : (raw : Bool) (t : Text) (w v : ℕ) (o : Option Instr) → shown raw w ≡ o → t ≡ codes "WORD " ++ decimal w → w < 4294967296 → if_not_shown o w ≡ Some v → IsBare raw v t
unfolding IsBare
plain_shown raw t w v None q here lt e =
    let same : w ≡ v = the_same w v e in
    subst (λ v. (v < 2 ^ 32) × Ended (bare_text v (shown raw v)) (has_comment (shown raw v)) t) same (lt, subst (λ o. Ended (bare_text w o) (has_comment o) t) (sym q) here)
plain_shown raw t w v (Some i) q here lt e = absurd cc

plain_back : (raw : Bool) (t rest : Text) (v : ℕ) (r : Option ℕ) → t ≡ codes "WORD " ++ rest → ((w : ℕ) → r ≡ Some w → (rest ≡ decimal w) × (w < 4294967296)) → (r &>= λ w. if_not_shown (shown raw w) w) ≡ Some v → IsBare raw v t
plain_back raw t rest v None here h e = absurd cc
plain_back raw t rest v (Some w) here h e =
    let s = h w refl in
    plain_shown raw t w v (shown raw w) refl (here ∙ ap (λ r. codes "WORD " ++ r) s.0) s.1 e

format_below : (f : Format) (i : Instr) (n : ℕ) → n < 64 → i.a < 256 → FieldsFit f i → n + 64 * i.a + operands_of f i < 4294967296
format_below Format.Abc i n h a fit = omega (arith, h, a, fit.0, fit.1)
format_below Format.Abx i n h a fit = omega (arith, h, a, fit.2)
format_below Format.Asbx i n h a fit = by i.sbx fit.3 fit.4 where
  by : (z : ℤ) → neg_ℤ (pos 131071) ≤ℤ z → z ≤ℤ pos 131072 → n + 64 * i.a + 16384 * excess_of z < 4294967296
  by (pos m) l k = omega (arith, ints, h, a)
  by (negsuc m) l k = omega (arith, ints, h, a)

empty_text : (r : Text) → is_empty r ≡ true → r ≡ []
empty_text [] h = refl
empty_text (b ∷ r) h = absurd cc

ended_some : (r : Text) (o : Option Text) → after (codes " ; ") r ≡ o → is_some_text o ≡ true → (comment : Text) × (r ≡ codes " ; " ++ comment)
ended_some r None q h = absurd cc
ended_some r (Some c) q h = (c, after_back (codes " ; ") r c q)

ended_by : (bare t r : Text) (commented : Bool) → t ≡ bare ++ r → ends_line commented r ≡ true → Ended bare commented t
ended_by bare t r false here h = here ∙ ap (λ (k : Text). bare ++ k) (empty_text r h) ∙ append-nil bare
ended_by bare t r true here h =
    let c = ended_some r (after (codes " ; ") r) refl h in
    (c.0, here ∙ ap (λ (k : Text). bare ++ k) c.1)

small_number : (op : Op) → op_number op < 64
small_number Op.Move = omega arith
small_number Op.LoadK = omega arith
small_number Op.LoadBool = omega arith
small_number Op.LoadNil = omega arith
small_number Op.GetUpval = omega arith
small_number Op.GetGlobal = omega arith
small_number Op.GetTable = omega arith
small_number Op.SetGlobal = omega arith
small_number Op.SetUpval = omega arith
small_number Op.SetTable = omega arith
small_number Op.NewTable = omega arith
small_number Op.Self_ = omega arith
small_number Op.Add = omega arith
small_number Op.Sub = omega arith
small_number Op.Mul = omega arith
small_number Op.Div = omega arith
small_number Op.Mod = omega arith
small_number Op.Pow = omega arith
small_number Op.Unm = omega arith
small_number Op.Not = omega arith
small_number Op.Len = omega arith
small_number Op.Concat = omega arith
small_number Op.Jmp = omega arith
small_number Op.Eq = omega arith
small_number Op.Lt = omega arith
small_number Op.Le = omega arith
small_number Op.Test = omega arith
small_number Op.TestSet = omega arith
small_number Op.Call = omega arith
small_number Op.TailCall = omega arith
small_number Op.Return = omega arith
small_number Op.ForLoop = omega arith
small_number Op.ForPrep = omega arith
small_number Op.TForLoop = omega arith
small_number Op.SetList = omega arith
small_number Op.Close = omega arith
small_number Op.Closure = omega arith
small_number Op.Vararg = omega arith

shown_ends : (t : Text) (x : Instr × Text) (v : ℕ) (d : Bool) → IsInstr t x → ends_line (names_something (shape_of x.0.op) x.0) x.1 ≡ d → cond d (Some (word_of x.0)) None ≡ Some v → IsBare false v t
unfolding IsInstr IsBare
shown_ends t x v true is q e =
    let i = x.0 in
    let same : word_of i ≡ v = the_same (word_of i) v e in
    let read : instr_of (word_of i) ≡ Some i = word_is_read i is.1 in
    subst (λ v. (v < 2 ^ 32) × Ended (bare_text v (shown false v)) (has_comment (shown false v)) t) same (
      format_below (format_of i.op) i (op_number i.op) (small_number i.op) is.1.a is.1.others,
      subst (λ o. Ended (bare_text (word_of i) o) (has_comment o) t) (sym read) (ended_by (instr_text i) t x.1 (names_something (shape_of i.op) i) is.0 q),
    )
shown_ends t x v false is q e = absurd cc

shown_back : (t : Text) (v : ℕ) (r : Option (Instr × Text)) → instr_at t ≡ r → (r &>= λ x. if_ends x.0 x.1) ≡ Some v → IsBare false v t
shown_back t v None q e = absurd cc
shown_back t v (Some x) q e = shown_ends t x v (ends_line (names_something (shape_of x.0.op) x.0) x.1) (instr_back t x q) refl e

bare_back : (raw : Bool) (t : Text) (v : ℕ) (r : Option Text) → after (codes "WORD ") t ≡ r → bare_from raw t r ≡ Some v → IsBare raw v t
unfolding plain_word_at shown_word_at
bare_back raw t v (Some rest) q e = plain_back raw t rest v (whole (number_at 4294967296) rest) (after_back (codes "WORD ") t rest q) (whole_word.sound rest) e
bare_back true t v None q e = absurd cc
bare_back false t v None q e = shown_back t v (instr_at t) refl e

-- the other way

ends_there : (commented : Bool) (bare t : Text) → Ended bare commented t → (r : Text) × (t ≡ bare ++ r) × (ends_line commented r ≡ true) × NoDigit r
ends_there false bare t e = ([], e ∙ sym (append-nil bare), refl, refl)
ends_there true bare t e = (codes " ; " ++ e.0, e.1, ap is_some_text (after_there (codes " ; ") e.0), refl)

shown_there : (w : ℕ) (i : Instr) (t : Text) → InRange i → word_of i ≡ w → Ended (instr_text i) (names_something (shape_of i.op) i) t → bare_at false t ≡ Some w
unfolding bare_at shown_word_at
shown_there w i t r is e =
    let end = ends_there (names_something (shape_of i.op) i) (instr_text i) t e in
    let grouped = regroup (op_name i.op) (decimal i.a) (fields_text (shape_of i.op) i) end.0 in
    let none : after (codes "WORD ") t ≡ None = ap (after (codes "WORD ")) (end.1 ∙ grouped) ∙ no_word i.op (decimal i.a ++ (fields_text (shape_of i.op) i ++ end.0)) in
    let read : instr_at t ≡ Some (i, end.0) = ap instr_at end.1 ∙ instr_there i end.0 r end.3 in
    rw (none, read, end.2) (ap (λ n. Some n) is)

plain_there : (raw : Bool) (w : ℕ) (t : Text) → w < 2 ^ 32 → shown raw w ≡ None → t ≡ codes "WORD " ++ decimal w → bare_at raw t ≡ Some w
unfolding bare_at plain_word_at
plain_there raw w t lt q here =
    let read : whole (number_at 4294967296) (decimal w) ≡ Some w = whole_word.complete (decimal w) w lt refl in
    rw (here, after_there (codes "WORD ") (decimal w), read, q) refl

bare_shown : (raw : Bool) (w : ℕ) (t : Text) (o : Option Instr) → w < 2 ^ 32 → shown raw w ≡ o → Ended (bare_text w o) (has_comment o) t → bare_at raw t ≡ Some w
bare_shown raw w t None lt q e = plain_there raw w t lt q e
bare_shown true w t (Some i) lt q e = absurd cc
bare_shown false w t (Some i) lt q e =
    let k = subst (λ o. IfSome o (λ i. InRange i × (word_of i ≡ w))) q (read_back w lt) in
    shown_there w i t k.0 k.1 e

bare_there : (raw : Bool) (w : ℕ) (t : Text) → IsBare raw w t → bare_at raw t ≡ Some w
unfolding IsBare
bare_there raw w t h = bare_shown raw w t (shown raw w) h.0 refl h.1

-- ---- a line

placed : (pc : ℕ) (bare : Text) (commented : Bool) (t bracket rest : Text) → AllByRecursion (λ byte. byte ≢ 93) bracket → t ≡ digits pc ++ (codes " [" ++ (bracket ++ (codes "] " ++ rest))) → Ended bare commented rest → ShowsWord pc bare commented t
placed pc bare false t bracket rest lacks here e = (bracket, lacks, here ∙ ap (λ (k : Text). digits pc ++ (codes " [" ++ (bracket ++ (codes "] " ++ k)))) e)
placed pc bare true t bracket rest lacks here e = (bracket, lacks, (e.0, here ∙ ap (λ (k : Text). digits pc ++ (codes " [" ++ (bracket ++ (codes "] " ++ k)))) e.1))

unplaced : (pc : ℕ) (bare : Text) (commented : Bool) (t : Text) → ShowsWord pc bare commented t → (bracket : Text) × AllByRecursion (λ byte. byte ≢ 93) bracket × ((rest : Text) × (t ≡ digits pc ++ (codes " [" ++ (bracket ++ (codes "] " ++ rest)))) × Ended bare commented rest)
unplaced pc bare false t s = (s.0, s.1, (bare, s.2, refl))
unplaced pc bare true t s = (s.0, s.1, (bare ++ (codes " ; " ++ s.2.0), s.2.1, (s.2.0, refl)))

in_brackets : (raw : Bool) (text : Text) (v : ℕ) (r : Option (Text × Text)) → cut_at 93 text ≡ r → (r &>= λ x. behind (codes " ") (bare_at raw) x.1) ≡ Some v
    → (bracket : Text) × AllByRecursion (λ byte. byte ≢ 93) bracket × ((rest : Text) × (text ≡ bracket ++ (codes "] " ++ rest)) × (bare_at raw rest ≡ Some v))
in_brackets raw text v None q e = absurd cc
in_brackets raw text v (Some x) q e =
    let c = cut_back 93 text x q in
    let b = behind_back (codes " ") (bare_at raw) x.1 v e in
    (x.0, c.lacks, (b.0, c.here ∙ append_assoc x.0 (93 ∷ []) x.1 ∙ ap (λ (k : Text). x.0 ++ (93 ∷ k)) b.1, b.2))

abbrev bracketed : Bool → Text → Option ℕ
bracketed raw text = cut_at 93 text &>= λ x. behind (codes " ") (bare_at raw) x.1

pub word_sound : (raw : Bool) (pc : ℕ) (t : Text) (w : ℕ) → word_at raw pc t ≡ Some w → (w < 2 ^ 32) × ShowsWord pc (bare_text w (shown raw w)) (has_comment (shown raw w)) t
unfolding word_at IsBare bare_at
word_sound raw pc t w e =
    let a = behind_back (digits pc) (behind (codes " [") (bracketed raw)) t w e in
    let b = behind_back (codes " [") (bracketed raw) a.0 w a.2 in
    let c = in_brackets raw b.0 w (cut_at 93 b.0) refl b.2 in
    let rest = c.2.0 in
    let is = bare_back raw rest w (after (codes "WORD ") rest) refl c.2.2 in
    let whole : t ≡ digits pc ++ (codes " [" ++ (c.0 ++ (codes "] " ++ rest))) = a.1 ∙ ap (λ (k : Text). digits pc ++ k) (b.1 ∙ ap (λ (k : Text). codes " [" ++ k) c.2.1) in
    (is.0, placed pc (bare_text w (shown raw w)) (has_comment (shown raw w)) t c.0 rest c.1 whole is.1)

pub word_complete : (raw : Bool) (pc : ℕ) (t : Text) (w : ℕ) → w < 2 ^ 32 → ShowsWord pc (bare_text w (shown raw w)) (has_comment (shown raw w)) t → word_at raw pc t ≡ Some w
unfolding word_at IsBare
word_complete raw pc t w lt s =
    let u = unplaced pc (bare_text w (shown raw w)) (has_comment (shown raw w)) t s in
    let bracket = u.0 in
    let rest = u.2.0 in
    let cut : cut_at 93 (bracket ++ (codes "] " ++ rest)) ≡ Some (bracket, 32 ∷ rest) = cut_there 93 bracket (32 ∷ rest) (bracket ++ (codes "] " ++ rest)) (sym (append_assoc bracket (93 ∷ []) (32 ∷ rest))) u.1 in
    let read : bare_at raw rest ≡ Some w = bare_there raw w rest (lt, u.2.2) in
    ap (word_at raw pc) u.2.1
    ∙ behind_there (digits pc) (behind (codes " [") (bracketed raw)) (codes " [" ++ (bracket ++ (codes "] " ++ rest)))
    ∙ behind_there (codes " [") (bracketed raw) (bracket ++ (codes "] " ++ rest))
    ∙ ap (λ (r : Option (Text × Text)). r &>= λ x. behind (codes " ") (bare_at raw) x.1) cut
    ∙ behind_there (codes " ") (bare_at raw) rest
    ∙ read
