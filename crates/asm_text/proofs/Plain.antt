-- What a listing writes has no line end, and where it matters no space and no bracket.
use Rattle.std.proofs.Common.{◌≡◌, ◌≢◌, ℕ, zero, suc, ◌+◌, ◌/◌, ◌%◌, ◌<◌, ◌≤◌, ℤ, pos, negsuc, Bool, true, false, cond, eqb, ◌||◌, List, [], ◌∷◌, ◌++◌, Option, None, Some, refl, sym, subst, arith, codes}
use Rattle.std.specs.List.{flat_map, AllByRecursion}
use Rattle.std.specs.Fmt.{decimal, digits as radix_digits, digits_onto, digit_glyph}
use Rattle.std.proofs.lemmas.Bool.{eqb-false}
use Rattle.std.proofs.lemmas.Bool.Decides.{nat_tests}
use Rattle.lua_num.specs.Bytes.{Text}
use Rattle.lua_num.specs.Numeral.{decimal_text}
use Rattle.proto.specs.declared.parts.Constant.{Constant}
use Rattle.proto.specs.declared.parts.LocVar.{LocVar}
use Rattle.opcode.specs.declared.op.Op.{Op}
use Rattle.lister.specs.Listing.{digits, spaced, quoted_byte, quoted, three_digits, constant_text, source_text, local_text, op_name}

-- a byte that is none of these
pub record IsPlain (byte : ℕ) : Type 0 where
  pub no_end : byte ≢ 10
  pub no_space : byte ≢ 32
  pub no_bracket : byte ≢ 93

abbrev pub Plain : Text → Type 0
Plain t = AllByRecursion IsPlain t

abbrev pub OneLine : Text → Type 0
OneLine t = AllByRecursion (λ byte. byte ≢ 10) t

pub all_append : (P : ℕ → Type 0) (xs ys : Text) → AllByRecursion P xs → AllByRecursion P ys → AllByRecursion P (xs ++ ys)
all_append P [] ys h g = g
all_append P (x ∷ xs) ys h g = (h.0, all_append P xs ys h.1 g)

pub line_append : (xs ys : Text) → OneLine xs → OneLine ys → OneLine (xs ++ ys)
line_append xs ys h g = all_append (λ byte. byte ≢ 10) xs ys h g

all_weaker : (P Q : ℕ → Type 0) (xs : Text) → ((x : ℕ) → P x → Q x) → AllByRecursion P xs → AllByRecursion Q xs
all_weaker P Q [] go h = tt
all_weaker P Q (x ∷ xs) go h = (go x h.0, all_weaker P Q xs go h.1)

pub one_line : (t : Text) → Plain t → OneLine t
one_line t h = all_weaker IsPlain (λ byte. byte ≢ 10) t (λ x p. p.no_end) h

pub no_spaces : (t : Text) → Plain t → AllByRecursion (λ byte. byte ≢ 32) t
no_spaces t h = all_weaker IsPlain (λ byte. byte ≢ 32) t (λ x p. p.no_space) h

pub no_brackets : (t : Text) → Plain t → AllByRecursion (λ byte. byte ≢ 93) t
no_brackets t h = all_weaker IsPlain (λ byte. byte ≢ 93) t (λ x p. p.no_bracket) h

pub plain_byte : (b : ℕ) → 33 ≤ b → b ≤ 92 → IsPlain b
plain_byte b low high = record { no_end = λ e. omega (arith, e, low); no_space = λ e. omega (arith, e, low); no_bracket = λ e. omega (arith, e, high) }

-- ---- numbers

glyph_is : (m : ℕ) → m < 10 → digit_glyph false m ≡ 48 + m
glyph_is m lt = grind (arith, nat_tests)

last_plain : (n : ℕ) → IsPlain (digit_glyph false (n % 10))
last_plain n = subst IsPlain (sym (glyph_is (n % 10) (omega arith))) (plain_byte (48 + n % 10) (omega arith) (omega arith))

plain_either : (d : Bool) (xs ys : Text) → Plain xs → Plain ys → Plain (cond d xs ys)
plain_either true xs ys h g = h
plain_either false xs ys h g = g

onto_plain : (k n : ℕ) (acc : Text) → Plain acc → Plain (digits_onto k 10 false n acc)
onto_plain zero n acc h = h
onto_plain (suc k) n acc h =
    plain_either (eqb (n / 10) 0) (digit_glyph false (n % 10) ∷ acc) (digits_onto k 10 false (n / 10) (digit_glyph false (n % 10) ∷ acc)) (last_plain n, h) (onto_plain k (n / 10) (digit_glyph false (n % 10) ∷ acc) (last_plain n, h))

pub plain_decimal : (n : ℕ) → Plain (decimal n)
unfolding radix_digits
plain_decimal n = onto_plain 64 n [] tt

abbrev IsSome : Text → Type 0
IsSome [] = ⊥
IsSome (x ∷ xs) = Unit {0}

some_either : (d : Bool) (xs ys : Text) → IsSome xs → IsSome ys → IsSome (cond d xs ys)
some_either true xs ys h g = h
some_either false xs ys h g = g

onto_some : (k n x : ℕ) (xs : Text) → IsSome (digits_onto k 10 false n (x ∷ xs))
onto_some zero n x xs = tt
onto_some (suc k) n x xs =
    some_either (eqb (n / 10) 0) (digit_glyph false (n % 10) ∷ x ∷ xs) (digits_onto k 10 false (n / 10) (digit_glyph false (n % 10) ∷ x ∷ xs)) tt (onto_some k (n / 10) (digit_glyph false (n % 10)) (x ∷ xs))

onto_first : (k n : ℕ) → IsSome (digits_onto (suc k) 10 false n [])
onto_first k n = some_either (eqb (n / 10) 0) (digit_glyph false (n % 10) ∷ []) (digits_onto k 10 false (n / 10) (digit_glyph false (n % 10) ∷ [])) tt (onto_some k (n / 10) (digit_glyph false (n % 10)) [])

some_decimal : (n : ℕ) → IsSome (decimal n)
unfolding radix_digits
some_decimal n = onto_first 63 n

some_behind : (before t : Text) → IsSome t → before ++ t ≢ []
some_behind [] [] h e = h
some_behind [] (x ∷ xs) h e = cc
some_behind (b ∷ before) t h e = cc

pub some_name : (before : Text) (n : ℕ) → before ++ digits n ≢ []
some_name before n = some_behind before (decimal n) (some_decimal n)

pub line_signed : (z : ℤ) → OneLine (decimal_text z)
line_signed (pos n) = one_line (decimal n) (plain_decimal n)
line_signed (negsuc n) = (λ e. omega (arith, e), one_line (decimal (suc n)) (plain_decimal (suc n)))

pub line_spaced : (ns : List ℕ) → OneLine (spaced ns)
line_spaced [] = tt
line_spaced (n ∷ ns) = (λ e. omega (arith, e), line_append (decimal n) (spaced ns) (one_line (decimal n) (plain_decimal n)) (line_spaced ns))

-- ---- texts

byte_line : (b : ℕ) (d e f : Bool) → ((eqb b 34) || (eqb b 92)) ≡ d → eqb b 10 ≡ e → OneLine (cond d (92 ∷ b ∷ []) (cond e (codes "\\n") (cond f (92 ∷ three_digits b) (b ∷ []))))
byte_line b true e f p q = (λ e. omega (arith, e), (grind (arith, nat_tests), tt))
byte_line b false true f p q = (λ e. omega (arith, e), (λ e. omega (arith, e), tt))
byte_line b false false true p q = (λ e. omega (arith, e), (λ e. omega (arith, e), (λ e. omega (arith, e), (λ e. omega (arith, e), tt))))
byte_line b false false false p q = (eqb-false b 10 q, tt)

line_inside : (t : Text) → OneLine (flat_map quoted_byte t)
line_inside [] = tt
line_inside (b ∷ t) = line_append (quoted_byte b) (flat_map quoted_byte t) (byte_line b ((eqb b 34) || (eqb b 92)) (eqb b 10) _ refl refl) (line_inside t)

pub line_quoted : (t : Text) → OneLine (quoted t)
line_quoted t = (λ e. omega (arith, e), line_append (flat_map quoted_byte t) (34 ∷ []) (line_inside t) (λ e. omega (arith, e), tt))

pub line_constant : (c : Constant) → OneLine (constant_text c)
line_constant Constant.Nil = (λ e. omega (arith, e), (λ e. omega (arith, e), (λ e. omega (arith, e), tt)))
line_constant (Constant.Bool true) = (λ e. omega (arith, e), (λ e. omega (arith, e), (λ e. omega (arith, e), (λ e. omega (arith, e), tt))))
line_constant (Constant.Bool false) = (λ e. omega (arith, e), (λ e. omega (arith, e), (λ e. omega (arith, e), (λ e. omega (arith, e), (λ e. omega (arith, e), tt)))))
line_constant (Constant.Number z) = line_signed z
line_constant (Constant.Text t) = line_quoted t

pub line_source : (s : Option Text) → OneLine (source_text s)
line_source None = (λ e. omega (arith, e), (λ e. omega (arith, e), (λ e. omega (arith, e), (λ e. omega (arith, e), tt))))
line_source (Some t) = line_quoted t

pub line_local : (v : LocVar) → OneLine (local_text v)
line_local v = line_append (quoted v.name) (spaced (v.start ∷ v.end ∷ [])) (line_quoted v.name) (line_spaced (v.start ∷ v.end ∷ []))

-- ---- literal texts

abbrev is_line : Text → Bool
is_line [] = true
is_line (b ∷ t) = cond (eqb b 10) false (is_line t)

line_step : (b : ℕ) (t : Text) (d : Bool) → eqb b 10 ≡ d → cond d false (is_line t) ≡ true → (is_line t ≡ true → OneLine t) → OneLine (b ∷ t)
line_step b t true q e go = absurd cc
line_step b t false q e go = (eqb-false b 10 q, go e)

pub literal : (t : Text) → is_line t ≡ true → OneLine t
literal [] h = tt
literal (b ∷ t) h = line_step b t (eqb b 10) refl h (λ e. literal t e)

pub line_op : (op : Op) → OneLine (op_name op)
line_op Op.Move = literal (op_name Op.Move) refl
line_op Op.LoadK = literal (op_name Op.LoadK) refl
line_op Op.LoadBool = literal (op_name Op.LoadBool) refl
line_op Op.LoadNil = literal (op_name Op.LoadNil) refl
line_op Op.GetUpval = literal (op_name Op.GetUpval) refl
line_op Op.GetGlobal = literal (op_name Op.GetGlobal) refl
line_op Op.GetTable = literal (op_name Op.GetTable) refl
line_op Op.SetGlobal = literal (op_name Op.SetGlobal) refl
line_op Op.SetUpval = literal (op_name Op.SetUpval) refl
line_op Op.SetTable = literal (op_name Op.SetTable) refl
line_op Op.NewTable = literal (op_name Op.NewTable) refl
line_op Op.Self_ = literal (op_name Op.Self_) refl
line_op Op.Add = literal (op_name Op.Add) refl
line_op Op.Sub = literal (op_name Op.Sub) refl
line_op Op.Mul = literal (op_name Op.Mul) refl
line_op Op.Div = literal (op_name Op.Div) refl
line_op Op.Mod = literal (op_name Op.Mod) refl
line_op Op.Pow = literal (op_name Op.Pow) refl
line_op Op.Unm = literal (op_name Op.Unm) refl
line_op Op.Not = literal (op_name Op.Not) refl
line_op Op.Len = literal (op_name Op.Len) refl
line_op Op.Concat = literal (op_name Op.Concat) refl
line_op Op.Jmp = literal (op_name Op.Jmp) refl
line_op Op.Eq = literal (op_name Op.Eq) refl
line_op Op.Lt = literal (op_name Op.Lt) refl
line_op Op.Le = literal (op_name Op.Le) refl
line_op Op.Test = literal (op_name Op.Test) refl
line_op Op.TestSet = literal (op_name Op.TestSet) refl
line_op Op.Call = literal (op_name Op.Call) refl
line_op Op.TailCall = literal (op_name Op.TailCall) refl
line_op Op.Return = literal (op_name Op.Return) refl
line_op Op.ForLoop = literal (op_name Op.ForLoop) refl
line_op Op.ForPrep = literal (op_name Op.ForPrep) refl
line_op Op.TForLoop = literal (op_name Op.TForLoop) refl
line_op Op.SetList = literal (op_name Op.SetList) refl
line_op Op.Close = literal (op_name Op.Close) refl
line_op Op.Closure = literal (op_name Op.Closure) refl
line_op Op.Vararg = literal (op_name Op.Vararg) refl
