-- The words of a finished function are read back as what was put, by the limits that hold where there are no misfits.
use Rattle.std.proofs.Common.{◌≡◌, ◌≤◌, ◌<◌, ℕ, Bool, true, false, List, [], ◌∷◌, length, refl, sym, ap, ◌∙◌, arith, ◌+◌, cond, subst, nat_lt, ℤ, ◌*◌, get_or, pos, negsuc}
use Rattle.std.specs.Prelude.{Some, slice_get, ◌/◌, ◌%◌, ◌≤ℤ◌, neg_ℤ, unsigned_abs}
use Rattle.std.proofs.lemmas.Int.{ints}
use Rattle.std.proofs.lemmas.Bool.{ltb-false}
use Rattle.opcode.specs.declared.op.Op.{Op}
use Rattle.opcode.specs.declared.op.Format.{Format}
use Rattle.opcode.specs.declared.word.Instr.{Instr}
use Rattle.opcode.specs.Word.{op_number, format_of, operands_of, FieldsFit, abc, abx, asbx}
use Rattle.opcode.specs.Reading.{instr_of}
use Rattle.opcode.proofs.WordReading.{read_as, word_is_read, same_fields}
use Rattle.scheme.specs.Making.{Maker, Misfit}
use Rattle.scheme.specs.Functions.{misfits_of, distance, word_at, reach_at, reach_from, register_count, unless_within}
use Rattle.scheme.specs.declared.making.Piece.{Piece}
use Rattle.scheme.specs.declared.making.Item.{Item}
use Rattle.scheme_stands.proofs.Growth.{front_empty, back_empty}
use Rattle.scheme_sound.proofs.Ghosts.{HasFormat}
use Rattle.scheme_stands.proofs.Growth.{reaches}

-- ---- the limits

pub record Limits (m : Maker) : Type 0 where
  pub registers : register_count m ≤ 250
  pub constants : length m.constants ≤ 262144
  pub reach : reach_from m.labels 0 m.items ≤ 131071
  pub functions : length m.functions ≤ 262144

within_is : (limit reached : ℕ) (x : Misfit) → unless_within limit reached x ≡ [] → reached ≤ limit
within_is limit reached x e = go (nat_lt limit reached) refl e
  where
    go : (b : Bool) → nat_lt limit reached ≡ b → cond b (x ∷ []) [] ≡ [] → reached ≤ limit
    go true is e = cc
    go false is e = ltb-false limit reached is

pub limits_of : (line : ℕ) (m : Maker) → misfits_of line m ≡ [] → Limits m
limits_of line m e =
    let e3 = front_empty _ _ e in
    let e2 = front_empty _ _ e3 in
    record {
      registers = within_is 250 (register_count m) _ (front_empty _ _ e2);
      constants = within_is 262144 (length m.constants) _ (back_empty _ _ e2);
      reach = within_is 131071 (reach_from m.labels 0 m.items) _ (back_empty _ _ e3);
      functions = within_is 262144 (length m.functions) _ (back_empty _ _ e);
    }

-- ---- what a word is read as

-- a piece as the instruction that is read, with its jump
abbrev pub full_instr : (labels : List ℕ) → (pc : ℕ) → Piece → Instr
full_instr labels pc (Piece.Abc op a b c) = record { op = op; a = a; b = b; c = c; bx = 0; sbx = pos 0 }
full_instr labels pc (Piece.Abx op a bx) = record { op = op; a = a; b = 0; c = 0; bx = bx; sbx = pos 0 }
full_instr labels pc (Piece.Jump op a label) = record { op = op; a = a; b = 0; c = 0; bx = 0; sbx = distance pc (get_or labels label 0) }
full_instr labels pc (Piece.Bare n) = record { op = Op.Jmp; a = 0; b = 0; c = 0; bx = 0; sbx = pos 0 }

number_small : (op : Op) → op_number op < 38
number_small Op.Move = omega arith
number_small Op.LoadK = omega arith
number_small Op.LoadBool = omega arith
number_small Op.LoadNil = omega arith
number_small Op.GetUpval = omega arith
number_small Op.GetGlobal = omega arith
number_small Op.GetTable = omega arith
number_small Op.SetGlobal = omega arith
number_small Op.SetUpval = omega arith
number_small Op.SetTable = omega arith
number_small Op.NewTable = omega arith
number_small Op.Self_ = omega arith
number_small Op.Add = omega arith
number_small Op.Sub = omega arith
number_small Op.Mul = omega arith
number_small Op.Div = omega arith
number_small Op.Mod = omega arith
number_small Op.Pow = omega arith
number_small Op.Unm = omega arith
number_small Op.Not = omega arith
number_small Op.Len = omega arith
number_small Op.Concat = omega arith
number_small Op.Jmp = omega arith
number_small Op.Eq = omega arith
number_small Op.Lt = omega arith
number_small Op.Le = omega arith
number_small Op.Test = omega arith
number_small Op.TestSet = omega arith
number_small Op.Call = omega arith
number_small Op.TailCall = omega arith
number_small Op.Return = omega arith
number_small Op.ForLoop = omega arith
number_small Op.ForPrep = omega arith
number_small Op.TForLoop = omega arith
number_small Op.SetList = omega arith
number_small Op.Close = omega arith
number_small Op.Closure = omega arith
number_small Op.Vararg = omega arith

pub abc_read : (op : Op) (a b c : ℕ) → format_of op ≡ Format.Abc → a < 256 → c < 512 → instr_of (abc op a b c) ≡ Some (record { op = op; a = a; b = b; c = c; bx = 0; sbx = pos 0 })
abc_read op a b c f ha hc =
    let n = op_number op in
    let small = number_small op in
    let is : abc op a b c ≡ n + 64 * a + (16384 * c + 8388608 * b) = ap (λ g. n + 64 * a + operands_of g (record { op = op; a = a; b = b; c = c; bx = 0; sbx = pos 0 })) f in
    let low : n ≡ (n + 64 * a + (16384 * c + 8388608 * b)) % 64 = omega (arith, small) in
    ap instr_of is ∙ read_as op Format.Abc (n + 64 * a + (16384 * c + 8388608 * b)) low f
    ∙ ap (λ i. Some i) (same_fields op _ _ _ _ _ _ _ _ _ _ (abc_a n a b c small ha) (abc_b n a b c small ha hc) (abc_c n a b c small ha hc) refl refl)
  where
    abc_a : (n a b c : ℕ) → n < 38 → a < 256 → (n + 64 * a + (16384 * c + 8388608 * b)) / 64 % 256 ≡ a
    abc_a n a b c h ha = omega arith

    abc_b : (n a b c : ℕ) → n < 38 → a < 256 → c < 512 → (n + 64 * a + (16384 * c + 8388608 * b)) / 8388608 ≡ b
    abc_b n a b c h ha hc = omega arith

    abc_c : (n a b c : ℕ) → n < 38 → a < 256 → c < 512 → (n + 64 * a + (16384 * c + 8388608 * b)) / 16384 % 512 ≡ c
    abc_c n a b c h ha hc = omega arith

-- whatever the size hints of a table are, its opcode and register are read
pub table_read : (a b c : ℕ) → a < 256 → (b' : ℕ) × (c' : ℕ) × (instr_of (abc Op.NewTable a b c) ≡ Some (record { op = Op.NewTable; a = a; b = b'; c = c'; bx = 0; sbx = pos 0 }))
table_read a b c ha =
    let w = 10 + 64 * a + (16384 * c + 8388608 * b) in
    let low : 10 ≡ w % 64 = omega arith in
    let field : w / 64 % 256 ≡ a = omega arith in
    (w / 8388608, w / 16384 % 512, read_as Op.NewTable Format.Abc w low refl ∙ ap (λ x. Some (record { op = Op.NewTable; a = x; b = w / 8388608; c = w / 16384 % 512; bx = 0; sbx = pos 0 })) field)

abx_read : (op : Op) (a x : ℕ) → format_of op ≡ Format.Abx → a < 256 → x < 262144 → instr_of (abx op a x) ≡ Some (record { op = op; a = a; b = 0; c = 0; bx = x; sbx = pos 0 })
abx_read op a x f ha hx = word_is_read (record { op = op; a = a; b = 0; c = 0; bx = x; sbx = pos 0 }) (record { a = ha; others = subst (λ g. FieldsFit g (record { op = op; a = a; b = 0; c = 0; bx = x; sbx = pos 0 })) (sym f) (refl, refl, hx, refl) })

far_enough : (z : ℤ) → unsigned_abs z ≤ 131071 → (neg_ℤ (pos 131071) ≤ℤ z) × (z ≤ℤ pos 131072)
far_enough (pos n) l = (omega (arith, ints, l), omega (arith, ints, l))
far_enough (negsuc n) l = (omega (arith, ints, l), omega (arith, ints, l))

asbx_read : (op : Op) (a : ℕ) (z : ℤ) → format_of op ≡ Format.Asbx → a < 256 → unsigned_abs z ≤ 131071 → instr_of (asbx op a z) ≡ Some (record { op = op; a = a; b = 0; c = 0; bx = 0; sbx = z })
asbx_read op a z f ha l =
    let r = far_enough z l in
    word_is_read (record { op = op; a = a; b = 0; c = 0; bx = 0; sbx = z }) (record { a = ha; others = subst (λ g. FieldsFit g (record { op = op; a = a; b = 0; c = 0; bx = 0; sbx = z })) (sym f) (refl, refl, refl, r.0, r.1) })

-- a piece of its format whose fields are small
abbrev pub SmallPiece : Piece → Type 0
SmallPiece (Piece.Abc op a b c) = (a < 256) × (c < 512)
SmallPiece (Piece.Abx op a bx) = (a < 256) × (bx < 262144)
SmallPiece (Piece.Jump op a label) = a < 256
SmallPiece (Piece.Bare n) = ⊥

pub piece_read : (m : Maker) → Limits m → (i : ℕ) (x : Item) → slice_get m.items i ≡ Some x → HasFormat x.piece → SmallPiece x.piece → instr_of (word_at m.labels i x.piece) ≡ Some (full_instr m.labels i x.piece)
piece_read m l i x e f s = go x.piece f s (reaches m.labels 0 m.items i x e)
  where
    go : (piece : Piece) → HasFormat piece → SmallPiece piece → reach_at m.labels (0 + i) piece ≤ reach_from m.labels 0 m.items → instr_of (word_at m.labels i piece) ≡ Some (full_instr m.labels i piece)
    go (Piece.Abc op a b c) f s r = abc_read op a b c f s.0 s.1
    go (Piece.Abx op a bx) f s r = abx_read op a bx f s.0 s.1
    go (Piece.Jump op a label) f s r =
        let sum : 0 + i ≡ i = omega arith in
        let far : unsigned_abs (distance (0 + i) (get_or m.labels label 0)) ≡ unsigned_abs (distance i (get_or m.labels label 0)) = ap (λ k. unsigned_abs (distance k (get_or m.labels label 0))) sum in
        let most = l.reach in
        asbx_read op a (distance i (get_or m.labels label 0)) f s (omega (arith, far, r, most))
    go (Piece.Bare n) f s r = absurd f
