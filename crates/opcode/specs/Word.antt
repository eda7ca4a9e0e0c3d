-- To be believed. Instruction words (A No-Frills Introduction to Lua 5.1 VM Instructions): the opcode in bits 0 to 5, A in 6 to
-- 13, C in 14 to 22 and B in 23 to 31; Bx in 14 to 31; and sBx is Bx - 131071.
use Rattle.std.specs.Prelude.{◌≡◌, ℕ, ◌+◌, ◌-◌, ◌*◌, ◌<◌, Bool, true, false, ℤ, pos, negsuc, neg_ℤ, ◌≤ℤ◌}
use Rattle.opcode.specs.declared.op.Op.{Op}
use Rattle.opcode.specs.declared.op.Format.{Format}
use Rattle.opcode.specs.declared.word.Instr.{Instr}

abbrev pub op_number : Op → ℕ
op_number Op.Move = 0
op_number Op.LoadK = 1
op_number Op.LoadBool = 2
op_number Op.LoadNil = 3
op_number Op.GetUpval = 4
op_number Op.GetGlobal = 5
op_number Op.GetTable = 6
op_number Op.SetGlobal = 7
op_number Op.SetUpval = 8
op_number Op.SetTable = 9
op_number Op.NewTable = 10
op_number Op.Self_ = 11
op_number Op.Add = 12
op_number Op.Sub = 13
op_number Op.Mul = 14
op_number Op.Div = 15
op_number Op.Mod = 16
op_number Op.Pow = 17
op_number Op.Unm = 18
op_number Op.Not = 19
op_number Op.Len = 20
op_number Op.Concat = 21
op_number Op.Jmp = 22
op_number Op.Eq = 23
op_number Op.Lt = 24
op_number Op.Le = 25
op_number Op.Test = 26
op_number Op.TestSet = 27
op_number Op.Call = 28
op_number Op.TailCall = 29
op_number Op.Return = 30
op_number Op.ForLoop = 31
op_number Op.ForPrep = 32
op_number Op.TForLoop = 33
op_number Op.SetList = 34
op_number Op.Close = 35
op_number Op.Closure = 36
op_number Op.Vararg = 37

abbrev pub format_of : Op → Format
format_of Op.LoadK = Format.Abx
format_of Op.GetGlobal = Format.Abx
format_of Op.SetGlobal = Format.Abx
format_of Op.Closure = Format.Abx
format_of Op.Jmp = Format.Asbx
format_of Op.ForLoop = Format.Asbx
format_of Op.ForPrep = Format.Asbx
format_of _ = Format.Abc

-- Bx of an sBx
abbrev pub excess_of : ℤ → ℕ
excess_of (pos n) = n + 131071
excess_of (negsuc n) = 131070 - n

-- the part of the word above A
abbrev pub operands_of : Format → Instr → ℕ
operands_of Format.Abc i = 16384 * i.c + 8388608 * i.b
operands_of Format.Abx i = 16384 * i.bx
operands_of Format.Asbx i = 16384 * excess_of i.sbx

abbrev pub word_of : Instr → ℕ
word_of i = op_number i.op + 64 * i.a + operands_of (format_of i.op) i

-- the fields of the format are in range, and the others are 0
abbrev pub FieldsFit : Format → Instr → Type 0
FieldsFit Format.Abc i = (i.b < 512) × (i.c < 512) × (i.bx ≡ 0) × (i.sbx ≡ pos 0)
FieldsFit Format.Abx i = (i.b ≡ 0) × (i.c ≡ 0) × (i.bx < 262144) × (i.sbx ≡ pos 0)
FieldsFit Format.Asbx i = (i.b ≡ 0) × (i.c ≡ 0) × (i.bx ≡ 0) × (neg_ℤ (pos 131071) ≤ℤ i.sbx) × (i.sbx ≤ℤ pos 131072)

pub record InRange (i : Instr) : Type 0 where
  pub a : i.a < 256
  pub others : FieldsFit (format_of i.op) i

-- words by the fields of their format
abbrev pub abc : Op → (a b c : ℕ) → ℕ
abc op a b c = word_of (record { op = op; a = a; b = b; c = c; bx = 0; sbx = pos 0 })

abbrev pub abx : Op → (a bx : ℕ) → ℕ
abx op a bx = word_of (record { op = op; a = a; b = 0; c = 0; bx = bx; sbx = pos 0 })

abbrev pub asbx : Op → (a : ℕ) → (sbx : ℤ) → ℕ
asbx op a sbx = word_of (record { op = op; a = a; b = 0; c = 0; bx = 0; sbx = sbx })

-- a truth as a field: 1 is true
abbrev pub truth_field : Bool → ℕ
truth_field true = 1
truth_field false = 0
