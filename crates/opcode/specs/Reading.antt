-- To be believed. The instruction that a word is (A No-Frills Introduction to Lua 5.1 VM Instructions): the opcode is in bits 0 to 5, A in 6 to 13, C in 14 to 22 and B in 23
-- to 31; Bx in 14 to 31; and sBx is Bx - 131071.
use Rattle.std.specs.Prelude.{ℕ, ◌/◌, ◌%◌, ◌-ℤ◌, pos, List, [], ◌∷◌, slice_get, Option, option_map}
use Rattle.opcode.specs.declared.op.Op.{Op}
use Rattle.opcode.specs.declared.op.Format.{Format}
use Rattle.opcode.specs.declared.word.Instr.{Instr}
use Rattle.opcode.specs.Word.{format_of}

-- the opcodes by their numbers
abbrev pub opcodes : List Op
opcodes = Op.Move ∷ Op.LoadK ∷ Op.LoadBool ∷ Op.LoadNil ∷ Op.GetUpval ∷ Op.GetGlobal ∷ Op.GetTable ∷ Op.SetGlobal ∷ Op.SetUpval ∷ Op.SetTable ∷ Op.NewTable ∷ Op.Self_ ∷ Op.Add ∷ Op.Sub ∷ Op.Mul ∷ Op.Div ∷ Op.Mod ∷ Op.Pow ∷ Op.Unm ∷ Op.Not ∷ Op.Len ∷ Op.Concat ∷ Op.Jmp ∷ Op.Eq ∷ Op.Lt ∷ Op.Le ∷ Op.Test ∷ Op.TestSet ∷ Op.Call ∷ Op.TailCall ∷ Op.Return ∷ Op.ForLoop ∷ Op.ForPrep ∷ Op.TForLoop ∷ Op.SetList ∷ Op.Close ∷ Op.Closure ∷ Op.Vararg ∷ []

-- the instruction of an opcode in a word, by its format: the fields that the format lacks are 0
abbrev pub fields : Op → Format → ℕ → Instr
fields op Format.Abc w = record { op = op; a = w / 64 % 256; b = w / 8388608; c = w / 16384 % 512; bx = 0; sbx = pos 0 }
fields op Format.Abx w = record { op = op; a = w / 64 % 256; b = 0; c = 0; bx = w / 16384; sbx = pos 0 }
fields op Format.Asbx w = record { op = op; a = w / 64 % 256; b = 0; c = 0; bx = 0; sbx = pos (w / 16384) -ℤ pos 131071 }

-- None where the opcode is 38 or more
abbrev pub instr_of : ℕ → Option Instr
instr_of w = option_map (λ op. fields op (format_of op) w) (slice_get opcodes (w % 64))
