-- Serves the machine: words of functions as they are kept, with their opcodes at hand, and the instructions that they are.
use Rattle.std.specs.Prelude.{ℕ, ◌/◌, ◌%◌, ℤ, pos, ◌-ℤ◌, Option, None, Some}
use Rattle.opcode.specs.Reading.{instr_of}
use Rattle.opcode.specs.Word.{format_of}
use Rattle.opcode.specs.declared.op.Op.{Op}
use Rattle.opcode.specs.declared.op.Format.{Format}
use Rattle.opcode.specs.declared.word.Instr.{Instr}
use Rattle.machine.specs.declared.word.Word.{Word}

-- the opcode of an instruction, and some opcode where there is none
abbrev pub op_or : Option Instr → Op
op_or None = Op.Move
op_or (Some i) = i.op

abbrev pub op_in : ℕ → Op
op_in bits = op_or (instr_of bits)

abbrev pub decoded_of : ℕ → Word
decoded_of bits = record { op = op_in bits; a = bits / 64 % 256; bits = bits }

-- the fields of a format
abbrev pub b_in : Format → ℕ → ℕ
b_in Format.Abc bits = bits / 8388608
b_in Format.Abx bits = 0
b_in Format.Asbx bits = 0

abbrev pub c_in : Format → ℕ → ℕ
c_in Format.Abc bits = bits / 16384 % 512
c_in Format.Abx bits = 0
c_in Format.Asbx bits = 0

abbrev pub bx_in : Format → ℕ → ℕ
bx_in Format.Abc bits = 0
bx_in Format.Abx bits = bits / 16384
bx_in Format.Asbx bits = 0

abbrev pub sbx_in : Format → ℕ → ℤ
sbx_in Format.Abc bits = pos 0
sbx_in Format.Abx bits = pos 0
sbx_in Format.Asbx bits = pos (bits / 16384) -ℤ pos 131071

-- the instruction that a word is
abbrev pub instr_in : Word → Instr
instr_in w = record { op = w.op; a = w.a; b = b_in (format_of w.op) w.bits; c = c_in (format_of w.op) w.bits; bx = bx_in (format_of w.op) w.bits; sbx = sbx_in (format_of w.op) w.bits }
