-- To be believed. The instructions at the places of a function, and what its vararg flags say (A No-Frills Introduction to Lua 5.1 VM Instructions).
use Rattle.std.specs.Prelude.{ℕ, Bool, true, false, not, ◌==◌, slice_get, Option, option_and_then}
use Rattle.opcode.specs.declared.op.Op.{Op}
use Rattle.opcode.specs.declared.word.Instr.{Instr}
use Rattle.opcode.specs.Reading.{instr_of}
use Rattle.proto.specs.Chunk.{Chunk, own}

-- the instruction at a pc of a function
abbrev pub instr_at : Chunk → ℕ → Option Instr
instr_at f pc = option_and_then instr_of (slice_get (own f).code pc)

-- the words that a JMP must follow
abbrev pub is_test : Op → Bool
is_test Op.Eq = true
is_test Op.Lt = true
is_test Op.Le = true
is_test Op.Test = true
is_test Op.TestSet = true
is_test Op.TForLoop = true
is_test _ = false

-- Vararg flags: bit 1 has an `arg` local, bit 2 is vararg, bit 4 needs the `arg` table.
abbrev pub is_vararg : ℕ → Bool
is_vararg flags = not (flags == 0)

-- the register behind the parameters is a table of the extra arguments
abbrev pub has_arg_table : ℕ → Bool
has_arg_table flags = flags == 7
