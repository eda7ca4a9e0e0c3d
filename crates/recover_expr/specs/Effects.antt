-- Serves a body. Which registers instructions read and write.
use Rattle.std.specs.Prelude.{◌==◌, ◌&&◌, ◌||◌, ℕ, Bool, true, false, not, nat_le, nat_lt}
use Rattle.opcode.specs.declared.op.Op.{Op}
use Rattle.opcode.specs.declared.word.Instr.{Instr}
use Rattle.recover_expr.specs.Situation.{has_operands}

abbrev pub is_from : (operand base : ℕ) → Bool
is_from o base = nat_le base o && nat_lt o 256

abbrev pub reads_operands : Op → Instr → (base : ℕ) → Bool
reads_operands op i base = has_operands op && (is_from i.b base || is_from i.c base)

abbrev pub reads_as : Op → Instr → (base : ℕ) → Bool
reads_as Op.Move i base = nat_le base i.b
reads_as Op.Unm i base = nat_le base i.b
reads_as Op.Not i base = nat_le base i.b
reads_as Op.Len i base = nat_le base i.b
reads_as Op.TestSet i base = nat_le base i.b
reads_as Op.GetTable i base = nat_le base i.b || is_from i.c base
reads_as Op.Self_ i base = nat_le base i.b || is_from i.c base
reads_as Op.SetGlobal i base = nat_le base i.a
reads_as Op.SetUpval i base = nat_le base i.a
reads_as Op.SetList i base = nat_le base i.a
reads_as Op.Test i base = nat_le base i.a
reads_as Op.Call i base = nat_le base i.a
reads_as Op.TailCall i base = nat_le base i.a
reads_as Op.ForLoop i base = nat_le base i.a
reads_as Op.ForPrep i base = nat_le base i.a
reads_as Op.TForLoop i base = nat_le base i.a
reads_as Op.Concat i base = nat_le base i.c
reads_as Op.Return i base = not (i.b == 1) && nat_le base i.a
reads_as Op.SetTable i base = nat_le base i.a || reads_operands Op.SetTable i base
reads_as op i base = reads_operands op i base

-- it reads a register from a base on
abbrev pub reads_from : Instr → (base : ℕ) → Bool
reads_from i base = reads_as i.op i base

-- it makes a value for the register A, and does nothing else
abbrev pub makes_value : Op → Bool
makes_value Op.SetGlobal = false
makes_value Op.SetUpval = false
makes_value Op.SetTable = false
makes_value Op.SetList = false
makes_value Op.Jmp = false
makes_value Op.Eq = false
makes_value Op.Lt = false
makes_value Op.Le = false
makes_value Op.Test = false
makes_value Op.Close = false
makes_value Op.Call = false
makes_value Op.TailCall = false
makes_value Op.Return = false
makes_value Op.ForLoop = false
makes_value Op.ForPrep = false
makes_value Op.TForLoop = false
makes_value op = true
