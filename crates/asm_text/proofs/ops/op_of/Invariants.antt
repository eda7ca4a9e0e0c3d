use Rattle.std.proofs.Common.{◌≡◌, drop}
use Rattle.opcode.specs.Reading.{opcodes}
use Rattle.asm_text.specs.Reading.{op_among, op_at}
use Rattle.asm_text.proofs.ops.op_of.Given as goal

abbrev pub invariant-loop-number : goal.invariant-loop-number
invariant-loop-number l = op_among (drop l.number opcodes) l.name ≡ op_at l.name
