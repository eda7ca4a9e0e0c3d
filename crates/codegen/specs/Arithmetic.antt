-- Serves the bodies. The words of the operators of arithmetic.
use Rattle.std.specs.Prelude.{Option, Some, None}
use Rattle.lua_tree.specs.declared.tree.BinaryOp.{BinaryOp}
use Rattle.opcode.specs.declared.op.Op.{Op}

abbrev pub word_of : BinaryOp → Option Op
word_of BinaryOp.Add = Some Op.Add
word_of BinaryOp.Sub = Some Op.Sub
word_of BinaryOp.Mul = Some Op.Mul
word_of BinaryOp.Div = Some Op.Div
word_of BinaryOp.Rem = Some Op.Mod
word_of BinaryOp.Pow = Some Op.Pow
word_of op = None
