-- To be believed. A stack whose registers are lent to be changed in place: it ends with what was left in them. As many are left as were lent, and
-- a row of as many is fitted as it is.
use Rattle.std.specs.Prelude.{List}
use Rattle.std.specs.Borrow.{Lends, MutBor, Fml, Array}
use Rattle.lua_model.specs.declared.Value.{Value}
use Rattle.lua_model.specs.contracts.Value.{the_row as value_row}
use Rattle.upvalue.specs.State.{StackState, with_row, fitted}
use Rattle.upvalue.specs.contracts.stack.ValueStack.{the_row}

abbrev pub LendsRegisters : MutBor StackState → MutBor (List Value) → Fml
LendsRegisters stack registers = Lends the_row (Array value_row 0) stack registers (λ row. record stack.now { frames = with_row stack.now.frames (fitted stack.now.frames row) })
