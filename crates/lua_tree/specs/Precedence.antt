-- To be believed. How tightly expressions bind (manual 2.5.6).
use Rattle.std.specs.Prelude.{◌||◌, ℕ, ◌+◌, Bool, true, false, not, nat_le}
use Rattle.lua_tree.specs.Syntax.{Expression, and_expression, or_expression, binary_expression, unary_expression}
use Rattle.lua_tree.specs.declared.tree.BinaryOp.{BinaryOp}

-- from `or`, 1, to what stands for itself, 9: `and` is 2, and a unary operator 7
abbrev pub level_of_op : BinaryOp → ℕ
level_of_op BinaryOp.Lt = 3
level_of_op BinaryOp.Gt = 3
level_of_op BinaryOp.Le = 3
level_of_op BinaryOp.Ge = 3
level_of_op BinaryOp.Ne = 3
level_of_op BinaryOp.Eq = 3
level_of_op BinaryOp.Concat = 4
level_of_op BinaryOp.Add = 5
level_of_op BinaryOp.Sub = 5
level_of_op BinaryOp.Mul = 6
level_of_op BinaryOp.Div = 6
level_of_op BinaryOp.Rem = 6
level_of_op BinaryOp.Pow = 8

-- `..` and `^` are right associative
abbrev pub is_right_associative : BinaryOp → Bool
is_right_associative BinaryOp.Concat = true
is_right_associative BinaryOp.Pow = true
is_right_associative op = false

abbrev pub level_of : Expression → ℕ
level_of (or_expression line left right) = 1
level_of (and_expression line left right) = 2
level_of (binary_expression line op left right) = level_of_op op
level_of (unary_expression line op of) = 7
level_of e = 9

abbrev pub is_unary : Expression → Bool
is_unary (unary_expression line op of) = true
is_unary e = false

-- an operand on a side where the operator associates, or on the other
abbrev pub binds : ℕ → Bool → Expression → Bool
binds level true e = nat_le level (level_of e)
binds level false e = nat_le (level + 1) (level_of e)

-- the operands of an operator of a level need no parentheses: a unary one never does on the right
abbrev pub left_binds : ℕ → Bool → Expression → Bool
left_binds level right_associative e = binds level (not right_associative) e

abbrev pub right_binds : ℕ → Bool → Expression → Bool
right_binds level right_associative e = is_unary e || binds level right_associative e
