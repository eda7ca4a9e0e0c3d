-- Serves the bodies. Operators, and how strongly they bind their operands: a number for each side (manual 2.5.6).
use Rattle.std.specs.Prelude.{ℕ, Option, Some, None}
use Rattle.lua_tree.specs.Syntax.{Expression, and_expression, or_expression, binary_expression}
use Rattle.lua_tree.specs.declared.token.TokenKind.{TokenKind}
use Rattle.lua_tree.specs.declared.tree.BinaryOp.{BinaryOp}
use Rattle.lua_tree.specs.declared.tree.UnaryOp.{UnaryOp}
pub use Rattle.parser.specs.declared.operator.Infix.{Infix}

-- the operator between two operands that a token is
abbrev pub infix_of : Option TokenKind → Option Infix
infix_of (Some TokenKind.And) = Some Infix.And
infix_of (Some TokenKind.Or) = Some Infix.Or
infix_of (Some TokenKind.Plus) = Some (Infix.Binary BinaryOp.Add)
infix_of (Some TokenKind.Minus) = Some (Infix.Binary BinaryOp.Sub)
infix_of (Some TokenKind.Star) = Some (Infix.Binary BinaryOp.Mul)
infix_of (Some TokenKind.Slash) = Some (Infix.Binary BinaryOp.Div)
infix_of (Some TokenKind.Percent) = Some (Infix.Binary BinaryOp.Rem)
infix_of (Some TokenKind.Caret) = Some (Infix.Binary BinaryOp.Pow)
infix_of (Some TokenKind.DotDot) = Some (Infix.Binary BinaryOp.Concat)
infix_of (Some TokenKind.EqualEqual) = Some (Infix.Binary BinaryOp.Eq)
infix_of (Some TokenKind.TildeEqual) = Some (Infix.Binary BinaryOp.Ne)
infix_of (Some TokenKind.Less) = Some (Infix.Binary BinaryOp.Lt)
infix_of (Some TokenKind.LessEqual) = Some (Infix.Binary BinaryOp.Le)
infix_of (Some TokenKind.Greater) = Some (Infix.Binary BinaryOp.Gt)
infix_of (Some TokenKind.GreaterEqual) = Some (Infix.Binary BinaryOp.Ge)
infix_of kind = None

abbrev pub unary_of : Option TokenKind → Option UnaryOp
unary_of (Some TokenKind.Minus) = Some UnaryOp.Neg
unary_of (Some TokenKind.Not) = Some UnaryOp.Not
unary_of (Some TokenKind.Hash) = Some UnaryOp.Len
unary_of kind = None

-- how strongly an operator binds the operand before it
abbrev pub left_power : Infix → ℕ
left_power Infix.Or = 1
left_power Infix.And = 2
left_power (Infix.Binary BinaryOp.Lt) = 3
left_power (Infix.Binary BinaryOp.Gt) = 3
left_power (Infix.Binary BinaryOp.Le) = 3
left_power (Infix.Binary BinaryOp.Ge) = 3
left_power (Infix.Binary BinaryOp.Ne) = 3
left_power (Infix.Binary BinaryOp.Eq) = 3
left_power (Infix.Binary BinaryOp.Concat) = 5
left_power (Infix.Binary BinaryOp.Add) = 6
left_power (Infix.Binary BinaryOp.Sub) = 6
left_power (Infix.Binary BinaryOp.Mul) = 7
left_power (Infix.Binary BinaryOp.Div) = 7
left_power (Infix.Binary BinaryOp.Rem) = 7
left_power (Infix.Binary BinaryOp.Pow) = 10

-- and the operand behind it: less where it is right associative
abbrev pub right_power : Infix → ℕ
right_power (Infix.Binary BinaryOp.Concat) = 4
right_power (Infix.Binary BinaryOp.Pow) = 9
right_power op = left_power op

-- the expression of an operator: `and` and `or` have the line of their first token
abbrev pub infix_expression : (start line : ℕ) → Infix → (left right : Expression) → Expression
infix_expression start line Infix.And left right = and_expression start left right
infix_expression start line Infix.Or left right = or_expression start left right
infix_expression start line (Infix.Binary op) left right = binary_expression line op left right
