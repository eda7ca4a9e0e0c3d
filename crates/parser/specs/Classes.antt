-- Serves the bodies. What the next token begins.
use Rattle.std.specs.Prelude.{pos, ℕ, Bool, true, false, Option, Some, None, if◌then◌else◌}
use Rattle.lua_tree.specs.Syntax.{Expression, nil_literal, true_literal, false_literal, vararg_expression, number_literal, text_literal}
use Rattle.lua_num.specs.Bytes.{Text}
use Rattle.lua_tree.specs.Names.{is_name}
use Rattle.lua_tree.specs.declared.token.TokenKind.{TokenKind}
pub use Rattle.parser.specs.declared.classes.Role.{Role}
pub use Rattle.parser.specs.declared.classes.Start.{Start}
pub use Rattle.parser.specs.declared.classes.Suffix.{Suffix}

-- tokens that end a block
abbrev pub is_block_end : Option TokenKind → Bool
is_block_end None = true
is_block_end (Some TokenKind.End) = true
is_block_end (Some TokenKind.Else) = true
is_block_end (Some TokenKind.Elseif) = true
is_block_end (Some TokenKind.Until) = true
is_block_end (Some kind) = false

-- the statement that a token begins
abbrev pub start_of : Option TokenKind → Start
start_of (Some TokenKind.If) = Start.If
start_of (Some TokenKind.While) = Start.While
start_of (Some TokenKind.Do) = Start.Do
start_of (Some TokenKind.For) = Start.For
start_of (Some TokenKind.Repeat) = Start.Repeat
start_of (Some TokenKind.Function) = Start.Function
start_of (Some TokenKind.Local) = Start.Local
start_of (Some TokenKind.Return) = Start.Return
start_of (Some TokenKind.Break) = Start.Break
start_of kind = Start.Expression

-- what a token adds to a prefix expression
abbrev pub suffix_of : Option TokenKind → Suffix
suffix_of (Some TokenKind.Dot) = Suffix.Field
suffix_of (Some TokenKind.OpenBracket) = Suffix.Index
suffix_of (Some TokenKind.Colon) = Suffix.Method
suffix_of (Some TokenKind.OpenParen) = Suffix.Call
suffix_of (Some TokenKind.OpenBrace) = Suffix.Call
suffix_of (Some (TokenKind.Text text)) = Suffix.Call
suffix_of kind = Suffix.Missing

-- the expression that a token is
abbrev pub literal_of : (line : ℕ) → Option TokenKind → Option Expression
literal_of line (Some TokenKind.Nil) = Some (nil_literal line)
literal_of line (Some TokenKind.True) = Some (true_literal line)
literal_of line (Some TokenKind.False) = Some (false_literal line)
literal_of line (Some TokenKind.DotDotDot) = Some (vararg_expression line)
literal_of line (Some (TokenKind.Number (pos n))) = Some (number_literal line (pos n))
literal_of line (Some (TokenKind.Text text)) = Some (text_literal line text)
literal_of line kind = None

-- the name that a token is, where it is one
abbrev pub name_of : Option TokenKind → Option Text
name_of (Some (TokenKind.Name name)) = if is_name name then Some name else None
name_of kind = None

abbrev pub text_of : Option TokenKind → Option Text
text_of (Some (TokenKind.Text text)) = Some text
text_of kind = None
