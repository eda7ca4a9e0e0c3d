-- Serves the bodies. Marks and keywords that a phrase has at a fixed place.
use Rattle.std.specs.Prelude.{Option, Some, None}
use Rattle.lua_tree.specs.declared.token.TokenKind.{TokenKind}
pub use Rattle.parser.specs.declared.mark.Mark.{Mark}

abbrev pub kind_of_mark : Mark → TokenKind
kind_of_mark Mark.CloseBrace = TokenKind.CloseBrace
kind_of_mark Mark.CloseBracket = TokenKind.CloseBracket
kind_of_mark Mark.CloseParen = TokenKind.CloseParen
kind_of_mark Mark.Colon = TokenKind.Colon
kind_of_mark Mark.Comma = TokenKind.Comma
kind_of_mark Mark.Do = TokenKind.Do
kind_of_mark Mark.Dot = TokenKind.Dot
kind_of_mark Mark.DotDotDot = TokenKind.DotDotDot
kind_of_mark Mark.Else = TokenKind.Else
kind_of_mark Mark.Elseif = TokenKind.Elseif
kind_of_mark Mark.End = TokenKind.End
kind_of_mark Mark.Equal = TokenKind.Equal
kind_of_mark Mark.Function = TokenKind.Function
kind_of_mark Mark.In = TokenKind.In
kind_of_mark Mark.OpenBrace = TokenKind.OpenBrace
kind_of_mark Mark.OpenBracket = TokenKind.OpenBracket
kind_of_mark Mark.OpenParen = TokenKind.OpenParen
kind_of_mark Mark.Semicolon = TokenKind.Semicolon
kind_of_mark Mark.Then = TokenKind.Then
kind_of_mark Mark.Until = TokenKind.Until

-- the mark that a token is
abbrev pub mark_of : Option TokenKind → Option Mark
mark_of (Some TokenKind.CloseBrace) = Some Mark.CloseBrace
mark_of (Some TokenKind.CloseBracket) = Some Mark.CloseBracket
mark_of (Some TokenKind.CloseParen) = Some Mark.CloseParen
mark_of (Some TokenKind.Colon) = Some Mark.Colon
mark_of (Some TokenKind.Comma) = Some Mark.Comma
mark_of (Some TokenKind.Do) = Some Mark.Do
mark_of (Some TokenKind.Dot) = Some Mark.Dot
mark_of (Some TokenKind.DotDotDot) = Some Mark.DotDotDot
mark_of (Some TokenKind.Else) = Some Mark.Else
mark_of (Some TokenKind.Elseif) = Some Mark.Elseif
mark_of (Some TokenKind.End) = Some Mark.End
mark_of (Some TokenKind.Equal) = Some Mark.Equal
mark_of (Some TokenKind.Function) = Some Mark.Function
mark_of (Some TokenKind.In) = Some Mark.In
mark_of (Some TokenKind.OpenBrace) = Some Mark.OpenBrace
mark_of (Some TokenKind.OpenBracket) = Some Mark.OpenBracket
mark_of (Some TokenKind.OpenParen) = Some Mark.OpenParen
mark_of (Some TokenKind.Semicolon) = Some Mark.Semicolon
mark_of (Some TokenKind.Then) = Some Mark.Then
mark_of (Some TokenKind.Until) = Some Mark.Until
mark_of kind = None
