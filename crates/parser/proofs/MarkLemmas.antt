-- A token is a mark exactly where it is of the mark's kind.
use Rattle.std.proofs.Common.{◌≡◌, Option, Some, refl}
use Rattle.lua_tree.specs.declared.token.TokenKind.{TokenKind}
use Rattle.parser.specs.Marks.{Mark, kind_of_mark, mark_of}

pub mark_is : (mark : Mark) → mark_of (Some (kind_of_mark mark)) ≡ Some mark
mark_is Mark.CloseBrace = refl
mark_is Mark.CloseBracket = refl
mark_is Mark.CloseParen = refl
mark_is Mark.Colon = refl
mark_is Mark.Comma = refl
mark_is Mark.Do = refl
mark_is Mark.Dot = refl
mark_is Mark.DotDotDot = refl
mark_is Mark.Else = refl
mark_is Mark.Elseif = refl
mark_is Mark.End = refl
mark_is Mark.Equal = refl
mark_is Mark.Function = refl
mark_is Mark.In = refl
mark_is Mark.OpenBrace = refl
mark_is Mark.OpenBracket = refl
mark_is Mark.OpenParen = refl
mark_is Mark.Semicolon = refl
mark_is Mark.Then = refl
mark_is Mark.Until = refl

pub is_mark : (kind : Option TokenKind) (mark : Mark) → mark_of kind ≡ Some mark → kind ≡ Some (kind_of_mark mark)
is_mark (Some TokenKind.CloseBrace) mark e = let q : Mark.CloseBrace ≡ mark = cc in cc
is_mark (Some TokenKind.CloseBracket) mark e = let q : Mark.CloseBracket ≡ mark = cc in cc
is_mark (Some TokenKind.CloseParen) mark e = let q : Mark.CloseParen ≡ mark = cc in cc
is_mark (Some TokenKind.Colon) mark e = let q : Mark.Colon ≡ mark = cc in cc
is_mark (Some TokenKind.Comma) mark e = let q : Mark.Comma ≡ mark = cc in cc
is_mark (Some TokenKind.Do) mark e = let q : Mark.Do ≡ mark = cc in cc
is_mark (Some TokenKind.Dot) mark e = let q : Mark.Dot ≡ mark = cc in cc
is_mark (Some TokenKind.DotDotDot) mark e = let q : Mark.DotDotDot ≡ mark = cc in cc
is_mark (Some TokenKind.Else) mark e = let q : Mark.Else ≡ mark = cc in cc
is_mark (Some TokenKind.Elseif) mark e = let q : Mark.Elseif ≡ mark = cc in cc
is_mark (Some TokenKind.End) mark e = let q : Mark.End ≡ mark = cc in cc
is_mark (Some TokenKind.Equal) mark e = let q : Mark.Equal ≡ mark = cc in cc
is_mark (Some TokenKind.Function) mark e = let q : Mark.Function ≡ mark = cc in cc
is_mark (Some TokenKind.In) mark e = let q : Mark.In ≡ mark = cc in cc
is_mark (Some TokenKind.OpenBrace) mark e = let q : Mark.OpenBrace ≡ mark = cc in cc
is_mark (Some TokenKind.OpenBracket) mark e = let q : Mark.OpenBracket ≡ mark = cc in cc
is_mark (Some TokenKind.OpenParen) mark e = let q : Mark.OpenParen ≡ mark = cc in cc
is_mark (Some TokenKind.Semicolon) mark e = let q : Mark.Semicolon ≡ mark = cc in cc
is_mark (Some TokenKind.Then) mark e = let q : Mark.Then ≡ mark = cc in cc
is_mark (Some TokenKind.Until) mark e = let q : Mark.Until ≡ mark = cc in cc
is_mark kind mark e = cc
