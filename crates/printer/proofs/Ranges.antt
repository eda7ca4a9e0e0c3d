-- Pieces whose tokens a text of a source may have, and the lines on which tokens stand.
use Rattle.std.proofs.Common.{◌≡◌, ℕ, ◌+◌, ◌<◌, ◌^◌, nat_lt, min, pos, Bool, true, false, List, [], ◌∷◌, Option, Some, None}
use Rattle.lua_num.specs.Bytes.{Each}
use Rattle.lua_tree.specs.Names.{is_name}
use Rattle.lua_tree.specs.declared.token.Token.{Token}
use Rattle.lua_tree.specs.declared.token.TokenKind.{TokenKind}
use Rattle.printer.specs.Layout.{Piece, token, new_line}

-- what a token of a source has: a name is one, a numeral is one of 64 bits and not below 0, and a text is made of bytes
abbrev pub IsInRange : TokenKind → Type 0
IsInRange (TokenKind.Name name) = is_name name ≡ true
IsInRange (TokenKind.Number n) = (value : ℕ) × (n ≡ pos value) × (value < 2 ^ 63)
IsInRange (TokenKind.Text text) = Each (λ byte. nat_lt byte 256) text
IsInRange kind = Unit {0}

abbrev pub PieceInRange : Piece → Type 0
PieceInRange (token kind) = IsInRange kind
PieceInRange (new_line n) = Unit {0}

abbrev pub AllInRange : List Piece → Type 0
AllInRange [] = Unit {0}
AllInRange (piece ∷ pieces) = PieceInRange piece × AllInRange pieces

-- the first token among pieces
abbrev pub first_word : List Piece → Option TokenKind
first_word [] = None
first_word (token kind ∷ pieces) = Some kind
first_word (new_line n ∷ pieces) = first_word pieces

-- Tokens are those of the pieces, in order, each on its line: lines are counted from this one, and the first line of a text begins by itself.
abbrev pub Lined : (started : Bool) → (line : ℕ) → List Piece → List Token → Type 0
Lined started line [] tokens = tokens ≡ []
Lined started line (token kind ∷ pieces) tokens = (first : Token) × (others : List Token) × (tokens ≡ first ∷ others) × (first.kind ≡ kind) × (first.line ≡ min line 2147483647) × Lined true line pieces others
Lined true line (new_line n ∷ pieces) tokens = Lined true (line + 1) pieces tokens
Lined false line (new_line n ∷ pieces) tokens = Lined false line pieces tokens
