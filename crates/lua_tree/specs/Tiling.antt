-- To be believed. The tiling of a text by tokens and gaps, and its faults (manual 2.1). It speaks of a finished
-- tiling.
use Rattle.std.specs.Prelude.{◌≡◌, ◌⊎◌, ℕ, ◌+◌, ◌<◌, true, false, not, None, List, [], ◌∷◌, ◌++◌, length, take, codes, ◌==◌}
use Rattle.lua_num.specs.Numeral.{digits_value, numeral_number}
use Rattle.lua_num.specs.Bytes.{is_space, BeginsWithout, IsRun}
use Rattle.lua_tree.specs.declared.token.TokenKind.{TokenKind}
use Rattle.lua_tree.specs.declared.token.Token.{Token}
use Rattle.lua_tree.specs.Bytes.{is_numeral, ends_line, has_front, holds}
use Rattle.lua_tree.specs.Lines.{IsLineOf}
use Rattle.lua_tree.specs.Brackets.{opening, closing, opens_long, IsLong}
use Rattle.lua_tree.specs.Strings.{Item, ItemsFit, items_text, IsCode, IsQuote}
use Rattle.lua_tree.specs.Tokens.{IsToken, BeginsNumeral}

-- `--` and the rest of its line, where no long bracket opens right after it
pub record IsShortComment (text after : List ℕ) : Type 0 where
  pub body : List ℕ
  pub whole : text ≡ codes "--" ++ body
  pub no_bracket : opens_long (body ++ after) ≡ false
  pub run : IsRun (λ byte. not (ends_line byte)) body after

-- `--` and a long bracket
pub record IsLongComment (text : List ℕ) : Type 0 where
  pub level : ℕ
  pub inside : List ℕ
  pub body : List ℕ
  pub whole : text ≡ codes "--" ++ body
  pub long : IsLong level inside body

-- the first line of a text that begins with `#`
pub record IsFirstLine (at : ℕ) (text after : List ℕ) : Type 0 where
  pub first : at ≡ 0
  pub body : List ℕ
  pub whole : text ≡ codes "#" ++ body
  pub run : IsRun (λ byte. not (ends_line byte)) body after

pub data Piece : Type 0 where
  Space : Piece
  Comment : Piece
  Tok : TokenKind → Piece

-- a piece stands at an offset, with this text and what follows
abbrev pub IsPiece : Piece → ℕ → List ℕ → List ℕ → Type 0
IsPiece Space at text after = (byte : ℕ) × (text ≡ byte ∷ []) × (is_space byte ≡ true)
IsPiece Comment at text after = IsShortComment text after ⊎ (IsLongComment text ⊎ IsFirstLine at text after)
IsPiece (Tok kind) at text after = IsToken kind at text after

pub record Tile : Type 0 where
  pub piece : Piece
  pub text : List ℕ

-- pieces tile a text from an offset on, up to what is left
pub record Placed (piece : Piece) (at : ℕ) (tile text : List ℕ) (Rest : List ℕ → Type 0) : Type 0 where
  pub after : List ℕ
  pub whole : text ≡ tile ++ after
  pub is_piece : IsPiece piece at tile after
  pub rest : Rest after

abbrev pub Tiles : List Tile → ℕ → List ℕ → List ℕ → Type 0
Tiles [] at text left = text ≡ left
Tiles (tile ∷ tiles) at text left = Placed tile.piece at tile.text text (λ after. Tiles tiles (at + length tile.text) after left)

-- a token, and those after it
pub record Listed (bytes : List ℕ) (kind : TokenKind) (at end : ℕ) (tokens : List Token) (Rest : List Token → Type 0) : Type 0 where
  pub line : ℕ
  pub line_is : IsLineOf (take end bytes) line
  pub others : List Token
  pub tokens_are : tokens ≡ record { kind = kind; at = at; line = line } ∷ others
  pub rest : Rest others

-- the tokens among the pieces
abbrev pub Lists : List ℕ → Piece → ℕ → ℕ → List Token → (List Token → Type 0) → Type 0
Lists bytes Space at end tokens Rest = Rest tokens
Lists bytes Comment at end tokens Rest = Rest tokens
Lists bytes (Tok kind) at end tokens Rest = Listed bytes kind at end tokens Rest

abbrev pub AreTokens : List ℕ → List Tile → ℕ → List Token → Type 0
AreTokens bytes [] at tokens = tokens ≡ []
AreTokens bytes (tile ∷ tiles) at tokens =
    Lists bytes tile.piece at (at + length tile.text) tokens (AreTokens bytes tiles (at + length tile.text))

-- the text is lexed to these tokens
pub record Lexes (bytes : List ℕ) (tokens : List Token) : Type 0 where
  pub tiles : List Tile
  pub tiled : Tiles tiles 0 bytes []
  pub tokens_are : AreTokens bytes tiles 0 tokens

pub data Cause : Type 0 where
  BadByte : Cause
  UnfinishedString : Cause
  UnfinishedLong : Cause
  BadLongOpen : Cause
  EscapeTooLarge : Cause
  BadNumber : Cause

-- no token, white space or comment begins with this byte, wherever it stands and whatever follows
abbrev pub BeginsNothing : ℕ → Type 0
BeginsNothing byte = (piece : Piece) (at : ℕ) (text after : List ℕ) → IsPiece piece at (byte ∷ text) after → ⊥

-- a byte that begins no token, white space or comment: `~` begins `~=` alone
abbrev pub IsBadByte : List ℕ → Type 0
IsBadByte [] = ⊥
IsBadByte (byte ∷ after) = BeginsNothing byte ⊎ ((byte ≡ 126) × BeginsWithout (λ next. next == 61) after)

-- a run that begins like a numeral and is none
pub record IsBadNumber (text : List ℕ) : Type 0 where
  pub run : List ℕ
  pub after : List ℕ
  pub whole : text ≡ run ++ after
  pub begins : BeginsNumeral text
  pub is_run : IsRun is_numeral run after
  pub no_numeral : numeral_number run ≡ None

-- `[` and one or more `=` that open nothing
pub record IsBadOpening (text : List ℕ) : Type 0 where
  pub front : has_front (codes "[=") text ≡ true
  pub no_bracket : opens_long text ≡ false

-- a long bracket that opens after this front and has no closing
pub record IsUnclosed (front text : List ℕ) : Type 0 where
  pub level : ℕ
  pub after : List ℕ
  pub whole : text ≡ front ++ (opening level ++ after)
  pub no_closing : holds (closing level) after ≡ false

-- a short string that meets a line end that is not escaped, or the end, a backslash before it or not
pub record IsUnfinished (text : List ℕ) : Type 0 where
  pub quote : ℕ
  pub items : List Item
  pub after : List ℕ
  pub quoted : IsQuote quote
  pub whole : text ≡ quote ∷ items_text items after
  pub fit : ItemsFit quote items after
  pub ended : BeginsWithout (λ byte. not (ends_line byte)) after ⊎ (after ≡ codes "\\")

-- a short string with decimal digits above 255 after a backslash, so many bytes after its quote
pub record IsTooLarge (text : List ℕ) (distance : ℕ) : Type 0 where
  pub quote : ℕ
  pub items : List Item
  pub digits : List ℕ
  pub after : List ℕ
  pub quoted : IsQuote quote
  pub whole : text ≡ quote ∷ items_text items (codes "\\" ++ (digits ++ after))
  pub fit : ItemsFit quote items (codes "\\" ++ (digits ++ after))
  pub code : IsCode digits after
  pub large : 255 < digits_value digits
  pub distance_is : distance ≡ 1 + length (items_text items [])

-- a fault's condition stands where the text begins, so many bytes before its offset
abbrev pub IsFault : Cause → List ℕ → ℕ → Type 0
IsFault BadByte text distance = (distance ≡ 0) × IsBadByte text
IsFault BadNumber text distance = (distance ≡ 0) × IsBadNumber text
IsFault BadLongOpen text distance = (distance ≡ 0) × IsBadOpening text
IsFault UnfinishedLong text distance = ((distance ≡ 0) × IsUnclosed [] text) ⊎ ((distance ≡ 2) × IsUnclosed (codes "--") text)
IsFault UnfinishedString text distance = (distance ≡ 0) × IsUnfinished text
IsFault EscapeTooLarge text distance = IsTooLarge text distance

-- pieces tile the text up to the first place where a fault's condition stands
pub record Stops (bytes : List ℕ) (cause : Cause) (at : ℕ) : Type 0 where
  pub tiles : List Tile
  pub left : List ℕ
  pub distance : ℕ
  pub tiled : Tiles tiles 0 bytes left
  pub fault : IsFault cause left distance
  pub at_is : at + length left ≡ length bytes + distance
