-- Serves the bodies. What the code reads at the front of a text.
use Rattle.std.specs.Prelude.{◌≡◌, ◌⊎◌, ℕ, ◌+◌, ◌<◌, List, [], ◌∷◌, Option, Some, None}
use Rattle.lua_num.specs.Bytes.{is_space, Each}
use Rattle.lua_tree.specs.declared.token.TokenKind.{TokenKind}
use Rattle.lua_tree.specs.declared.token.Token.{Token}
use Rattle.lua_tree.specs.Brackets.{IsLong}
use Rattle.lua_tree.specs.Strings.{IsShort}
use Rattle.lua_tree.specs.Tokens.{IsWord, IsNumber, IsToken}
use Rattle.lua_tree.specs.Tiling as tiling
use Rattle.lua_tree.specs.Tiling.{IsPiece, Cause, IsFault}
use Rattle.lexer.specs.declared.fault.LexFault.{LexFault}
use Rattle.lexer.specs.declared.piece.PieceKind.{PieceKind}
use Rattle.lexer.specs.declared.piece.Piece.{Piece}
use Rattle.lexer.specs.Fronts.{IsFront}

-- what the front of a text is, by the kind that is answered
abbrev pub PieceIs : PieceKind → ℕ → List ℕ → List ℕ → Type 0
PieceIs PieceKind.Space at front after = Each is_space front
PieceIs PieceKind.Comment at front after = IsPiece tiling.Comment at front after
PieceIs PieceKind.Word at front after = IsWord front after
PieceIs (PieceKind.Number n) at front after = IsNumber n front after
PieceIs PieceKind.ShortText at front after = (bytes : List ℕ) × IsShort front after bytes
PieceIs (PieceKind.LongText level) at front after = (inside : List ℕ) × IsLong level inside front
PieceIs (PieceKind.Mark kind) at front after = IsToken kind at front after

-- a piece stands at the front of a text that begins at an offset
pub record PieceFront (at : ℕ) (text : List ℕ) (piece : Piece) : Type 0 where
  pub front : List ℕ
  pub after : List ℕ
  pub is_front : IsFront piece.length text front after
  pub some : 0 < piece.length
  pub piece_is : PieceIs piece.kind at front after

-- a fault's condition stands at the front of a text that begins at an offset
abbrev pub FaultOf : Cause → ℕ → List ℕ → ℕ → Type 0
FaultOf cause at text place = (distance : ℕ) × IsFault cause text distance × (place ≡ at + distance)

abbrev pub FaultAt : ℕ → List ℕ → LexFault → Type 0
FaultAt at text (LexFault.BadByte place) = FaultOf tiling.BadByte at text place
FaultAt at text (LexFault.UnfinishedString place) = FaultOf tiling.UnfinishedString at text place
FaultAt at text (LexFault.UnfinishedLong place) = FaultOf tiling.UnfinishedLong at text place
FaultAt at text (LexFault.BadLongOpen place) = FaultOf tiling.BadLongOpen at text place
FaultAt at text (LexFault.EscapeTooLarge place) = FaultOf tiling.EscapeTooLarge at text place
FaultAt at text (LexFault.BadNumber place) = FaultOf tiling.BadNumber at text place
FaultAt at text LexFault.OutOfMemory = ⊥

-- the front of a text is this token, or white space or a comment
abbrev pub TokenIs : Option TokenKind → ℕ → List ℕ → List ℕ → Type 0
TokenIs None at front after = Each is_space front ⊎ IsPiece tiling.Comment at front after
TokenIs (Some kind) at front after = IsToken kind at front after

pub record TokenFront (at n : ℕ) (text : List ℕ) (token : Option TokenKind) : Type 0 where
  pub front : List ℕ
  pub after : List ℕ
  pub is_front : IsFront n text front after
  pub token_is : TokenIs token at front after

-- a token as it stands in the list, where there is one
abbrev pub listed : Option TokenKind → ℕ → ℕ → List Token
listed None at line = []
listed (Some kind) at line = record { kind = kind; at = at; line = line } ∷ []
