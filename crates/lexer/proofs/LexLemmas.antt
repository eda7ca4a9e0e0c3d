-- Tokens read so far, and the text that is left: whatever tiles the rest, the whole is tiled by what was read and that.
use Rattle.std.proofs.Math.Seq.{take-add}
use Rattle.std.proofs.lemmas.List.{drop-drop, drop_all, length-drop}
use Rattle.std.proofs.Common.{◌≤◌, Result, Ok, Err, IfOk, IfErr, ◌≡◌, ◌⊎◌, ℕ, ◌+◌, Option, Some, None, List, [], ◌∷◌, ◌++◌, length, take, drop, refl, sym, ap, subst, ◌∙◌, inl, inr, append_assoc, append-nil, arith}
use Rattle.lua_num.specs.Bytes.{is_space, Each}
use Rattle.lua_tree.specs.declared.token.TokenKind.{TokenKind}
use Rattle.lua_tree.specs.declared.token.Token.{Token}
use Rattle.lua_tree.specs.Lines.{IsLineOf}
use Rattle.lua_tree.specs.Tiling.{Piece, Space, Comment, Tok, IsPiece, Tile, Tiles, AreTokens, Lexes, Cause, IsFault, Stops}
use Rattle.lexer.specs.Lines.{IsCounted}
use Rattle.lua_tree.specs.Tiling as tiling
use Rattle.lexer.specs.declared.fault.LexFault.{LexFault}
use Rattle.lexer.specs.Faults.{IsFaultOf, StopsBy}
use Rattle.lexer.specs.Pieces.{TokenIs, TokenFront, FaultOf, FaultAt, listed}
use Rattle.lexer.specs.declared.lines.LineCounter.{LineCounter}
use Rattle.lexer.proofs.FrontLemmas.{front_within, front_dropped}

-- tiles of the whole, up to what is left, and the tokens among them
pub record Extends (bytes : List ℕ) (at : ℕ) (tokens : List Token) (tiles : List Tile) (left : List ℕ) : Type 0 where
  pub whole : List Tile
  pub tiled : Tiles whole 0 bytes left
  pub lists : (more : List Token) → AreTokens bytes tiles at more → AreTokens bytes whole 0 (tokens ++ more)

pub record Lexing (bytes rest : List ℕ) (at : ℕ) (tokens : List Token) : Type 0 where
  pub extends : (tiles : List Tile) (left : List ℕ) → Tiles tiles at rest left → Extends bytes at tokens tiles left

-- white space or a comment
gap_next : (bytes front after : List ℕ) (at : ℕ) (tokens : List Token) (piece : Piece) → ((tiles : List Tile) (more : List Token) → AreTokens bytes tiles (at + length front) more → AreTokens bytes (record { piece = piece; text = front } ∷ tiles) at more) → IsPiece piece at front after → Lexing bytes (front ++ after) at tokens → Lexing bytes after (at + length front) tokens
gap_next bytes front after at tokens piece none is lexing = record {
  extends = λ tiles left tiled.
      let tile : Tile = record { piece = piece; text = front } in
      let wider : Extends bytes at tokens (tile ∷ tiles) left = lexing.extends (tile ∷ tiles) left (record { after = after; whole = refl; is_piece = is; rest = tiled }) in
      record { whole = wider.whole; tiled = wider.tiled; lists = λ more h. wider.lists more (none tiles more h) };
}

pub comment_next : (bytes front after : List ℕ) (at : ℕ) (tokens : List Token) → IsPiece Comment at front after → Lexing bytes (front ++ after) at tokens → Lexing bytes after (at + length front) tokens
comment_next bytes front after at tokens is lexing = gap_next bytes front after at tokens Comment (λ tiles more h. h) is lexing

pub spaces_next : (bytes front after : List ℕ) (at : ℕ) (tokens : List Token) → Each is_space front → Lexing bytes (front ++ after) at tokens → Lexing bytes after (at + length front) tokens
spaces_next bytes [] after at tokens each lexing = let same : at + 0 ≡ at = omega arith in subst (λ n. Lexing bytes after n tokens) (sym same) lexing
spaces_next bytes (byte ∷ front) after at tokens each lexing =
    let one : Lexing bytes (front ++ after) (at + 1) tokens = gap_next bytes (byte ∷ []) (front ++ after) at tokens Space (λ tiles more h. h) (byte, refl, each.0) lexing in
    let rest : Lexing bytes after (at + 1 + length front) tokens = spaces_next bytes front after (at + 1) tokens each.1 one in
    let same : at + 1 + length front ≡ at + length (byte ∷ front) = omega arith in
    subst (λ n. Lexing bytes after n tokens) same rest

-- a token
pub token_next : (bytes front after : List ℕ) (at line : ℕ) (tokens : List Token) (kind : TokenKind) → IsPiece (Tok kind) at front after → IsLineOf (take (at + length front) bytes) line → Lexing bytes (front ++ after) at tokens → Lexing bytes after (at + length front) (tokens ++ record { kind = kind; at = at; line = line } ∷ [])
token_next bytes front after at line tokens kind is on_line lexing =
    let token : Token = record { kind = kind; at = at; line = line } in
    record {
      extends = λ tiles left tiled.
          let tile : Tile = record { piece = Tok kind; text = front } in
          let wider : Extends bytes at tokens (tile ∷ tiles) left = lexing.extends (tile ∷ tiles) left (record { after = after; whole = refl; is_piece = is; rest = tiled }) in
          record {
            whole = wider.whole;
            tiled = wider.tiled;
            lists = λ more h. subst (AreTokens bytes wider.whole 0) (sym (append_assoc tokens (token ∷ []) more)) (wider.lists (token ∷ more) (record { line = line; line_is = on_line; others = more; tokens_are = refl; rest = h }));
          };
    }

-- what stands at the front, and its token where there is one
pub piece_next : (bytes front after : List ℕ) (at line : ℕ) (tokens : List Token) (token : Option TokenKind) → TokenIs token at front after → IsLineOf (take (at + length front) bytes) line → Lexing bytes (front ++ after) at tokens → Lexing bytes after (at + length front) (tokens ++ listed token at line)
piece_next bytes front after at line tokens None (inl each) on_line lexing = subst (Lexing bytes after (at + length front)) (sym (append-nil tokens)) (spaces_next bytes front after at tokens each lexing)
piece_next bytes front after at line tokens None (inr is) on_line lexing = subst (Lexing bytes after (at + length front)) (sym (append-nil tokens)) (comment_next bytes front after at tokens is lexing)
piece_next bytes front after at line tokens (Some kind) is on_line lexing = token_next bytes front after at line tokens kind is on_line lexing

-- where nothing is left, these are the tokens
pub lexing_end : (bytes rest : List ℕ) (at : ℕ) (tokens : List Token) → rest ≡ [] → Lexing bytes rest at tokens → Lexes bytes tokens
lexing_end bytes rest at tokens empty lexing =
    let all : Extends bytes at tokens [] [] = lexing.extends [] [] empty in
    record { tiles = all.whole; tiled = all.tiled; tokens_are = subst (AreTokens bytes all.whole 0) (append-nil tokens) (all.lists [] refl) }

-- where a fault stands, it is the text's
pub lexing_stop : (bytes rest : List ℕ) (at distance : ℕ) (tokens : List Token) (cause : Cause) → at + length rest ≡ length bytes → IsFault cause rest distance → Lexing bytes rest at tokens → Stops bytes cause (at + distance)
lexing_stop bytes rest at distance tokens cause size fault lexing =
    let all : Extends bytes at tokens [] rest = lexing.extends [] rest refl in
    record { tiles = all.whole; left = rest; distance = distance; tiled = all.tiled; fault = fault; at_is = omega (arith, size) }

-- one turn of the loop: from an offset to the end of the piece there
pub turn_within : (bytes : List ℕ) (at n : ℕ) (token : Option TokenKind) → at ≤ length bytes → TokenFront at n (drop at bytes) token → at + n ≤ length bytes
turn_within bytes at n token within front =
    let few = front_within n (drop at bytes) front.front front.after front.is_front in
    let size = length-drop at bytes in
    omega (arith, few, size, within)

pub turn_lexing : (bytes : List ℕ) (at n line : ℕ) (tokens : List Token) (token : Option TokenKind) → TokenFront at n (drop at bytes) token → IsLineOf (take (at + n) bytes) line → Lexing bytes (drop at bytes) at tokens → Lexing bytes (drop (at + n) bytes) (at + n) (tokens ++ listed token at line)
turn_lexing bytes at n line tokens token front on_line lexing =
    let size : length front.front ≡ n = front.is_front.length_is in
    let rest : drop (at + n) bytes ≡ front.after = sym (drop-drop n at bytes) ∙ front_dropped n (drop at bytes) front.front front.after front.is_front in
    let next : Lexing bytes front.after (at + length front.front) (tokens ++ listed token at line) =
    piece_next bytes front.front front.after at line tokens token front.token_is (subst (λ m. IsLineOf (take (at + m) bytes) line) (sym size) on_line) (subst (λ t. Lexing bytes t at tokens) front.is_front.whole lexing) in
    subst (λ t. Lexing bytes t (at + n) (tokens ++ listed token at line)) (sym rest) (subst (λ m. Lexing bytes front.after (at + m) (tokens ++ listed token at line)) size next)

pub turn_counted : (bytes : List ℕ) (at n : ℕ) (counter : LineCounter) → IsCounted (take at bytes ++ take n (drop at bytes)) counter → IsCounted (take (at + n) bytes) counter
turn_counted bytes at n counter counted = subst (λ t. IsCounted t counter) (sym (take-add at n bytes)) counted

pub turns_end : (bytes : List ℕ) (at : ℕ) (tokens : List Token) → length bytes ≤ at → Lexing bytes (drop at bytes) at tokens → Lexes bytes tokens
turns_end bytes at tokens all lexing = lexing_end bytes (drop at bytes) at tokens (drop_all at bytes all) lexing

-- a fault at the front of the rest is the text's
fault_here : (bytes : List ℕ) (at : ℕ) (tokens : List Token) (cause : Cause) (place : ℕ) → at ≤ length bytes → FaultOf cause at (drop at bytes) place → Lexing bytes (drop at bytes) at tokens → Stops bytes cause place
fault_here bytes at tokens cause place within fault lexing =
    let size = length-drop at bytes in
    subst (Stops bytes cause) (sym fault.2) (lexing_stop bytes (drop at bytes) at fault.0 tokens cause (omega (arith, size, within)) fault.1 lexing)

pub turn_fault : (bytes : List ℕ) (at : ℕ) (tokens : List Token) (fault : LexFault) → at ≤ length bytes → FaultAt at (drop at bytes) fault → Lexing bytes (drop at bytes) at tokens → IsFaultOf bytes fault
turn_fault bytes at tokens (LexFault.BadByte place) within fault lexing = fault_here bytes at tokens tiling.BadByte place within fault lexing
turn_fault bytes at tokens (LexFault.UnfinishedString place) within fault lexing = fault_here bytes at tokens tiling.UnfinishedString place within fault lexing
turn_fault bytes at tokens (LexFault.UnfinishedLong place) within fault lexing = fault_here bytes at tokens tiling.UnfinishedLong place within fault lexing
turn_fault bytes at tokens (LexFault.BadLongOpen place) within fault lexing = fault_here bytes at tokens tiling.BadLongOpen place within fault lexing
turn_fault bytes at tokens (LexFault.EscapeTooLarge place) within fault lexing = fault_here bytes at tokens tiling.EscapeTooLarge place within fault lexing
turn_fault bytes at tokens (LexFault.BadNumber place) within fault lexing = fault_here bytes at tokens tiling.BadNumber place within fault lexing
turn_fault bytes at tokens LexFault.OutOfMemory within fault lexing = fault

pub stops_by : (bytes : List ℕ) (fault : LexFault) → IsFaultOf bytes fault → StopsBy bytes fault
stops_by bytes (LexFault.BadByte place) is = is
stops_by bytes (LexFault.UnfinishedString place) is = is
stops_by bytes (LexFault.UnfinishedLong place) is = is
stops_by bytes (LexFault.BadLongOpen place) is = is
stops_by bytes (LexFault.EscapeTooLarge place) is = is
stops_by bytes (LexFault.BadNumber place) is = is
stops_by bytes LexFault.OutOfMemory is = tt

-- one answer is left for a text that has tokens
pub only_these : (bytes : List ℕ) (result : Result (List Token) LexFault) → IfOk result (Lexes bytes) → IfErr result (StopsBy bytes) → ((bytes : List ℕ) (tokens others : List Token) → Lexes bytes tokens → Lexes bytes others → tokens ≡ others) → ((bytes : List ℕ) (tokens : List Token) (cause : Cause) (at : ℕ) → Lexes bytes tokens → Stops bytes cause at → ⊥) → (tokens : List Token) → Lexes bytes tokens → (result ≡ Ok tokens) ⊎ (result ≡ Err LexFault.OutOfMemory)
only_these bytes (Ok read) lexed stops one never tokens is = inl (ap Ok (one bytes read tokens lexed is))
only_these bytes (Err (LexFault.BadByte place)) lexed stops one never tokens is = absurd (never bytes tokens tiling.BadByte place is stops)
only_these bytes (Err (LexFault.UnfinishedString place)) lexed stops one never tokens is = absurd (never bytes tokens tiling.UnfinishedString place is stops)
only_these bytes (Err (LexFault.UnfinishedLong place)) lexed stops one never tokens is = absurd (never bytes tokens tiling.UnfinishedLong place is stops)
only_these bytes (Err (LexFault.BadLongOpen place)) lexed stops one never tokens is = absurd (never bytes tokens tiling.BadLongOpen place is stops)
only_these bytes (Err (LexFault.EscapeTooLarge place)) lexed stops one never tokens is = absurd (never bytes tokens tiling.EscapeTooLarge place is stops)
only_these bytes (Err (LexFault.BadNumber place)) lexed stops one never tokens is = absurd (never bytes tokens tiling.BadNumber place is stops)
only_these bytes (Err LexFault.OutOfMemory) lexed stops one never tokens is = inr refl
