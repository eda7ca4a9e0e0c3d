-- A text in which byte 10 ends each line, and its tokens with their lines.
use Rattle.std.proofs.Common.{◌≡◌, ℕ, ◌+◌, ◌&&◌, ◌==◌, not, nat_le, min, length, take, Bool, true, false, List, [], ◌∷◌, ◌++◌, if◌then◌else◌, refl, sym, ap, subst, ◌∙◌, arith, append_assoc, length-append, take_at}
use Rattle.std.proofs.lemmas.Bool.Decides.{nat_tests}
use Rattle.lua_num.specs.Bytes.{Each}
use Rattle.lua_num.proofs.Bytes.{each_join, each_weaker}
use Rattle.lua_tree.specs.Bytes.{ends_line}
use Rattle.lua_tree.specs.Lines.{Part, End, Other, text_of, IsCut, line_end, end_count, IsLineOf}
use Rattle.lua_tree.specs.Tiling.{Piece, Space, Comment, Tok, IsPiece, Tile, Tiles, Lists, AreTokens, Lexes}
use Rattle.lua_tree.specs.declared.token.Token.{Token}

-- ---- lines

-- no byte 13
abbrev pub is_plain : ℕ → Bool
is_plain byte = not (byte == 13)

abbrev pub ends_in : List ℕ → ℕ
ends_in [] = 0
ends_in (byte ∷ text) = (if byte == 10 then 1 else 0) + ends_in text

abbrev part_by : Bool → ℕ → Part
part_by true byte = End (byte ∷ [])
part_by false byte = Other byte

abbrev parts_of : List ℕ → List Part
parts_of [] = []
parts_of (byte ∷ text) = part_by (byte == 10) byte ∷ parts_of text

part_text : (ends : Bool) (byte : ℕ) (parts : List Part) → text_of (part_by ends byte ∷ parts) ≡ byte ∷ text_of parts
part_text true byte parts = refl
part_text false byte parts = refl

parts_text : (text : List ℕ) → text_of (parts_of text) ≡ text
parts_text [] = refl
parts_text (byte ∷ text) = part_text (byte == 10) byte (parts_of text) ∙ ap (λ t. byte ∷ t) (parts_text text)

part_counts : (ends : Bool) (byte : ℕ) (parts : List Part) → end_count (part_by ends byte ∷ parts) ≡ (if ends then 1 else 0) + end_count parts
part_counts true byte parts = omega arith
part_counts false byte parts = omega arith

parts_count : (text : List ℕ) → end_count (parts_of text) ≡ ends_in text
parts_count [] = refl
parts_count (byte ∷ text) = part_counts (byte == 10) byte (parts_of text) ∙ ap (λ n. (if byte == 10 then 1 else 0) + n) (parts_count text)

ends_one : (byte : ℕ) → (byte == 10) ≡ true → ends_line byte ≡ true
ends_one byte e = grind (arith, nat_tests)

pairs_none : (byte next : ℕ) → (byte == 10) ≡ true → is_plain next ≡ true → (ends_line next && not (byte == next)) ≡ false
pairs_none byte next e plain = grind (arith, nat_tests)

one_long : (byte : ℕ) (text : List ℕ) → (byte == 10) ≡ true → Each is_plain text → 1 ≡ line_end (byte ∷ text)
one_long byte [] e plain = let ends : ends_line byte ≡ true = ends_one byte e in rw ends
one_long byte (next ∷ text) e plain =
    let ends : ends_line byte ≡ true = ends_one byte e in
    let no_pair : (ends_line next && not (byte == next)) ≡ false = pairs_none byte next e plain.0 in
    rw (ends, no_pair)

no_end : (byte : ℕ) → (byte == 10) ≡ false → is_plain byte ≡ true → ends_line byte ≡ false
no_end byte e plain = grind (arith, nat_tests)

cut_by : (ends : Bool) (byte : ℕ) (text : List ℕ) → (byte == 10) ≡ ends → is_plain byte ≡ true → Each is_plain text → IsCut (parts_of text) → IsCut (part_by ends byte ∷ parts_of text)
cut_by true byte text e plain others cut = (omega arith, one_long byte text e others ∙ ap (λ t. line_end (byte ∷ t)) (sym (parts_text text)), cut)
cut_by false byte text e plain others cut = (no_end byte e plain, cut)

parts_cut : (text : List ℕ) → Each is_plain text → IsCut (parts_of text)
parts_cut [] plain = tt
parts_cut (byte ∷ text) plain = cut_by (byte == 10) byte text refl plain.0 plain.1 (parts_cut text plain.1)

line_is : (text : List ℕ) → Each is_plain text → IsLineOf text (min (ends_in text + 1) 2147483647)
line_is text plain = record {
  parts = parts_of text;
  cut = record { cut = parts_cut text plain; whole = sym (parts_text text) };
  line_is = ap (λ n. min (n + 1) 2147483647) (sym (parts_count text));
}

pub ends_join : (text more : List ℕ) → ends_in (text ++ more) ≡ ends_in text + ends_in more
ends_join [] more = omega arith
ends_join (byte ∷ text) more = let rest = ends_join text more in omega (arith, rest)

-- ---- visible bytes end no line

visible_plain : (byte : ℕ) → nat_le 32 byte ≡ true → is_plain byte ≡ true
visible_plain byte e = grind (arith, nat_tests)

visible_no_end : (byte : ℕ) → nat_le 32 byte ≡ true → (byte == 10) ≡ false
visible_no_end byte e = grind (arith, nat_tests)

no_ends : (text : List ℕ) → Each (nat_le 32) text → ends_in text ≡ 0
no_ends [] visible = refl
no_ends (byte ∷ text) visible = ap (λ b. (if b then 1 else 0) + ends_in text) (visible_no_end byte visible.0) ∙ (ap (λ n. 0 + n) (no_ends text visible.1) ∙ omega arith)

-- ---- tiles, one behind another

abbrev pub tiles_text : List Tile → List ℕ
tiles_text [] = []
tiles_text (tile ∷ tiles) = tile.text ++ tiles_text tiles

-- each tile fits at its place, before those behind it
abbrev pub AreFitting : ℕ → List Tile → Type 0
AreFitting at [] = Unit {0}
AreFitting at (tile ∷ tiles) = IsPiece tile.piece at tile.text (tiles_text tiles) × AreFitting (at + length tile.text) tiles

pub tiled : (tiles : List Tile) (at : ℕ) → AreFitting at tiles → Tiles tiles at (tiles_text tiles) []
tiled [] at fit = refl
tiled (tile ∷ tiles) at fit = record { after = tiles_text tiles; whole = refl; is_piece = fit.0; rest = tiled tiles (at + length tile.text) fit.1 }

-- a token has visible bytes, white space is no byte 13, and there are no comments
abbrev pub IsClear : Piece → List ℕ → Type 0
IsClear Space text = Each is_plain text
IsClear Comment text = ⊥
IsClear (Tok kind) text = Each (nat_le 32) text

abbrev pub AreClear : List Tile → Type 0
AreClear [] = Unit {0}
AreClear (tile ∷ tiles) = IsClear tile.piece tile.text × AreClear tiles

-- the lines that a tile ends
abbrev pub lines_of : Piece → List ℕ → ℕ
lines_of Space text = ends_in text
lines_of Comment text = 0
lines_of (Tok kind) text = 0

-- a piece's token, if it is one, before the others
abbrev pub with_token : Piece → (line at : ℕ) → List Token → List Token
with_token Space line at others = others
with_token Comment line at others = others
with_token (Tok kind) line at others = record { kind = kind; at = at; line = min line 2147483647 } ∷ others

-- the tokens of tiles from this line on, at this place
abbrev pub tokens_of : (line at : ℕ) → List Tile → List Token
tokens_of line at [] = []
tokens_of line at (tile ∷ tiles) = with_token tile.piece line at (tokens_of (line + lines_of tile.piece tile.text) (at + length tile.text) tiles)

clear_plain : (piece : Piece) (text : List ℕ) → IsClear piece text → Each is_plain text
clear_plain Space text clear = clear
clear_plain Comment text clear = absurd clear
clear_plain (Tok kind) text clear = each_weaker (nat_le 32) is_plain visible_plain text clear

clear_lines : (piece : Piece) (text : List ℕ) → IsClear piece text → ends_in text ≡ lines_of piece text
clear_lines Space text clear = refl
clear_lines Comment text clear = absurd clear
clear_lines (Tok kind) text clear = no_ends text clear

listed : (piece : Piece) (bytes done text after : List ℕ) (Rest : List Token → Type 0) (others : List Token) → bytes ≡ (done ++ text) ++ after → Each is_plain (done ++ text) → IsClear piece text →
    Rest others → Lists bytes piece (length done) (length done + length text) (with_token piece (ends_in done + 1) (length done) others) Rest
listed Space bytes done text after Rest others whole plain clear rest = rest
listed Comment bytes done text after Rest others whole plain clear rest = rest
listed (Tok kind) bytes done text after Rest others whole plain clear rest =
    let ends : ends_in (done ++ text) ≡ ends_in done = ends_join done text ∙ (ap (λ n. ends_in done + n) (no_ends text clear) ∙ omega arith) in
    let line : IsLineOf (done ++ text) (min (ends_in done + 1) 2147483647) = subst (λ n. IsLineOf (done ++ text) (min (n + 1) 2147483647)) ends (line_is (done ++ text) plain) in
    let front : take (length done + length text) bytes ≡ done ++ text = ap (take (length done + length text)) whole ∙ take_at (done ++ text) after (length done + length text) (length-append done text) in
    record { line = min (ends_in done + 1) 2147483647; line_is = subst (λ t. IsLineOf t (min (ends_in done + 1) 2147483647)) (sym front) line; others = others; tokens_are = refl; rest = rest }

pub are_tokens : (tiles : List Tile) (bytes done : List ℕ) → bytes ≡ done ++ tiles_text tiles → Each is_plain done → AreClear tiles → AreTokens bytes tiles (length done) (tokens_of (ends_in done + 1) (length done) tiles)
are_tokens [] bytes done whole plain clear = refl
are_tokens (tile ∷ tiles) bytes done whole plain clear =
    let whole' : bytes ≡ (done ++ tile.text) ++ tiles_text tiles = whole ∙ sym (append_assoc done tile.text (tiles_text tiles)) in
    let plain' : Each is_plain (done ++ tile.text) = each_join is_plain done tile.text plain (clear_plain tile.piece tile.text clear.0) in
    let rest : AreTokens bytes tiles (length (done ++ tile.text)) (tokens_of (ends_in (done ++ tile.text) + 1) (length (done ++ tile.text)) tiles) = are_tokens tiles bytes (done ++ tile.text) whole' plain' clear.1 in
    let line : ends_in (done ++ tile.text) + 1 ≡ ends_in done + 1 + lines_of tile.piece tile.text = ap (λ n. n + 1) (ends_join done tile.text ∙ ap (λ n. ends_in done + n) (clear_lines tile.piece tile.text clear.0)) ∙ omega arith in
    let rest' : AreTokens bytes tiles (length done + length tile.text) (tokens_of (ends_in done + 1 + lines_of tile.piece tile.text) (length done + length tile.text) tiles) =
    subst (λ at. AreTokens bytes tiles at (tokens_of (ends_in done + 1 + lines_of tile.piece tile.text) at tiles)) (length-append done tile.text)
    (subst (λ line. AreTokens bytes tiles (length (done ++ tile.text)) (tokens_of line (length (done ++ tile.text)) tiles)) line rest) in
    listed tile.piece bytes done tile.text (tiles_text tiles) (AreTokens bytes tiles (length done + length tile.text)) _ whole' plain' clear.0 rest'

-- tiles that fit and are clear are read
pub lexes : (tiles : List Tile) → AreFitting 0 tiles → AreClear tiles → Lexes (tiles_text tiles) (tokens_of 1 0 tiles)
lexes tiles fit clear = record { tiles = tiles; tiled = tiled tiles 0 fit; tokens_are = are_tokens tiles (tiles_text tiles) [] refl tt clear }
