-- A text is tiled in one way.
use Rattle.std.proofs.Common.{◌≡◌, ℕ, zero, suc, ℤ, Bool, Some, None, true, false, not, List, [], ◌∷◌, ◌++◌, length, refl, sym, ap, subst, ◌∙◌, append_assoc, replicate, inl, inr, arith, take, ◌+◌}
use Rattle.std.specs.Prelude.{codes}
use Rattle.lua_num.specs.Numeral.{numeral_number}
use Rattle.lua_tree.specs.declared.token.TokenKind.{TokenKind}
use Rattle.lua_tree.specs.declared.token.Token.{Token}
use Rattle.lua_tree.specs.Bytes.{is_word, is_numeral, ends_line, longest}
use Rattle.lua_tree.specs.Lines.{plain, without_first_end}
use Rattle.lua_tree.specs.Brackets.{opening, closing, ends_opening, opens_long, IsLong, LongMeans}
use Rattle.lua_tree.specs.Tokens.{marks}
use Rattle.lua_tree.specs.Tiling.{Piece, Comment, Tok, IsPiece, IsShortComment, IsLongComment, IsFirstLine, Tile, Tiles, Lists, AreTokens, Lexes, Space}
use Rattle.lua_tree.proofs.Cuts.{SameFronts, same_fronts, cuts_are_one, one_line}
use Rattle.lua_tree.proofs.LongBrackets.{one_run, SameLong, longs_are_one}
use Rattle.lua_tree.proofs.Strings.{SameString, shorts_are_one}
use Rattle.lua_tree.proofs.Pieces.{Class, White, Word, Numeral, Quoted, Bracketed, Commented, Marked, class_of, word_kind, mark_kind, SeenIn, Seen, piece_seen}

pub record SamePiece (piece other : Piece) (text texts : List ℕ) : Type 0 where
  pub pieces : piece ≡ other
  pub texts_are : text ≡ texts

-- a numeral has one number
one_number : (text : List ℕ) (n m : ℤ) → numeral_number text ≡ Some n → numeral_number text ≡ Some m → n ≡ m
one_number text n m x y = let same : Some n ≡ Some m = sym x ∙ y in cc

-- a long string has one meaning
one_meaning : (inside bytes others : List ℕ) → LongMeans inside bytes → LongMeans inside others → bytes ≡ others
one_meaning inside bytes others x y =
    x.bytes_are ∙ (ap (λ parts. plain (without_first_end parts)) (cuts_are_one x.parts y.parts x.cut.cut y.cut.cut (sym x.cut.whole ∙ y.cut.whole)) ∙ sym y.bytes_are)

-- a comment is one
pub ends_opening_there : (level : ℕ) (rest : List ℕ) → ends_opening ((replicate level 61 ++ codes "[") ++ rest) ≡ true
ends_opening_there zero rest = refl
ends_opening_there (suc level) rest = ends_opening_there level rest

pub long_opens : (level : ℕ) (inside text after : List ℕ) → IsLong level inside text → opens_long (text ++ after) ≡ true
long_opens level inside text after x =
    ap (λ t. opens_long (t ++ after)) x.whole ∙ (ap opens_long (append_assoc (opening level) (inside ++ closing level) after) ∙ ends_opening_there level ((inside ++ closing level) ++ after))

no_short_and_long : (text after texts follows : List ℕ) → IsShortComment text after → IsLongComment texts → text ++ after ≡ texts ++ follows → ⊥
no_short_and_long text after texts follows x y e =
    let whole : 45 ∷ 45 ∷ (x.body ++ after) ≡ 45 ∷ 45 ∷ (y.body ++ follows) = sym (ap (λ t. t ++ after) x.whole) ∙ (e ∙ ap (λ t. t ++ follows) y.whole) in
    let bodies : x.body ++ after ≡ y.body ++ follows = cc in
    let long : opens_long (y.body ++ follows) ≡ true = long_opens y.level y.inside y.body follows y.long in
    let short : opens_long (y.body ++ follows) ≡ false = subst (λ t. opens_long t ≡ false) bodies x.no_bracket in
    let both : true ≡ false = sym long ∙ short in
    cc

pub first_of : (a b : ℕ) (r s : List ℕ) → a ∷ r ≡ b ∷ s → a ≡ b
first_of a b r s e = cc

minus_no_hash : ◌≡◌ {A = ℕ} 45 35 → ⊥
minus_no_hash e = omega (arith, e)

pub no_minus_and_hash : (text after texts follows body other : List ℕ) → text ≡ 45 ∷ body → texts ≡ 35 ∷ other → text ++ after ≡ texts ++ follows → ⊥
no_minus_and_hash text after texts follows body other x y e =
    let whole : 45 ∷ (body ++ after) ≡ 35 ∷ (other ++ follows) = sym (ap (λ t. t ++ after) x) ∙ (e ∙ ap (λ t. t ++ follows) y) in
    minus_no_hash (first_of 45 35 _ _ whole)

long_comments_are_one : (text after texts follows : List ℕ) → IsLongComment text → IsLongComment texts → text ++ after ≡ texts ++ follows → text ≡ texts
long_comments_are_one text after texts follows x y e =
    let whole : 45 ∷ 45 ∷ (x.body ++ after) ≡ 45 ∷ 45 ∷ (y.body ++ follows) = sym (ap (λ t. t ++ after) x.whole) ∙ (e ∙ ap (λ t. t ++ follows) y.whole) in
    let bodies : x.body ++ after ≡ y.body ++ follows = cc in
    let same : SameLong x.level y.level x.inside y.inside x.body y.body = longs_are_one x.level y.level x.inside y.inside x.body y.body after follows x.long y.long bodies in
    x.whole ∙ (ap (λ t. 45 ∷ 45 ∷ t) same.texts_are ∙ sym y.whole)

abbrev pub goes_on : ℕ → Bool
goes_on byte = not (ends_line byte)

short_comments_are_one : (text after texts follows : List ℕ) → IsShortComment text after → IsShortComment texts follows → text ++ after ≡ texts ++ follows → text ≡ texts
short_comments_are_one text after texts follows x y e =
    let whole : 45 ∷ 45 ∷ (x.body ++ after) ≡ 45 ∷ 45 ∷ (y.body ++ follows) = sym (ap (λ t. t ++ after) x.whole) ∙ (e ∙ ap (λ t. t ++ follows) y.whole) in
    let bodies : x.body ++ after ≡ y.body ++ follows = cc in
    let same : SameFronts x.body y.body after follows = one_run goes_on x.body after y.body follows x.run.each y.run.each x.run.longest y.run.longest bodies in
    x.whole ∙ (ap (λ t. 45 ∷ 45 ∷ t) same.fronts ∙ sym y.whole)

first_lines_are_one : (at : ℕ) (text after texts follows : List ℕ) → IsFirstLine at text after → IsFirstLine at texts follows → text ++ after ≡ texts ++ follows → text ≡ texts
first_lines_are_one at text after texts follows x y e =
    let whole : 35 ∷ (x.body ++ after) ≡ 35 ∷ (y.body ++ follows) = sym (ap (λ t. t ++ after) x.whole) ∙ (e ∙ ap (λ t. t ++ follows) y.whole) in
    let bodies : x.body ++ after ≡ y.body ++ follows = cc in
    let same : SameFronts x.body y.body after follows = one_run goes_on x.body after y.body follows x.run.each y.run.each x.run.longest y.run.longest bodies in
    x.whole ∙ (ap (λ t. 35 ∷ t) same.fronts ∙ sym y.whole)

comments_are_one : (at : ℕ) (text after texts follows : List ℕ) → IsPiece Comment at text after → IsPiece Comment at texts follows → text ++ after ≡ texts ++ follows → text ≡ texts
comments_are_one at text after texts follows (inl x) (inl y) e = short_comments_are_one text after texts follows x y e
comments_are_one at text after texts follows (inl x) (inr (inl y)) e = absurd (no_short_and_long text after texts follows x y e)
comments_are_one at text after texts follows (inl x) (inr (inr y)) e = absurd (no_minus_and_hash text after texts follows _ _ x.whole y.whole e)
comments_are_one at text after texts follows (inr (inl x)) (inl y) e = absurd (no_short_and_long texts follows text after y x (sym e))
comments_are_one at text after texts follows (inr (inl x)) (inr (inl y)) e = long_comments_are_one text after texts follows x y e
comments_are_one at text after texts follows (inr (inl x)) (inr (inr y)) e = absurd (no_minus_and_hash text after texts follows _ _ x.whole y.whole e)
comments_are_one at text after texts follows (inr (inr x)) (inl y) e = absurd (no_minus_and_hash texts follows text after _ _ y.whole x.whole (sym e))
comments_are_one at text after texts follows (inr (inr x)) (inr (inl y)) e = absurd (no_minus_and_hash texts follows text after _ _ y.whole x.whole (sym e))
comments_are_one at text after texts follows (inr (inr x)) (inr (inr y)) e = first_lines_are_one at text after texts follows x y e

-- within a class a piece is one
same_in : (class : Class) (p q : Piece) (at : ℕ) (text after texts follows : List ℕ) → SeenIn class p at text after → SeenIn class q at texts follows → text ++ after ≡ texts ++ follows → SamePiece p q text texts
same_in White p q at text after texts follows x y e =
    let whole : x.0 ∷ after ≡ y.0 ∷ follows = sym (ap (λ t. t ++ after) x.1) ∙ (e ∙ ap (λ t. t ++ follows) y.1) in
    let bytes : x.0 ≡ y.0 = cc in
    record { pieces = x.2 ∙ sym y.2; texts_are = x.1 ∙ (ap (λ b. b ∷ []) bytes ∙ sym y.1) }
same_in Word p q at text after texts follows x y e =
    let same : text ≡ texts = (one_run is_word text after texts follows x.0.run.each y.0.run.each x.0.run.longest y.0.run.longest e).fronts in
    record { pieces = x.1 ∙ (ap (λ t. Tok (word_kind t)) same ∙ sym y.1); texts_are = same }
same_in Numeral p q at text after texts follows x y e =
    let same : text ≡ texts = (one_run is_numeral text after texts follows x.1.each y.1.each x.1.longest y.1.longest e).fronts in
    let numbers : x.0 ≡ y.0 = one_number texts x.0 y.0 (subst (λ t. numeral_number t ≡ Some x.0) same x.2) y.2 in
    record { pieces = x.3 ∙ (ap (λ n. Tok (TokenKind.Number n)) numbers ∙ sym y.3); texts_are = same }
same_in Quoted p q at text after texts follows x y e =
    let same : SameString text texts x.0 y.0 = shorts_are_one text after x.0 texts follows y.0 x.1 y.1 e in
    record { pieces = x.2 ∙ (ap (λ b. Tok (TokenKind.Text b)) same.bytes_are ∙ sym y.2); texts_are = same.texts }
same_in Bracketed p q at text after texts follows x y e =
    let same : SameLong x.1 y.1 x.2 y.2 text texts = longs_are_one x.1 y.1 x.2 y.2 text texts after follows x.3 y.3 e in
    let meaning : x.0 ≡ y.0 = one_meaning y.2 x.0 y.0 (subst (λ i. LongMeans i x.0) same.insides x.4) y.4 in
    record { pieces = x.5 ∙ (ap (λ b. Tok (TokenKind.Text b)) meaning ∙ sym y.5); texts_are = same.texts_are }
same_in Commented p q at text after texts follows x y e = record { pieces = x.1 ∙ sym y.1; texts_are = comments_are_one at text after texts follows x.0 y.0 e }
same_in Marked p q at text after texts follows x y e =
    let sizes : length text ≡ length texts = sym x.1 ∙ (ap (longest marks) e ∙ y.1) in
    let same : text ≡ texts = (same_fronts text texts after follows e sizes).fronts in
    record { pieces = x.2 ∙ (ap (λ t. Tok (mark_kind t)) same ∙ sym y.2); texts_are = same }

pub same_piece : (p q : Piece) (at : ℕ) (text after texts follows : List ℕ) → IsPiece p at text after → IsPiece q at texts follows → text ++ after ≡ texts ++ follows → SamePiece p q text texts
same_piece p q at text after texts follows x y e =
    let one : Seen p at text after = piece_seen p text after at x in
    let two : Seen q at texts follows = piece_seen q texts follows at y in
    let classes : two.class ≡ one.class = sym two.class_is ∙ (ap (class_of at) (sym e) ∙ one.class_is) in
    same_in one.class p q at text after texts follows one.seen (subst (λ c. SeenIn c q at texts follows) classes two.seen) e

-- a piece has a byte at least
pub empty_no_cons : (byte : ℕ) (text : List ℕ) → [] ≡ byte ∷ text → ⊥
empty_no_cons byte text e = cc

empty_no_numeral : (n : ℤ) → None ≡ Some n → ⊥
empty_no_numeral n is = cc

empty_no_comment : (at : ℕ) (after : List ℕ) → IsPiece Comment at [] after → ⊥
empty_no_comment at after (inl is) = empty_no_cons _ _ is.whole
empty_no_comment at after (inr (inl is)) = empty_no_cons _ _ is.whole
empty_no_comment at after (inr (inr is)) = empty_no_cons _ _ is.whole

none_seen : (class : Class) (piece : Piece) (at : ℕ) (after : List ℕ) → SeenIn class piece at [] after → ⊥
none_seen White piece at after is = empty_no_cons _ _ is.1
none_seen Word piece at after is = is.0.begins
none_seen Numeral piece at after is = empty_no_numeral is.0 is.2
none_seen Quoted piece at after is = empty_no_cons _ _ is.1.whole
none_seen Bracketed piece at after is = empty_no_cons _ _ is.3.whole
none_seen Commented piece at after is = empty_no_comment at after is.0
none_seen Marked piece at after is = omega (arith, is.0)

pub no_empty_piece : (piece : Piece) (at : ℕ) (text after : List ℕ) → IsPiece piece at text after → [] ≡ text ++ after → ⊥
no_empty_piece piece at [] after is e = let seen : Seen piece at [] after = piece_seen piece [] after at is in none_seen seen.class piece at after seen.seen
no_empty_piece piece at (byte ∷ text) after is e = empty_no_cons _ _ e

abbrev tile_of : Piece → List ℕ → Tile
tile_of piece text = record { piece = piece; text = text }

pub same_tile : (t u : Tile) → t.piece ≡ u.piece → t.text ≡ u.text → t ≡ u
same_tile t u p x = ap (λ piece. tile_of piece t.text) p ∙ ap (λ text. tile_of u.piece text) x

-- a whole tiling is one
same_tiles : (ts us : List Tile) (at : ℕ) (text : List ℕ) → Tiles ts at text [] → Tiles us at text [] → ts ≡ us
same_tiles [] [] at text x y = refl
same_tiles [] (u ∷ us) at text x y = absurd (no_empty_piece u.piece at u.text y.after y.is_piece (sym x ∙ y.whole))
same_tiles (t ∷ ts) [] at text x y = absurd (no_empty_piece t.piece at t.text x.after x.is_piece (sym y ∙ x.whole))
same_tiles (t ∷ ts) (u ∷ us) at text x y =
    let wholes : t.text ++ x.after ≡ u.text ++ y.after = sym x.whole ∙ y.whole in
    let same : SamePiece t.piece u.piece t.text u.text = same_piece t.piece u.piece at t.text x.after u.text y.after x.is_piece y.is_piece wholes in
    let afters : x.after ≡ y.after = (same_fronts t.text u.text x.after y.after wholes (ap length same.texts_are)).rests in
    let rest : Tiles us (at + length t.text) x.after [] = subst (λ r. Tiles us (at + length t.text) r []) (sym afters) (subst (λ w. Tiles us (at + length w) y.after []) (sym same.texts_are) y.rest) in
    let tails : ts ≡ us = same_tiles ts us (at + length t.text) x.after x.rest rest in
    let heads : t ≡ u = same_tile t u same.pieces same.texts_are in
    cc

-- and it lists one list of tokens
same_listed : (bytes : List ℕ) (piece : Piece) (at end : ℕ) (tokens others : List Token) (Rest : List Token → Type 0) → ((a b : List Token) → Rest a → Rest b → a ≡ b) → Lists bytes piece at end tokens Rest → Lists bytes piece at end others Rest → tokens ≡ others
same_listed bytes Space at end tokens others Rest one x y = one tokens others x y
same_listed bytes Comment at end tokens others Rest one x y = one tokens others x y
same_listed bytes (Tok kind) at end tokens others Rest one x y =
    let lines : x.line ≡ y.line = one_line (take end bytes) x.line y.line x.line_is y.line_is in
    let rests : x.others ≡ y.others = one x.others y.others x.rest y.rest in
    let first : tokens ≡ record { kind = kind; at = at; line = x.line } ∷ x.others = x.tokens_are in
    let second : others ≡ record { kind = kind; at = at; line = y.line } ∷ y.others = y.tokens_are in
    cc

same_tokens : (bytes : List ℕ) (tiles : List Tile) (at : ℕ) (tokens others : List Token) → AreTokens bytes tiles at tokens → AreTokens bytes tiles at others → tokens ≡ others
same_tokens bytes [] at tokens others x y = x ∙ sym y
same_tokens bytes (tile ∷ tiles) at tokens others x y =
    same_listed bytes tile.piece at (at + length tile.text) tokens others (AreTokens bytes tiles (at + length tile.text)) (same_tokens bytes tiles (at + length tile.text)) x y

pub one_list : (bytes : List ℕ) (tokens others : List Token) → Lexes bytes tokens → Lexes bytes others → tokens ≡ others
one_list bytes tokens others x y =
    let tiles : x.tiles ≡ y.tiles = same_tiles x.tiles y.tiles 0 bytes x.tiled y.tiled in
    same_tokens bytes y.tiles 0 tokens others (subst (λ t. AreTokens bytes t 0 tokens) tiles x.tokens_are) y.tokens_are
