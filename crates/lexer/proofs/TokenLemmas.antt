-- Each piece is white space, a comment or some token.
use Rattle.std.proofs.Common.{◌≡◌, ◌&&◌, ◌||◌, ◌==◌, ℕ, Bool, true, false, Option, Some, None, List, [], ◌∷◌, length, refl, sym, ap, ◌∙◌, inl, inr, arith}
use Rattle.std.proofs.lemmas.Bool.Decides.{nat_tests}
use Rattle.lua_tree.specs.declared.token.TokenKind.{TokenKind}
use Rattle.lua_tree.specs.Bytes.{has_front, is_among}
use Rattle.lua_tree.specs.Tokens.{keywords, IsWord, IsKeyword, IsToken}
use Rattle.lexer.specs.declared.piece.PieceKind.{PieceKind}
use Rattle.lexer.specs.declared.piece.Piece.{Piece}
use Rattle.lexer.specs.Pieces.{PieceIs, PieceFront, TokenIs, TokenFront}
use Rattle.lexer.proofs.LineLemmas.{a_meaning}

-- each of these words is some token wherever it stands
abbrev AreKeywords : List (List ℕ) → Type 0
AreKeywords [] = Unit {0}
AreKeywords (word ∷ words) = ((kind : TokenKind) × ((at : ℕ) (text after : List ℕ) → IsKeyword word text after → IsToken kind at text after)) × AreKeywords words

are_keywords : AreKeywords keywords
are_keywords = ((TokenKind.And, λ at text after h. h), ((TokenKind.Break, λ at text after h. h), ((TokenKind.Do, λ at text after h. h), ((TokenKind.Else, λ at text after h. h), ((TokenKind.Elseif, λ at text after h. h), ((TokenKind.End, λ at text after h. h), ((TokenKind.False, λ at text after h. h), ((TokenKind.For, λ at text after h. h), ((TokenKind.Function, λ at text after h. h), ((TokenKind.If, λ at text after h. h), ((TokenKind.In, λ at text after h. h), ((TokenKind.Local, λ at text after h. h), ((TokenKind.Nil, λ at text after h. h), ((TokenKind.Not, λ at text after h. h), ((TokenKind.Or, λ at text after h. h), ((TokenKind.Repeat, λ at text after h. h), ((TokenKind.Return, λ at text after h. h), ((TokenKind.Then, λ at text after h. h), ((TokenKind.True, λ at text after h. h), ((TokenKind.Until, λ at text after h. h), ((TokenKind.While, λ at text after h. h), tt)))))))))))))))))))))

same_word : (word text : List ℕ) → (has_front word text && (length word == length text)) ≡ true → text ≡ word
same_word [] [] h = refl
same_word [] (byte ∷ text) h = absurd (let no : length (byte ∷ text) ≡ 0 = grind (arith, nat_tests) in omega (arith, no))
same_word (byte ∷ word) [] h = let no : false ≡ true = h in cc
same_word (byte ∷ word) (other ∷ text) h =
    let same : byte ≡ other = grind (arith, nat_tests) in
    let rest : text ≡ word = same_word word text (grind (arith, nat_tests)) in
    ap (λ t. other ∷ t) rest ∙ ap (λ b. b ∷ word) (sym same)

go_keyword : (word after : List ℕ) (at : ℕ) (first : List ℕ) (same others : Bool) → same ≡ (has_front first word && (length first == length word)) → ((kind : TokenKind) × ((at : ℕ) (text after : List ℕ) → IsKeyword first text after → IsToken kind at text after)) → (others ≡ true → (kind : TokenKind) × IsToken kind at word after) → (same || others) ≡ true → IsWord word after → (kind : TokenKind) × IsToken kind at word after
go_keyword word after at first true others e here there among is = (here.0, here.1 at word after (record { text_is = same_word first word (sym e); is_word = is }))
go_keyword word after at first false others e here there among is = there among

a_keyword : (words : List (List ℕ)) (word after : List ℕ) (at : ℕ) → AreKeywords words → is_among words word ≡ true → IsWord word after → (kind : TokenKind) × IsToken kind at word after
a_keyword [] word after at are among is = let no : false ≡ true = among in cc
a_keyword (first ∷ words) word after at are among is =
    go_keyword word after at first (has_front first word && (length first == length word)) (is_among words word) refl are.0 (λ h. a_keyword words word after at are.1 h is) among is

a_word : (word after : List ℕ) (at : ℕ) → IsWord word after → (kind : TokenKind) × IsToken kind at word after
a_word word after at is = by (is_among keywords word) refl
  where
    by : (b : Bool) → is_among keywords word ≡ b → (kind : TokenKind) × IsToken kind at word after
    by true e = a_keyword keywords word after at are_keywords e is
    by false e = (TokenKind.Name word, record { text_is = refl; is_word = is; no_keyword = e })

a_token : (kind : PieceKind) (at : ℕ) (front after : List ℕ) → PieceIs kind at front after → (token : Option TokenKind) × TokenIs token at front after
a_token PieceKind.Space at front after is = (None, inl is)
a_token PieceKind.Comment at front after is = (None, inr is)
a_token PieceKind.Word at front after is = let word = a_word front after at is in (Some word.0, word.1)
a_token (PieceKind.Number n) at front after is = (Some (TokenKind.Number n), is)
a_token PieceKind.ShortText at front after is = (Some (TokenKind.Text is.0), inl is.1)
a_token (PieceKind.LongText level) at front after is = let means = a_meaning is.0 in (Some (TokenKind.Text means.0), inr (level, is.0, is.1, means.1))
a_token (PieceKind.Mark kind) at front after is = (Some kind, is)

pub token_front : (at : ℕ) (text : List ℕ) (piece : Piece) → PieceFront at text piece → (token : Option TokenKind) × TokenFront at piece.length text token
token_front at text piece front =
    let token = a_token piece.kind at front.front front.after front.piece_is in
    (token.0, record { front = front.front; after = front.after; is_front = front.is_front; token_is = token.1 })
