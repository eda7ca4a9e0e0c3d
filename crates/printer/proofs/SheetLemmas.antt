-- Pieces that are put one behind another, texts, and line starts.
use Rattle.std.proofs.Common.{◌≡◌, ℕ, suc, ◌*◌, ◌<◌, ◌≤◌, nat_lt, true, List, [], ◌∷◌, ◌++◌, length, get_or, replicate, Option, Some, refl, append-nil, append_assoc, arith}
use Rattle.std.proofs.lemmas.Bool.Decides.{nat_tests}
use Rattle.std.specs.List.{list_all}
use Rattle.lister.specs.Listing.{quoted}
use Rattle.lua_tree.specs.Spelling.{Kinds}
use Rattle.lua_tree.specs.declared.token.TokenKind.{TokenKind}
use Rattle.printer.specs.declared.printing.spacing.Spacing.{Spacing}
use Rattle.printer.specs.Layout.{Piece, token, tokens, line_start}
use Rattle.printer.specs.Sheets.{Sheet, with_text, put_piece, put_pieces}

pub put_pieces_append : (a b : List Piece) (sheet : Option Sheet) → put_pieces (a ++ b) sheet ≡ put_pieces b (put_pieces a sheet)
put_pieces_append [] b sheet = refl
put_pieces_append (piece ∷ a) b sheet = put_pieces_append a b (put_piece piece sheet)

pub put_tokens_append : (a b : Kinds) (sheet : Option Sheet) → put_pieces (tokens (a ++ b)) sheet ≡ put_pieces (tokens b) (put_pieces (tokens a) sheet)
put_tokens_append [] b sheet = refl
put_tokens_append (kind ∷ a) b sheet = put_tokens_append a b (put_piece (token kind) sheet)

-- ---- texts and lines

-- what the type of a text says of its bytes, as a test
bytes_held : (text : List ℕ) → ((i : ℕ) → get_or text i 0 < 256) → list_all (λ byte. nat_lt byte 256) text ≡ true
bytes_held [] below = refl
bytes_held (byte ∷ text) below =
    let first : nat_lt byte 256 ≡ true = let h : byte < 256 = below 0 in grind (arith, nat_tests) in
    rw first (bytes_held text (λ i. let h : get_or (byte ∷ text) (suc i) 0 < 256 = below (suc i) in h))

-- a text behind the space before it
pub put_text_is : (text : List ℕ) (before : Sheet) → ((i : ℕ) → get_or text i 0 < 256) →
    Some (record { text = (with_text Spacing.Operand [] before).text ++ quoted text; last = Some Spacing.Operand }) ≡ put_piece (token (TokenKind.Text text)) (Some before)
put_text_is text before below = rw (bytes_held text below) (simp (append-nil, append_assoc))

-- a line begins where a text is not empty
pub line_start_some : (text : List ℕ) (n : ℕ) → 1 ≤ length text → line_start text n ≡ 10 ∷ replicate (2 * n) 32
line_start_some [] n some = absurd (omega (arith, some))
line_start_some (byte ∷ text) n some = refl
