-- Which bytes begin nothing.
use Rattle.std.proofs.Common.{◌≡◌, ◌≢◌, ◌||◌, ◌&&◌, ◌⊎◌, ℕ, ◌^◌, ◌<◌, ◌≤◌, Bool, true, false, if◌then◌else◌, pos, Some, None, FitsSigned, w64, List, [], ◌∷◌, ◌++◌, length, refl, sym, ap, subst, ◌∙◌, ◌==◌, inl, inr, arith, rules}
use Rattle.std.specs.Prelude.{codes, ◌↔◌}
use Rattle.std.proofs.lemmas.Bool.Decides.{nat_tests}
use Rattle.lua_num.specs.Bytes.{is_space, is_digit, is_within, BeginsWithout}
use Rattle.lua_num.specs.Numeral.{numeral_number, digits_value, as_positive}
use Rattle.lua_num.proofs.Written.{kept_complete}
use Rattle.lua_tree.specs.declared.token.TokenKind.{TokenKind}
use Rattle.lua_tree.specs.Bytes.{is_letter, is_word, is_numeral, is_among, longest}
use Rattle.lua_tree.specs.Tokens.{keywords, marks, IsMark, IsMarkPlace}
use Rattle.lua_tree.specs.Tiling.{Piece, Space, Tok, IsPiece, BeginsNothing}
use Rattle.lua_tree.proofs.LongBrackets.{true_false}
use Rattle.lua_tree.proofs.Pieces.{Marked, class_of, SeenIn, Seen, piece_seen}

-- what a piece may begin with
abbrev pub may_begin : ℕ → Bool
may_begin byte = is_space byte || is_word byte || is_within 34 35 byte || (byte == 37) || is_within 39 47 byte || is_within 58 62 byte || (byte == 91) || is_within 93 94 byte || (byte == 123) || is_within 125 126 byte

abbrev AllBegin : List (List ℕ) → Type 0
AllBegin [] = Unit {0}
AllBegin ([] ∷ words) = ⊥
AllBegin ((byte ∷ word) ∷ words) = (may_begin byte ≡ true) × AllBegin words

differs : (a b : ℕ) → may_begin a ≡ true → may_begin b ≡ false → (a == b) ≡ false
differs a b x y = by (a == b) refl
  where
    by : (t : Bool) → (a == b) ≡ t → (a == b) ≡ false
    by false e = e
    by true e = absurd (let same : a ≡ b = grind (arith, nat_tests) in true_false (sym x ∙ (ap may_begin same ∙ y)))

none_longest : (words : List (List ℕ)) (byte : ℕ) (text : List ℕ) → AllBegin words → may_begin byte ≡ false → longest words (byte ∷ text) ≡ 0
none_longest [] byte text all h = refl
none_longest ([] ∷ words) byte text all h = absurd all
none_longest ((first ∷ word) ∷ words) byte text all h =
    let no : (first == byte) ≡ false = differs first byte all.0 h in
    let rest : longest words (byte ∷ text) ≡ 0 = none_longest words byte text all.1 h in
    rw (no, rest)

marks_begin : AllBegin marks
marks_begin = search (rules, arith)

pub no_mark : (byte : ℕ) (text : List ℕ) → may_begin byte ≡ false → longest marks (byte ∷ text) ≡ 0
no_mark byte text h = none_longest marks byte text marks_begin h

pub bad_class : (at byte : ℕ) (text : List ℕ) → may_begin byte ≡ false → class_of at (byte ∷ text) ≡ Marked
bad_class at byte text h =
    let space : is_space byte ≡ false = grind (arith, nat_tests) in
    let letter : is_letter byte ≡ false = grind (arith, nat_tests) in
    let digit : is_digit byte ≡ false = grind (arith, nat_tests) in
    let point : (byte == 46) ≡ false = grind (arith, nat_tests) in
    let double : (byte == 34) ≡ false = grind (arith, nat_tests) in
    let single : (byte == 39) ≡ false = grind (arith, nat_tests) in
    let bracket : (byte == 91) ≡ false = grind (arith, nat_tests) in
    let minus : (byte == 45) ≡ false = grind (arith, nat_tests) in
    let hash : (byte == 35) ≡ false = grind (arith, nat_tests) in
    rw (space, letter, digit, point, double, single, bracket, minus, hash)

pub tilde_longest : (text : List ℕ) → BeginsWithout (λ next. next == 61) text → longest marks (126 ∷ text) ≡ 0
tilde_longest [] h = refl
tilde_longest (next ∷ text) h = let other : (61 == next) ≡ false = grind (arith, nat_tests) in rw other

-- a byte that fails the test begins nothing
unmarked : (n size : ℕ) → n ≡ size → n ≡ 0 → 0 < size → ⊥
unmarked n size x y some = omega (arith, x, y, some)

pub passes_not : (byte : ℕ) → may_begin byte ≡ false → BeginsNothing byte
passes_not byte h piece at text after is =
    let seen : Seen piece at (byte ∷ text) after = piece_seen piece (byte ∷ text) after at is in
    let classes : seen.class ≡ Marked = sym seen.class_is ∙ bad_class at byte (text ++ after) h in
    let marked : SeenIn Marked piece at (byte ∷ text) after = subst (λ c. SeenIn c piece at (byte ∷ text) after) classes seen.seen in
    unmarked (longest marks (byte ∷ (text ++ after))) (length (byte ∷ text)) marked.1 (no_mark byte (text ++ after) h) marked.0

-- ---- and a byte that passes begins a piece

test_fails : (test : Bool) → (test ≡ true → ⊥) → test ≡ false
test_fails true h = absurd (h refl)
test_fails false h = refl

no_space : (byte : ℕ) → BeginsNothing byte → is_space byte ≡ false
no_space byte none = test_fails (is_space byte) (λ is. none Space 0 [] [] (byte, refl, is))

-- a word of one byte is no keyword
both_false : (test : Bool) → (test && false) ≡ false
both_false true = refl
both_false false = refl

no_keyword : (byte : ℕ) → is_among keywords (byte ∷ []) ≡ false
no_keyword byte = simp both_false

a_word : (byte : ℕ) → is_letter byte ≡ true → is_word byte ≡ true
a_word byte h = grind (arith, nat_tests)

no_letter : (byte : ℕ) → BeginsNothing byte → is_letter byte ≡ false
no_letter byte none =
    test_fails (is_letter byte) (λ is.
    none (Tok (TokenKind.Name (byte ∷ []))) 0 [] [] (record { text_is = refl; is_word = record { begins = is; run = record { each = (a_word byte is, tt); longest = tt } }; no_keyword = no_keyword byte }))

a_numeral : (byte : ℕ) → is_digit byte ≡ true → is_numeral byte ≡ true
a_numeral byte h = grind (arith, nat_tests)

fits_small : (value : ℕ) → value < 2 ^ 63 → FitsSigned w64 (pos value)
fits_small value h = record { sfits = h }

digit_value : (byte : ℕ) → is_digit byte ≡ true → numeral_number (byte ∷ []) ≡ Some (pos (digits_value (byte ∷ [])))
digit_value byte h =
    let high : byte ≤ 57 = grind (arith, nat_tests) in
    ap (λ test. as_positive (if test && true then Some (digits_value (byte ∷ [])) else None)) h
    ∙ kept_complete (pos (digits_value (byte ∷ []))) (fits_small (digits_value (byte ∷ [])) (omega arith))

no_digit : (byte : ℕ) → BeginsNothing byte → is_digit byte ≡ false
no_digit byte none =
    test_fails (is_digit byte) (λ is.
    none (Tok (TokenKind.Number (pos (digits_value (byte ∷ []))))) 0 [] [] (record { begins = inl is; run = record { each = (a_numeral byte is, tt); longest = tt }; numeral = digit_value byte is }))

-- the other bytes, each with a piece that begins with it
abbrev pub first_bytes : List ℕ
first_bytes = codes "\"#%'()*+,-./:;<=>[]^{}~"

abbrev pub IsNone : List ℕ → ℕ → Type 0
IsNone [] byte = Unit {0}
IsNone (other ∷ others) byte = (byte ≢ other) × IsNone others byte

record Begins (byte : ℕ) : Type 0 where
  piece : Piece
  at : ℕ
  text : List ℕ
  is_piece : IsPiece piece at (byte ∷ text) []

abbrev AllFirst : List ℕ → Type 0
AllFirst [] = Unit {0}
AllFirst (byte ∷ bytes) = Begins byte × AllFirst bytes

are_none : (bytes : List ℕ) (byte : ℕ) → AllFirst bytes → BeginsNothing byte → IsNone bytes byte
are_none [] byte all none = tt
are_none (other ∷ bytes) byte all none =
    let first = all.0 in
    (λ same. subst BeginsNothing same none first.piece first.at first.text [] first.is_piece, are_none bytes byte all.1 none)

place : (mark : List ℕ) → IsMarkPlace 1 mark []
place mark = record { minus = λ e. tt; bracket = λ e. tt; point = λ e. tt; hash = λ e. omega arith }

a_mark : (mark : List ℕ) → longest marks (mark ++ []) ≡ length mark → IsMark mark 1 mark []
a_mark mark size = record { text_is = refl; place = place mark; longest_is = size }

a_string : (quote : ℕ) → (quote ≡ 34) ⊎ (quote ≡ 39) → Begins quote
a_string quote is = record { piece = Tok (TokenKind.Text []); at = 0; text = quote ∷ []; is_piece = inl (record { quote = quote; items = []; quoted = is; whole = refl; fit = tt; bytes_are = refl }) }

all_first : AllFirst first_bytes
all_first = (
  a_string 34 (inl refl),
  (
    record { piece = Tok TokenKind.Hash; at = 1; text = []; is_piece = a_mark (codes "#") refl },
    (
      record { piece = Tok TokenKind.Percent; at = 1; text = []; is_piece = a_mark (codes "%") refl },
      (
        a_string 39 (inr refl),
        (
          record { piece = Tok TokenKind.OpenParen; at = 1; text = []; is_piece = a_mark (codes "(") refl },
          (
            record { piece = Tok TokenKind.CloseParen; at = 1; text = []; is_piece = a_mark (codes ")") refl },
            (
              record { piece = Tok TokenKind.Star; at = 1; text = []; is_piece = a_mark (codes "*") refl },
              (
                record { piece = Tok TokenKind.Plus; at = 1; text = []; is_piece = a_mark (codes "+") refl },
                (
                  record { piece = Tok TokenKind.Comma; at = 1; text = []; is_piece = a_mark (codes ",") refl },
                  (
                    record { piece = Tok TokenKind.Minus; at = 1; text = []; is_piece = a_mark (codes "-") refl },
                    (
                      record { piece = Tok TokenKind.Dot; at = 1; text = []; is_piece = a_mark (codes ".") refl },
                      (
                        record { piece = Tok TokenKind.Slash; at = 1; text = []; is_piece = a_mark (codes "/") refl },
                        (
                          record { piece = Tok TokenKind.Colon; at = 1; text = []; is_piece = a_mark (codes ":") refl },
                          (
                            record { piece = Tok TokenKind.Semicolon; at = 1; text = []; is_piece = a_mark (codes ";") refl },
                            (
                              record { piece = Tok TokenKind.Less; at = 1; text = []; is_piece = a_mark (codes "<") refl },
                              (
                                record { piece = Tok TokenKind.Equal; at = 1; text = []; is_piece = a_mark (codes "=") refl },
                                (
                                  record { piece = Tok TokenKind.Greater; at = 1; text = []; is_piece = a_mark (codes ">") refl },
                                  (
                                    record { piece = Tok TokenKind.OpenBracket; at = 1; text = []; is_piece = a_mark (codes "[") refl },
                                    (
                                      record { piece = Tok TokenKind.CloseBracket; at = 1; text = []; is_piece = a_mark (codes "]") refl },
                                      (
                                        record { piece = Tok TokenKind.Caret; at = 1; text = []; is_piece = a_mark (codes "^") refl },
                                        (
                                          record { piece = Tok TokenKind.OpenBrace; at = 1; text = []; is_piece = a_mark (codes "{") refl },
                                          (
                                            record { piece = Tok TokenKind.CloseBrace; at = 1; text = []; is_piece = a_mark (codes "}") refl },
                                            (record { piece = Tok TokenKind.TildeEqual; at = 1; text = codes "="; is_piece = a_mark (codes "~=") refl }, tt),
                                          ),
                                        ),
                                      ),
                                    ),
                                  ),
                                ),
                              ),
                            ),
                          ),
                        ),
                      ),
                    ),
                  ),
                ),
              ),
            ),
          ),
        ),
      ),
    ),
  ),
)

-- the tests of the bytes, taken together
is_not : (other byte : ℕ) → byte ≢ other → (byte == other) ≡ false
is_not other byte h = grind (arith, nat_tests)

not_within : (low high byte : ℕ) → (low ≤ byte → byte ≤ high → ⊥) → is_within low high byte ≡ false
not_within low high byte h = grind (arith, nat_tests)

no_word : (byte : ℕ) → is_letter byte ≡ false → is_digit byte ≡ false → is_word byte ≡ false
no_word byte x y = grind (arith, nat_tests)

pub none_passes : (byte : ℕ) → is_space byte ≡ false → is_letter byte ≡ false → is_digit byte ≡ false → IsNone first_bytes byte → may_begin byte ≡ false
none_passes byte space letter digit none =
    let double : byte ≢ 34 = none.0 in
    let hash : byte ≢ 35 = none.1.0 in
    let percent : byte ≢ 37 = none.1.1.0 in
    let single : byte ≢ 39 = none.1.1.1.0 in
    let open_paren : byte ≢ 40 = none.1.1.1.1.0 in
    let close_paren : byte ≢ 41 = none.1.1.1.1.1.0 in
    let star : byte ≢ 42 = none.1.1.1.1.1.1.0 in
    let plus : byte ≢ 43 = none.1.1.1.1.1.1.1.0 in
    let comma : byte ≢ 44 = none.1.1.1.1.1.1.1.1.0 in
    let minus : byte ≢ 45 = none.1.1.1.1.1.1.1.1.1.0 in
    let dot : byte ≢ 46 = none.1.1.1.1.1.1.1.1.1.1.0 in
    let slash : byte ≢ 47 = none.1.1.1.1.1.1.1.1.1.1.1.0 in
    let colon : byte ≢ 58 = none.1.1.1.1.1.1.1.1.1.1.1.1.0 in
    let semicolon : byte ≢ 59 = none.1.1.1.1.1.1.1.1.1.1.1.1.1.0 in
    let less : byte ≢ 60 = none.1.1.1.1.1.1.1.1.1.1.1.1.1.1.0 in
    let equal : byte ≢ 61 = none.1.1.1.1.1.1.1.1.1.1.1.1.1.1.1.0 in
    let greater : byte ≢ 62 = none.1.1.1.1.1.1.1.1.1.1.1.1.1.1.1.1.0 in
    let open_bracket : byte ≢ 91 = none.1.1.1.1.1.1.1.1.1.1.1.1.1.1.1.1.1.0 in
    let close_bracket : byte ≢ 93 = none.1.1.1.1.1.1.1.1.1.1.1.1.1.1.1.1.1.1.0 in
    let caret : byte ≢ 94 = none.1.1.1.1.1.1.1.1.1.1.1.1.1.1.1.1.1.1.1.0 in
    let open_brace : byte ≢ 123 = none.1.1.1.1.1.1.1.1.1.1.1.1.1.1.1.1.1.1.1.1.0 in
    let close_brace : byte ≢ 125 = none.1.1.1.1.1.1.1.1.1.1.1.1.1.1.1.1.1.1.1.1.1.0 in
    let tilde : byte ≢ 126 = none.1.1.1.1.1.1.1.1.1.1.1.1.1.1.1.1.1.1.1.1.1.1.0 in
    let word : is_word byte ≡ false = no_word byte letter digit in
    let first : is_within 34 35 byte ≡ false = not_within 34 35 byte (λ l h. omega (arith, double, hash)) in
    let second : (byte == 37) ≡ false = is_not 37 byte percent in
    let third : is_within 39 47 byte ≡ false = not_within 39 47 byte (λ l h. omega (arith, single, open_paren, close_paren, star, plus, comma, minus, dot, slash)) in
    let fourth : is_within 58 62 byte ≡ false = not_within 58 62 byte (λ l h. omega (arith, colon, semicolon, less, equal, greater)) in
    let fifth : (byte == 91) ≡ false = is_not 91 byte open_bracket in
    let sixth : is_within 93 94 byte ≡ false = not_within 93 94 byte (λ l h. omega (arith, close_bracket, caret)) in
    let seventh : (byte == 123) ≡ false = is_not 123 byte open_brace in
    let last : is_within 125 126 byte ≡ false = not_within 125 126 byte (λ l h. omega (arith, close_brace, tilde)) in
    rw (space, word, first, second, third, fourth, fifth, sixth, seventh, last)

pub nothing_passes : (byte : ℕ) → BeginsNothing byte → may_begin byte ≡ false
nothing_passes byte none = none_passes byte (no_space byte none) (no_letter byte none) (no_digit byte none) (are_none first_bytes byte all_first none)

-- a byte begins nothing exactly where it fails the test, which 126 passes
pub begins_nothing_is : (byte : ℕ) → BeginsNothing byte ↔ (may_begin byte ≡ false)
begins_nothing_is byte = (nothing_passes byte, passes_not byte)
