-- A text begins with one piece at most: the first bytes say of which class it is, and within a class it is one.
use Rattle.std.proofs.Common.{◌≡◌, ◌<◌, ◌||◌, ◌&&◌, ◌⊎◌, ℕ, zero, suc, ◌≤◌, ℤ, Bool, true, false, Some, List, [], ◌∷◌, ◌++◌, length, refl, sym, ap, subst, ◌∙◌, ◌==◌, append_assoc, inl, inr, arith}
use Rattle.std.specs.Prelude.{codes, if◌then◌else◌}
use Rattle.std.proofs.lemmas.Bool.Decides.{nat_tests}
use Rattle.lua_num.specs.Numeral.{numeral_number}
use Rattle.lua_num.specs.Bytes.{is_space, is_digit, BeginsWith, BeginsWithout, IsRun}
use Rattle.lua_tree.specs.declared.token.TokenKind.{TokenKind}
use Rattle.lua_tree.specs.Bytes.{is_letter, is_numeral, has_front, is_among, longest}
use Rattle.lua_tree.specs.Brackets.{opening, closing, IsLong, LongMeans}
use Rattle.lua_tree.specs.Strings.{IsQuote, IsShort, items_text}
use Rattle.lua_tree.specs.Tokens.{IsWord, keywords, marks, IsToken, IsKeyword, IsName, IsNumber, IsString, IsMark, BeginsNumeral}
use Rattle.lua_tree.specs.Tiling.{Piece, Space, Comment, Tok, IsPiece, IsShortComment, IsLongComment, IsFirstLine}

pub data Class : Type 0 where
  White : Class
  Word : Class
  Numeral : Class
  Quoted : Class
  Bracketed : Class
  Commented : Class
  Marked : Class

abbrev pub next_is : (ℕ → Bool) → List ℕ → Bool
next_is test [] = false
next_is test (byte ∷ text) = test byte

abbrev pub opens : ℕ → Bool
opens byte = (byte == 91) || (byte == 61)

abbrev pub is_minus : ℕ → Bool
is_minus byte = byte == 45

abbrev pub class_of : ℕ → List ℕ → Class
class_of at [] = Marked
class_of at (byte ∷ text) =
    if is_space byte then White else (if is_letter byte then Word else (if is_digit byte || ((byte == 46) && next_is is_digit text) then Numeral else (if (byte == 34) || (byte == 39) then Quoted else (if (byte == 91) && next_is opens text then Bracketed else (if ((byte == 45) && next_is is_minus text) || ((byte == 35) && (at == 0)) then Commented else Marked)))))

abbrev pub is_same : List ℕ → List ℕ → Bool
is_same word text = has_front word text && (length word == length text)

pub record Entry : Type 0 where
  pub word : List ℕ
  pub kind : TokenKind

abbrev pub find : List Entry → TokenKind → List ℕ → TokenKind
find [] none text = none
find (entry ∷ entries) none text = if is_same entry.word text then entry.kind else find entries none text

abbrev pub keyword_kinds : List Entry
keyword_kinds =
    record { word = codes "and"; kind = TokenKind.And } ∷ record { word = codes "break"; kind = TokenKind.Break } ∷ record { word = codes "do"; kind = TokenKind.Do } ∷ record { word = codes "else"; kind = TokenKind.Else } ∷ record { word = codes "elseif"; kind = TokenKind.Elseif } ∷ record { word = codes "end"; kind = TokenKind.End } ∷ record { word = codes "false"; kind = TokenKind.False } ∷ record { word = codes "for"; kind = TokenKind.For } ∷ record { word = codes "function"; kind = TokenKind.Function } ∷ record { word = codes "if"; kind = TokenKind.If } ∷ record { word = codes "in"; kind = TokenKind.In } ∷ record { word = codes "local"; kind = TokenKind.Local } ∷ record { word = codes "nil"; kind = TokenKind.Nil } ∷ record { word = codes "not"; kind = TokenKind.Not } ∷ record { word = codes "or"; kind = TokenKind.Or } ∷ record { word = codes "repeat"; kind = TokenKind.Repeat } ∷ record { word = codes "return"; kind = TokenKind.Return } ∷ record { word = codes "then"; kind = TokenKind.Then } ∷ record { word = codes "true"; kind = TokenKind.True } ∷ record { word = codes "until"; kind = TokenKind.Until } ∷ record { word = codes "while"; kind = TokenKind.While } ∷ []

abbrev pub mark_kinds : List Entry
mark_kinds =
    record { word = codes "+"; kind = TokenKind.Plus } ∷ record { word = codes "-"; kind = TokenKind.Minus } ∷ record { word = codes "*"; kind = TokenKind.Star } ∷ record { word = codes "/"; kind = TokenKind.Slash } ∷ record { word = codes "%"; kind = TokenKind.Percent } ∷ record { word = codes "^"; kind = TokenKind.Caret } ∷ record { word = codes "#"; kind = TokenKind.Hash } ∷ record { word = codes "=="; kind = TokenKind.EqualEqual } ∷ record { word = codes "~="; kind = TokenKind.TildeEqual } ∷ record { word = codes "<="; kind = TokenKind.LessEqual } ∷ record { word = codes ">="; kind = TokenKind.GreaterEqual } ∷ record { word = codes "<"; kind = TokenKind.Less } ∷ record { word = codes ">"; kind = TokenKind.Greater } ∷ record { word = codes "="; kind = TokenKind.Equal } ∷ record { word = codes "("; kind = TokenKind.OpenParen } ∷ record { word = codes ")"; kind = TokenKind.CloseParen } ∷ record { word = codes "{"; kind = TokenKind.OpenBrace } ∷ record { word = codes "}"; kind = TokenKind.CloseBrace } ∷ record { word = codes "["; kind = TokenKind.OpenBracket } ∷ record { word = codes "]"; kind = TokenKind.CloseBracket } ∷ record { word = codes ";"; kind = TokenKind.Semicolon } ∷ record { word = codes ":"; kind = TokenKind.Colon } ∷ record { word = codes ","; kind = TokenKind.Comma } ∷ record { word = codes "."; kind = TokenKind.Dot } ∷ record { word = codes ".."; kind = TokenKind.DotDot } ∷ record { word = codes "..."; kind = TokenKind.DotDotDot } ∷ []

abbrev pub word_kind : List ℕ → TokenKind
word_kind text = find keyword_kinds (TokenKind.Name text) text

abbrev pub mark_kind : List ℕ → TokenKind
mark_kind text = find mark_kinds TokenKind.Dot text

-- a piece of a class
abbrev pub SeenIn : Class → Piece → ℕ → List ℕ → List ℕ → Type 0
SeenIn White piece at text after = (byte : ℕ) × (text ≡ byte ∷ []) × (piece ≡ Space)
SeenIn Word piece at text after = IsWord text after × (piece ≡ Tok (word_kind text))
SeenIn Numeral piece at text after = (n : ℤ) × IsRun is_numeral text after × (numeral_number text ≡ Some n) × (piece ≡ Tok (TokenKind.Number n))
SeenIn Quoted piece at text after = (bytes : List ℕ) × IsShort text after bytes × (piece ≡ Tok (TokenKind.Text bytes))
SeenIn Bracketed piece at text after = (bytes : List ℕ) × (level : ℕ) × (inside : List ℕ) × IsLong level inside text × LongMeans inside bytes × (piece ≡ Tok (TokenKind.Text bytes))
SeenIn Commented piece at text after = (IsShortComment text after ⊎ (IsLongComment text ⊎ IsFirstLine at text after)) × (piece ≡ Comment)
SeenIn Marked piece at text after = (0 < length text) × (longest marks (text ++ after) ≡ length text) × (piece ≡ Tok (mark_kind text))

pub record Seen (piece : Piece) (at : ℕ) (text after : List ℕ) : Type 0 where
  pub class : Class
  pub class_is : class_of at (text ++ after) ≡ class
  pub seen : SeenIn class piece at text after

-- the classes of the pieces
space_class : (at byte : ℕ) (text : List ℕ) → is_space byte ≡ true → class_of at (byte ∷ text) ≡ White
space_class at byte text h = rw h

letter_no_space : (byte : ℕ) → is_letter byte ≡ true → is_space byte ≡ false
letter_no_space byte h = grind (arith, nat_tests)

digit_no_space : (byte : ℕ) → is_digit byte ≡ true → is_space byte ≡ false
digit_no_space byte h = grind (arith, nat_tests)

digit_no_letter : (byte : ℕ) → is_digit byte ≡ true → is_letter byte ≡ false
digit_no_letter byte h = grind (arith, nat_tests)

word_class : (at : ℕ) (text after : List ℕ) → BeginsWith is_letter text → class_of at (text ++ after) ≡ Word
word_class at [] after h = absurd h
word_class at (byte ∷ text) after h = let no : is_space byte ≡ false = letter_no_space byte h in rw (no, h)

next_digit : (text : List ℕ) → BeginsWith is_digit text → next_is is_digit text ≡ true
next_digit [] h = absurd h
next_digit (byte ∷ text) h = h

digit_class : (at byte : ℕ) (text : List ℕ) → is_digit byte ≡ true → class_of at (byte ∷ text) ≡ Numeral
digit_class at byte text h =
    let no : is_space byte ≡ false = digit_no_space byte h in
    let other : is_letter byte ≡ false = digit_no_letter byte h in
    rw (no, other, h)

point_class : (at : ℕ) (text : List ℕ) → next_is is_digit text ≡ true → class_of at (46 ∷ text) ≡ Numeral
point_class at text h = rw h

pub numeral_class : (at : ℕ) (text : List ℕ) → BeginsNumeral text → class_of at text ≡ Numeral
numeral_class at [] h = absurd h
numeral_class at (byte ∷ text) (inl digit) = digit_class at byte text digit
numeral_class at (byte ∷ text) (inr point) = subst (λ b. class_of at (b ∷ text) ≡ Numeral) (sym point.0) (point_class at text (next_digit text point.1))

pub short_class : (at quote : ℕ) (text : List ℕ) → IsQuote quote → class_of at (quote ∷ text) ≡ Quoted
short_class at quote text (inl is) = subst (λ q. class_of at (q ∷ text) ≡ Quoted) (sym is) refl
short_class at quote text (inr is) = subst (λ q. class_of at (q ∷ text) ≡ Quoted) (sym is) refl

pub long_class : (at level : ℕ) (rest : List ℕ) → class_of at (opening level ++ rest) ≡ Bracketed
long_class at zero rest = refl
long_class at (suc level) rest = refl

-- words
abbrev pub words_of : List Entry → List (List ℕ)
words_of [] = []
words_of (entry ∷ entries) = entry.word ∷ words_of entries

first_false : (a b : Bool) → (a || b) ≡ false → a ≡ false
first_false true b h = h
first_false false b h = refl

second_false : (a b : Bool) → (a || b) ≡ false → b ≡ false
second_false true b h = absurd (let no : true ≡ false = h in cc)
second_false false b h = h

find_none : (entries : List Entry) (words : List (List ℕ)) (none : TokenKind) (text : List ℕ) → words_of entries ≡ words → is_among words text ≡ false → find entries none text ≡ none
find_none [] words none text e h = refl
find_none (entry ∷ entries) [] none text e h = cc
find_none (entry ∷ entries) (word ∷ words) none text e h =
    let heads : entry.word ≡ word = cc in
    let tails : words_of entries ≡ words = cc in
    let none_here : is_same word text ≡ false = first_false (is_same word text) (is_among words text) h in
    let none_there : is_among words text ≡ false = second_false (is_same word text) (is_among words text) h in
    let here : is_same entry.word text ≡ false = subst (λ w. is_same w text ≡ false) (sym heads) none_here in
    let rest : find entries none text ≡ none = find_none entries words none text tails none_there in
    rw (here, rest)

keyword_seen : (kind : TokenKind) (word text after : List ℕ) (at : ℕ) → word_kind word ≡ kind → IsKeyword word text after → Seen (Tok kind) at text after
keyword_seen kind word text after at k is = record {
  class = Word;
  class_is = word_class at text after is.is_word.begins;
  seen = (is.is_word, ap Tok (sym (ap word_kind is.text_is ∙ k)));
}

name_seen : (name text after : List ℕ) (at : ℕ) → IsName name text after → Seen (Tok (TokenKind.Name name)) at text after
name_seen name text after at is =
    let kind : word_kind name ≡ TokenKind.Name name = find_none keyword_kinds keywords (TokenKind.Name name) name refl is.no_keyword in
    record { class = Word; class_is = word_class at text after is.is_word.begins; seen = (is.is_word, ap Tok (sym (ap word_kind is.text_is ∙ kind))) }

number_seen : (n : ℤ) (text after : List ℕ) (at : ℕ) → IsNumber n text after → Seen (Tok (TokenKind.Number n)) at text after
number_seen n text after at is = record { class = Numeral; class_is = numeral_class at (text ++ after) is.begins; seen = (n, is.run, is.numeral, refl) }

string_seen : (bytes text after : List ℕ) (at : ℕ) → IsString bytes text after → Seen (Tok (TokenKind.Text bytes)) at text after
string_seen bytes text after at (inl is) = record {
  class = Quoted;
  class_is = ap (λ t. class_of at (t ++ after)) is.whole ∙ short_class at is.quote (items_text is.items (is.quote ∷ []) ++ after) is.quoted;
  seen = (bytes, is, refl);
}
string_seen bytes text after at (inr is) = record {
  class = Bracketed;
  class_is = ap (class_of at) (ap (λ t. t ++ after) is.2.whole ∙ append_assoc (opening is.0) (is.1 ++ closing is.0) after) ∙ long_class at is.0 ((is.1 ++ closing is.0) ++ after);
  seen = (bytes, is.0, is.1, is.2, is.3, refl);
}

comment_seen : (text after : List ℕ) (at : ℕ) → IsPiece Comment at text after → Seen Comment at text after
comment_seen text after at (inl is) = record { class = Commented; class_is = ap (λ t. class_of at (t ++ after)) is.whole; seen = (inl is, refl) }
comment_seen text after at (inr (inl is)) = record { class = Commented; class_is = ap (λ t. class_of at (t ++ after)) is.whole; seen = (inr (inl is), refl) }
comment_seen text after at (inr (inr is)) = record {
  class = Commented;
  class_is = ap (λ t. class_of at (t ++ after)) is.whole ∙ ap (λ n. class_of n (codes "#" ++ (is.body ++ after))) is.first;
  seen = (inr (inr is), refl);
}

-- marks
mark_seen : (kind : TokenKind) (mark text after : List ℕ) (at : ℕ) → 0 < length mark → mark_kind mark ≡ kind → class_of at (mark ++ after) ≡ Marked → IsMark mark at text after → Seen (Tok kind) at text after
mark_seen kind mark text after at some k c is = record {
  class = Marked;
  class_is = ap (λ t. class_of at (t ++ after)) is.text_is ∙ c;
  seen = (subst (λ t. 0 < length t) (sym is.text_is) some, is.longest_is ∙ ap length (sym is.text_is), ap Tok (sym (ap mark_kind is.text_is ∙ k)));
}

next_none : (test : ℕ → Bool) (text : List ℕ) → BeginsWithout test text → next_is test text ≡ false
next_none test [] h = refl
next_none test (byte ∷ text) h = h

minus_class : (at : ℕ) (after : List ℕ) → next_is is_minus after ≡ false → class_of at (45 ∷ after) ≡ Marked
minus_class at after h = rw h

bracket_class : (at : ℕ) (after : List ℕ) → next_is opens after ≡ false → class_of at (91 ∷ after) ≡ Marked
bracket_class at after h = rw h

dot_class : (at : ℕ) (after : List ℕ) → next_is is_digit after ≡ false → class_of at (46 ∷ after) ≡ Marked
dot_class at after h = rw h

not_zero : (n : ℕ) → 1 ≤ n → (n == 0) ≡ false
not_zero n h = grind (arith, nat_tests)

hash_class : (at : ℕ) (after : List ℕ) → 1 ≤ at → class_of at (35 ∷ after) ≡ Marked
hash_class at after h = let no : (at == 0) ≡ false = not_zero at h in rw no

token_seen : (kind : TokenKind) (text after : List ℕ) (at : ℕ) → IsToken kind at text after → Seen (Tok kind) at text after
token_seen TokenKind.And text after at is = keyword_seen TokenKind.And (codes "and") text after at refl is
token_seen TokenKind.Break text after at is = keyword_seen TokenKind.Break (codes "break") text after at refl is
token_seen TokenKind.Do text after at is = keyword_seen TokenKind.Do (codes "do") text after at refl is
token_seen TokenKind.Else text after at is = keyword_seen TokenKind.Else (codes "else") text after at refl is
token_seen TokenKind.Elseif text after at is = keyword_seen TokenKind.Elseif (codes "elseif") text after at refl is
token_seen TokenKind.End text after at is = keyword_seen TokenKind.End (codes "end") text after at refl is
token_seen TokenKind.False text after at is = keyword_seen TokenKind.False (codes "false") text after at refl is
token_seen TokenKind.For text after at is = keyword_seen TokenKind.For (codes "for") text after at refl is
token_seen TokenKind.Function text after at is = keyword_seen TokenKind.Function (codes "function") text after at refl is
token_seen TokenKind.If text after at is = keyword_seen TokenKind.If (codes "if") text after at refl is
token_seen TokenKind.In text after at is = keyword_seen TokenKind.In (codes "in") text after at refl is
token_seen TokenKind.Local text after at is = keyword_seen TokenKind.Local (codes "local") text after at refl is
token_seen TokenKind.Nil text after at is = keyword_seen TokenKind.Nil (codes "nil") text after at refl is
token_seen TokenKind.Not text after at is = keyword_seen TokenKind.Not (codes "not") text after at refl is
token_seen TokenKind.Or text after at is = keyword_seen TokenKind.Or (codes "or") text after at refl is
token_seen TokenKind.Repeat text after at is = keyword_seen TokenKind.Repeat (codes "repeat") text after at refl is
token_seen TokenKind.Return text after at is = keyword_seen TokenKind.Return (codes "return") text after at refl is
token_seen TokenKind.Then text after at is = keyword_seen TokenKind.Then (codes "then") text after at refl is
token_seen TokenKind.True text after at is = keyword_seen TokenKind.True (codes "true") text after at refl is
token_seen TokenKind.Until text after at is = keyword_seen TokenKind.Until (codes "until") text after at refl is
token_seen TokenKind.While text after at is = keyword_seen TokenKind.While (codes "while") text after at refl is
token_seen (TokenKind.Name name) text after at is = name_seen name text after at is
token_seen (TokenKind.Number n) text after at is = number_seen n text after at is
token_seen (TokenKind.Text bytes) text after at is = string_seen bytes text after at is
token_seen TokenKind.Plus text after at is = mark_seen TokenKind.Plus (codes "+") text after at (omega arith) refl refl is
token_seen TokenKind.Minus text after at is = mark_seen TokenKind.Minus (codes "-") text after at (omega arith) refl (minus_class at after (next_none is_minus after (is.place.minus refl))) is
token_seen TokenKind.Star text after at is = mark_seen TokenKind.Star (codes "*") text after at (omega arith) refl refl is
token_seen TokenKind.Slash text after at is = mark_seen TokenKind.Slash (codes "/") text after at (omega arith) refl refl is
token_seen TokenKind.Percent text after at is = mark_seen TokenKind.Percent (codes "%") text after at (omega arith) refl refl is
token_seen TokenKind.Caret text after at is = mark_seen TokenKind.Caret (codes "^") text after at (omega arith) refl refl is
token_seen TokenKind.Hash text after at is = mark_seen TokenKind.Hash (codes "#") text after at (omega arith) refl (hash_class at after (is.place.hash refl)) is
token_seen TokenKind.EqualEqual text after at is = mark_seen TokenKind.EqualEqual (codes "==") text after at (omega arith) refl refl is
token_seen TokenKind.TildeEqual text after at is = mark_seen TokenKind.TildeEqual (codes "~=") text after at (omega arith) refl refl is
token_seen TokenKind.LessEqual text after at is = mark_seen TokenKind.LessEqual (codes "<=") text after at (omega arith) refl refl is
token_seen TokenKind.GreaterEqual text after at is = mark_seen TokenKind.GreaterEqual (codes ">=") text after at (omega arith) refl refl is
token_seen TokenKind.Less text after at is = mark_seen TokenKind.Less (codes "<") text after at (omega arith) refl refl is
token_seen TokenKind.Greater text after at is = mark_seen TokenKind.Greater (codes ">") text after at (omega arith) refl refl is
token_seen TokenKind.Equal text after at is = mark_seen TokenKind.Equal (codes "=") text after at (omega arith) refl refl is
token_seen TokenKind.OpenParen text after at is = mark_seen TokenKind.OpenParen (codes "(") text after at (omega arith) refl refl is
token_seen TokenKind.CloseParen text after at is = mark_seen TokenKind.CloseParen (codes ")") text after at (omega arith) refl refl is
token_seen TokenKind.OpenBrace text after at is = mark_seen TokenKind.OpenBrace (codes "{") text after at (omega arith) refl refl is
token_seen TokenKind.CloseBrace text after at is = mark_seen TokenKind.CloseBrace (codes "}") text after at (omega arith) refl refl is
token_seen TokenKind.OpenBracket text after at is = mark_seen TokenKind.OpenBracket (codes "[") text after at (omega arith) refl (bracket_class at after (next_none opens after (is.place.bracket refl))) is
token_seen TokenKind.CloseBracket text after at is = mark_seen TokenKind.CloseBracket (codes "]") text after at (omega arith) refl refl is
token_seen TokenKind.Semicolon text after at is = mark_seen TokenKind.Semicolon (codes ";") text after at (omega arith) refl refl is
token_seen TokenKind.Colon text after at is = mark_seen TokenKind.Colon (codes ":") text after at (omega arith) refl refl is
token_seen TokenKind.Comma text after at is = mark_seen TokenKind.Comma (codes ",") text after at (omega arith) refl refl is
token_seen TokenKind.Dot text after at is = mark_seen TokenKind.Dot (codes ".") text after at (omega arith) refl (dot_class at after (next_none is_digit after (is.place.point refl))) is
token_seen TokenKind.DotDot text after at is = mark_seen TokenKind.DotDot (codes "..") text after at (omega arith) refl refl is
token_seen TokenKind.DotDotDot text after at is = mark_seen TokenKind.DotDotDot (codes "...") text after at (omega arith) refl refl is

pub piece_seen : (piece : Piece) (text after : List ℕ) (at : ℕ) → IsPiece piece at text after → Seen piece at text after
piece_seen Space text after at is = record { class = White; class_is = ap (λ t. class_of at (t ++ after)) is.1 ∙ space_class at is.0 after is.2; seen = (is.0, is.1, refl) }
piece_seen Comment text after at is = comment_seen text after at is
piece_seen (Tok kind) text after at is = token_seen kind text after at is
