-- To be believed. The texts of tokens (manual 2.1). A token is judged by its text and by what follows it.
use Rattle.std.specs.Prelude.{◌≡◌, ◌⊎◌, ◌||◌, ℕ, ◌≤◌, ℤ, true, false, Some, List, [], ◌∷◌, ◌++◌, length, codes, ◌==◌}
use Rattle.lua_num.specs.Numeral.{numeral_number}
use Rattle.lua_num.specs.Bytes.{is_digit, BeginsWith, BeginsWithout, IsRun}
use Rattle.lua_tree.specs.declared.token.TokenKind.{TokenKind}
use Rattle.lua_tree.specs.Bytes.{is_letter, is_word, is_numeral, longest, is_among}
use Rattle.lua_tree.specs.Brackets.{IsLong, LongMeans}
use Rattle.lua_tree.specs.Strings.{IsShort}

-- the keywords
abbrev pub keywords : List (List ℕ)
keywords =
    codes "and" ∷ codes "break" ∷ codes "do" ∷ codes "else" ∷ codes "elseif" ∷ codes "end" ∷ codes "false" ∷ codes "for" ∷ codes "function" ∷ codes "if" ∷ codes "in" ∷ codes "local" ∷ codes "nil" ∷ codes "not" ∷ codes "or" ∷ codes "repeat" ∷ codes "return" ∷ codes "then" ∷ codes "true" ∷ codes "until" ∷ codes "while" ∷ []

-- the marks
abbrev pub marks : List (List ℕ)
marks =
    codes "+" ∷ codes "-" ∷ codes "*" ∷ codes "/" ∷ codes "%" ∷ codes "^" ∷ codes "#" ∷ codes "==" ∷ codes "~=" ∷ codes "<=" ∷ codes ">=" ∷ codes "<" ∷ codes ">" ∷ codes "=" ∷ codes "(" ∷ codes ")" ∷ codes "{" ∷ codes "}" ∷ codes "[" ∷ codes "]" ∷ codes ";" ∷ codes ":" ∷ codes "," ∷ codes "." ∷ codes ".." ∷ codes "..." ∷ []

-- a word: a longest run of letters, digits and `_` that begins with no digit
pub record IsWord (text after : List ℕ) : Type 0 where
  pub begins : BeginsWith is_letter text
  pub run : IsRun is_word text after

pub record IsKeyword (word text after : List ℕ) : Type 0 where
  pub text_is : text ≡ word
  pub is_word : IsWord text after

-- a name is a word that is no keyword
pub record IsName (name text after : List ℕ) : Type 0 where
  pub text_is : text ≡ name
  pub is_word : IsWord text after
  pub no_keyword : is_among keywords name ≡ false

-- a numeral begins with a digit, or with a point and a digit
abbrev pub BeginsNumeral : List ℕ → Type 0
BeginsNumeral [] = ⊥
BeginsNumeral (byte ∷ text) = (is_digit byte ≡ true) ⊎ ((byte ≡ 46) × BeginsWith is_digit text)

-- a good numeral: the longest run of letters, digits, `_` and `.`, which writes a number
pub record IsNumber (n : ℤ) (text after : List ℕ) : Type 0 where
  pub begins : BeginsNumeral (text ++ after)
  pub run : IsRun is_numeral text after
  pub numeral : numeral_number text ≡ Some n

-- a string: a short one, or a long one of some level
abbrev pub IsString : List ℕ → List ℕ → List ℕ → Type 0
IsString bytes text after = IsShort text after bytes ⊎ ((level : ℕ) × (inside : List ℕ) × IsLong level inside text × LongMeans inside bytes)

-- where a mark may not stand: `-` before `-`, where a comment begins; `[` before `[` or `=`, where a long bracket or a bad
-- opening stands; `.` before a digit, where a numeral begins; and `#` as the first byte of all
pub record IsMarkPlace (at : ℕ) (mark after : List ℕ) : Type 0 where
  pub minus : mark ≡ codes "-" → BeginsWithout (λ byte. byte == 45) after
  pub bracket : mark ≡ codes "[" → BeginsWithout (λ byte. (byte == 91) || (byte == 61)) after
  pub point : mark ≡ codes "." → BeginsWithout is_digit after
  pub hash : mark ≡ codes "#" → 1 ≤ at

-- a mark, the longest that begins here
pub record IsMark (mark : List ℕ) (at : ℕ) (text after : List ℕ) : Type 0 where
  pub text_is : text ≡ mark
  pub place : IsMarkPlace at mark after
  pub longest_is : longest marks (text ++ after) ≡ length mark

-- a token of this kind stands at an offset, with this text and what follows
abbrev pub IsToken : TokenKind → ℕ → List ℕ → List ℕ → Type 0
IsToken TokenKind.And at text after = IsKeyword (codes "and") text after
IsToken TokenKind.Break at text after = IsKeyword (codes "break") text after
IsToken TokenKind.Do at text after = IsKeyword (codes "do") text after
IsToken TokenKind.Else at text after = IsKeyword (codes "else") text after
IsToken TokenKind.Elseif at text after = IsKeyword (codes "elseif") text after
IsToken TokenKind.End at text after = IsKeyword (codes "end") text after
IsToken TokenKind.False at text after = IsKeyword (codes "false") text after
IsToken TokenKind.For at text after = IsKeyword (codes "for") text after
IsToken TokenKind.Function at text after = IsKeyword (codes "function") text after
IsToken TokenKind.If at text after = IsKeyword (codes "if") text after
IsToken TokenKind.In at text after = IsKeyword (codes "in") text after
IsToken TokenKind.Local at text after = IsKeyword (codes "local") text after
IsToken TokenKind.Nil at text after = IsKeyword (codes "nil") text after
IsToken TokenKind.Not at text after = IsKeyword (codes "not") text after
IsToken TokenKind.Or at text after = IsKeyword (codes "or") text after
IsToken TokenKind.Repeat at text after = IsKeyword (codes "repeat") text after
IsToken TokenKind.Return at text after = IsKeyword (codes "return") text after
IsToken TokenKind.Then at text after = IsKeyword (codes "then") text after
IsToken TokenKind.True at text after = IsKeyword (codes "true") text after
IsToken TokenKind.Until at text after = IsKeyword (codes "until") text after
IsToken TokenKind.While at text after = IsKeyword (codes "while") text after
IsToken (TokenKind.Name name) at text after = IsName name text after
IsToken (TokenKind.Number n) at text after = IsNumber n text after
IsToken (TokenKind.Text bytes) at text after = IsString bytes text after
IsToken TokenKind.Plus at text after = IsMark (codes "+") at text after
IsToken TokenKind.Minus at text after = IsMark (codes "-") at text after
IsToken TokenKind.Star at text after = IsMark (codes "*") at text after
IsToken TokenKind.Slash at text after = IsMark (codes "/") at text after
IsToken TokenKind.Percent at text after = IsMark (codes "%") at text after
IsToken TokenKind.Caret at text after = IsMark (codes "^") at text after
IsToken TokenKind.Hash at text after = IsMark (codes "#") at text after
IsToken TokenKind.EqualEqual at text after = IsMark (codes "==") at text after
IsToken TokenKind.TildeEqual at text after = IsMark (codes "~=") at text after
IsToken TokenKind.LessEqual at text after = IsMark (codes "<=") at text after
IsToken TokenKind.GreaterEqual at text after = IsMark (codes ">=") at text after
IsToken TokenKind.Less at text after = IsMark (codes "<") at text after
IsToken TokenKind.Greater at text after = IsMark (codes ">") at text after
IsToken TokenKind.Equal at text after = IsMark (codes "=") at text after
IsToken TokenKind.OpenParen at text after = IsMark (codes "(") at text after
IsToken TokenKind.CloseParen at text after = IsMark (codes ")") at text after
IsToken TokenKind.OpenBrace at text after = IsMark (codes "{") at text after
IsToken TokenKind.CloseBrace at text after = IsMark (codes "}") at text after
IsToken TokenKind.OpenBracket at text after = IsMark (codes "[") at text after
IsToken TokenKind.CloseBracket at text after = IsMark (codes "]") at text after
IsToken TokenKind.Semicolon at text after = IsMark (codes ";") at text after
IsToken TokenKind.Colon at text after = IsMark (codes ":") at text after
IsToken TokenKind.Comma at text after = IsMark (codes ",") at text after
IsToken TokenKind.Dot at text after = IsMark (codes ".") at text after
IsToken TokenKind.DotDot at text after = IsMark (codes "..") at text after
IsToken TokenKind.DotDotDot at text after = IsMark (codes "...") at text after

-- wherever the word stands whole, it is this token
abbrev pub IsWordKind : List ℕ → TokenKind → Type 0
IsWordKind word kind = (at : ℕ) (after : List ℕ) → IsWord word after → IsToken kind at word after
