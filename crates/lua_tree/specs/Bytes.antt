-- To be believed. Classes of bytes of names and numerals, line ends, and words in a text (manual 2.1).
use Rattle.std.specs.Prelude.{◌&&◌, ◌||◌, ℕ, Bool, true, false, List, [], ◌∷◌, length, max, ◌==◌, if◌then◌else◌}
use Rattle.lua_num.specs.Bytes.{is_within, is_digit}

-- the bytes 10 and 13 end a line
abbrev pub ends_line : ℕ → Bool
ends_line byte = (byte == 10) || (byte == 13)

-- `A` to `Z`, `a` to `z` and `_`
abbrev pub is_letter : ℕ → Bool
is_letter byte = is_within 65 90 byte || is_within 97 122 byte || (byte == 95)

-- what a name may have after its first byte
abbrev pub is_word : ℕ → Bool
is_word byte = is_letter byte || is_digit byte

-- what a numeral is a run of: letters, digits, `_` and `.`
abbrev pub is_numeral : ℕ → Bool
is_numeral byte = is_word byte || (byte == 46)

-- the text begins with this front
abbrev pub has_front : List ℕ → List ℕ → Bool
has_front [] text = true
has_front (byte ∷ front) [] = false
has_front (byte ∷ front) (other ∷ text) = (byte == other) && has_front front text

-- the word stands somewhere in the text
abbrev pub holds : List ℕ → List ℕ → Bool
holds word [] = has_front word []
holds word (byte ∷ text) = has_front word (byte ∷ text) || holds word text

-- the length of the longest of these words with which the text begins, 0 where it begins with none
abbrev pub longest : List (List ℕ) → List ℕ → ℕ
longest [] text = 0
longest (word ∷ words) text = max (if has_front word text then length word else 0) (longest words text)

-- the text is one of these words
abbrev pub is_among : List (List ℕ) → List ℕ → Bool
is_among [] text = false
is_among (word ∷ words) text = (has_front word text && (length word == length text)) || is_among words text
