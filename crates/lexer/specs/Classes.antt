-- Serves the bodies. With what a text begins: the tests by which the code tells its pieces apart.
use Rattle.std.specs.Prelude.{◌≡◌, ◌&&◌, ◌||◌, ℕ, Bool, false, List, [], ◌∷◌, codes, ◌==◌}
use Rattle.lua_num.specs.Bytes.{is_space, is_digit}
use Rattle.lua_tree.specs.Bytes.{is_letter, has_front}
use Rattle.lexer.specs.StringParts.{is_quote}

-- the first byte passes
abbrev pub begins : (ℕ → Bool) → List ℕ → Bool
begins test [] = false
begins test (byte ∷ text) = test byte

-- a digit, or a point and a digit
abbrev pub begins_numeral : List ℕ → Bool
begins_numeral [] = false
begins_numeral (byte ∷ text) = is_digit byte || ((byte == 46) && begins is_digit text)

-- a long bracket opens here, or a bad opening stands here
abbrev pub begins_bracket : List ℕ → Bool
begins_bracket text = has_front (codes "[[") text || has_front (codes "[=") text

-- the first line of a source that begins with `#`
abbrev pub begins_first_line : ℕ → List ℕ → Bool
begins_first_line at text = (at == 0) && has_front (codes "#") text

-- no white space, word, numeral, string or comment begins here
pub record IsLeft (at : ℕ) (text : List ℕ) : Type 0 where
  pub no_space : begins is_space text ≡ false
  pub no_word : begins is_letter text ≡ false
  pub no_numeral : begins_numeral text ≡ false
  pub no_quote : begins is_quote text ≡ false
  pub no_bracket : begins_bracket text ≡ false
  pub no_comment : has_front (codes "--") text ≡ false
  pub no_first_line : begins_first_line at text ≡ false
