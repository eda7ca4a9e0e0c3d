-- Serves the bodies. What stands in and behind the opening of a long bracket.
use Rattle.std.specs.Prelude.{◌≡◌, ◌==◌, ℕ, Bool, false, List, ◌++◌, length}
use Rattle.lua_tree.specs.Bytes.{holds}
use Rattle.lua_tree.specs.Brackets.{closing, almost_closing}

-- the byte is `=`
abbrev pub is_equals : ℕ → Bool
is_equals byte = byte == 61

-- a closing of the level stands behind so many bytes, and none ends before its end
pub record FirstClosing (level at : ℕ) (text : List ℕ) : Type 0 where
  pub inside : List ℕ
  pub after : List ℕ
  pub whole : text ≡ inside ++ (closing level ++ after)
  pub length_is : length inside ≡ at
  pub first : holds (closing level) (inside ++ almost_closing level) ≡ false
