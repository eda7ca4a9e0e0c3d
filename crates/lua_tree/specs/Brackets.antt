-- To be believed. Long brackets (manual 2.1).
use Rattle.std.specs.Prelude.{◌≡◌, ◌&&◌, ◌||◌, ℕ, Bool, false, List, [], ◌∷◌, ◌++◌, replicate, codes, ◌==◌}
use Rattle.lua_tree.specs.Bytes.{holds}
use Rattle.lua_tree.specs.Lines.{Part, IsCutOf, plain, without_first_end}

-- the opening of level k is `[`, k times `=`, `[`, and the closing `]`, k times `=`, `]`
abbrev pub opening : ℕ → List ℕ
opening level = codes "[" ++ (replicate level 61 ++ codes "[")

-- a closing without its last byte
abbrev pub almost_closing : ℕ → List ℕ
almost_closing level = codes "]" ++ replicate level 61

abbrev pub closing : ℕ → List ℕ
closing level = almost_closing level ++ codes "]"

-- `=`, any number of times, and `[`
abbrev pub ends_opening : List ℕ → Bool
ends_opening [] = false
ends_opening (byte ∷ text) = (byte == 91) || ((byte == 61) && ends_opening text)

-- a long bracket of some level opens here, closed or not
abbrev pub opens_long : List ℕ → Bool
opens_long [] = false
opens_long (byte ∷ text) = (byte == 91) && ends_opening text

-- a long bracket, whole: no closing of its level ends before its end
pub record IsLong (level : ℕ) (inside text : List ℕ) : Type 0 where
  pub whole : text ≡ opening level ++ (inside ++ closing level)
  pub first : holds (closing level) (inside ++ almost_closing level) ≡ false

-- what a long string means: its inside, without a line end right after the opening, each other line end as byte 10
pub record LongMeans (inside bytes : List ℕ) : Type 0 where
  pub parts : List Part
  pub cut : IsCutOf parts inside
  pub bytes_are : bytes ≡ plain (without_first_end parts)
