-- To be believed. Line ends (manual 2.1): byte 10, byte 13, and the pairs of the two, which end one line.
use Rattle.std.specs.Prelude.{◌≡◌, ℕ, ◌+◌, ◌<◌, ◌&&◌, not, false, List, [], ◌∷◌, ◌++◌, length, min, ◌==◌, if◌then◌else◌}
use Rattle.lua_tree.specs.Bytes.{ends_line}

-- how many bytes the line end at the front of a text takes
abbrev pub line_end : List ℕ → ℕ
line_end [] = 0
line_end (a ∷ []) = if ends_line a then 1 else 0
line_end (a ∷ b ∷ text) = if ends_line a then (if ends_line b && not (a == b) then 2 else 1) else 0

-- a part of a text: a line end of one or two bytes, or another byte
pub data Part : Type 0 where
  End : List ℕ → Part
  Other : ℕ → Part

abbrev pub text_of : List Part → List ℕ
text_of [] = []
text_of (End bytes ∷ parts) = bytes ++ text_of parts
text_of (Other byte ∷ parts) = byte ∷ text_of parts

-- the parts are cut from the left, each line end as long as it may be
abbrev pub IsCut : List Part → Type 0
IsCut [] = Unit {0}
IsCut (End bytes ∷ parts) = (0 < length bytes) × (length bytes ≡ line_end (bytes ++ text_of parts)) × IsCut parts
IsCut (Other byte ∷ parts) = (ends_line byte ≡ false) × IsCut parts

pub record IsCutOf (parts : List Part) (text : List ℕ) : Type 0 where
  pub cut : IsCut parts
  pub whole : text ≡ text_of parts

abbrev pub end_count : List Part → ℕ
end_count [] = 0
end_count (End bytes ∷ parts) = end_count parts + 1
end_count (Other byte ∷ parts) = end_count parts

-- the text with each line end as byte 10
abbrev pub plain : List Part → List ℕ
plain [] = []
plain (End bytes ∷ parts) = 10 ∷ plain parts
plain (Other byte ∷ parts) = byte ∷ plain parts

-- without a line end right at the front
abbrev pub without_first_end : List Part → List Part
without_first_end [] = []
without_first_end (End bytes ∷ parts) = parts
without_first_end (Other byte ∷ parts) = Other byte ∷ parts

-- the line on which a text ends, counted from 1 and at most 2,147,483,647
pub record IsLineOf (text : List ℕ) (line : ℕ) : Type 0 where
  pub parts : List Part
  pub cut : IsCutOf parts text
  pub line_is : line ≡ min (end_count parts + 1) 2147483647
