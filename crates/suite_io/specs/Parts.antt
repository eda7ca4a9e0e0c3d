-- To be believed. What a sink takes of a text that is put in pieces.
use Rattle.std.specs.Prelude.{◌≡◌, ℕ, List, ◌++◌, Option}
use Rattle.suite_io.specs.Taken.{Takes}

-- one text begins with the other
abbrev pub IsFront : List ℕ → List ℕ → Type 0
IsFront whole part = (rest : List ℕ) × (part ++ rest ≡ whole)

-- where they are told, the bytes taken grow by a first part of the text
abbrev pub TakesPart : Option (List ℕ) → Option (List ℕ) → List ℕ → Type 0
TakesPart old new whole = (part : List ℕ) × IsFront whole part × Takes old new part
