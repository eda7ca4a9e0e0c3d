-- Serves a body. What is found where two functions are compared.
use Rattle.std.specs.Prelude.{◌≡◌, ℕ, List, ◌∷◌, ◌++◌, Option, None, Some}
use Rattle.proto.specs.Chunk.{Chunk, Functions, SameButLines, each_of, no_lines}
use Rattle.chunk_difference.specs.declared.difference.Part.{Part}
use Rattle.chunk_difference.specs.declared.lists.Unlike.{Unlike}
use Rattle.chunk_difference.specs.Difference.{DifferAt, DifferAmong, OwnDiffers, SameParts, all_parts}

-- of two functions by themselves
abbrev pub IsFoundHere : Chunk → Chunk → Option (Part × Unlike) → Type 0
IsFoundHere had got None = SameParts all_parts had got
IsFoundHere had got (Some (part, unlike)) = OwnDiffers had got part unlike.at unlike.had unlike.got

-- of two functions with those in them: behind a path stands the path to what is found, or nothing
abbrev pub IsFoundBelow : Chunk → Chunk → List ℕ → List ℕ → Option (Part × Unlike) → Type 0
IsFoundBelow had got before after None = SameButLines had got × (after ≡ before)
IsFoundBelow had got before after (Some (part, unlike)) = (below : List ℕ) × (after ≡ before ++ below) × DifferAt had got below part unlike.at unlike.had unlike.got

-- of lists of functions
abbrev pub IsFoundAmong : Functions → Functions → List ℕ → List ℕ → Option (Part × Unlike) → Type 0
IsFoundAmong had got before after None = (each_of no_lines had ≡ each_of no_lines got) × (after ≡ before)
IsFoundAmong had got before after (Some (part, unlike)) = (n : ℕ) × (below : List ℕ) × (after ≡ before ++ n ∷ below) × DifferAmong had got n below part unlike.at unlike.had unlike.got
