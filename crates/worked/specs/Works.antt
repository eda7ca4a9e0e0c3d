-- Serves the laws. What is computed of a source: the words of its chunk, the run of that chunk, and its meaning.
use Rattle.std.specs.Prelude.{◌≡◌, ℕ, ◌-◌, List, [], ◌∷◌, ◌++◌, Option, Some, None, codes}
use Rattle.std.specs.List.{join_with_byte}
use Rattle.lua_num.specs.Bytes.{Text}
use Rattle.lua_tree.specs.Syntax.{Source}
use Rattle.proto.specs.declared.parts.Constant.{Constant}
use Rattle.proto.specs.Chunk.{Chunk, own}
use Rattle.lua_model.specs.Store.{Host, Reply, Event, printed}
use Rattle.lua_model.specs.Endings.{Ended, Going, Course}
use Rattle.source_meaning.specs.Meaning.{meaning}
use Rattle.rules.specs.Run.{ran, course}
use Rattle.scheme.specs.Scheme.{scheme}

abbrev pub chunk_of : Source → Chunk
chunk_of source = scheme source (codes "@a.lua")

-- the main function has these registers, constants and words
pub record HasCode (source : Source) (registers : ℕ) (constants : List Constant) (code : List ℕ) : Type 0 where
  pub registers_are : (own (chunk_of source)).registers ≡ registers
  pub constants_are : (own (chunk_of source)).constants ≡ constants
  pub code_is : (own (chunk_of source)).code ≡ code

-- ---- runs

-- printed lines, each of texts with a tab between each two
abbrev pub lines : List (List Text) → List Event
lines [] = []
lines (texts ∷ rest) = printed (join_with_byte 9 texts ++ 10 ∷ []) ∷ lines rest

abbrev pub prints : List (List Text) → Course
prints texts = record { ending = Ended; events = lines texts }

abbrev pub IsGoing : Option Course → Type 0
IsGoing None = ⊥
IsGoing (Some c) = c.ending ≡ Going

-- after so many steps the chunk has come to this and not before, and the source means it
pub record Works (source : Source) (hosts : List Host) (replies : List Reply) (steps : ℕ) (end : Course) : Type 0 where
  pub before : IsGoing (course (ran (chunk_of source) hosts replies (steps - 1)))
  pub runs : course (ran (chunk_of source) hosts replies steps) ≡ Some end
  pub means : meaning source hosts replies 400 ≡ end

-- after so many steps the chunk is going, and has printed these lines
abbrev pub Counts : Source → (steps : ℕ) → List (List Text) → Type 0
Counts source steps texts = course (ran (chunk_of source) [] [] steps) ≡ Some (record { ending = Going; events = lines texts })
