-- To be believed, and this suite's own. Which text is the listing of a chunk, and why a text is none.
use Rattle.std.specs.Prelude.{◌≡◌, ◌≢◌, ◌<◌, ℕ, suc, List, [], ◌∷◌, ◌++◌, length}
use Rattle.std.specs.List.{AllByRecursion}
use Rattle.lua_num.specs.Bytes.{Text}
use Rattle.proto.specs.Chunk.{Chunk}
use Rattle.lister.specs.Listing.{line, listing}
use Rattle.chunk_io.specs.Items.{IsChunkOf}
use Rattle.asm_text.specs.declared.fault.ListFault.{ListFault}
use Rattle.asm_text.specs.declared.fault.ListFault.TheVariants.{BadLine, TooDeep, Differs, OutOfMemory}
use Rattle.asm_text.specs.Lines.{Place, begin, end, listed, places, AreBytes, HasForm, IsOneLine, together, Show}

-- What is left of a text from a line on has not what is due there. The first line that is left is none at that place, or is missing, or does not end; nothing is due behind the last place.
abbrev pub Misses : Place → (line_number : ℕ) → (left : List ℕ) → ListFault → Type 0
Misses (begin nesting) number left (TooDeep at) = (at ≡ number) × (200 < nesting)
Misses (begin nesting) number left fault = ⊥
Misses end number left (BadLine at) = (at ≡ number) × (left ≢ [])
Misses due number left (BadLine at) = (at ≡ number) × ((text rest : Text) → left ≡ line text ++ rest → IsOneLine text → HasForm due text → ⊥)
Misses due number left fault = ⊥

-- The text goes as the listing of some chunk does, up to a place whose line it has not. No limit binds that chunk behind this place.
pub record IsCutOff (text : Text) (fault : ListFault) : Type 0 where
  pub chunk : Chunk
  pub before : List Place
  pub due : Place
  pub after : List Place
  pub in_order : places chunk ≡ before ++ due ∷ after
  pub given : List Text
  pub shown : Show before given
  pub left : List ℕ
  pub here : text ≡ together given ++ left
  pub missed : Misses due (suc (length given)) left fault

-- all lines have their forms, and this is the first that differs from the listing of the chunk that they give
pub record IsDifferent (text : Text) (number : ℕ) : Type 0 where
  pub chunk : Chunk
  pub given : List Text
  pub shown : Show (listed chunk) given
  pub whole : text ≡ together given
  pub same : List Text
  pub each : AllByRecursion IsOneLine same
  pub mine : Text
  pub wanted : Text
  pub rest : List ℕ
  pub others : List ℕ
  pub here : text ≡ together same ++ (line mine ++ rest)
  pub there : listing chunk ≡ together same ++ (line wanted ++ others)
  pub one : IsOneLine mine
  pub one_wanted : IsOneLine wanted
  pub differ : mine ≢ wanted
  pub at : number ≡ suc (length same)

-- the fault of a text that is no listing; want of memory says nothing
abbrev pub IsFault : Text → ListFault → Type 0
IsFault text (Differs number) = IsDifferent text number
IsFault text fault = IsCutOff text fault

abbrev pub StopsBy : Text → ListFault → Type 0
StopsBy text OutOfMemory = Unit {0}
StopsBy text fault = IsFault text fault

-- the text is the listing of the chunk, and some bytes spell the chunk
pub record Assembles (text : Text) (c : Chunk) : Type 0 where
  pub listed_as : text ≡ listing c
  pub bytes : List ℕ
  pub are_bytes : AreBytes bytes
  pub spelled : IsChunkOf bytes c
