-- To be believed, and this suite's own. The first place at which two chunks differ beside the numbers of lines: a function stands before those in it, and in a function its parts stand
-- in this order: the shape, the words, the constants, the locals, the names of upvalues, the count of lines, the source, the count of functions.
use Rattle.std.specs.Prelude.{◌≡◌, ◌⊎◌, ℕ, zero, suc, List, [], ◌∷◌, length, take, slice_get, Option, None, Some}
use Rattle.lua_num.specs.Bytes.{Text}
use Rattle.proto.specs.Chunk.{Own, Chunk, function, Functions, and_function, own, functions, function_count, SameButLines}
use Rattle.chunk_difference.specs.declared.difference.Part.{Part}
use Rattle.chunk_difference.specs.declared.difference.Difference.{Difference}

-- the first place at which two lists differ: what stands before is equal, and what stands there is not, or one list ends there
pub record DifferFirst {A : Type 0} (had got : List A) (at : ℕ) : Type 0 where
  pub before : take at had ≡ take at got
  pub there : slice_get had at ≡ slice_get got at → ⊥

-- lists of numbers differ there, by these numbers; None is past an end
pub record NumbersDiffer (had got : List ℕ) (at : ℕ) (one other : Option ℕ) : Type 0 where
  pub first : DifferFirst had got at
  pub one_is : one ≡ slice_get had at
  pub other_is : other ≡ slice_get got at

-- lists of other things differ there, which no numbers tell
pub record EntriesDiffer {A : Type 0} (had got : List A) (at : ℕ) (one other : Option ℕ) : Type 0 where
  pub first : DifferFirst had got at
  pub one_is : one ≡ None
  pub other_is : other ≡ None

abbrev pub source_bytes : Option Text → List ℕ
source_bytes None = []
source_bytes (Some text) = text

-- one source is empty, and the other none
pub record OneIsNone (had got : Option Text) (at : ℕ) (one other : Option ℕ) : Type 0 where
  pub bytes : source_bytes had ≡ source_bytes got
  pub unlike : had ≡ got → ⊥
  pub at_is : at ≡ 0
  pub one_is : one ≡ None
  pub other_is : other ≡ None

abbrev pub SourcesDiffer : Option Text → Option Text → ℕ → Option ℕ → Option ℕ → Type 0
SourcesDiffer had got at one other = NumbersDiffer (source_bytes had) (source_bytes got) at one other ⊎ OneIsNone had got at one other

-- the four bytes of a function's shape
abbrev pub shape : Own → List ℕ
shape f = f.upvalues ∷ f.params ∷ f.flags ∷ f.registers ∷ []

abbrev pub function_counts : Chunk → List ℕ
function_counts c = function_count (functions c) ∷ []

-- a part of two functions is the same
abbrev pub SamePart : Part → Chunk → Chunk → Type 0
SamePart Part.Shape had got = shape (own had) ≡ shape (own got)
SamePart Part.Code had got = (own had).code ≡ (own got).code
SamePart Part.Constants had got = (own had).constants ≡ (own got).constants
SamePart Part.Locals had got = (own had).locals ≡ (own got).locals
SamePart Part.Names had got = (own had).upvalue_names ≡ (own got).upvalue_names
SamePart Part.LineCount had got = length (own had).lines ≡ length (own got).lines
SamePart Part.Source had got = (own had).source ≡ (own got).source
SamePart Part.Functions had got = function_counts had ≡ function_counts got

-- a part of two functions differs, first at this place
abbrev pub PartDiffers : Part → Chunk → Chunk → ℕ → Option ℕ → Option ℕ → Type 0
PartDiffers Part.Shape had got = NumbersDiffer (shape (own had)) (shape (own got))
PartDiffers Part.Code had got = NumbersDiffer (own had).code (own got).code
PartDiffers Part.Constants had got = EntriesDiffer (own had).constants (own got).constants
PartDiffers Part.Locals had got = EntriesDiffer (own had).locals (own got).locals
PartDiffers Part.Names had got = EntriesDiffer (own had).upvalue_names (own got).upvalue_names
PartDiffers Part.LineCount had got = NumbersDiffer (length (own had).lines ∷ []) (length (own got).lines ∷ [])
PartDiffers Part.Source had got = SourcesDiffer (own had).source (own got).source
PartDiffers Part.Functions had got = NumbersDiffer (function_counts had) (function_counts got)

-- the parts in order, and those before one
abbrev pub all_parts : List Part
all_parts = Part.Shape ∷ Part.Code ∷ Part.Constants ∷ Part.Locals ∷ Part.Names ∷ Part.LineCount ∷ Part.Source ∷ Part.Functions ∷ []

abbrev pub place_of : Part → ℕ
place_of Part.Shape = 0
place_of Part.Code = 1
place_of Part.Constants = 2
place_of Part.Locals = 3
place_of Part.Names = 4
place_of Part.LineCount = 5
place_of Part.Source = 6
place_of Part.Functions = 7

abbrev pub SameParts : List Part → Chunk → Chunk → Type 0
SameParts [] had got = Unit {0}
SameParts (part ∷ parts) had got = SamePart part had got × SameParts parts had got

-- two functions differ in this part, and in none before it
pub record OwnDiffers (had got : Chunk) (part : Part) (at : ℕ) (one other : Option ℕ) : Type 0 where
  pub before : SameParts (take (place_of part) all_parts) had got
  pub there : PartDiffers part had got at one other

-- The functions at the end of a path differ so; all parts of those on the way are the same, and so are the functions before them, but for lines.
abbrev mutual
  pub DifferAt : Chunk → Chunk → List ℕ → Part → ℕ → Option ℕ → Option ℕ → Type 0
  DifferAt had got [] part at one other = OwnDiffers had got part at one other
  DifferAt (function f inner) (function g others) (n ∷ path) part at one other =
      SameParts all_parts (function f inner) (function g others) × DifferAmong inner others n path part at one other

  pub DifferAmong : Functions → Functions → ℕ → List ℕ → Part → ℕ → Option ℕ → Option ℕ → Type 0
  DifferAmong (and_function had rest) (and_function got others) zero path part at one other = DifferAt had got path part at one other
  DifferAmong (and_function had rest) (and_function got others) (suc n) path part at one other = SameButLines had got × DifferAmong rest others n path part at one other
  DifferAmong inner others n path part at one other = ⊥

-- the first difference of two chunks
abbrev pub IsFirstDifference : Chunk → Chunk → Difference → Type 0
IsFirstDifference had got d = DifferAt had got d.path d.part d.at d.had d.got
