-- To be believed. How often the words of a chunk get and set a global (A No-Frills Introduction to Lua 5.1 VM Instructions, GETGLOBAL and
-- SETGLOBAL), and the text that tells it, which is this suite's own.
use Rattle.std.specs.Prelude.{◌≡◌, ℕ, ◌+◌, ◌≤◌, ◌↔◌, Bool, true, false, ◌&&◌, List, [], ◌∷◌, ◌++◌, Contains, slice_get, Option, None, Some, codes, if◌then◌else◌}
use Rattle.std.specs.Cmp.Lexicographic.{slice_cmp}
use Rattle.std.specs.List.{flat_map}
use Rattle.std.specs.List.Sorted.{IsStrictlySortedBy}
use Rattle.std.specs.Ordering.{nat_cmp}
use Rattle.std.specs.Str.{bytes_eq}
use Rattle.lua_num.specs.Bytes.{Text}
use Rattle.opcode.specs.declared.op.Op.{Op}
use Rattle.opcode.specs.declared.word.Instr.{Instr}
use Rattle.opcode.specs.Reading.{instr_of}
use Rattle.proto.specs.declared.parts.Constant.{Constant}
use Rattle.proto.specs.Chunk.{Chunk, function, Functions, no_functions, and_function}
use Rattle.rules.specs.Places.{further_words}
use Rattle.lister.specs.Listing.{digits, line, quoted}

-- whether an opcode gets a global
abbrev pub is_get : Op → Bool
is_get Op.GetGlobal = true
is_get _ = false

-- whether it sets one
abbrev pub is_set : Op → Bool
is_set Op.SetGlobal = true
is_set _ = false

-- whether a constant is this name
abbrev pub is_name : Text → Option Constant → Bool
is_name name (Some (Constant.Text text)) = bytes_eq name text
is_name name _ = false

-- whether an instruction has such an opcode, and this name as its constant
abbrev pub is_use : (Op → Bool) → List Constant → Text → Option Instr → Bool
is_use does constants name None = false
is_use does constants name (Some i) = does i.op && is_name name (slice_get constants i.bx)

-- how many of some words are such instructions, where it is given of each whether it is a further word, which is none
abbrev pub uses_in : (Op → Bool) → List Constant → Text → (further : List Bool) → (words : List ℕ) → ℕ
uses_in does constants name [] words = 0
uses_in does constants name (f ∷ further) [] = 0
uses_in does constants name (true ∷ further) (word ∷ words) = uses_in does constants name further words
uses_in does constants name (false ∷ further) (word ∷ words) =
    (if is_use does constants name (instr_of word) then 1 else 0) + uses_in does constants name further words

-- in a function and the functions in it
abbrev mutual
  pub uses : (Op → Bool) → Text → Chunk → ℕ
  uses does name (function f inner) = uses_in does f.constants name (further_words (function f inner)) f.code + uses_of does name inner

  pub uses_of : (Op → Bool) → Text → Functions → ℕ
  uses_of does name no_functions = 0
  uses_of does name (and_function c rest) = uses does name c + uses_of does name rest

-- how many words of a chunk get the global of a name, and how many set it
abbrev pub gets : Chunk → Text → ℕ
gets chunk name = uses is_get name chunk

abbrev pub sets : Chunk → Text → ℕ
sets chunk name = uses is_set name chunk

-- the names that at least one word gets or sets, in the order of their bytes
pub record AreUsed (chunk : Chunk) (names : List Text) : Type 0 where
  pub ordered : IsStrictlySortedBy (slice_cmp nat_cmp) names
  pub used : (name : Text) → Contains names name ↔ (1 ≤ gets chunk name + sets chunk name)

abbrev pub use_line : (name : Text) → (gets sets : ℕ) → Text
use_line name gets sets = line (quoted name ++ (codes " gets " ++ (digits gets ++ (codes " sets " ++ digits sets))))

-- a line for each of them
pub record IsUseText (chunk : Chunk) (text : Text) : Type 0 where
  pub names : List Text
  pub are_used : AreUsed chunk names
  pub lines : text ≡ flat_map (λ name. use_line name (gets chunk name) (sets chunk name)) names
