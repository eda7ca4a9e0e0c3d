-- To be believed. The bytes of a chunk (the binary chunks of Lua 5.1, as `luac` writes them): a chunk is a list of items in a layout,
-- in order, and each item has its bytes.
use Rattle.std.specs.Prelude.{◌≡◌, ◌<◌, ◌≤◌, ◌^◌, ℕ, suc, ◌==◌, ℤ, FitsSigned, Bool, true, false, List, [], ◌∷◌, ◌++◌, length, take, Option, None, Some, refl, if◌then◌else◌}
use Rattle.std.specs.List.{flat_map, AllByRecursion}
use Rattle.std.specs.Int.{Width, w32, w64, to_le_bytes, to_be_bytes, cast_unsigned}
use Rattle.lua_num.specs.Bytes.{Text}
use Rattle.proto.specs.declared.parts.Constant.{Constant}
use Rattle.proto.specs.declared.parts.LocVar.{LocVar}
use Rattle.proto.specs.Chunk.{Own, Chunk, function, Functions, no_functions, and_function, function_count}
use Rattle.chunk_io.specs.declared.layout.Layout.{Layout}

-- what stands at a place
pub data Item : Type 0 where
  -- a byte that each header has there
  sign : (byte : ℕ) → Item
  -- the byte for the order of a number's bytes, and that for how many bytes a size has
  order : (little : Bool) → Item
  width : (bytes : ℕ) → Item
  -- the flag that numbers are whole
  integral : Item
  -- a function begins, with no byte; the main function has nesting 1
  begin : (nesting : ℕ) → Item
  -- a byte of a function's shape
  shape : (byte : ℕ) → Item
  int : Layout → (n : ℕ) → Item
  instruction : Layout → (word : ℕ) → Item
  -- a constant: its tag, and what follows it
  tag : (byte : ℕ) → Item
  flag : Bool → Item
  number : Layout → (n : ℤ) → Item
  -- the size of a string that may be none, and of one that must be there
  any_size : Layout → (n : ℕ) → Item
  some_size : Layout → (n : ℕ) → Item
  text : Text → Item
  -- the 0 behind a text
  ending : Item
  -- nothing more
  end : Item

abbrev pub number_bytes : Layout → Width → ℕ → List ℕ
number_bytes l w n = if l.little then to_le_bytes w n else to_be_bytes w n

abbrev pub size_bytes : Layout → ℕ → List ℕ
size_bytes l n = if l.size == 8 then number_bytes l w64 n else number_bytes l w32 n

abbrev pub bytes_of : Item → List ℕ
bytes_of (sign byte) = byte ∷ []
bytes_of (order little) = (if little then 1 else 0) ∷ []
bytes_of (width n) = n ∷ []
bytes_of integral = 1 ∷ []
bytes_of (begin nesting) = []
bytes_of (shape byte) = byte ∷ []
bytes_of (int l n) = number_bytes l w32 n
bytes_of (instruction l word) = number_bytes l w32 word
bytes_of (tag byte) = byte ∷ []
bytes_of (flag b) = (if b then 1 else 0) ∷ []
bytes_of (number l n) = number_bytes l w64 (cast_unsigned w64 n)
bytes_of (any_size l n) = size_bytes l n
bytes_of (some_size l n) = size_bytes l n
bytes_of (text bytes) = bytes
bytes_of ending = 0 ∷ []
bytes_of end = []

-- what sizes are below
abbrev pub size_limit : Layout → ℕ
size_limit l = if l.size == 8 then 2 ^ 64 else 2 ^ 32

-- the items that a chunk may have
abbrev pub Allowed : Item → Type 0
Allowed (begin nesting) = nesting ≤ 200
Allowed (shape byte) = byte < 256
Allowed (int l n) = n < 2 ^ 31
Allowed (instruction l word) = word < 2 ^ 32
Allowed (number l n) = FitsSigned w64 n
Allowed (any_size l n) = n < size_limit l
Allowed (some_size l n) = n < size_limit l
Allowed item = Unit {0}

-- the signature `\27Lua`, version 51 hexadecimal, format 0, the order, and the sizes of an int, a size, an instruction and a number
abbrev pub header : Layout → List Item
header l = sign 27 ∷ sign 76 ∷ sign 117 ∷ sign 97 ∷ sign 81 ∷ sign 0 ∷ order l.little ∷ sign 4 ∷ width l.size ∷ sign 4 ∷ sign 8 ∷ integral ∷ []

-- a string is a size and that many bytes, the last of them 0
abbrev pub string_items : Layout → Text → List Item
string_items l bytes = some_size l (suc (length bytes)) ∷ text bytes ∷ ending ∷ []

abbrev pub source_items : Layout → Option Text → List Item
source_items l None = any_size l 0 ∷ []
source_items l (Some bytes) = any_size l (suc (length bytes)) ∷ text bytes ∷ ending ∷ []

abbrev pub constant_items : Layout → Constant → List Item
constant_items l Constant.Nil = tag 0 ∷ []
constant_items l (Constant.Bool b) = tag 1 ∷ flag b ∷ []
constant_items l (Constant.Number n) = tag 3 ∷ number l n ∷ []
constant_items l (Constant.Text bytes) = tag 4 ∷ string_items l bytes

abbrev pub local_items : Layout → LocVar → List Item
local_items l v = string_items l v.name ++ (int l v.start ∷ int l v.end ∷ [])

-- how many, and then each
abbrev pub counted : {A : Type 0} → Layout → (A → List Item) → List A → List Item
counted l items xs = int l (length xs) ∷ flat_map items xs

abbrev pub shape_items : Own → List Item
shape_items f = shape f.upvalues ∷ shape f.params ∷ shape f.flags ∷ shape f.registers ∷ []

abbrev pub front_items : Layout → Own → List Item
front_items l f = source_items l f.source ++ (int l f.line_defined ∷ int l f.last_line ∷ shape_items f)

abbrev pub debug_items : Layout → Own → List Item
debug_items l f = counted l (λ line. int l line ∷ []) f.lines ++ (counted l (local_items l) f.locals ++ counted l (string_items l) f.upvalue_names)

abbrev mutual
  pub function_items : Layout → (nesting : ℕ) → Chunk → List Item
  function_items l nesting (function f inner) =
      begin nesting ∷ (front_items l f ++ (counted l (λ word. instruction l word ∷ []) f.code ++ (counted l (constant_items l) f.constants ++ (int l (function_count inner) ∷ (each_items l (suc nesting) inner ++ debug_items l f)))))

  pub each_items : Layout → (nesting : ℕ) → Functions → List Item
  each_items l nesting no_functions = []
  each_items l nesting (and_function c rest) = function_items l nesting c ++ each_items l nesting rest

-- a chunk: the header, the main function, and nothing more
abbrev pub items : Layout → Chunk → List Item
items l c = header l ++ (function_items l 1 c ++ end ∷ [])

abbrev pub spelling : List Item → List ℕ
spelling xs = flat_map bytes_of xs

-- a chunk with a spelling in a layout: counts, lines and places are below 2^31, functions nest to 200, and strings have a size
abbrev pub Fits : Layout → Chunk → Type 0
Fits l c = AllByRecursion Allowed (items l c)

-- the one spelling of a chunk in a layout
pub record Spelled (bytes : List ℕ) (l : Layout) (c : Chunk) : Type 0 where
  pub fits : Fits l c
  pub is : bytes ≡ spelling (items l c)

-- the bytes spell the chunk in some layout, which their header names
abbrev pub IsChunkOf : List ℕ → Chunk → Type 0
IsChunkOf bytes c = (l : Layout) × Spelled bytes l c

-- the four layouts, by the order of a number's bytes and the bytes of a size; `le8` is that of this suite's own chunks
abbrev pub le4 : Layout
le4 = record { little = true; size = 4; is_size = refl }

abbrev pub le8 : Layout
le8 = record { little = true; size = 8; is_size = refl }

abbrev pub be4 : Layout
be4 = record { little = false; size = 4; is_size = refl }

abbrev pub be8 : Layout
be8 = record { little = false; size = 8; is_size = refl }

-- a file whose first byte is 1B hexadecimal, the first of each header, is a chunk; any other file is source
abbrev pub is_chunk : List ℕ → Bool
is_chunk [] = false
is_chunk (byte ∷ bytes) = byte == 27

-- bytes that begin with the header of a layout
abbrev pub HasLayout : List ℕ → Layout → Type 0
HasLayout bytes l = take 12 bytes ≡ spelling (header l)
