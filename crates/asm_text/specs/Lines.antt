-- To be believed, and this suite's own. A listing read from its front, line by line: what stands at each place of a chunk's listing, and which text may stand there.
use Rattle.std.specs.Prelude.{◌≡◌, ◌≢◌, ◌<◌, ◌≤◌, ◌^◌, ℕ, suc, FitsSigned, Bool, true, false, List, [], ◌∷◌, ◌++◌, length, Option, None, Some, codes}
use Rattle.std.specs.List.{flat_map, AllByRecursion}
use Rattle.std.specs.Int.{w64}
use Rattle.lua_num.specs.Bytes.{Text}
use Rattle.opcode.specs.declared.word.Instr.{Instr}
use Rattle.proto.specs.declared.parts.Constant.{Constant}
use Rattle.proto.specs.declared.parts.LocVar.{LocVar}
use Rattle.proto.specs.Chunk.{Own, Chunk, function, Functions, no_functions, and_function, function_count}
use Rattle.lister.specs.Listing.{digits, line, quoted, constant_text, source_text, local_text, spaced, shown, is_block_next, Shape, shows_jump, shape_of, op_name, fields_text, constants_shown}

-- what a line of code has behind its brackets, without the comment
abbrev pub bare_text : (word : ℕ) → Option Instr → Text
bare_text w None = codes "WORD " ++ digits w
bare_text w (Some i) = op_name i.op ++ ((32 ∷ digits i.a) ++ fields_text (shape_of i.op) i)

abbrev pub is_some_list : List ℕ → Bool
is_some_list [] = false
is_some_list (n ∷ ns) = true

-- whether it has a comment: a jump has, and what names a constant
abbrev pub names_something : Shape → Instr → Bool
names_something shows_jump i = true
names_something s i = is_some_list (constants_shown s i)

abbrev pub has_comment : Option Instr → Bool
has_comment None = false
has_comment (Some i) = names_something (shape_of i.op) i

-- what stands at a place of a listing
pub data Place : Type 0 where
  -- a function begins, with no line of its own; the main function has nesting 1
  begin : (nesting : ℕ) → Place
  name : Place
  source : Option Text → Place
  -- `defined` and `shape` with their numbers
  defined : (first last : ℕ) → Place
  shape : (upvalues params flags registers : ℕ) → Place
  -- how many lines follow, or functions
  count : (what : Text) → ℕ → Place
  -- a word of the code, which is a raw block number where the word before asks for one
  word : (raw : Bool) → (pc : ℕ) → (word : ℕ) → Place
  constant : (number : ℕ) → Constant → Place
  -- the lines of the words, all in one line
  lines : List ℕ → Place
  local : (number : ℕ) → LocVar → Place
  upvalue_name : (number : ℕ) → Text → Place
  -- nothing more
  end : Place

-- ---- the places of a chunk's listing, in order

abbrev pub words_from : (raw : Bool) → (pc : ℕ) → List ℕ → List Place
words_from raw pc [] = []
words_from raw pc (w ∷ ws) = word raw pc w ∷ words_from (is_block_next (shown raw w)) (suc pc) ws

abbrev pub constants_from : ℕ → List Constant → List Place
constants_from n [] = []
constants_from n (c ∷ cs) = constant n c ∷ constants_from (suc n) cs

abbrev pub locals_from : ℕ → List LocVar → List Place
locals_from n [] = []
locals_from n (v ∷ vs) = local n v ∷ locals_from (suc n) vs

abbrev pub names_from : ℕ → List Text → List Place
names_from n [] = []
names_from n (t ∷ ts) = upvalue_name n t ∷ names_from (suc n) ts

abbrev pub own_places : Own → (functions : ℕ) → List Place
own_places f functions =
    name ∷ source f.source ∷ defined f.line_defined f.last_line ∷ shape f.upvalues f.params f.flags f.registers
    ∷ count (codes "code") (length f.code) ∷ (words_from false 0 f.code
    ++ (count (codes "constants") (length f.constants) ∷ (constants_from 0 f.constants
    ++ (count (codes "functions") functions ∷ lines f.lines
    ∷ count (codes "locals") (length f.locals) ∷ (locals_from 0 f.locals
    ++ (count (codes "names") (length f.upvalue_names) ∷ names_from 0 f.upvalue_names))))))

abbrev mutual
  pub function_places : (nesting : ℕ) → Chunk → List Place
  function_places nesting (function f inner) = begin nesting ∷ (own_places f (function_count inner) ++ each_places (suc nesting) inner)

  pub each_places : (nesting : ℕ) → Functions → List Place
  each_places nesting no_functions = []
  each_places nesting (and_function c rest) = function_places nesting c ++ each_places nesting rest

-- all lines of a listing
abbrev pub listed : Chunk → List Place
listed c = function_places 1 c

abbrev pub places : Chunk → List Place
places c = listed c ++ end ∷ []

-- ---- which line may stand at a place

-- one or more bytes, and no space among them
abbrev pub IsWord : Text → Type 0
IsWord text = (text ≢ []) × AllByRecursion (λ byte. byte ≢ 32) text

-- behind the pc and the brackets, and with a comment where one is due
abbrev pub ShowsWord : (pc : ℕ) → (bare : Text) → (commented : Bool) → Text → Type 0
ShowsWord pc bare false text = (bracket : Text) × AllByRecursion (λ byte. byte ≢ 93) bracket × (text ≡ digits pc ++ (codes " [" ++ (bracket ++ (codes "] " ++ bare))))
ShowsWord pc bare true text = (bracket : Text) × AllByRecursion (λ byte. byte ≢ 93) bracket × ((comment : Text) × (text ≡ digits pc ++ (codes " [" ++ (bracket ++ (codes "] " ++ (bare ++ (codes " ; " ++ comment)))))))

-- A line shows what stands at a place. The brackets of a line of code may hold any bytes but `]`, and its comment any bytes: what they must hold, the whole listing tells.
-- Behind `function` any word may stand.
abbrev pub Shows : Place → Text → Type 0
Shows (begin nesting) text = ⊥
Shows name text = (w : Text) × IsWord w × (text ≡ codes "function " ++ w)
Shows (source s) text = text ≡ codes "source " ++ source_text s
Shows (defined first last) text = text ≡ codes "defined" ++ spaced (first ∷ last ∷ [])
Shows (shape upvalues params flags registers) text = text ≡ codes "shape" ++ spaced (upvalues ∷ params ∷ flags ∷ registers ∷ [])
Shows (count what n) text = text ≡ what ++ (32 ∷ digits n)
Shows (word raw pc w) text = ShowsWord pc (bare_text w (shown raw w)) (has_comment (shown raw w)) text
Shows (constant n c) text = text ≡ digits n ++ (32 ∷ constant_text c)
Shows (lines ls) text = text ≡ codes "lines " ++ (digits (length ls) ++ (58 ∷ spaced ls))
Shows (local n v) text = text ≡ digits n ++ (32 ∷ local_text v)
Shows (upvalue_name n t) text = text ≡ digits n ++ (32 ∷ quoted t)
Shows end text = ⊥

-- the bytes of a text
abbrev pub AreBytes : Text → Type 0
AreBytes text = AllByRecursion (λ byte. byte < 256) text

-- numbers fit their fields, counts, lines and the pcs of locals are below 2^31, and texts have bytes
abbrev pub Allowed : Place → Type 0
Allowed (begin nesting) = nesting ≤ 200
Allowed (source (Some t)) = AreBytes t
Allowed (defined first last) = (first < 2 ^ 31) × (last < 2 ^ 31)
Allowed (shape upvalues params flags registers) = (upvalues < 256) × (params < 256) × (flags < 256) × (registers < 256)
Allowed (count what n) = n < 2 ^ 31
Allowed (word raw pc w) = w < 2 ^ 32
Allowed (constant n (Constant.Number z)) = FitsSigned w64 z
Allowed (constant n (Constant.Text t)) = AreBytes t
Allowed (lines ls) = (length ls < 2 ^ 31) × AllByRecursion (λ l. l < 2 ^ 31) ls
Allowed (local n v) = AreBytes v.name × (v.start < 2 ^ 31) × (v.end < 2 ^ 31)
Allowed (upvalue_name n t) = AreBytes t
Allowed place = Unit {0}

-- the same place, with whatever stands there
abbrev pub IsAlike : Place → Place → Type 0
IsAlike (begin n) (begin m) = n ≡ m
IsAlike name name = Unit {0}
IsAlike (source s) (source t) = Unit {0}
IsAlike (defined a b) (defined c d) = Unit {0}
IsAlike (shape a b c d) (shape e f g h) = Unit {0}
IsAlike (count what n) (count other m) = what ≡ other
IsAlike (word raw pc w) (word other at v) = (raw ≡ other) × (pc ≡ at)
IsAlike (constant n c) (constant m d) = n ≡ m
IsAlike (lines a) (lines b) = Unit {0}
IsAlike (local n v) (local m w) = n ≡ m
IsAlike (upvalue_name n s) (upvalue_name m t) = n ≡ m
IsAlike end end = Unit {0}
IsAlike p q = ⊥

-- a line has the form of a place where it is the line of some listing there
abbrev pub HasForm : Place → Text → Type 0
HasForm due text = (p : Place) × IsAlike due p × (Allowed p × Shows p text)

-- ---- a text's lines

abbrev pub IsOneLine : Text → Type 0
IsOneLine text = AllByRecursion (λ byte. byte ≢ 10) text

abbrev pub together : List Text → Text
together texts = flat_map line texts

-- the first of some lines shows a place, and the others go on; a function's beginning has no line
abbrev pub ShowThen : Place → (List Text → Type 0) → List Text → Type 0
ShowThen (begin nesting) others texts = (nesting ≤ 200) × others texts
ShowThen p others [] = ⊥
ShowThen p others (text ∷ texts) = IsOneLine text × Allowed p × Shows p text × others texts

-- Lines show places one for one, where a function's beginning has none.
abbrev pub Show : List Place → List Text → Type 0
Show [] [] = Unit {0}
Show [] (text ∷ texts) = ⊥
Show (p ∷ ps) texts = ShowThen p (λ others. Show ps others) texts
