-- To be believed, and this suite's own. The listing of a chunk: its text, line by line.
use Rattle.std.specs.Prelude.{ℕ, suc, ◌+◌, ◌-◌, ◌/◌, ◌%◌, ◌==◌, nat_lt, nat_le, ◌||◌, ◌&&◌, Bool, true, false, pos, ◌+ℤ◌, List, [], ◌∷◌, ◌++◌, length, slice_get, Option, None, Some, codes, if◌then◌else◌}
use Rattle.std.specs.List.{flat_map}
use Rattle.lua_num.specs.Bytes.{Text}
use Rattle.lua_num.specs.Numeral.{decimal_text}
use Rattle.opcode.specs.declared.op.Op.{Op}
use Rattle.opcode.specs.declared.word.Instr.{Instr}
use Rattle.opcode.specs.Reading.{instr_of}
use Rattle.proto.specs.declared.parts.Constant.{Constant}
use Rattle.proto.specs.declared.parts.LocVar.{LocVar}
use Rattle.proto.specs.Chunk.{Own, Chunk, function, Functions, no_functions, and_function, function_count}

-- ---- texts

abbrev pub digits : ℕ → Text
digits n = decimal_text (pos n)

-- a line ends with byte 10
abbrev pub line : Text → Text
line text = text ++ 10 ∷ []

abbrev pub three_digits : ℕ → Text
three_digits byte = (48 + byte / 100) ∷ (48 + byte / 10 % 10) ∷ (48 + byte % 10) ∷ []

-- `"` and `\` behind a `\`, byte 10 as `\n`, and other bytes below 32 or above 126 as `\` and three digits
abbrev pub quoted_byte : ℕ → Text
quoted_byte byte =
    if (byte == 34) || (byte == 92) then 92 ∷ byte ∷ [] else (if byte == 10 then codes "\\n" else (if nat_lt byte 32 || nat_lt 126 byte then 92 ∷ three_digits byte else byte ∷ []))

abbrev pub quoted : Text → Text
quoted text = 34 ∷ (flat_map quoted_byte text ++ 34 ∷ [])

abbrev pub constant_text : Constant → Text
constant_text Constant.Nil = codes "nil"
constant_text (Constant.Bool true) = codes "true"
constant_text (Constant.Bool false) = codes "false"
constant_text (Constant.Number n) = decimal_text n
constant_text (Constant.Text text) = quoted text

-- ---- instructions

abbrev pub op_name : Op → Text
op_name Op.Move = codes "MOVE"
op_name Op.LoadK = codes "LOADK"
op_name Op.LoadBool = codes "LOADBOOL"
op_name Op.LoadNil = codes "LOADNIL"
op_name Op.GetUpval = codes "GETUPVAL"
op_name Op.GetGlobal = codes "GETGLOBAL"
op_name Op.GetTable = codes "GETTABLE"
op_name Op.SetGlobal = codes "SETGLOBAL"
op_name Op.SetUpval = codes "SETUPVAL"
op_name Op.SetTable = codes "SETTABLE"
op_name Op.NewTable = codes "NEWTABLE"
op_name Op.Self_ = codes "SELF"
op_name Op.Add = codes "ADD"
op_name Op.Sub = codes "SUB"
op_name Op.Mul = codes "MUL"
op_name Op.Div = codes "DIV"
op_name Op.Mod = codes "MOD"
op_name Op.Pow = codes "POW"
op_name Op.Unm = codes "UNM"
op_name Op.Not = codes "NOT"
op_name Op.Len = codes "LEN"
op_name Op.Concat = codes "CONCAT"
op_name Op.Jmp = codes "JMP"
op_name Op.Eq = codes "EQ"
op_name Op.Lt = codes "LT"
op_name Op.Le = codes "LE"
op_name Op.Test = codes "TEST"
op_name Op.TestSet = codes "TESTSET"
op_name Op.Call = codes "CALL"
op_name Op.TailCall = codes "TAILCALL"
op_name Op.Return = codes "RETURN"
op_name Op.ForLoop = codes "FORLOOP"
op_name Op.ForPrep = codes "FORPREP"
op_name Op.TForLoop = codes "TFORLOOP"
op_name Op.SetList = codes "SETLIST"
op_name Op.Close = codes "CLOSE"
op_name Op.Closure = codes "CLOSURE"
op_name Op.Vararg = codes "VARARG"

-- which fields an instruction shows beside A, and which of them are or may be constants
pub data Shape : Type 0 where
  -- Bx, the number of a constant or of a function
  shows_constant shows_function : Shape
  -- sBx, a jump
  shows_jump : Shape
  -- B and C, where 256 and more is a constant
  shows_two : (b_constant c_constant : Bool) → Shape

abbrev pub shape_of : Op → Shape
shape_of Op.LoadK = shows_constant
shape_of Op.GetGlobal = shows_constant
shape_of Op.SetGlobal = shows_constant
shape_of Op.Closure = shows_function
shape_of Op.Jmp = shows_jump
shape_of Op.ForLoop = shows_jump
shape_of Op.ForPrep = shows_jump
shape_of Op.GetTable = shows_two false true
shape_of Op.Self_ = shows_two false true
shape_of Op.SetTable = shows_two true true
shape_of Op.Add = shows_two true true
shape_of Op.Sub = shows_two true true
shape_of Op.Mul = shows_two true true
shape_of Op.Div = shows_two true true
shape_of Op.Mod = shows_two true true
shape_of Op.Pow = shows_two true true
shape_of Op.Eq = shows_two true true
shape_of Op.Lt = shows_two true true
shape_of Op.Le = shows_two true true
shape_of _ = shows_two false false

abbrev pub is_constant : (may_be : Bool) → (field : ℕ) → Bool
is_constant may_be field = may_be && nat_le 256 field

-- a field, with a space before it
abbrev pub field_text : (may_be : Bool) → (field : ℕ) → Text
field_text may_be field = if is_constant may_be field then codes " k" ++ digits (field - 256) else 32 ∷ digits field

abbrev pub fields_text : Shape → Instr → Text
fields_text shows_constant i = codes " k" ++ digits i.bx
fields_text shows_function i = codes " f" ++ digits i.bx
fields_text shows_jump i = 32 ∷ decimal_text i.sbx
fields_text (shows_two b c) i = field_text b i.b ++ field_text c i.c

-- the numbers of the constants that an instruction shows
abbrev pub field_constant : (may_be : Bool) → (field : ℕ) → List ℕ
field_constant may_be field = if is_constant may_be field then (field - 256) ∷ [] else []

abbrev pub constants_shown : Shape → Instr → List ℕ
constants_shown shows_constant i = i.bx ∷ []
constants_shown (shows_two b c) i = field_constant b i.b ++ field_constant c i.c
constants_shown _ i = []

abbrev pub constant_or : Option Constant → Text
constant_or (Some c) = constant_text c
constant_or None = codes "?"

abbrev pub constants_comment : List Constant → List ℕ → Text
constants_comment constants [] = []
constants_comment constants (n ∷ ns) = codes " ;" ++ flat_map (λ k. 32 ∷ constant_or (slice_get constants k)) (n ∷ ns)

-- the constants, or where a jump goes: to the pc after the word plus sBx
abbrev pub comment : List Constant → (pc : ℕ) → Shape → Instr → Text
comment constants pc shows_jump i = codes " ; to " ++ decimal_text (pos (suc pc) +ℤ i.sbx)
comment constants pc shape i = constants_comment constants (constants_shown shape i)

abbrev pub instruction_text : List Constant → (pc : ℕ) → Instr → Text
instruction_text constants pc i = op_name i.op ++ (32 ∷ digits i.a) ++ (fields_text (shape_of i.op) i ++ comment constants pc (shape_of i.op) i)

abbrev pub word_text : List Constant → (pc word : ℕ) → Option Instr → Text
word_text constants pc word None = codes "WORD " ++ digits word
word_text constants pc word (Some i) = instruction_text constants pc i

-- what a word is shown as: a raw block number as no instruction
abbrev pub shown : (raw : Bool) → ℕ → Option Instr
shown true word = None
shown false word = instr_of word

-- the word behind a SETLIST with C = 0 is a raw block number
abbrev pub is_block_next : Option Instr → Bool
is_block_next None = false
is_block_next (Some i) = elim i.op [ Op.SetList ↦ i.c == 0 | _ ↦ false ]

abbrev pub line_number : Option ℕ → Text
line_number None = codes "-"
line_number (Some n) = digits n

abbrev pub code_line : Own → (raw : Bool) → (pc word : ℕ) → Text
code_line f raw pc word =
    line (digits pc ++ (codes " [" ++ (line_number (slice_get f.lines pc) ++ (codes "] " ++ word_text f.constants pc word (shown raw word)))))

abbrev pub code_lines : Own → (raw : Bool) → (pc : ℕ) → List ℕ → Text
code_lines f raw pc [] = []
code_lines f raw pc (word ∷ words) = code_line f raw pc word ++ code_lines f (is_block_next (shown raw word)) (suc pc) words

-- ---- functions

-- a line for each, with its number in front
abbrev pub numbered : {A : Type 0} → (A → Text) → (first : ℕ) → List A → Text
numbered text n [] = []
numbered text n (x ∷ xs) = line (digits n ++ (32 ∷ text x)) ++ numbered text (suc n) xs

abbrev pub spaced : List ℕ → Text
spaced numbers = flat_map (λ n. 32 ∷ digits n) numbers

abbrev pub source_text : Option Text → Text
source_text None = codes "none"
source_text (Some text) = quoted text

abbrev pub local_text : LocVar → Text
local_text v = quoted v.name ++ spaced (v.start ∷ v.end ∷ [])

abbrev pub counted_line : Text → ℕ → Text
counted_line what n = line (what ++ (32 ∷ digits n))

abbrev pub own_listing : (name : Text) → Own → (functions : ℕ) → Text
own_listing name f functions =
    line (codes "function " ++ name)
    ++ (line (codes "source " ++ source_text f.source)
    ++ (line (codes "defined" ++ spaced (f.line_defined ∷ f.last_line ∷ []))
    ++ (line (codes "shape" ++ spaced (f.upvalues ∷ f.params ∷ f.flags ∷ f.registers ∷ []))
    ++ (counted_line (codes "code") (length f.code)
    ++ (code_lines f false 0 f.code
    ++ (counted_line (codes "constants") (length f.constants)
    ++ (numbered constant_text 0 f.constants
    ++ (counted_line (codes "functions") functions
    ++ (line (codes "lines " ++ (digits (length f.lines) ++ (58 ∷ spaced f.lines)))
    ++ (counted_line (codes "locals") (length f.locals)
    ++ (numbered local_text 0 f.locals
    ++ (counted_line (codes "names") (length f.upvalue_names)
    ++ numbered quoted 0 f.upvalue_names))))))))))))

-- A function and then the functions in it. The names of those are their numbers behind the function's name and a point, in the
-- main function their numbers.
abbrev mutual
  pub function_listing : (name before : Text) → Chunk → Text
  function_listing name before (function f inner) = own_listing name f (function_count inner) ++ inner_listing before 0 inner

  pub inner_listing : (before : Text) → (number : ℕ) → Functions → Text
  inner_listing before n no_functions = []
  inner_listing before n (and_function c rest) =
      function_listing (before ++ digits n) ((before ++ digits n) ++ 46 ∷ []) c ++ inner_listing before (suc n) rest

abbrev pub listing : Chunk → Text
listing c = function_listing (codes "main") [] c
