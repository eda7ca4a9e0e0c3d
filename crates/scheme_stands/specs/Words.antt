-- Serves the laws. The code scheme as a relation: where a word stands in the code of a function, what is asked of it, and what names mean.
-- `Relation` has the whole tree.
--
-- What the indices are, here and in the files that follow:
--   f        the function in which the words stand: its code, constants, functions, number of registers and law
--   p q      the spots before and behind the part: a pc, what is known of the source ahead, and how many functions were made
--   active   the active locals before the part, whose registers are their places in this list; `after`, those behind it
--   free     F before the part, the first register that it may use; `free1`, F behind it, where that is another
--   r        the register to which a value goes;  x y t k v   registers or constants (RK) in which operands are
--   truth, label     of a jump: to the label where the value has this truth, else on to q
--   op, want         of several values: the word for a call (Call or TailCall), and how many are wanted (None: open)
-- A label is the pc to which it goes; nothing counts words or labels. At a statement F is `length active`.
use Rattle.std.specs.Prelude.{◌≡◌, ◌≤◌, ℕ, suc, Bool, true, false, ◌||◌, ◌&&◌, List, [], ◌∷◌, ◌++◌, length, drop, slice_get, get_or, map, Option, Some, None, is_some, pos, unsigned_abs, if◌then◌else◌}
use Rattle.std.specs.Str.{bytes_eq}
use Rattle.lua_num.specs.Bytes.{Text}
use Rattle.lua_tree.specs.Scoping.{Use, global_use}
use Rattle.opcode.specs.declared.op.Op.{Op}
use Rattle.opcode.specs.Word.{abc, abx, asbx}
use Rattle.opcode.specs.Reading.{instr_of}
use Rattle.opcode.specs.declared.word.Instr.{Instr}
use Rattle.rules.specs.Places.{further_from}
use Rattle.proto.specs.Chunk.{Chunk, Functions, own, functions}
use Rattle.proto.specs.Constants.{constant_number}
use Rattle.proto.specs.declared.parts.Constant.{Constant}
use Rattle.scheme.specs.Making.{Ahead, head_or, Where, in_register, in_upvalue, in_globals, where_is}
use Rattle.scheme.specs.Functions.{distance}
use Rattle.scheme.specs.declared.making.Piece.{Piece}
use Rattle.scheme.specs.declared.making.Active.{Active}

-- ==== the law

-- what names of a function mean besides its own locals: the names that are in scope around it, and those of its upvalues in order
pub record Names : Type 0 where
  pub around : List Text
  pub upvalues : List Text

-- What is asked of words besides that they stand. `None` asks nothing more: so much the scheme's definition gives by itself. `Some`
-- asks that each word is read as its instruction, that names mean what the scope finds by them, and that nothing stands that an
-- accepted source cannot have.
abbrev pub Law : Type 0
Law = Option Names

-- what is asked where the law is
abbrev pub Lawful : Law → Type 0 → Type 0
Lawful None P = Unit {0}
Lawful (Some n) P = P

-- ==== words

-- the function in which words stand
pub record Fn : Type 0 where
  pub code : List ℕ
  pub constants : List Constant
  pub functions : Functions
  -- the number of registers
  pub size : ℕ
  pub upvalue_names : List Text
  pub law : Law

abbrev pub fn : Law → Chunk → Fn
fn l c = record { code = (own c).code; constants = (own c).constants; functions = functions c; size = (own c).registers; upvalue_names = (own c).upvalue_names; law = l }

-- the same function with the law asked of it
abbrev pub asking : Names → Fn → Fn
asking n f = record f { law = Some n }

-- a place of the code, and what is known of the source from there on: what the names mean, which declarations are captured, where
-- the upvalues of functions come from
pub record Spot : Type 0 where
  pub pc : ℕ
  pub ahead : Ahead
  -- so many functions of the running one have been made before
  pub functions : ℕ

abbrev pub Stretch : Type 1
Stretch = (p q : Spot) → Type 0

-- what no accepted source has: where the law is asked it stands nowhere
abbrev pub never : Law → Stretch → Stretch
never None part p q = part p q
never (Some n) part p q = ⊥

-- the number of a piece as a word at a pc; its label is the pc to which it jumps
abbrev pub number_at : (pc : ℕ) → Piece → ℕ
number_at pc (Piece.Abc op a b c) = abc op a b c
number_at pc (Piece.Abx op a bx) = abx op a bx
number_at pc (Piece.Jump op a place) = asbx op a (distance pc place)
number_at pc (Piece.Bare n) = n

-- a jump is short enough for its field
abbrev pub Near : (pc : ℕ) → Piece → Type 0
Near pc (Piece.Abc op a b c) = Unit {0}
Near pc (Piece.Abx op a bx) = Unit {0}
Near pc (Piece.Jump op a place) = unsigned_abs (distance pc place) ≤ 131071
Near pc (Piece.Bare n) = Unit {0}

-- the instruction of a piece
abbrev pub instr_by : (pc : ℕ) → Piece → Instr
instr_by pc (Piece.Abc op a b c) = record { op = op; a = a; b = b; c = c; bx = 0; sbx = pos 0 }
instr_by pc (Piece.Abx op a bx) = record { op = op; a = a; b = 0; c = 0; bx = bx; sbx = pos 0 }
instr_by pc (Piece.Jump op a place) = record { op = op; a = a; b = 0; c = 0; bx = 0; sbx = distance pc place }
instr_by pc (Piece.Bare n) = record { op = Op.Move; a = 0; b = 0; c = 0; bx = 0; sbx = pos 0 }

-- the word of a piece is read as its instruction
abbrev pub IsRead : (pc : ℕ) → Piece → Type 0
IsRead pc w = instr_of (number_at pc w) ≡ Some (instr_by pc w)

-- a pc at which no further word stands: one that belongs to a CLOSURE or SETLIST before it
abbrev pub Plain : Fn → (pc : ℕ) → Type 0
Plain f pc = get_or (further_from f.functions 0 f.code) pc false ≡ false

pub record ReadAt (f : Fn) (pc : ℕ) (w : Piece) : Type 0 where
  pub is : IsRead pc w
  pub plain : Plain f pc

-- a bare number is no instruction
abbrev pub Reads : Fn → (pc : ℕ) → Piece → Type 0
Reads f pc (Piece.Bare n) = Unit {0}
Reads f pc w = ReadAt f pc w

-- one word stands between
pub record WordAt (f : Fn) (w : Piece) (p q : Spot) : Type 0 where
  pub has : slice_get f.code p.pc ≡ Some (number_at p.pc w)
  pub near : Near p.pc w
  pub reads : Lawful f.law (Reads f p.pc w)
  pub next : q.pc ≡ suc p.pc
  pub ahead : q.ahead ≡ p.ahead
  pub functions : q.functions ≡ p.functions

-- nothing stands between
pub record Same (p q : Spot) : Type 0 where
  pub pc : q.pc ≡ p.pc
  pub ahead : q.ahead ≡ p.ahead
  pub functions : q.functions ≡ p.functions

-- a name of the source is read, with no word
pub record Passed (p q : Spot) : Type 0 where
  pub pc : q.pc ≡ p.pc
  pub ahead : q.ahead ≡ record (p.ahead) { names = drop 1 p.ahead.names }
  pub functions : q.functions ≡ p.functions

-- one part and another behind it
pub record Seq (first second : Stretch) (p q : Spot) : Type 0 where
  pub mid : Spot
  pub first_at : first p mid
  pub second_at : second mid q

-- a word that names a constant of the function, by the first number that it has
pub record ConstantWord (f : Fn) (op : Op) (a : ℕ) (k : Constant) (p q : Spot) : Type 0 where
  pub number : ℕ
  pub is : slice_get f.constants number ≡ Some k
  pub first : constant_number k f.constants ≡ number
  pub word : WordAt f (Piece.Abx op a number) p q

-- a jump, where there is one
abbrev pub JumpOn : Fn → Bool → (label : ℕ) → Stretch
JumpOn f true label = WordAt f (Piece.Jump Op.Jmp 0 label)
JumpOn f false label = Same

-- what the next name means
abbrev pub meaning : List Active → Spot → Where
meaning active p = where_is (head_or global_use p.ahead.names) active

-- ==== what names mean

abbrev pub is_named : Text → Active → Bool
is_named text x = is_some x.local.declaration && bytes_eq text x.local.name

-- the register of the innermost local with this name; the innermost come first
abbrev pub register_in : Text → List Active → Option ℕ
register_in text [] = None
register_in text (x ∷ xs) = if is_named text x then Some (length xs) else register_in text xs

abbrev pub onto : {A : Type 0} → List A → List A → List A
onto [] ys = ys
onto (x ∷ xs) ys = onto xs (x ∷ ys)

abbrev pub own_register : Text → List Active → Option ℕ
own_register text active = register_in text (onto active [])

abbrev pub is_among : Text → List Text → Bool
is_among text [] = false
is_among text (n ∷ ns) = bytes_eq text n || is_among text ns

-- the names of locals, hidden ones not
abbrev pub names_in : List Active → List Text
names_in [] = []
names_in (x ∷ xs) = if is_some x.local.declaration then x.local.name ∷ names_in xs else names_in xs

-- what the scope finds by a name is what the name means
abbrev pub MeansBy : Names → List Active → Text → Where → Type 0
MeansBy n active text (in_register r) = own_register text active ≡ Some r
MeansBy n active text (in_upvalue slot) = (own_register text active ≡ None) × (slice_get n.upvalues slot ≡ Some text)
MeansBy n active text in_globals = (own_register text active ≡ None) × (is_among text n.around ≡ false)

abbrev pub Means : Law → List Active → Text → Where → Type 0
Means None active text w = Unit {0}
Means (Some n) active text w = MeansBy n active text w

-- what a closure captures is no global, and of the locals one that is marked as captured
abbrev pub is_marked : Active → Bool
is_marked one = one.local.captured

abbrev pub IsCaptured : Names → List Active → Text → Where → Type 0
IsCaptured n active text (in_register r) = (own_register text active ≡ Some r) × (slice_get (map is_marked active) r ≡ Some true)
IsCaptured n active text (in_upvalue slot) = MeansBy n active text (in_upvalue slot)
IsCaptured n active text in_globals = ⊥

abbrev pub CapturedBy : Names → List Active → List Text → List Use → Type 0
CapturedBy n active [] [] = Unit {0}
CapturedBy n active [] (one ∷ uses) = ⊥
CapturedBy n active (text ∷ names) [] = ⊥
CapturedBy n active (text ∷ names) (one ∷ uses) = IsCaptured n active text (where_is one active) × CapturedBy n active names uses

abbrev pub Captured : Law → List Active → List Text → List Use → Type 0
Captured None active names uses = Unit {0}
Captured (Some n) active names uses = CapturedBy n active names uses

-- in a function that is opened where these locals are active
abbrev pub law_inside : Law → List Active → List Text → Law
law_inside None active names = None
law_inside (Some n) active names = Some (record { around = names_in (onto active []) ++ n.around; upvalues = names })
