-- The invariant of a function that is being made. Beside the maker stands a ghost: the locals that are active at each pc, which give its
-- note, and those that must be allowed at each label. Each word is `Ok` by the notes at it and behind it.
use Rattle.std.proofs.Common.{◌≡◌, ◌≤◌, ◌<◌, ℕ, zero, suc, Bool, true, false, List, [], ◌∷◌, length, ◌+◌, ◌⊎◌, map, get_or}
use Rattle.std.specs.Prelude.{cond, Option, None, ◌==◌, ◌&&◌, Some, slice_get, pos, codes}
use Rattle.std.specs.Str.{bytes_eq}
use Rattle.lua_num.specs.Bytes.{Text}
use Rattle.opcode.specs.declared.op.Op.{Op}
use Rattle.opcode.specs.declared.op.Format.{Format}
use Rattle.opcode.specs.declared.word.Instr.{Instr}
use Rattle.opcode.specs.Word.{format_of}
use Rattle.proto.specs.Chunk.{Chunk, own}
use Rattle.proto.specs.declared.parts.Constant.{Constant}
use Rattle.rules.specs.Words.{is_test}
use Rattle.rules.specs.Notes.{writes}
use Rattle.rules.specs.Breaks.{upvalues_of, operands, names, has_order, wants, leaves}
use Rattle.rules.specs.Sound.{IsSound}
use Rattle.scheme.specs.Making.{Maker}
use Rattle.scheme.specs.declared.making.Piece.{Piece}
use Rattle.scheme.specs.declared.making.Item.{Item}
use Rattle.scheme.specs.declared.making.Local.{Local}
use Rattle.scheme.specs.declared.making.Active.{Active}
use Rattle.scheme_stands.proofs.Growth.{Kept}

-- ---- locals as a note

abbrev pub locals_of : List Active → List Local
locals_of active = map (λ one. one.local) active

-- 1, 2 and 3 for the hidden locals of a numeric loop, else 0
abbrev name_kind : Text → ℕ
name_kind name = cond (bytes_eq name (codes "(for index)")) 1 (cond (bytes_eq name (codes "(for limit)")) 2 (cond (bytes_eq name (codes "(for step)")) 3 0))

abbrev pub kind_by : Option ℕ → Text → ℕ
kind_by (Some d) name = 0
kind_by None name = name_kind name

abbrev pub local_kind : Local → ℕ
local_kind one = kind_by one.declaration one.name

abbrev pub kind_at : List Local → ℕ → ℕ
kind_at [] r = 0
kind_at (x ∷ xs) zero = local_kind x
kind_at (x ∷ xs) (suc r) = kind_at xs r

abbrev pub captured_at : List Local → ℕ → Bool
captured_at [] r = false
captured_at (x ∷ xs) zero = x.captured
captured_at (x ∷ xs) (suc r) = captured_at xs r

-- the hidden locals of a numeric loop stand from a register on
pub record IsLoop (xs : List Local) (r : ℕ) : Type 0 where
  pub index : kind_at xs r ≡ 1
  pub limit : kind_at xs (suc r) ≡ 2
  pub step : kind_at xs (suc (suc r)) ≡ 3

abbrev pub loop_at : List Local → ℕ → Bool
loop_at xs r = (kind_at xs r == 1) && ((kind_at xs (suc r) == 2) && (kind_at xs (suc (suc r)) == 3))

-- what holds with some locals holds with others
pub record Below (xs ys : List Local) : Type 0 where
  pub captured : (r : ℕ) → captured_at xs r ≡ true → captured_at ys r ≡ true
  pub loops : (r : ℕ) → IsLoop ys r → IsLoop xs r

-- so it does behind a CLOSE
pub record ClosedBelow (n : ℕ) (xs ys : List Local) : Type 0 where
  pub captured : (r : ℕ) → captured_at xs r ≡ true → r < n → captured_at ys r ≡ true
  pub loops : (r : ℕ) → IsLoop ys r → IsLoop xs r

-- and behind a FORPREP
pub record PreparedBelow (a : ℕ) (xs ys : List Local) : Type 0 where
  pub captured : (r : ℕ) → captured_at xs r ≡ true → captured_at ys r ≡ true
  pub loops : (r : ℕ) → IsLoop ys r → (r ≡ a) ⊎ (IsLoop xs r × (suc (suc r) < a))

-- ---- the ghost

pub record Ghost : Type 0 where
  -- the active locals at a pc, the open results that are left before it, and whether it is a place
  pub note : ℕ → List Local
  pub left : ℕ → Option ℕ
  pub is_place : ℕ → Bool
  -- what is asked at a label; and the labels that stand nowhere yet
  pub need : ℕ → List Local
  pub unplaced : List ℕ
  -- the registers that will be there
  pub size : ℕ
  -- whether it takes extra arguments
  pub vararg : Bool

-- ---- what a word says by itself

-- all of these numbers are below one
abbrev pub AllBelow : ℕ → List ℕ → Type 0
AllBelow s [] = Unit {0}
AllBelow s (x ∷ xs) = (x < s) × AllBelow s xs

-- an operand that is a constant, and one that is a register or a constant
pub record IsConstant (count x : ℕ) : Type 0 where
  pub number : ℕ
  pub is : x ≡ number + 256
  pub small : number ≤ 255
  pub there : number < count

abbrev pub AreOperands : (size count : ℕ) → List ℕ → Type 0
AreOperands s k [] = Unit {0}
AreOperands s k (x ∷ xs) = ((x < s) ⊎ IsConstant k x) × AreOperands s k xs

-- a constant is a text
pub record HasText (ks : List Constant) (i : ℕ) : Type 0 where
  pub text : Text
  pub is : slice_get ks i ≡ Some (Constant.Text text)

-- the constant of a word is there, and is a text where that is wanted
abbrev pub ConstantFits : List Constant → Op → ℕ → Type 0
ConstantFits ks Op.LoadK k = k < length ks
ConstantFits ks Op.GetGlobal k = HasText ks k
ConstantFits ks Op.SetGlobal k = HasText ks k
ConstantFits ks op k = Unit {0}

-- the field C is small: a constant as an operand, or at most a register; but for the hints of NEWTABLE, which no rule reads
abbrev pub SmallC : ℕ → Op → ℕ → Type 0
SmallC s Op.NewTable c = Unit {0}
SmallC s op c = (c ≤ 511) ⊎ (c ≤ suc s)

-- VARARG stands in a vararg function
abbrev pub VarargFits : Bool → Op → Type 0
VarargFits vararg Op.Vararg = vararg ≡ true
VarargFits vararg op = Unit {0}

-- a piece as an instruction, but for its jump
abbrev pub plain_instr : Piece → Instr
plain_instr (Piece.Abc op a b c) = record { op = op; a = a; b = b; c = c; bx = 0; sbx = pos 0 }
plain_instr (Piece.Abx op a bx) = record { op = op; a = a; b = 0; c = 0; bx = bx; sbx = pos 0 }
plain_instr (Piece.Jump op a label) = record { op = op; a = a; b = 0; c = 0; bx = 0; sbx = pos 0 }
plain_instr (Piece.Bare n) = record { op = Op.Jmp; a = 0; b = 0; c = 0; bx = 0; sbx = pos 0 }

-- the registers, constants and upvalues of a word are there, and it writes no number of a loop
pub record Sane (m : Maker) (g : Ghost) (xs : List Local) (i : Instr) : Type 0 where
  pub first : i.a < g.size
  pub ordered : has_order i.op i ≡ true
  pub registers : AllBelow g.size (names i.op i)
  pub fields : AreOperands g.size (length m.constants) (operands i.op i)
  pub constant : ConstantFits m.constants i.op i.bx
  pub upvalues : AllBelow (length m.upvalue_names) (upvalues_of i.op i)
  pub small : SmallC g.size i.op i.c
  pub extra : VarargFits g.vararg i.op
  pub spares : (r : ℕ) → writes i.op i r ≡ true → kind_at xs r ≡ 0

-- what a word wants is left before it
abbrev pub Meets : Option ℕ → Option ℕ → Type 0
Meets None None = Unit {0}
Meets None (Some first) = ⊥
Meets (Some start) None = ⊥
Meets (Some start) (Some first) = start ≤ first

-- ---- how the code goes on behind a word

-- an item is a further word of a CLOSURE
abbrev pub FurtherFits : Maker → Ghost → List Local → Piece → Type 0
FurtherFits m g xs (Piece.Abc Op.Move a b c) = (a ≡ 0) × (c ≡ 0) × (b < g.size) × (captured_at xs b ≡ true) × (kind_at xs b ≡ 0)
FurtherFits m g xs (Piece.Abc Op.GetUpval a b c) = (a ≡ 0) × (c ≡ 0) × (b < length m.upvalue_names)
FurtherFits m g xs piece = ⊥

-- the words that only go on to the next
abbrev pub goes_on : Op → (c : ℕ) → Bool
goes_on Op.LoadBool zero = true
goes_on Op.LoadBool (suc c) = false
goes_on Op.SetList zero = false
goes_on Op.SetList (suc c) = true
goes_on Op.Jmp c = false
goes_on Op.Eq c = false
goes_on Op.Lt c = false
goes_on Op.Le c = false
goes_on Op.Test c = false
goes_on Op.TestSet c = false
goes_on Op.TForLoop c = false
goes_on Op.ForLoop c = false
goes_on Op.ForPrep c = false
goes_on Op.Return c = false
goes_on Op.Close c = false
goes_on Op.Closure c = false
goes_on op c = true

-- what stands at a pc
pub record HasPiece (m : Maker) (i : ℕ) (piece : Piece) : Type 0 where
  pub item : Item
  pub there : slice_get m.items i ≡ Some item
  pub is : item.piece ≡ piece

-- a pc is a place before which no results are left open
pub record Clear (g : Ghost) (i : ℕ) : Type 0 where
  pub is_place : g.is_place i ≡ true
  pub left : g.left i ≡ None

-- at a pc stands a further word of a CLOSURE
pub record FurtherAt (m : Maker) (g : Ghost) (xs : List Local) (i : ℕ) : Type 0 where
  pub item : Item
  pub there : slice_get m.items i ≡ Some item
  pub fits : FurtherFits m g xs item.piece
  pub is_place : g.is_place i ≡ false

-- how the code goes on: to the next word, which may be the two of a test or of a truth, to a label, or behind words that belong to this one
pub data Flow (m : Maker) (g : Ghost) (i : ℕ) (piece : Piece) : Type 0 where
  on_to_next : goes_on (plain_instr piece).op (plain_instr piece).c ≡ true → g.is_place (suc i) ≡ true → g.left (suc i) ≡ leaves (plain_instr piece).op (plain_instr piece) → Below (g.note i) (g.note (suc i)) → Flow m g i piece
  closing : (a : ℕ) → piece ≡ Piece.Abc Op.Close a 0 0 → Clear g (suc i) → ClosedBelow a (g.note i) (g.note (suc i)) → Flow m g i piece
  ending : (a b : ℕ) → piece ≡ Piece.Abc Op.Return a b 0 → Clear g (suc i) → Flow m g i piece
  jumping : (label : ℕ) → piece ≡ Piece.Jump Op.Jmp 0 label → label < length m.labels → Clear g (suc i) → Below (g.note i) (g.need label) → Flow m g i piece
  testing : (op : Op) (a b c label : ℕ) → piece ≡ Piece.Abc op a b c → is_test op ≡ true → HasPiece m (suc i) (Piece.Jump Op.Jmp 0 label) → Clear g (suc i) → Clear g (suc (suc i)) → Below (g.note i) (g.note (suc i)) → Below (g.note i) (g.note (suc (suc i))) → Flow m g i piece
  preparing : (a label : ℕ) → piece ≡ Piece.Jump Op.ForPrep a label → label < length m.labels → Clear g (suc i) → ((r : ℕ) → a ≤ r → captured_at (g.note i) r ≡ false) → PreparedBelow a (g.note i) (g.need label) → Flow m g i piece
  looping : (a label : ℕ) → piece ≡ Piece.Jump Op.ForLoop a label → label < length m.labels → Clear g (suc i) → IsLoop (g.note i) a → Below (g.note i) (g.need label) → Below (g.note i) (g.note (suc i)) → Flow m g i piece
  skipping : (a : ℕ) → piece ≡ Piece.Abc Op.LoadBool a 0 1 → HasPiece m (suc i) (Piece.Abc Op.LoadBool a 1 0) → Clear g (suc i) → Clear g (suc (suc i)) → Below (g.note i) (g.note (suc (suc i))) → Flow m g i piece
  capturing : (a k : ℕ) (c : Chunk) → piece ≡ Piece.Abx Op.Closure a k → slice_get m.functions k ≡ Some c → ((j : ℕ) → j < (own c).upvalues → FurtherAt m g (g.note i) (suc i + j)) → suc i + (own c).upvalues ≤ length m.items → Clear g (suc i + (own c).upvalues) → Below (g.note i) (g.note (suc i + (own c).upvalues)) → Flow m g i piece
  filling : (a n block : ℕ) → piece ≡ Piece.Abc Op.SetList a n 0 → HasPiece m (suc i) (Piece.Bare (suc block)) → g.is_place (suc i) ≡ false → Clear g (suc (suc i)) → Below (g.note i) (g.note (suc (suc i))) → Flow m g i piece

-- ---- the invariant

-- a piece is written in its opcode's format
abbrev pub HasFormat : Piece → Type 0
HasFormat (Piece.Abc op a b c) = format_of op ≡ Format.Abc
HasFormat (Piece.Abx op a bx) = format_of op ≡ Format.Abx
HasFormat (Piece.Jump op a label) = format_of op ≡ Format.Asbx
HasFormat (Piece.Bare n) = ⊥

-- a word is as it should be
pub record Ok (m : Maker) (g : Ghost) (i : ℕ) (piece : Piece) : Type 0 where
  pub format : HasFormat piece
  pub sane : Sane m g (g.note i) (plain_instr piece)
  pub meets : Meets (wants (plain_instr piece).op (plain_instr piece)) (g.left i)
  pub flow : Flow m g i piece

abbrev pub IsIn : ℕ → List ℕ → Type 0
IsIn l [] = ⊥
IsIn l (x ∷ xs) = (l ≡ x) ⊎ IsIn l xs

-- a label stands at a place whose note allows what is asked at it
pub record Placed (m : Maker) (g : Ghost) (label : ℕ) : Type 0 where
  pub within : get_or m.labels label 0 ≤ length m.items
  pub clear : Clear g (get_or m.labels label 0)
  pub allows : Below (g.need label) (g.note (get_or m.labels label 0))

abbrev pub AllSound : List Chunk → Type 0
AllSound [] = Unit {0}
AllSound (c ∷ cs) = IsSound c false × AllSound cs

-- each word at a place is as it should be, each label stands at a place or nowhere yet, the next pc is a place, no loop is claimed at the
-- first one, and the functions that were made are sound, unless there are misfits
pub record Invariant (m : Maker) (g : Ghost) : Type 0 where
  pub words : (i : ℕ) (x : Item) → slice_get m.items i ≡ Some x → g.is_place i ≡ true → Ok m g i x.piece
  pub labels : (l : ℕ) → l < length m.labels → IsIn l g.unplaced ⊎ Placed m g l
  pub here : g.is_place (length m.items) ≡ true
  pub begins : Clear g 0
  pub start : (r : ℕ) → IsLoop (g.note 0) r → ⊥
  pub functions : m.misfits ≡ [] → AllSound m.functions
  pub least : 2 ≤ g.size

-- ---- later states

-- a maker that has more
pub record Grew (m n : Maker) : Type 0 where
  pub items : Kept m.items n.items
  pub longer : length m.items ≤ length n.items
  pub constants : Kept m.constants n.constants
  pub count : length m.constants ≤ length n.constants
  pub functions : Kept m.functions n.functions
  pub labels : length m.labels ≤ length n.labels
  pub upvalues : n.upvalue_names ≡ m.upvalue_names

-- a ghost that says the same of what was made, and maybe allows more behind it
pub record Widens (m : Maker) (g h : Ghost) : Type 0 where
  pub note : (i : ℕ) → i < length m.items → h.note i ≡ g.note i
  pub last : Below (g.note (length m.items)) (h.note (length m.items))
  pub left : (i : ℕ) → i ≤ length m.items → h.left i ≡ g.left i
  pub is_place : (i : ℕ) → i ≤ length m.items → h.is_place i ≡ g.is_place i
  pub need : (l : ℕ) → l < length m.labels → h.need l ≡ g.need l
  pub size : g.size ≤ h.size
  pub vararg : h.vararg ≡ g.vararg
