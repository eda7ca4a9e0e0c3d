-- Serves the laws. Where the words of an expression stand, for each use of it.
use Rattle.std.specs.Prelude.{◌≡◌, ◌≤◌, ◌<◌, ◌⊎◌, ℕ, ◌+◌, ◌-◌, Bool, true, false, not, cond, ◌||◌, List, slice_get, Option, Some, None, is_some, ℤ}
use Rattle.std.specs.Bool.{beq}
use Rattle.lua_num.specs.Bytes.{Text}
use Rattle.lua_tree.specs.declared.tree.BinaryOp.{BinaryOp}
use Rattle.lua_tree.specs.declared.tree.UnaryOp.{UnaryOp}
use Rattle.lua_tree.specs.Syntax.{Expression, nil_literal, name_expression, field_expression}
use Rattle.lua_tree.specs.WellFormed.{is_call}
use Rattle.opcode.specs.declared.op.Op.{Op}
use Rattle.opcode.specs.Word.{truth_field}
use Rattle.proto.specs.Constants.{constant_number}
use Rattle.proto.specs.declared.parts.Constant.{Constant}
use Rattle.scheme.specs.Making.{Where, in_register, in_upvalue, in_globals}
use Rattle.scheme.specs.Expressions.{is_vararg, Want, fold, literal, is_name, register_of, comparison_word, is_true_constant, unary_word, is_comparison, Target, name_target, part_target}
use Rattle.scheme.specs.declared.making.Piece.{Piece}
use Rattle.scheme.specs.declared.making.Active.{Active}
use Rattle.scheme_stands.specs.Words.{Fn, Spot, Stretch, never, WordAt, Same, Passed, Seq, ConstantWord, JumpOn, meaning, Means}

-- ==== expressions

-- what the scheme asks of an expression's form: whether it is a name (in parentheses or not), whether it is a literal and of which
-- constant, whether it is a call or `...`
pub record Form : Type 0 where
  pub name : Bool
  pub literal : Option Constant
  pub call : Bool
  pub dots : Bool

abbrev pub form_of : Expression → Form
form_of e = record { name = is_name e; literal = literal e; call = is_call e; dots = is_vararg e }

-- it can give several values
abbrev pub several : Form → Bool
several form = form.call || form.dots

-- where the words of an expression stand, for each use of it
pub record Rel : Type 1 where
  pub form : Form
  -- ToReg: its value goes to r
  pub to_reg : (active : List Active) → (free r : ℕ) → Stretch
  -- JumpIf: to the label where it has this truth, else on to q
  pub jump_if : (active : List Active) → (free : ℕ) → (truth : Bool) → (label : ℕ) → Stretch
  -- the operands of `..` along its right spine go to the registers from `free` up to `free1`
  pub spine : (active : List Active) → (free free1 : ℕ) → Stretch
  -- several values, from `free` on, by the word for its call
  pub multi : (active : List Active) → (free : ℕ) → (op : Op) → (want : Want) → Stretch
  -- as the target of an assignment: what is evaluated of it, and the target that this gives
  pub target : (active : List Active) → (free : ℕ) → (target : Target) → (free1 : ℕ) → Stretch
  -- as a local that is an operand as it is, with no word
  pub bare : (active : List Active) → Stretch

-- ---- operands

-- a local in register r is an operand as it is
pub record LocalAt (bare : Stretch) (r free x free1 : ℕ) (p q : Spot) : Type 0 where
  pub at_x : x ≡ r
  pub at_free : free1 ≡ free
  pub passed : bare p q

-- NextReg: a value in the next register
pub record NextAt (f : Fn) (value : Stretch) (free x free1 : ℕ) (p q : Spot) : Type 0 where
  pub room : free < f.size
  pub at_x : x ≡ free
  pub at_free : free1 ≡ free + 1
  pub value_at : value p q

-- the register of an expression that is a local
abbrev pub local_at : Form → List Active → Spot → Option ℕ
local_at form active p = cond form.name (register_of (meaning active p)) None

abbrev pub OperandBy : Option ℕ → Fn → List Active → Rel → (free x free1 : ℕ) → Stretch
OperandBy (Some r) f active c free x free1 p q = LocalAt (c.bare active) r free x free1 p q
OperandBy None f active c free x free1 p q = NextAt f (c.to_reg active free free) free x free1 p q

-- Operand: a local, or the next register; it is in x
abbrev pub OperandAt : Fn → List Active → Rel → (free x free1 : ℕ) → Stretch
OperandAt f active c free x free1 p q = OperandBy (local_at c.form active p) f active c free x free1 p q

-- a constant with a small number
pub record SmallAt (f : Fn) (k : Constant) (free x free1 : ℕ) (p q : Spot) : Type 0 where
  pub number : ℕ
  pub is : slice_get f.constants number ≡ Some k
  pub first : constant_number k f.constants ≡ number
  pub small : number ≤ 255
  pub at_x : x ≡ number + 256
  pub at_free : free1 ≡ free
  pub same : Same p q

-- it has no small number
abbrev pub IsLarge : Fn → Constant → Type 0
IsLarge f k = (number : ℕ) → slice_get f.constants number ≡ Some k → 255 < number

abbrev pub RkBy : Option Constant → Fn → List Active → Rel → (free x free1 : ℕ) → Stretch
RkBy (Some k) f active c free x free1 p q = SmallAt f k free x free1 p q ⊎ (IsLarge f k × OperandAt f active c free x free1 p q)
RkBy None f active c free x free1 p q = OperandAt f active c free x free1 p q

-- RK: a literal is a constant where its number is small, else it is an operand
abbrev pub RkAt : Fn → List Active → Rel → (free x free1 : ℕ) → Stretch
RkAt f active c = RkBy c.form.literal f active c

-- a string that is no expression of its own: a small constant, or in the next register
abbrev pub RkTextAt : Fn → Text → (free x free1 : ℕ) → Stretch
RkTextAt f text free x free1 p q =
    SmallAt f (Constant.Text text) free x free1 p q
    ⊎ (IsLarge f (Constant.Text text) × NextAt f (ConstantWord f Op.LoadK free (Constant.Text text)) free x free1 p q)

-- an operand, and the words that follow it
pub record OneAt (operand : (free x free1 : ℕ) → Stretch) (free : ℕ) (words : (x : ℕ) → Stretch) (p q : Spot) : Type 0 where
  pub x : ℕ
  pub free1 : ℕ
  pub mid : Spot
  pub operand_at : operand free x free1 p mid
  pub words_at : words x mid q

-- two operands, and the words that follow them
pub record TwoAt (left right : (free x free1 : ℕ) → Stretch) (free : ℕ) (words : (x y : ℕ) → Stretch) (p q : Spot) : Type 0 where
  pub x : ℕ
  pub y : ℕ
  pub free1 : ℕ
  pub free2 : ℕ
  pub mid : Spot
  pub last : Spot
  pub left_at : left free x free1 p mid
  pub right_at : right free1 y free2 mid last
  pub words_at : words x y last q

-- ---- tests

abbrev pub TestAt : Fn → List Active → Rel → (free : ℕ) → (truth : Bool) → (label : ℕ) → Stretch
TestAt f active c free truth label =
    OneAt (OperandAt f active c) free (λ x. Seq (WordAt f (Piece.Abc Op.Test x 0 (truth_field truth))) (WordAt f (Piece.Jump Op.Jmp 0 label)))

-- a literal jumps or does not, by its own truth; another value is tested
abbrev pub TestBy : Option Constant → Fn → List Active → Rel → (free : ℕ) → (truth : Bool) → (label : ℕ) → Stretch
TestBy (Some k) f active c free truth label = JumpOn f (beq truth (is_true_constant k)) label
TestBy None f active c free truth label = TestAt f active c free truth label

abbrev pub CompareAt : Fn → BinaryOp → (left right : Rel) → List Active → (free : ℕ) → (truth : Bool) → (label : ℕ) → Stretch
CompareAt f op left right active free truth label =
    TwoAt (RkAt f active left) (RkAt f active right) free
    (λ x y. Seq (WordAt f (comparison_word op truth x y)) (WordAt f (Piece.Jump Op.Jmp 0 label)))

-- ---- an expression by its value alone

abbrev pub no_jump : List Active → (free : ℕ) → (truth : Bool) → (label : ℕ) → Stretch
no_jump active free truth label p q = ⊥

abbrev pub no_spine : List Active → (free free1 : ℕ) → Stretch
no_spine active free free1 p q = ⊥

-- what gives one value only is never asked for several, and is no target
abbrev pub one_value : Fn → List Active → (free : ℕ) → Op → Want → Stretch
one_value f active free op want = never f.law Same

abbrev pub no_target : Fn → List Active → (free : ℕ) → Target → (free1 : ℕ) → Stretch
no_target f active free target free1 p q = never f.law (λ p q. Unit {0}) p q

abbrev pub passes : List Active → Stretch
passes active = Passed

abbrev pub rel_alone : Fn → Form → (List Active → (free r : ℕ) → Stretch) → Rel
rel_alone f form to = record { form = form; to_reg = to; jump_if = no_jump; spine = no_spine; multi = one_value f; target = no_target f; bare = passes }

abbrev pub in_next : Fn → (List Active → (free r : ℕ) → Stretch) → List Active → (free free1 : ℕ) → Stretch
in_next f to active free free1 = NextAt f (to active free free) free free free1

abbrev pub rel_single : Fn → Form → (List Active → (free r : ℕ) → Stretch) → Rel
rel_single f form to = record {
  form = form;
  to_reg = to;
  jump_if = λ active. TestBy form.literal f active (rel_alone f form to);
  spine = in_next f to;
  multi = one_value f;
  target = no_target f;
  bare = passes;
}

-- ---- names, parentheses

abbrev pub NameBy : Fn → Text → Where → (r : ℕ) → Stretch
NameBy f text (in_register x) r = WordAt f (Piece.Abc Op.Move r x 0)
NameBy f text (in_upvalue slot) r = WordAt f (Piece.Abc Op.GetUpval r slot 0)
NameBy f text in_globals r = ConstantWord f Op.GetGlobal r (Constant.Text text)

abbrev pub NameAt : Fn → Text → List Active → (free r : ℕ) → Stretch
NameAt f text active free r p q = Means f.law active text (meaning active p) × Seq Passed (NameBy f text (meaning active p) r) p q

pub record BareAt (f : Fn) (text : Text) (active : List Active) (p q : Spot) : Type 0 where
  pub means : Means f.law active text (meaning active p)
  pub passed : Passed p q

pub record NameTargetAt (f : Fn) (text : Text) (active : List Active) (free : ℕ) (target : Target) (free1 : ℕ) (p q : Spot) : Type 0 where
  pub is : target ≡ name_target text (meaning active p)
  pub means : Means f.law active text (meaning active p)
  pub at_free : free1 ≡ free
  pub passed : Passed p q

abbrev pub rel_name : Fn → Text → Rel
rel_name f text =
    record (rel_single f (form_of (name_expression 0 text)) (NameAt f text)) {
      jump_if = λ active. TestAt f active (record (rel_alone f (form_of (name_expression 0 text)) (NameAt f text)) { bare = BareAt f text });
      target = NameTargetAt f text;
      bare = BareAt f text;
    }

-- ToReg and JumpIf of the inside
abbrev pub rel_paren : Fn → Form → Rel → Rel
rel_paren f form c = record { form = form; to_reg = c.to_reg; jump_if = c.jump_if; spine = in_next f c.to_reg; multi = one_value f; target = no_target f; bare = c.bare }

-- ---- indexing

abbrev pub IndexAt : Fn → (on : Rel) → (key : List Active → (free x free1 : ℕ) → Stretch) → List Active → (free r : ℕ) → Stretch
IndexAt f on key active free r = TwoAt (OperandAt f active on) (key active) free (λ t k. WordAt f (Piece.Abc Op.GetTable r t k))

-- as a target: what is indexed and its key, each with whether it is a bare local
pub record PartTargetAt (f : Fn) (on : Rel) (key : List Active → (free x free1 : ℕ) → Stretch) (key_local : List Active → Spot → Bool) (active : List Active) (free : ℕ) (target : Target) (free2 : ℕ) (p q : Spot) : Type 0 where
  pub t : ℕ
  pub k : ℕ
  pub free1 : ℕ
  pub mid : Spot
  pub is : target ≡ part_target t k (is_some (local_at on.form active p)) (key_local active mid)
  pub on_at : OperandAt f active on free t free1 p mid
  pub key_at : key active free1 k free2 mid q

abbrev pub rel_index : Fn → Form → (on key : Rel) → Rel
rel_index f form on key =
    record (rel_single f form (IndexAt f on (λ active. RkAt f active key))) { target = PartTargetAt f on (λ active. RkAt f active key) (λ active p. is_some (local_at key.form active p)) }

abbrev pub rel_field : Fn → (on : Rel) → Text → Rel
rel_field f on text =
    record (rel_single f (form_of (field_expression 0 (nil_literal 0) text)) (IndexAt f on (λ active. RkTextAt f text))) { target = PartTargetAt f on (λ active. RkTextAt f text) (λ active p. false) }

-- ---- operators

abbrev pub ArithmeticAt : Fn → Op → (left right : Rel) → List Active → (free r : ℕ) → Stretch
ArithmeticAt f op left right active free r = TwoAt (RkAt f active left) (RkAt f active right) free (λ x y. WordAt f (Piece.Abc op r x y))

-- where the comparison holds it goes over the first LOADBOOL
pub record TruthAt (f : Fn) (op : BinaryOp) (left right : Rel) (active : List Active) (free r : ℕ) (p q : Spot) : Type 0 where
  pub mid : Spot
  pub yes : Spot
  pub compare : CompareAt f op left right active free true yes.pc p mid
  pub no : WordAt f (Piece.Abc Op.LoadBool r 0 1) mid yes
  pub load : WordAt f (Piece.Abc Op.LoadBool r 1 0) yes q

-- the first operand of `..`, and those along the right one's spine
pub record SpineAt (f : Fn) (left right : Rel) (active : List Active) (free free1 : ℕ) (p q : Spot) : Type 0 where
  pub mid : Spot
  pub room : free < f.size
  pub first : left.to_reg active free free p mid
  pub rest : right.spine active (free + 1) free1 mid q

pub record ConcatAt (f : Fn) (left right : Rel) (active : List Active) (free r : ℕ) (p q : Spot) : Type 0 where
  pub free1 : ℕ
  pub last : Spot
  pub operands : SpineAt f left right active free free1 p last
  pub word : WordAt f (Piece.Abc Op.Concat r free (free1 - 1)) last q

abbrev pub BinaryAt : Fn → BinaryOp → (left right : Rel) → List Active → (free r : ℕ) → Stretch
BinaryAt f BinaryOp.Add left right active free r = ArithmeticAt f Op.Add left right active free r
BinaryAt f BinaryOp.Sub left right active free r = ArithmeticAt f Op.Sub left right active free r
BinaryAt f BinaryOp.Mul left right active free r = ArithmeticAt f Op.Mul left right active free r
BinaryAt f BinaryOp.Div left right active free r = ArithmeticAt f Op.Div left right active free r
BinaryAt f BinaryOp.Rem left right active free r = ArithmeticAt f Op.Mod left right active free r
BinaryAt f BinaryOp.Pow left right active free r = ArithmeticAt f Op.Pow left right active free r
BinaryAt f BinaryOp.Concat left right active free r = ConcatAt f left right active free r
BinaryAt f op left right active free r = TruthAt f op left right active free r

-- a folded number is loaded
abbrev pub LoadOr : Option ℤ → Fn → (List Active → (free r : ℕ) → Stretch) → List Active → (free r : ℕ) → Stretch
LoadOr (Some n) f to active free r = ConstantWord f Op.LoadK r (Constant.Number n)
LoadOr None f to active free r = to active free r

abbrev pub BinaryJump : Bool → Fn → BinaryOp → (left right of_value : Rel) → List Active → (free : ℕ) → (truth : Bool) → (label : ℕ) → Stretch
BinaryJump true f op left right value = CompareAt f op left right
BinaryJump false f op left right value = value.jump_if

abbrev pub BinarySpine : Fn → BinaryOp → (left right of_value : Rel) → List Active → (free free1 : ℕ) → Stretch
BinarySpine f BinaryOp.Concat left right value = SpineAt f left right
BinarySpine f op left right value = value.spine

abbrev pub rel_binary : Fn → BinaryOp → Expression → (left right : Rel) → Rel
rel_binary f op e left right =
    let value = rel_single f (form_of e) (LoadOr (fold e) f (BinaryAt f op left right)) in
    record { form = value.form; to_reg = value.to_reg; jump_if = BinaryJump (is_comparison op) f op left right value; spine = BinarySpine f op left right value; multi = one_value f; target = no_target f; bare = passes }

abbrev pub UnaryAt : Fn → UnaryOp → Rel → List Active → (free r : ℕ) → Stretch
UnaryAt f op c active free r = OneAt (OperandAt f active c) free (λ x. WordAt f (Piece.Abc (unary_word op) r x 0))

abbrev pub UnaryJump : UnaryOp → (c of_value : Rel) → List Active → (free : ℕ) → (truth : Bool) → (label : ℕ) → Stretch
UnaryJump UnaryOp.Not c value active free truth label = c.jump_if active free (not truth) label
UnaryJump op c value active free truth label = value.jump_if active free truth label

abbrev pub rel_unary : Fn → UnaryOp → Expression → Rel → Rel
rel_unary f op e c =
    let value = rel_single f (form_of e) (LoadOr (fold e) f (UnaryAt f op c)) in
    record { form = value.form; to_reg = value.to_reg; jump_if = UnaryJump op c value; spine = value.spine; multi = one_value f; target = no_target f; bare = passes }

-- ---- and (which the truth false decides), or (true)

-- the left value is tested, and stands in r where it decides; of a local by TESTSET
abbrev pub DecideBy : Option ℕ → Fn → (decides : Bool) → Rel → List Active → (free r : ℕ) → Stretch
DecideBy (Some x) f decides left active free r = Seq (left.bare active) (WordAt f (Piece.Abc Op.TestSet r x (truth_field decides)))
DecideBy None f decides left active free r = Seq (left.to_reg active free r) (WordAt f (Piece.Abc Op.Test r 0 (truth_field decides)))

pub record HereAt (f : Fn) (decides : Bool) (left right : Rel) (active : List Active) (free r : ℕ) (p q : Spot) : Type 0 where
  pub mid : Spot
  pub on : Spot
  pub decide : DecideBy (local_at left.form active p) f decides left active free r p mid
  pub jump : WordAt f (Piece.Jump Op.Jmp 0 q.pc) mid on
  pub second : right.to_reg active free r on q

-- where the register is not F, the value goes by F
pub record MovedAt (f : Fn) (here : Stretch) (free r : ℕ) (p q : Spot) : Type 0 where
  pub room : free < f.size
  pub value : Seq here (WordAt f (Piece.Abc Op.Move r free 0)) p q

abbrev pub LogicAt : Fn → (decides : Bool) → (left right : Rel) → List Active → (free r : ℕ) → Stretch
LogicAt f decides left right active free r p q =
    ((r ≡ free) × HereAt f decides left right active free r p q) ⊎ MovedAt f (HereAt f decides left right active free free) free r p q

-- to the label from both sides where the truth is the one that decides; else the left side goes over the right one
abbrev pub LogicJump : (both : Bool) → (left right : Rel) → List Active → (free : ℕ) → (truth : Bool) → (label : ℕ) → Stretch
LogicJump true left right active free truth label p q = Seq (left.jump_if active free truth label) (right.jump_if active free truth label) p q
LogicJump false left right active free truth label p q = Seq (left.jump_if active free (not truth) q.pc) (right.jump_if active free truth label) p q

abbrev pub rel_logic : Fn → (decides : Bool) → Form → (left right : Rel) → Rel
rel_logic f decides form left right = record {
  form = form;
  to_reg = LogicAt f decides left right;
  jump_if = λ active free truth. LogicJump (beq decides truth) left right active free truth;
  spine = in_next f (LogicAt f decides left right);
  multi = one_value f;
  target = no_target f;
  bare = passes;
}
