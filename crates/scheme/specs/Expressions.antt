-- To be believed. The parts of the scheme for expressions (manual 2.5), each by the parts of the expressions in it.
use Rattle.std.specs.Prelude.{ℕ, ◌+◌, ◌-◌, nat_le, ◌==◌, Bool, true, false, not, cond, ◌||◌, [], Option, Some, None, is_some, ℤ}
use Rattle.std.specs.Bool.{beq}
use Rattle.std.specs.Result.{result_ok}
use Rattle.lua_num.specs.declared.arith.ArithOp.{ArithOp}
use Rattle.lua_num.specs.Arith.{outcome, negation}
use Rattle.lua_tree.specs.declared.tree.BinaryOp.{BinaryOp}
use Rattle.lua_tree.specs.declared.tree.UnaryOp.{UnaryOp}
use Rattle.lua_num.specs.Bytes.{Text}
use Rattle.lua_tree.specs.Syntax.{Expression, nil_literal, true_literal, false_literal, vararg_expression, number_literal, text_literal, name_expression, binary_expression, unary_expression, parenthesized}
use Rattle.lua_tree.specs.WellFormed.{is_call}
use Rattle.opcode.specs.declared.op.Op.{Op}
use Rattle.opcode.specs.Word.{truth_field}
use Rattle.proto.specs.Constants.{constant_number}
use Rattle.scheme.specs.Making.{◌>>=◌, ◌>>◌, Maker, Part, Asks, nothing, answer, read, put, new_label, place, jump_to, take_registers, freeing, constant, Where, in_register, in_upvalue, in_globals, next_name, pass_name, name, when}
use Rattle.proto.specs.declared.parts.Constant.{Constant}
use Rattle.scheme.specs.declared.making.Piece.{Piece}

-- ---- folding

-- the operators of arithmetic
abbrev pub arith_op : BinaryOp → Option ArithOp
arith_op BinaryOp.Add = Some ArithOp.Add
arith_op BinaryOp.Sub = Some ArithOp.Sub
arith_op BinaryOp.Mul = Some ArithOp.Mul
arith_op BinaryOp.Div = Some ArithOp.Div
arith_op BinaryOp.Rem = Some ArithOp.Rem
arith_op BinaryOp.Pow = Some ArithOp.Pow
arith_op op = None

-- an operator of arithmetic on two numbers, unless it fails
abbrev pub fold_binary : Option ArithOp → Option ℤ → Option ℤ → Option ℤ
fold_binary (Some op) (Some a) (Some b) = result_ok (outcome op a b)
fold_binary op a b = None

abbrev pub fold_unary : UnaryOp → Option ℤ → Option ℤ
fold_unary UnaryOp.Neg (Some a) = Some (negation a)
fold_unary op a = None

abbrev pub fold : Expression → Option ℤ
fold (number_literal line n) = Some n
fold (parenthesized line e) = fold e
fold (unary_expression line op e) = fold_unary op (fold e)
fold (binary_expression line op left right) = fold_binary (arith_op op) (fold left) (fold right)
fold e = None

-- nil, true, false, a string or a folded expression, as a constant
abbrev pub plain_literal : Expression → Option Constant
plain_literal (nil_literal line) = Some Constant.Nil
plain_literal (true_literal line) = Some (Constant.Bool true)
plain_literal (false_literal line) = Some (Constant.Bool false)
plain_literal (text_literal line text) = Some (Constant.Text text)
plain_literal e = None

abbrev pub number_or : Option ℤ → Option Constant → Option Constant
number_or (Some n) other = Some (Constant.Number n)
number_or None other = other

abbrev pub literal : Expression → Option Constant
literal e = number_or (fold e) (plain_literal e)

-- ---- what an expression is

-- whether it is a name, in parentheses or not
abbrev pub is_name : Expression → Bool
is_name (parenthesized line e) = is_name e
is_name (name_expression line text) = true
is_name e = false

abbrev pub is_vararg : Expression → Bool
is_vararg (vararg_expression line) = true
is_vararg e = false

-- it can give several values
abbrev pub is_multiple : Expression → Bool
is_multiple e = is_call e || is_vararg e

-- so many values, or open results
abbrev pub Want : Type 0
Want = Option ℕ

-- a field that counts values: 0 stands for open ones
abbrev pub count_field : (more : ℕ) → Want → ℕ
count_field more None = 0
count_field more (Some n) = n + more

-- what an assignment stores to: what a name means, or a table and a key, each with whether it is a bare local
pub data Target : Type 0 where
  name_target : Text → Where → Target
  part_target : (on key : ℕ) → (on_local key_local : Bool) → Target

-- an expression and its parts: ToReg, JumpIfFalse and JumpIfTrue, the operands of `..` along its right spine, and what gives
-- several values, by the word for its call; and what is done for it as a target
pub record Coded : Type 0 where
  pub e : Expression
  pub to_reg : (register : ℕ) → Part
  pub jump_if : (truth : Bool) → (label : ℕ) → Part
  pub spine : Part
  pub multi : Op → Want → Part
  pub target : Asks Target

-- ---- NextReg, Operand, RK

abbrev pub next_reg : Coded → Part
next_reg c m = take_registers 1 (c.to_reg m.free m)

abbrev pub in_next_reg : Coded → Asks ℕ
in_next_reg c m = record { value = m.free; after = next_reg c m }

abbrev pub register_of : Where → Option ℕ
register_of (in_register r) = Some r
register_of w = None

-- the register of the expression where it is a local, in parentheses or not; the name that follows is its own
abbrev pub local_register : Expression → Maker → Option ℕ
local_register e m = cond (is_name e) (register_of (next_name m)) None

abbrev pub is_local : Expression → Maker → Bool
is_local e m = is_some (local_register e m)

abbrev pub operand_by : Option ℕ → Coded → Asks ℕ
operand_by (Some r) c m = record { value = r; after = pass_name m }
operand_by None c m = in_next_reg c m

abbrev pub operand : Coded → Asks ℕ
operand c m = operand_by (local_register c.e m) c m

-- whether a constant is an operand: its number, or the one that it would get, is small
abbrev pub is_small : Constant → Maker → Bool
is_small k m = nat_le (constant_number k m.constants) 255

abbrev pub small_constant : Constant → Asks ℕ
small_constant k m = let number = constant k m in record { value = number.value + 256; after = number.after }

abbrev pub rk_by : Option Constant → Coded → Asks ℕ
rk_by (Some k) c m = cond (is_small k m) (small_constant k) (operand c) m
rk_by None c m = operand c m

abbrev pub rk : Coded → Asks ℕ
rk c = rk_by (literal c.e) c

abbrev pub load : (line register : ℕ) → Constant → Part
load line register k = do
  number ← constant k
  put line (Piece.Abx Op.LoadK register number)

-- a string that is no expression of its own, as NextReg and as RK
abbrev pub next_text : (line : ℕ) → Text → Part
next_text line text m = take_registers 1 (load line m.free (Constant.Text text) m)

abbrev pub rk_text : (line : ℕ) → Text → Asks ℕ
rk_text line text m = cond (is_small (Constant.Text text) m) (small_constant (Constant.Text text)) (λ n. record { value = n.free; after = next_text line text n }) m

-- ---- tests

abbrev pub comparison_word : BinaryOp → Bool → (x y : ℕ) → Piece
comparison_word BinaryOp.Ne truth x y = Piece.Abc Op.Eq (truth_field (not truth)) x y
comparison_word BinaryOp.Lt truth x y = Piece.Abc Op.Lt (truth_field truth) x y
comparison_word BinaryOp.Le truth x y = Piece.Abc Op.Le (truth_field truth) x y
comparison_word BinaryOp.Gt truth x y = Piece.Abc Op.Lt (truth_field truth) y x
comparison_word BinaryOp.Ge truth x y = Piece.Abc Op.Le (truth_field truth) y x
comparison_word op truth x y = Piece.Abc Op.Eq (truth_field truth) x y

-- the test does its jump where the comparison has this truth
abbrev pub compare : (line : ℕ) → BinaryOp → (left right : Coded) → (truth : Bool) → (label : ℕ) → Part
compare line op left right truth label = do
  x ← rk left
  y ← rk right
  put line (comparison_word op truth x y)
  jump_to line label

abbrev pub test : (line : ℕ) → Coded → (truth : Bool) → (label : ℕ) → Part
test line c truth label = do
  x ← operand c
  put line (Piece.Abc Op.Test x 0 (truth_field truth))
  jump_to line label

abbrev pub is_true_constant : Constant → Bool
is_true_constant Constant.Nil = false
is_true_constant (Constant.Bool b) = b
is_true_constant k = true

-- a jump where the literal has this truth
abbrev pub jump_literal : (line : ℕ) → Constant → (truth : Bool) → (label : ℕ) → Part
jump_literal line k truth label = when (beq truth (is_true_constant k)) (jump_to line label)

abbrev pub test_by : Option Constant → (line : ℕ) → Coded → (truth : Bool) → (label : ℕ) → Part
test_by (Some k) line c truth label = jump_literal line k truth label
test_by None line c truth label = freeing (test line c truth label)

-- ---- kinds of expressions

-- what the parts are where ToReg says all
abbrev pub plain_multi : Op → Want → Part
plain_multi op want = nothing

abbrev pub no_target : Asks Target
no_target = answer (name_target [] in_globals)

abbrev pub single : (line : ℕ) → Expression → (ℕ → Part) → Coded
single line e to =
    let alone : Coded = record { e = e; to_reg = λ r. freeing (to r); jump_if = λ truth label. nothing; spine = nothing; multi = plain_multi; target = no_target } in
    record { e = e; to_reg = λ r. freeing (to r); jump_if = test_by (literal e) line alone; spine = next_reg alone; multi = plain_multi; target = no_target }

abbrev pub read_where : (line register : ℕ) → Text → Where → Part
read_where line r text (in_register x) = put line (Piece.Abc Op.Move r x 0)
read_where line r text (in_upvalue slot) = put line (Piece.Abc Op.GetUpval r slot 0)
read_where line r text in_globals = do
  k ← constant (Constant.Text text)
  put line (Piece.Abx Op.GetGlobal r k)

abbrev pub name_value : (line : ℕ) → Text → ℕ → Part
name_value line text r = do
  w ← name
  read_where line r text w

abbrev pub coded_name : (line : ℕ) → Text → Coded
coded_name line text = record (single line (name_expression line text) (name_value line text)) { target = λ m. record { value = name_target text (next_name m); after = pass_name m } }

-- what is indexed and its key, for a value and as a target
abbrev pub indexed_value : (line : ℕ) → Coded → Asks ℕ → ℕ → Part
indexed_value line on key r = do
  t ← operand on
  k ← key
  put line (Piece.Abc Op.GetTable r t k)

abbrev pub indexed_target : Coded → Asks ℕ → (key_local : Maker → Bool) → Asks Target
indexed_target on key key_local m =
    let t = operand on m in
    let k = key t.after in
    record { value = part_target t.value k.value (is_local on.e m) (key_local t.after); after = k.after }

abbrev pub coded_index : (line : ℕ) → Expression → (on key : Coded) → Coded
coded_index line e on key = record (single line e (indexed_value line on (rk key))) { target = indexed_target on (rk key) (is_local key.e) }

abbrev pub coded_field : (line : ℕ) → Expression → Coded → Text → Coded
coded_field line e on text = record (single line e (indexed_value line on (rk_text line text))) { target = indexed_target on (rk_text line text) (λ m. false) }

-- parentheses: ToReg and the jumps of the inside
abbrev pub coded_paren : Expression → Coded → Coded
coded_paren e c = record c { e = e; spine = next_reg c; multi = plain_multi; target = no_target }

-- ---- operators

abbrev pub load_or : Option ℤ → (line : ℕ) → (ℕ → Part) → ℕ → Part
load_or (Some n) line to r = load line r (Constant.Number n)
load_or None line to r = to r

abbrev pub arithmetic : (line : ℕ) → Op → (left right : Coded) → ℕ → Part
arithmetic line op left right r = do
  x ← rk left
  y ← rk right
  put line (Piece.Abc op r x y)

abbrev pub concat : (line : ℕ) → (left right : Coded) → ℕ → Part
concat line left right r = do
  first ← in_next_reg left
  right.spine
  after ← read (λ m. m.free)
  put line (Piece.Abc Op.Concat r first (after - 1))

abbrev pub truth_value : (line : ℕ) → BinaryOp → (left right : Coded) → ℕ → Part
truth_value line op left right r = do
  label ← new_label
  compare line op left right true label
  put line (Piece.Abc Op.LoadBool r 0 1)
  place label
  put line (Piece.Abc Op.LoadBool r 1 0)

abbrev pub binary_value : (line : ℕ) → BinaryOp → (left right : Coded) → ℕ → Part
binary_value line BinaryOp.Add = arithmetic line Op.Add
binary_value line BinaryOp.Sub = arithmetic line Op.Sub
binary_value line BinaryOp.Mul = arithmetic line Op.Mul
binary_value line BinaryOp.Div = arithmetic line Op.Div
binary_value line BinaryOp.Rem = arithmetic line Op.Mod
binary_value line BinaryOp.Pow = arithmetic line Op.Pow
binary_value line BinaryOp.Concat = concat line
binary_value line op = truth_value line op

abbrev pub is_comparison : BinaryOp → Bool
is_comparison BinaryOp.Eq = true
is_comparison BinaryOp.Ne = true
is_comparison BinaryOp.Lt = true
is_comparison BinaryOp.Le = true
is_comparison BinaryOp.Gt = true
is_comparison BinaryOp.Ge = true
is_comparison op = false

-- the jumps of a comparison are its own; other operators are tested as values
abbrev pub binary_jump : BinaryOp → (of_comparison of_value : Bool → ℕ → Part) → Bool → ℕ → Part
binary_jump op of_comparison of_value = cond (is_comparison op) of_comparison of_value

-- the spine of `..` goes on to the right
abbrev pub binary_spine : BinaryOp → (of_concat of_value : Part) → Part
binary_spine BinaryOp.Concat of_concat of_value = of_concat
binary_spine op of_concat of_value = of_value

abbrev pub coded_binary : (line : ℕ) → BinaryOp → Expression → (left right : Coded) → Coded
coded_binary line op e left right =
    let value = single line e (load_or (fold e) line (binary_value line op left right)) in
    record value {
      jump_if = binary_jump op (λ truth label. freeing (compare line op left right truth label)) value.jump_if;
      spine = binary_spine op (next_reg left >> right.spine) value.spine;
    }

abbrev pub unary_word : UnaryOp → Op
unary_word UnaryOp.Neg = Op.Unm
unary_word UnaryOp.Not = Op.Not
unary_word UnaryOp.Len = Op.Len

abbrev pub unary_value : (line : ℕ) → UnaryOp → Coded → ℕ → Part
unary_value line op c r = do
  x ← operand c
  put line (Piece.Abc (unary_word op) r x 0)

abbrev pub unary_jump : UnaryOp → Coded → (of_value : Bool → ℕ → Part) → Bool → ℕ → Part
unary_jump UnaryOp.Not c of_value = λ truth label. c.jump_if (not truth) label
unary_jump op c of_value = of_value

abbrev pub coded_unary : (line : ℕ) → UnaryOp → Expression → Coded → Coded
coded_unary line op e c =
    let value = single line e (load_or (fold e) line (unary_value line op c)) in
    record value { jump_if = unary_jump op c value.jump_if }

-- `and` (truth false) and `or` (truth true), whose left value decides where it has that truth
abbrev pub decide : (line : ℕ) → (truth : Bool) → Coded → ℕ → Option ℕ → Part
decide line truth left r (Some x) m = put line (Piece.Abc Op.TestSet r x (truth_field truth)) (pass_name m)
decide line truth left r None m = put line (Piece.Abc Op.Test r 0 (truth_field truth)) (left.to_reg r m)

abbrev pub logic_here : (line : ℕ) → (truth : Bool) → (left right : Coded) → ℕ → Part
logic_here line truth left right r = do
  x ← read (local_register left.e)
  decide line truth left r x
  label ← new_label
  jump_to line label
  right.to_reg r
  place label

abbrev pub jump_both : (truth : Bool) → (left right : Coded) → ℕ → Part
jump_both truth left right label = left.jump_if truth label >> right.jump_if truth label

abbrev pub jump_over : (truth : Bool) → (left right : Coded) → ℕ → Part
jump_over truth left right label = do
  over ← new_label
  left.jump_if (not truth) over
  right.jump_if truth label
  place over

abbrev pub logic_jump : (decides : Bool) → (left right : Coded) → (truth : Bool) → ℕ → Part
logic_jump decides left right truth label = cond (beq decides truth) (jump_both truth left right label) (jump_over truth left right label)

-- where the register is not F, the value goes by F
abbrev pub logic_moved : (line : ℕ) → (decides : Bool) → (left right : Coded) → ℕ → Part
logic_moved line decides left right r m = put line (Piece.Abc Op.Move r m.free 0) (take_registers 1 (logic_here line decides left right m.free m))

abbrev pub logic_value : (line : ℕ) → (decides : Bool) → (left right : Coded) → ℕ → Part
logic_value line decides left right r m = cond (r == m.free) (logic_here line decides left right r) (logic_moved line decides left right r) m

abbrev pub coded_logic : (line : ℕ) → (decides : Bool) → Expression → (left right : Coded) → Coded
coded_logic line decides e left right = record (single line e (logic_value line decides left right)) { jump_if = logic_jump decides left right }
