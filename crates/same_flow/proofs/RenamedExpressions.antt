-- Expressions but calls, constructors and functions: they make behind other labels what they make, where the expressions in them do.
use Rattle.std.proofs.Common.{◌≡◌, ℕ, ◌-◌, Bool, true, false, cond, not, List, refl, ap, ◌∙◌}
use Rattle.std.specs.Prelude.{Option, Some, None, ℤ}
use Rattle.std.specs.Bool.{beq}
use Rattle.lua_num.specs.Bytes.{Text}
use Rattle.lua_tree.specs.declared.tree.BinaryOp.{BinaryOp}
use Rattle.lua_tree.specs.declared.tree.UnaryOp.{UnaryOp}
use Rattle.lua_tree.specs.Syntax.{Expression, name_expression}
use Rattle.opcode.specs.declared.op.Op.{Op}
use Rattle.opcode.specs.Word.{truth_field}
use Rattle.proto.specs.declared.parts.Constant.{Constant}
use Rattle.scheme.specs.Making.{Maker, Part, Got, Asks, nothing, take_registers, freeing, Where, in_register, in_upvalue, in_globals}
use Rattle.scheme.specs.Expressions.{fold, literal, Want, Target, part_target, Coded, next_reg, in_next_reg, local_register, is_local, operand_by, operand, is_small, small_constant, rk_by, rk, load, next_text, rk_text, comparison_word, compare, test, is_true_constant, test_by, plain_multi, no_target, single, read_where, name_value, coded_name, indexed_value, indexed_target, coded_index, coded_field, coded_paren, load_or, arithmetic, concat, binary_value, is_comparison, binary_spine, coded_binary, unary_word, unary_value, unary_jump, coded_unary}
use Rattle.same_flow.specs.Renaming.{with_labels}
use Rattle.same_flow.proofs.RenamedMakers.{got_with_labels, SamePart, SameAsks, SameJump, bind, ◌then◌, no_part, either_asks, same_answer, same_free, Stays, same_put, same_abc, same_abx, same_jump, jump_bind, jump_after, jump_if_so, jump_freeing, same_freeing, same_constant, same_name}

-- an expression that makes behind other labels what it makes
pub record Same (c : Coded) : Type 0 where
  pub to_reg : (r : ℕ) → SamePart (c.to_reg r)
  pub jump_if : (truth : Bool) → SameJump (c.jump_if truth)
  pub spine : SamePart c.spine
  pub multi : (op : Op) (want : Want) → SamePart (c.multi op want)
  pub target : SameAsks c.target

-- ---- registers, operands

pub same_next : {c : Coded} → Same c → SamePart (next_reg c)
same_next s = record { same = λ numbers labels m. ap (take_registers 1) ((s.to_reg m.free).same numbers labels m) }

same_in_next : {c : Coded} → Same c → SameAsks (in_next_reg c)
same_in_next s = record { same = λ numbers labels m. ap (λ (n : Maker). record { value = m.free; after = n }) ((same_next s).same numbers labels m) }

operand_by_same : {c : Coded} → Same c → (o : Option ℕ) → SameAsks (operand_by o c)
operand_by_same s (Some r) = record { same = λ numbers labels m. refl }
operand_by_same s None = same_in_next s

pub same_operand : {c : Coded} → Same c → SameAsks (operand c)
same_operand {c} s = record { same = λ numbers labels m. (operand_by_same s (local_register c.e m)).same numbers labels m }

same_small : (k : Constant) → SameAsks (small_constant k)
same_small k = record { same = λ numbers labels m. refl }

rk_by_same : {c : Coded} → Same c → (o : Option Constant) → SameAsks (rk_by o c)
rk_by_same s (Some k) = record { same = λ numbers labels m. (either_asks (is_small k m) (same_small k) (same_operand s)).same numbers labels m }
rk_by_same s None = same_operand s

pub same_rk : {c : Coded} → Same c → SameAsks (rk c)
same_rk {c} s = rk_by_same s (literal c.e)

pub same_load : (line register : ℕ) (k : Constant) → SamePart (load line register k)
same_load line register k = bind (same_constant k) (λ number. same_abx line Op.LoadK register number)

pub same_next_text : (line : ℕ) (text : Text) → SamePart (next_text line text)
same_next_text line text = record { same = λ numbers labels m. ap (take_registers 1) ((same_load line m.free (Constant.Text text)).same numbers labels m) }

pub same_rk_text : (line : ℕ) (text : Text) → SameAsks (rk_text line text)
same_rk_text line text = record { same = λ numbers labels m. (either_asks (is_small (Constant.Text text) m) (same_small (Constant.Text text)) next).same numbers labels m }
  where
    next : SameAsks (λ n. record { value = n.free; after = next_text line text n })
    next = record { same = λ numbers labels m. ap (λ (n : Maker). record { value = m.free; after = n }) ((same_next_text line text).same numbers labels m) }

-- ---- tests

comparison_stays : (op : BinaryOp) (truth : Bool) (x y : ℕ) → Stays (comparison_word op truth x y)
comparison_stays BinaryOp.Ne truth x y numbers = refl
comparison_stays op truth x y numbers = refl

same_compare : {c d : Coded} (line : ℕ) (op : BinaryOp) (truth : Bool) → Same c → Same d → SameJump (compare line op c d truth)
same_compare line op truth s t =
    jump_bind (same_rk s) (λ x. jump_bind (same_rk t) (λ y. jump_after (same_put line (comparison_word op truth x y) (comparison_stays op truth x y)) (same_jump line)))

same_test : (c : Coded) (line : ℕ) (truth : Bool) → SameAsks (operand c) → SameJump (test line c truth)
same_test c line truth s = jump_bind s (λ x. jump_after (same_abc line Op.Test x 0 (truth_field truth)) (same_jump line))

same_test_by : (c : Coded) (o : Option Constant) (line : ℕ) (truth : Bool) → SameAsks (operand c) → SameJump (test_by o line c truth)
same_test_by c (Some k) line truth s = jump_if_so (beq truth (is_true_constant k)) (same_jump line)
same_test_by c None line truth s = jump_freeing (same_test c line truth s)

-- ---- kinds of expressions

abbrev alone : Expression → (ℕ → Part) → Coded
alone e to = record { e = e; to_reg = λ r. freeing (to r); jump_if = λ truth label. nothing; spine = nothing; multi = plain_multi; target = no_target }

pub same_single : (line : ℕ) (e : Expression) (to : ℕ → Part) → ((r : ℕ) → SamePart (to r)) → Same (single line e to)
same_single line e to s =
    let value = λ (r : ℕ). same_freeing (s r) in
    let one : Same (alone e to) = record { to_reg = value; jump_if = λ truth. record { same = λ numbers labels label m. refl }; spine = no_part; multi = λ op want. no_part; target = same_answer _ } in
    record {
      to_reg = value;
      jump_if = λ truth. same_test_by (alone e to) (literal e) line truth (same_operand one);
      spine = same_next one;
      multi = λ op want. no_part;
      target = same_answer _;
    }

-- with another of its parts
with_target : {c : Coded} {ask : Asks Target} → Same c → SameAsks ask → Same (record c { target = ask })
with_target s t = record { to_reg = s.to_reg; jump_if = s.jump_if; spine = s.spine; multi = s.multi; target = t }

abbrev SameJumps : (jump : Bool → ℕ → Part) → Type 0
SameJumps jump = (truth : Bool) → SameJump (jump truth)

with_jumps : {c : Coded} (jump : Bool → ℕ → Part) → Same c → SameJumps jump → Same (record c { jump_if = jump })
with_jumps jump s p = record { to_reg = s.to_reg; jump_if = p; spine = s.spine; multi = s.multi; target = s.target }

with_spine : {c : Coded} {spine : Part} → Same c → SamePart spine → Same (record c { spine = spine })
with_spine s p = record { to_reg = s.to_reg; jump_if = s.jump_if; spine = p; multi = s.multi; target = s.target }

abbrev pub SameMulti : (multi : Op → Want → Part) → Type 0
SameMulti multi = (op : Op) (want : Want) → SamePart (multi op want)

pub with_multi : {c : Coded} (multi : Op → Want → Part) → Same c → SameMulti multi → Same (record c { multi = multi })
with_multi multi s p = record { to_reg = s.to_reg; jump_if = s.jump_if; spine = s.spine; multi = p; target = s.target }

-- ---- names, fields, parentheses

same_where : (line register : ℕ) (text : Text) (w : Where) → SamePart (read_where line register text w)
same_where line r text (in_register x) = same_abc line Op.Move r x 0
same_where line r text (in_upvalue slot) = same_abc line Op.GetUpval r slot 0
same_where line r text in_globals = bind (same_constant (Constant.Text text)) (λ k. same_abx line Op.GetGlobal r k)

pub same_coded_name : (line : ℕ) (text : Text) → Same (coded_name line text)
same_coded_name line text =
    with_target (same_single line (name_expression line text) (name_value line text) (λ r. bind same_name (λ w. same_where line r text w))) (record { same = λ numbers labels m. refl })

same_indexed : {on : Coded} (line : ℕ) (key : Asks ℕ) → Same on → SameAsks key → (r : ℕ) → SamePart (indexed_value line on key r)
same_indexed line key s k r = bind (same_operand s) (λ t. bind k (λ x. same_abc line Op.GetTable r t x))

-- whether it is a local, which does not hang on labels
abbrev SameFlag : (flag : Maker → Bool) → Type 0
SameFlag flag = (numbers : ℕ → ℕ) (labels : List ℕ) (m : Maker) → flag m ≡ flag (with_labels numbers labels m)

abbrev target_by : (on key : Got ℕ) → (on_local key_local : Bool) → Got Target
target_by on key on_local key_local = record { value = part_target on.value key.value on_local key_local; after = key.after }

same_indexed_target : {on : Coded} (key : Asks ℕ) (key_local : Maker → Bool) → Same on → SameAsks key → SameFlag key_local → SameAsks (indexed_target on key key_local)
same_indexed_target {on} key key_local s k l = record {
  same = λ numbers labels m.
      let t = operand on m in
      let behind = with_labels numbers labels t.after in
      ap (target_by (got_with_labels numbers labels t) (got_with_labels numbers labels (key t.after)) (is_local on.e m)) (l numbers labels t.after)
      ∙ ap (λ x. target_by (got_with_labels numbers labels t) x (is_local on.e m) (key_local behind)) (k.same numbers labels t.after)
      ∙ ap (λ (u : Got ℕ). target_by u (key u.after) (is_local on.e m) (key_local u.after)) ((same_operand s).same numbers labels m);
}

pub same_index : {on key : Coded} (line : ℕ) (e : Expression) → Same on → Same key → Same (coded_index line e on key)
same_index {on} {key} line e s k =
    with_target (same_single line e (indexed_value line on (rk key)) (same_indexed line (rk key) s (same_rk k)))
    (same_indexed_target (rk key) (is_local key.e) s (same_rk k) (λ numbers labels m. refl))

pub same_field : {on : Coded} (line : ℕ) (e : Expression) (text : Text) → Same on → Same (coded_field line e on text)
same_field {on} line e text s =
    let key = rk_text line text in
    with_target (same_single line e (indexed_value line on key) (same_indexed line key s (same_rk_text line text)))
    (same_indexed_target key (λ m. false) s (same_rk_text line text) (λ numbers labels m. refl))

pub same_paren : {c : Coded} (e : Expression) → Same c → Same (coded_paren e c)
same_paren e s = record { to_reg = s.to_reg; jump_if = s.jump_if; spine = same_next s; multi = λ op want. no_part; target = same_answer _ }

-- ---- operators

same_load_or : (o : Option ℤ) (line : ℕ) (to : ℕ → Part) → ((r : ℕ) → SamePart (to r)) → (r : ℕ) → SamePart (load_or o line to r)
same_load_or (Some n) line to s r = same_load line r (Constant.Number n)
same_load_or None line to s r = s r

same_arithmetic : {left right : Coded} (line : ℕ) (op : Op) → Same left → Same right → (r : ℕ) → SamePart (arithmetic line op left right r)
same_arithmetic line op s t r = bind (same_rk s) (λ x. bind (same_rk t) (λ y. same_abc line op r x y))

same_concat : {left right : Coded} (line : ℕ) → Same left → Same right → (r : ℕ) → SamePart (concat line left right r)
same_concat line s t r = bind (same_in_next s) (λ first. t.spine then bind same_free (λ after. same_abc line Op.Concat r first (after - 1)))

same_binary_value : {left right : Coded} (line : ℕ) (op : BinaryOp) → is_comparison op ≡ false → Same left → Same right → (r : ℕ) → SamePart (binary_value line op left right r)
same_binary_value line BinaryOp.Add is s t = same_arithmetic line Op.Add s t
same_binary_value line BinaryOp.Sub is s t = same_arithmetic line Op.Sub s t
same_binary_value line BinaryOp.Mul is s t = same_arithmetic line Op.Mul s t
same_binary_value line BinaryOp.Div is s t = same_arithmetic line Op.Div s t
same_binary_value line BinaryOp.Rem is s t = same_arithmetic line Op.Mod s t
same_binary_value line BinaryOp.Pow is s t = same_arithmetic line Op.Pow s t
same_binary_value line BinaryOp.Concat is s t = same_concat line s t
same_binary_value line op is s t = absurd cc

same_binary_jump : (b : Bool) (one two : Bool → ℕ → Part) → SameJumps one → SameJumps two → SameJumps (cond b one two)
same_binary_jump true one two p q = p
same_binary_jump false one two p q = q

same_binary_spine : {one two : Part} (op : BinaryOp) → SamePart one → SamePart two → SamePart (binary_spine op one two)
same_binary_spine BinaryOp.Concat p q = p
same_binary_spine op p q = q

pub same_binary : {left right : Coded} (line : ℕ) (op : BinaryOp) (e : Expression) → is_comparison op ≡ false → Same left → Same right → Same (coded_binary line op e left right)
same_binary {left} {right} line op e is s t =
    let value = binary_value line op left right in
    let v = same_single line e (load_or (fold e) line value) (same_load_or (fold e) line value (same_binary_value line op is s t)) in
    with_spine
    (with_jumps _ v (same_binary_jump (is_comparison op) _ _ (λ truth. jump_freeing (same_compare line op truth s t)) v.jump_if))
    (same_binary_spine op (same_next s then t.spine) v.spine)

-- the jumps of a comparison make no label, where its value does
pub same_tested : {left right : Coded} (line : ℕ) (op : BinaryOp) (e : Expression) → Same left → Same right → SameJumps ((coded_binary line op e left right).jump_if)
same_tested {left} {right} line op e s t = by (is_comparison op) refl
  where
    by : (b : Bool) → is_comparison op ≡ b → SameJumps ((coded_binary line op e left right).jump_if)
    by true is = rw is (λ truth. jump_freeing (same_compare line op truth s t))
    by false is = (same_binary line op e is s t).jump_if

same_unary_value : {c : Coded} (line : ℕ) (op : UnaryOp) → Same c → (r : ℕ) → SamePart (unary_value line op c r)
same_unary_value line op s r = bind (same_operand s) (λ x. same_abc line (unary_word op) r x 0)

same_unary_jump : {c : Coded} (op : UnaryOp) (two : Bool → ℕ → Part) → Same c → SameJumps two → SameJumps (unary_jump op c two)
same_unary_jump UnaryOp.Not two s q = λ truth. s.jump_if (not truth)
same_unary_jump UnaryOp.Neg two s q = q
same_unary_jump UnaryOp.Len two s q = q

pub same_unary : {c : Coded} (line : ℕ) (op : UnaryOp) (e : Expression) → Same c → Same (coded_unary line op e c)
same_unary {c} line op e s =
    let value = unary_value line op c in
    let v = same_single line e (load_or (fold e) line value) (same_load_or (fold e) line value (same_unary_value line op s)) in
    with_jumps _ v (same_unary_jump op _ s v.jump_if)
