-- Expressions but calls, constructors and functions: they make the same but for lines, where the expressions in them do.
use Rattle.std.proofs.Common.{◌≡◌, ℕ, ◌-◌, Bool, true, false, cond, not, List, [], ◌∷◌, refl, ap, ap₂, ◌∙◌}
use Rattle.std.specs.Prelude.{Option, Some, None, is_some, ℤ, ◌==◌, ◌||◌}
use Rattle.std.specs.Bool.{beq}
use Rattle.lua_num.specs.Bytes.{Text}
use Rattle.lua_tree.specs.declared.tree.BinaryOp.{BinaryOp}
use Rattle.lua_tree.specs.declared.tree.UnaryOp.{UnaryOp}
use Rattle.lua_tree.specs.Syntax.{Expression, name_expression}
use Rattle.lua_tree.specs.WellFormed.{is_call}
use Rattle.opcode.specs.declared.op.Op.{Op}
use Rattle.opcode.specs.Word.{truth_field}
use Rattle.proto.specs.declared.parts.Constant.{Constant}
use Rattle.scheme.specs.Making.{Maker, Part, Got, Asks, nothing, read, take_registers, freeing, Where, in_register, in_upvalue, in_globals, next_name, pass_name}
use Rattle.scheme.specs.Expressions.{fold, literal, is_name, is_vararg, is_multiple, Want, Target, name_target, part_target, Coded, next_reg, in_next_reg, register_of, local_register, is_local, operand_by, operand, is_small, small_constant, rk_by, rk, load, next_text, rk_text, comparison_word, compare, test, is_true_constant, test_by, plain_multi, no_target, single, read_where, name_value, coded_name, indexed_value, indexed_target, coded_index, coded_field, coded_paren, load_or, arithmetic, concat, truth_value, binary_value, is_comparison, binary_spine, coded_binary, unary_word, unary_value, unary_jump, coded_unary, decide, logic_here, logic_jump, logic_moved, logic_value, coded_logic}
use Rattle.scheme.specs.declared.making.Piece.{Piece}
use Rattle.scheme_lines.specs.Bare.{bare_expression}
use Rattle.scheme_lines.proofs.Makers.{one_line, one_line_got, SamePart, SameAsks, bind, ◌then◌, no_part, either, either_asks, for_equal, asks_for_equal, if_so, same_answer, same_free, same_put, same_label, same_place, same_jump, same_take, same_freeing, same_constant, same_pass, same_name}
use Rattle.scheme_lines.proofs.Trees.{fold_same, literal_same, name_same, call_same, vararg_same}

-- an expression, and that expression on one line: the second makes on line 1 what the first makes, with every line 1
pub record Same (c d : Coded) : Type 0 where
  pub e : bare_expression c.e ≡ d.e
  pub to_reg : (r : ℕ) → SamePart (c.to_reg r) (d.to_reg r)
  pub jump_if : (truth : Bool) (label : ℕ) → SamePart (c.jump_if truth label) (d.jump_if truth label)
  pub spine : SamePart c.spine d.spine
  pub multi : (op : Op) (want : Want) → SamePart (c.multi op want) (d.multi op want)
  pub target : SameAsks c.target d.target

abbrev pub AllSame : List Coded → List Coded → Type 0
AllSame [] [] = Unit {0}
AllSame (c ∷ cs) (d ∷ ds) = Same c d × AllSame cs ds
AllSame cs ds = ⊥

-- ---- what is read of an expression

same_literal : {c d : Coded} → Same c d → literal c.e ≡ literal d.e
same_literal {c} s = literal_same c.e ∙ ap literal s.e

pub same_is_call : {c d : Coded} → Same c d → is_call c.e ≡ is_call d.e
same_is_call {c} s = call_same c.e ∙ ap is_call s.e

pub same_is_vararg : {c d : Coded} → Same c d → is_vararg c.e ≡ is_vararg d.e
same_is_vararg {c} s = vararg_same c.e ∙ ap is_vararg s.e

pub same_multiple : {c d : Coded} → Same c d → is_multiple c.e ≡ is_multiple d.e
same_multiple s = ap₂ (λ b d. b || d) (same_is_call s) (same_is_vararg s)

same_local : {c d : Coded} → Same c d → (m : Maker) → local_register c.e m ≡ local_register d.e (one_line m)
same_local {c} s m = ap (λ b. cond b (register_of (next_name m)) None) (name_same c.e ∙ ap is_name s.e)

-- ---- registers, operands

pub same_next : {c d : Coded} → Same c d → SamePart (next_reg c) (next_reg d)
same_next s = record { same = λ m. ap (take_registers 1) ((s.to_reg m.free).same m) }

same_in_next : {c d : Coded} → Same c d → SameAsks (in_next_reg c) (in_next_reg d)
same_in_next s = record { same = λ m. ap (λ (n : Maker). record { value = m.free; after = n }) ((same_next s).same m) }

operand_by_same : {c d : Coded} → Same c d → (o : Option ℕ) → SameAsks (operand_by o c) (operand_by o d)
operand_by_same s (Some r) = record { same = λ m. refl }
operand_by_same s None = same_in_next s

pub same_operand : {c d : Coded} → Same c d → SameAsks (operand c) (operand d)
same_operand {c} {d} s = record { same = λ m. (operand_by_same s (local_register c.e m)).same m ∙ ap (λ o. operand_by o d (one_line m)) (same_local s m) }

same_small : (k : Constant) → SameAsks (small_constant k) (small_constant k)
same_small k = record { same = λ m. refl }

rk_by_same : {c d : Coded} → Same c d → (o : Option Constant) → SameAsks (rk_by o c) (rk_by o d)
rk_by_same s (Some k) = record { same = λ m. (either_asks (is_small k m) (same_small k) (same_operand s)).same m }
rk_by_same s None = same_operand s

pub same_rk : {c d : Coded} → Same c d → SameAsks (rk c) (rk d)
same_rk {c} {d} s = asks_for_equal (λ o. rk_by o d) (same_literal s) (rk_by_same s (literal c.e))

pub same_load : (line register : ℕ) (k : Constant) → SamePart (load line register k) (load 1 register k)
same_load line register k = bind (same_constant k) (λ number. same_put line (Piece.Abx Op.LoadK register number))

pub same_next_text : (line : ℕ) (text : Text) → SamePart (next_text line text) (next_text 1 text)
same_next_text line text = record { same = λ m. ap (take_registers 1) ((same_load line m.free (Constant.Text text)).same m) }

pub same_rk_text : (line : ℕ) (text : Text) → SameAsks (rk_text line text) (rk_text 1 text)
same_rk_text line text = record { same = λ m. (either_asks (is_small (Constant.Text text) m) (same_small (Constant.Text text)) next).same m }
  where
    next : SameAsks (λ n. record { value = n.free; after = next_text line text n }) (λ n. record { value = n.free; after = next_text 1 text n })
    next = record { same = λ m. ap (λ (n : Maker). record { value = m.free; after = n }) ((same_next_text line text).same m) }

-- ---- tests

same_compare : {c d x y : Coded} (line : ℕ) (op : BinaryOp) (truth : Bool) (label : ℕ) → Same c d → Same x y → SamePart (compare line op c x truth label) (compare 1 op d y truth label)
same_compare line op truth label s t = bind (same_rk s) (λ x. bind (same_rk t) (λ y. same_put line (comparison_word op truth x y) then same_jump line label))

same_test : (c d : Coded) (line : ℕ) (truth : Bool) (label : ℕ) → SameAsks (operand c) (operand d) → SamePart (test line c truth label) (test 1 d truth label)
same_test c d line truth label s = bind s (λ x. same_put line (Piece.Abc Op.Test x 0 (truth_field truth)) then same_jump line label)

same_test_by : (c d : Coded) (o : Option Constant) (line : ℕ) (truth : Bool) (label : ℕ) → SameAsks (operand c) (operand d) → SamePart (test_by o line c truth label) (test_by o 1 d truth label)
same_test_by c d (Some k) line truth label s = if_so (beq truth (is_true_constant k)) (same_jump line label)
same_test_by c d None line truth label s = same_freeing (same_test c d line truth label s)

-- ---- kinds of expressions

abbrev alone : Expression → (ℕ → Part) → Coded
alone e to = record { e = e; to_reg = λ r. freeing (to r); jump_if = λ truth label. nothing; spine = nothing; multi = plain_multi; target = no_target }

pub same_single : (line : ℕ) (e f : Expression) (to other : ℕ → Part) → bare_expression e ≡ f → ((r : ℕ) → SamePart (to r) (other r)) → Same (single line e to) (single 1 f other)
same_single line e f to other is s =
    let value = λ (r : ℕ). same_freeing (s r) in
    let one : Same (alone e to) (alone f other) = record { e = is; to_reg = value; jump_if = λ truth label. no_part; spine = no_part; multi = λ op want. no_part; target = same_answer _ } in
    record {
      e = is;
      to_reg = value;
      jump_if = λ truth label. for_equal (λ o. test_by o 1 (alone f other) truth label) (same_literal one) (same_test_by (alone e to) (alone f other) (literal e) line truth label (same_operand one));
      spine = same_next one;
      multi = λ op want. no_part;
      target = same_answer _;
    }

-- with another of its parts
with_target : {c d : Coded} {ask other : Asks Target} → Same c d → SameAsks ask other → Same (record c { target = ask }) (record d { target = other })
with_target s t = record { e = s.e; to_reg = s.to_reg; jump_if = s.jump_if; spine = s.spine; multi = s.multi; target = t }

abbrev SameJumps : (jump other : Bool → ℕ → Part) → Type 0
SameJumps jump other = (truth : Bool) (label : ℕ) → SamePart (jump truth label) (other truth label)

with_jumps : {c d : Coded} (jump other : Bool → ℕ → Part) → Same c d → SameJumps jump other → Same (record c { jump_if = jump }) (record d { jump_if = other })
with_jumps jump other s p = record { e = s.e; to_reg = s.to_reg; jump_if = p; spine = s.spine; multi = s.multi; target = s.target }

with_spine : {c d : Coded} {spine other : Part} → Same c d → SamePart spine other → Same (record c { spine = spine }) (record d { spine = other })
with_spine s p = record { e = s.e; to_reg = s.to_reg; jump_if = s.jump_if; spine = p; multi = s.multi; target = s.target }

abbrev pub SameMulti : (multi other : Op → Want → Part) → Type 0
SameMulti multi other = (op : Op) (want : Want) → SamePart (multi op want) (other op want)

pub with_multi : {c d : Coded} (multi other : Op → Want → Part) → Same c d → SameMulti multi other → Same (record c { multi = multi }) (record d { multi = other })
with_multi multi other s p = record { e = s.e; to_reg = s.to_reg; jump_if = s.jump_if; spine = s.spine; multi = p; target = s.target }

-- ---- names, fields, parentheses

same_where : (line register : ℕ) (text : Text) (w : Where) → SamePart (read_where line register text w) (read_where 1 register text w)
same_where line r text (in_register x) = same_put line _
same_where line r text (in_upvalue slot) = same_put line _
same_where line r text in_globals = bind (same_constant (Constant.Text text)) (λ k. same_put line (Piece.Abx Op.GetGlobal r k))

abbrev name_as_target : Text → Asks Target
name_as_target text m = record { value = name_target text (next_name m); after = pass_name m }

same_name_target : (text : Text) → SameAsks (name_as_target text) (name_as_target text)
same_name_target text = record { same = λ m. refl }

pub same_coded_name : (line : ℕ) (text : Text) → Same (coded_name line text) (coded_name 1 text)
same_coded_name line text =
    with_target
    (same_single line (name_expression line text) (name_expression 1 text) (name_value line text) (name_value 1 text) refl (λ r. bind same_name (λ w. same_where line r text w)))
    (same_name_target text)

same_indexed : {on table : Coded} (line : ℕ) (key other : Asks ℕ) → Same on table → SameAsks key other → (r : ℕ) → SamePart (indexed_value line on key r) (indexed_value 1 table other r)
same_indexed line key other s k r = bind (same_operand s) (λ t. bind k (λ x. same_put line (Piece.Abc Op.GetTable r t x)))

same_is_local : {c d : Coded} → Same c d → (m : Maker) → is_local c.e m ≡ is_local d.e (one_line m)
same_is_local s m = ap is_some (same_local s m)

abbrev target_by : (on key : Got ℕ) → (on_local key_local : Bool) → Got Target
target_by on key on_local key_local = record { value = part_target on.value key.value on_local key_local; after = key.after }

same_indexed_target : {on table : Coded} (key other : Asks ℕ) (key_local other_local : Maker → Bool) → Same on table → SameAsks key other → ((m : Maker) → key_local m ≡ other_local (one_line m)) →
    SameAsks (indexed_target on key key_local) (indexed_target table other other_local)
same_indexed_target {on} {table} key other key_local other_local s k l = record {
  same = λ m.
      let t = operand on m in
      ap₂ (target_by (one_line_got t) (one_line_got (key t.after))) (same_is_local s m) (l t.after)
      ∙ ap (λ x. target_by (one_line_got t) x (is_local table.e (one_line m)) (other_local (one_line t.after))) (k.same t.after)
      ∙ ap (λ (u : Got ℕ). target_by u (other u.after) (is_local table.e (one_line m)) (other_local u.after)) ((same_operand s).same m);
}

pub same_index : {on key table other : Coded} (line : ℕ) (e f : Expression) → bare_expression e ≡ f → Same on table → Same key other →
    Same (coded_index line e on key) (coded_index 1 f table other)
same_index {on} {key} {table} {other} line e f is s k =
    with_target
    (same_single line e f (indexed_value line on (rk key)) (indexed_value 1 table (rk other)) is (same_indexed line (rk key) (rk other) s (same_rk k)))
    (same_indexed_target (rk key) (rk other) (is_local key.e) (is_local other.e) s (same_rk k) (same_is_local k))

pub same_field : {on table : Coded} (line : ℕ) (e f : Expression) (text : Text) → bare_expression e ≡ f → Same on table → Same (coded_field line e on text) (coded_field 1 f table text)
same_field {on} {table} line e f text is s =
    let key = rk_text line text in
    let other = rk_text 1 text in
    with_target
    (same_single line e f (indexed_value line on key) (indexed_value 1 table other) is (same_indexed line key other s (same_rk_text line text)))
    (same_indexed_target key other (λ m. false) (λ m. false) s (same_rk_text line text) (λ m. refl))

pub same_paren : {c d : Coded} (e f : Expression) → bare_expression e ≡ f → Same c d → Same (coded_paren e c) (coded_paren f d)
same_paren e f is s = record { e = is; to_reg = s.to_reg; jump_if = s.jump_if; spine = same_next s; multi = λ op want. no_part; target = same_answer _ }

-- ---- operators

same_load_or : (o : Option ℤ) (line : ℕ) (to other : ℕ → Part) → ((r : ℕ) → SamePart (to r) (other r)) → (r : ℕ) → SamePart (load_or o line to r) (load_or o 1 other r)
same_load_or (Some n) line to other s r = same_load line r (Constant.Number n)
same_load_or None line to other s r = s r

same_arithmetic : {left right more other : Coded} (line : ℕ) (op : Op) → Same left more → Same right other → (r : ℕ) → SamePart (arithmetic line op left right r) (arithmetic 1 op more other r)
same_arithmetic line op s t r = bind (same_rk s) (λ x. bind (same_rk t) (λ y. same_put line (Piece.Abc op r x y)))

same_concat : {left right more other : Coded} (line : ℕ) → Same left more → Same right other → (r : ℕ) → SamePart (concat line left right r) (concat 1 more other r)
same_concat line s t r = bind (same_in_next s) (λ first. t.spine then bind same_free (λ after. same_put line (Piece.Abc Op.Concat r first (after - 1))))

same_truth : {left right more other : Coded} (line : ℕ) (op : BinaryOp) → Same left more → Same right other → (r : ℕ) → SamePart (truth_value line op left right r) (truth_value 1 op more other r)
same_truth line op s t r =
    bind same_label (λ label. same_compare line op true label s t then same_put line (Piece.Abc Op.LoadBool r 0 1) then same_place label then same_put line (Piece.Abc Op.LoadBool r 1 0))

same_binary_value : {left right more other : Coded} (line : ℕ) (op : BinaryOp) → Same left more → Same right other → (r : ℕ) →
    SamePart (binary_value line op left right r) (binary_value 1 op more other r)
same_binary_value line BinaryOp.Add s t = same_arithmetic line Op.Add s t
same_binary_value line BinaryOp.Sub s t = same_arithmetic line Op.Sub s t
same_binary_value line BinaryOp.Mul s t = same_arithmetic line Op.Mul s t
same_binary_value line BinaryOp.Div s t = same_arithmetic line Op.Div s t
same_binary_value line BinaryOp.Rem s t = same_arithmetic line Op.Mod s t
same_binary_value line BinaryOp.Pow s t = same_arithmetic line Op.Pow s t
same_binary_value line BinaryOp.Concat s t = same_concat line s t
same_binary_value line op s t = same_truth line op s t

same_binary_jump : (b : Bool) (one two other more : Bool → ℕ → Part) → SameJumps one other → SameJumps two more → SameJumps (cond b one two) (cond b other more)
same_binary_jump true one two other more p q = p
same_binary_jump false one two other more p q = q

same_binary_spine : {one two other more : Part} (op : BinaryOp) → SamePart one other → SamePart two more → SamePart (binary_spine op one two) (binary_spine op other more)
same_binary_spine BinaryOp.Concat p q = p
same_binary_spine op p q = q

-- a value that is loaded where the expression is folded
same_folded : (e f : Expression) (line : ℕ) (to other : ℕ → Part) → bare_expression e ≡ f → ((r : ℕ) → SamePart (to r) (other r)) → (r : ℕ) →
    SamePart (load_or (fold e) line to r) (load_or (fold f) 1 other r)
same_folded e f line to other is s r = for_equal (λ o. load_or o 1 other r) (fold_same e ∙ ap fold is) (same_load_or (fold e) line to other s r)

pub same_binary : {left right more other : Coded} (line : ℕ) (op : BinaryOp) (e f : Expression) → bare_expression e ≡ f → Same left more → Same right other →
    Same (coded_binary line op e left right) (coded_binary 1 op f more other)
same_binary {left} {right} {more} {other} line op e f is s t =
    let value = binary_value line op left right in
    let again = binary_value 1 op more other in
    let v = same_single line e f (load_or (fold e) line value) (load_or (fold f) 1 again) is (same_folded e f line value again is (same_binary_value line op s t)) in
    with_spine
    (with_jumps _ _ v (same_binary_jump (is_comparison op) _ _ _ _ (λ truth label. same_freeing (same_compare line op truth label s t)) v.jump_if))
    (same_binary_spine op (same_next s then t.spine) v.spine)

same_unary_value : {c d : Coded} (line : ℕ) (op : UnaryOp) → Same c d → (r : ℕ) → SamePart (unary_value line op c r) (unary_value 1 op d r)
same_unary_value line op s r = bind (same_operand s) (λ x. same_put line (Piece.Abc (unary_word op) r x 0))

same_unary_jump : {c d : Coded} (op : UnaryOp) (two more : Bool → ℕ → Part) → Same c d → SameJumps two more → SameJumps (unary_jump op c two) (unary_jump op d more)
same_unary_jump UnaryOp.Not two more s q = λ truth label. s.jump_if (not truth) label
same_unary_jump UnaryOp.Neg two more s q = q
same_unary_jump UnaryOp.Len two more s q = q

pub same_unary : {c d : Coded} (line : ℕ) (op : UnaryOp) (e f : Expression) → bare_expression e ≡ f → Same c d → Same (coded_unary line op e c) (coded_unary 1 op f d)
same_unary {c} {d} line op e f is s =
    let value = unary_value line op c in
    let again = unary_value 1 op d in
    let v = same_single line e f (load_or (fold e) line value) (load_or (fold f) 1 again) is (same_folded e f line value again is (same_unary_value line op s)) in
    with_jumps _ _ v (same_unary_jump op _ _ s v.jump_if)

-- ---- `and` and `or`

same_decide : {left more : Coded} (line : ℕ) (truth : Bool) (r : ℕ) (o : Option ℕ) → Same left more → SamePart (decide line truth left r o) (decide 1 truth more r o)
same_decide line truth r (Some x) s = same_pass then same_put line (Piece.Abc Op.TestSet r x (truth_field truth))
same_decide line truth r None s = s.to_reg r then same_put line (Piece.Abc Op.Test r 0 (truth_field truth))

same_read_local : {c d : Coded} → Same c d → SameAsks (read (local_register c.e)) (read (local_register d.e))
same_read_local s = record { same = λ m. ap (λ (o : Option ℕ). record { value = o; after = one_line m }) (same_local s m) }

same_here : {left right more other : Coded} (line : ℕ) (truth : Bool) → Same left more → Same right other → (r : ℕ) → SamePart (logic_here line truth left right r) (logic_here 1 truth more other r)
same_here line truth s t r =
    bind (same_read_local s) (λ x. same_decide line truth r x s then bind same_label (λ label. same_jump line label then t.to_reg r then same_place label))

same_logic_jump : {left right more other : Coded} (decides : Bool) → Same left more → Same right other → SameJumps (logic_jump decides left right) (logic_jump decides more other)
same_logic_jump decides s t truth label =
    either (beq decides truth) (s.jump_if truth label then t.jump_if truth label)
    (bind same_label (λ over. s.jump_if (not truth) over then t.jump_if truth label then same_place over))

same_moved : {left right more other : Coded} (line : ℕ) (decides : Bool) → Same left more → Same right other → (r : ℕ) →
    SamePart (logic_moved line decides left right r) (logic_moved 1 decides more other r)
same_moved line decides s t r = record { same = λ m. (same_here line decides s t m.free then same_take 1 then same_put line (Piece.Abc Op.Move r m.free 0)).same m }

same_logic_value : {left right more other : Coded} (line : ℕ) (decides : Bool) → Same left more → Same right other → (r : ℕ) →
    SamePart (logic_value line decides left right r) (logic_value 1 decides more other r)
same_logic_value line decides s t r = record { same = λ m. (either (r == m.free) (same_here line decides s t r) (same_moved line decides s t r)).same m }

pub same_logic : {left right more other : Coded} (line : ℕ) (decides : Bool) (e f : Expression) → bare_expression e ≡ f → Same left more → Same right other →
    Same (coded_logic line decides e left right) (coded_logic 1 decides f more other)
same_logic {left} {right} {more} {other} line decides e f is s t =
    with_jumps _ _ (same_single line e f (logic_value line decides left right) (logic_value 1 decides more other) is (same_logic_value line decides s t)) (same_logic_jump decides s t)
