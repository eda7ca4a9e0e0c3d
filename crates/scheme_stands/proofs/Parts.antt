-- Every part keeps what is made: one chain of its steps each.
use Rattle.std.proofs.Common.{◌≡◌, ℕ, suc, ◌+◌, ◌-◌, Bool, true, false, cond, not, List, [], ◌∷◌, length, refl, sym, ◌∙◌, true≢false, arith}
use Rattle.std.specs.Prelude.{Option, Some, None, ℤ, nat_lt, nat_le, ◌==◌, ◌&&◌, ◌/◌}
use Rattle.lua_tree.specs.declared.tree.BinaryOp.{BinaryOp}
use Rattle.lua_tree.specs.declared.tree.UnaryOp.{UnaryOp}
use Rattle.lua_tree.specs.Scoping.{Use}
use Rattle.std.specs.Bool.{beq}
use Rattle.lua_num.specs.Bytes.{Text}
use Rattle.lua_tree.specs.Syntax.{Expression, FunctionBody, Expressions, no_expressions, Fields, no_fields, positional, named, keyed, Arguments, argument_list, text_argument, table_argument, nil_literal, true_literal, false_literal, vararg_expression, number_literal, text_literal, name_expression, function_expression, index_expression, field_expression, call_expression, method_call, and_expression, or_expression, binary_expression, unary_expression, constructor, parenthesized}
use Rattle.lua_tree.specs.Syntax as syntax
use Rattle.opcode.specs.declared.op.Op.{Op}
use Rattle.scheme.specs.Making.{Maker, Part, Asks, put, freeing, next_name, Where, in_register, in_upvalue, in_globals, when, jump_to}
use Rattle.scheme.specs.Expressions.{Coded, is_multiple, Want, next_reg, operand, operand_by, local_register, rk, rk_by, rk_text, next_text, load, small_constant, is_small, literal, test, test_by, single, compare, no_target, plain_multi, read_where, name_value, coded_name, coded_index, coded_field, coded_paren, coded_binary, coded_unary, coded_logic, indexed_value, load_or, fold, arithmetic, concat, truth_value, binary_value, binary_spine, unary_value, unary_jump, decide, logic_here, logic_value, jump_both, jump_over, is_comparison, is_true_constant}
use Rattle.scheme.specs.Lists.{all_next, all_multi, ends_open, open_list, Given, results_at, call_at, method_at, by_base, coded_call, coded_vararg, Entry, positional_entry, named_entry, keyed_entry, set_list, small_block, large_block, keyed_item, entries_from, table_at, coded_table, is_last}
use Rattle.scheme.specs.Functions.{Inner, closure, further_words, next_sources, source_names, without_sources, coded_function}
use Rattle.scheme.specs.Scheme.{coded, all_coded, given, entries, inner}
use Rattle.proto.specs.declared.parts.Constant.{Constant}
use Rattle.scheme.specs.declared.making.Piece.{Piece}
use Rattle.scheme_stands.proofs.Growth.{Mode, Grown, start, on_part, on_put, on_new, on_take, on_used, on_free, on_pass, on_constant, on_place, function_step}

-- ---- choices

pub grows_cond : {v : Mode} (b : Bool) (one other : Part) (m : Maker) → Grown v m (one m) → Grown v m (other m) → Grown v m (cond b one other m)
grows_cond true one other m g h = g
grows_cond false one other m g h = h

pub asks_cond : {v : Mode} {A : Type 0} (b : Bool) (one other : Asks A) (m : Maker) → Grown v m (one m).after → Grown v m (other m).after → Grown v m (cond b one other m).after
asks_cond true one other m g h = g
asks_cond false one other m g h = h

pub grows_when : {v : Mode} (b : Bool) (part : Part) (m : Maker) → Grown v m (part m) → Grown v m (when b part m)
grows_when true part m g = g
grows_when false part m g = start m

-- ---- expressions

-- all parts of an expression keep what is made, and its value and jumps also keep F
pub record Grows (v : Mode) (c : Coded) : Type 0 where
  pub to_reg : (r : ℕ) (m : Maker) → Grown v m (c.to_reg r m)
  pub jump_if : (truth : Bool) (label : ℕ) (m : Maker) → Grown v m (c.jump_if truth label m)
  pub spine : (m : Maker) → Grown v m (c.spine m)
  pub multi : (op : Op) (want : Want) (m : Maker) → Grown v m (c.multi op want m)
  pub target : (m : Maker) → Grown v m (c.target m).after
  pub to_free : (r : ℕ) (m : Maker) → (c.to_reg r m).free ≡ m.free
  pub jump_free : (truth : Bool) (label : ℕ) (m : Maker) → (c.jump_if truth label m).free ≡ m.free
  pub multi_free : is_multiple c.e ≡ true → (op : Op) (n : ℕ) (m : Maker) → (c.multi op (Some n) m).free ≡ m.free + n

abbrev pub AllGrow : Mode → List Coded → Type 0
AllGrow v [] = Unit {0}
AllGrow v (c ∷ cs) = Grows v c × AllGrow v cs

abbrev pub EntryGrows : Mode → Entry → Type 0
EntryGrows v (positional_entry c) = Grows v c
EntryGrows v (named_entry text c) = Grows v c
EntryGrows v (keyed_entry key c) = Grows v key × Grows v c

abbrev pub EntriesGrow : Mode → List Entry → Type 0
EntriesGrow v [] = Unit {0}
EntriesGrow v (one ∷ others) = EntryGrows v one × EntriesGrow v others

when_free : (b : Bool) (line label : ℕ) (m : Maker) → (when b (jump_to line label) m).free ≡ m.free
when_free true line label m = refl
when_free false line label m = refl

test_free : (o : Option Constant) (line : ℕ) (c : Coded) (truth : Bool) (label : ℕ) (m : Maker) → (test_by o line c truth label m).free ≡ m.free
test_free (Some k) line c truth label m = when_free (beq truth (is_true_constant k)) line label m
test_free None line c truth label m = refl

binary_jump_free : (b : Bool) (of_comparison of_value : Bool → ℕ → Part) → ((t : Bool) (l : ℕ) (m : Maker) → (of_comparison t l m).free ≡ m.free) → ((t : Bool) (l : ℕ) (m : Maker) → (of_value t l m).free ≡ m.free) → (t : Bool) (l : ℕ) (m : Maker) → (cond b of_comparison of_value t l m).free ≡ m.free
binary_jump_free true a b g h = g
binary_jump_free false a b g h = h

neither : {A : Type 0} (b : Bool) → b ≡ false → b ≡ true → A
neither b h k = absurd (true≢false (sym k ∙ h))

-- an expression by its value alone
abbrev pub alone : Expression → (ℕ → Part) → Coded
alone e to = record { e = e; to_reg = λ r. freeing (to r); jump_if = λ truth label m. m; spine = λ m. m; multi = plain_multi; target = no_target }

module _ {v : Mode} where
  pub grows_next : (c : Coded) → Grows v c → (m : Maker) → Grown v m (next_reg c m)
  grows_next c g m = on_take 1 (g.to_reg m.free m)

  operand_by_grows : (o : Option ℕ) (c : Coded) → ((m : Maker) → Grown v m (next_reg c m)) → (m : Maker) → Grown v m (operand_by o c m).after
  operand_by_grows (Some r) c g m = on_pass (start m)
  operand_by_grows None c g m = g m

  pub grows_operand : (c : Coded) → Grows v c → (m : Maker) → Grown v m (operand c m).after
  grows_operand c g m = operand_by_grows (local_register c.e m) c (grows_next c g) m

  grows_rk_by : (o : Option Constant) (c : Coded) → Grows v c → (m : Maker) → Grown v m (rk_by o c m).after
  grows_rk_by (Some k) c g m = asks_cond (is_small k m) (small_constant k) (operand c) m (on_constant k (start m)) (grows_operand c g m)
  grows_rk_by None c g m = grows_operand c g m

  pub grows_rk : (c : Coded) → Grows v c → (m : Maker) → Grown v m (rk c m).after
  grows_rk c g m = grows_rk_by (literal c.e) c g m

  pub grows_load : (line r : ℕ) (k : Constant) (m : Maker) → Grown v m (load line r k m)
  grows_load line r k m = on_put _ _ (on_constant k (start m))

  pub grows_next_text : (line : ℕ) (text : Text) (m : Maker) → Grown v m (next_text line text m)
  grows_next_text line text m = on_take 1 (grows_load line m.free (Constant.Text text) m)

  pub grows_rk_text : (line : ℕ) (text : Text) (m : Maker) → Grown v m (rk_text line text m).after
  grows_rk_text line text m = asks_cond (is_small (Constant.Text text) m) (small_constant (Constant.Text text)) _ m (on_constant (Constant.Text text) (start m)) (grows_next_text line text m)

  grows_test : (line : ℕ) (c : Coded) → ((m : Maker) → Grown v m (next_reg c m)) → (truth : Bool) (label : ℕ) (m : Maker) → Grown v m (test line c truth label m)
  grows_test line c g truth label m = on_put _ _ (on_put _ _ (operand_by_grows (local_register c.e m) c g m))

  grows_test_by : (o : Option Constant) (line : ℕ) (c : Coded) → ((m : Maker) → Grown v m (next_reg c m)) → (truth : Bool) (label : ℕ) (m : Maker) → Grown v m (test_by o line c truth label m)
  grows_test_by (Some k) line c g truth label m = grows_when (beq truth (is_true_constant k)) (jump_to line label) m (on_put _ _ (start m))
  grows_test_by None line c g truth label m = on_free m.free (grows_test line c g truth label m)

  pub grows_single : (line : ℕ) (e : Expression) (to : ℕ → Part) → is_multiple e ≡ false → ((r : ℕ) (m : Maker) → Grown v m (to r m)) → Grows v (single line e to)
  grows_single line e to o g = record {
    to_reg = λ r m. on_free m.free (g r m);
    jump_if = λ truth label m. grows_test_by (literal e) line (alone e to) (λ m. on_take 1 (on_free m.free (g m.free m))) truth label m;
    spine = λ m. on_take 1 (on_free m.free (g m.free m));
    multi = λ op want m. start m;
    target = λ m. start m;
    to_free = λ r m. refl;
    jump_free = λ truth label m. test_free (literal e) line (alone e to) truth label m;
    multi_free = λ k op n m. neither (is_multiple e) o k;
  }

  grows_where : (line r : ℕ) (text : Text) (w : Where) (m : Maker) → Grown v m (read_where line r text w m)
  grows_where line r text (in_register x) m = on_put _ _ (start m)
  grows_where line r text (in_upvalue slot) m = on_put _ _ (start m)
  grows_where line r text in_globals m = on_put _ _ (on_constant (Constant.Text text) (start m))

  pub grows_name_value : (line : ℕ) (text : Text) (r : ℕ) (m : Maker) → Grown v m (name_value line text r m)
  grows_name_value line text r m = on_part (grows_where line r text (next_name m) _) (on_pass (start m))

  pub grows_name : (line : ℕ) (text : Text) → Grows v (coded_name line text)
  grows_name line text =
      let g = grows_single line (name_expression line text) (name_value line text) refl (grows_name_value line text) in
      record { to_reg = g.to_reg; jump_if = g.jump_if; spine = g.spine; multi = g.multi; target = λ m. on_pass (start m); to_free = g.to_free; jump_free = g.jump_free; multi_free = g.multi_free }

  pub grows_paren : (e : Expression) (c : Coded) → is_multiple e ≡ false → Grows v c → Grows v (coded_paren e c)
  grows_paren e c o g = record { to_reg = g.to_reg; jump_if = g.jump_if; spine = λ m. on_take 1 (g.to_reg m.free m); multi = λ op want m. start m; target = λ m. start m; to_free = g.to_free; jump_free = g.jump_free; multi_free = λ k op n m. neither (is_multiple e) o k }

  pub grows_indexed : (line : ℕ) (on : Coded) (key : Asks ℕ) → Grows v on → ((m : Maker) → Grown v m (key m).after) → (r : ℕ) (m : Maker) → Grown v m (indexed_value line on key r m)
  grows_indexed line on key g h r m = on_put _ _ (on_part (h _) (grows_operand on g m))

  pub grows_index : (line : ℕ) (e : Expression) (on key : Coded) → is_multiple e ≡ false → Grows v on → Grows v key → Grows v (coded_index line e on key)
  grows_index line e on key o g h =
      let s = grows_single line e (indexed_value line on (rk key)) o (grows_indexed line on (rk key) g (grows_rk key h)) in
      record { to_reg = s.to_reg; jump_if = s.jump_if; spine = s.spine; multi = s.multi; target = λ m. on_part (grows_rk key h _) (grows_operand on g m); to_free = s.to_free; jump_free = s.jump_free; multi_free = s.multi_free }

  pub grows_field : (line : ℕ) (e : Expression) (on : Coded) (text : Text) → is_multiple e ≡ false → Grows v on → Grows v (coded_field line e on text)
  grows_field line e on text o g =
      let s = grows_single line e (indexed_value line on (rk_text line text)) o (grows_indexed line on (rk_text line text) g (grows_rk_text line text)) in
      record { to_reg = s.to_reg; jump_if = s.jump_if; spine = s.spine; multi = s.multi; target = λ m. on_part (grows_rk_text line text _) (grows_operand on g m); to_free = s.to_free; jump_free = s.jump_free; multi_free = s.multi_free }

  -- ---- operators

  pub grows_load_or : (o : Option ℤ) (line : ℕ) (to : ℕ → Part) → ((r : ℕ) (m : Maker) → Grown v m (to r m)) → (r : ℕ) (m : Maker) → Grown v m (load_or o line to r m)
  grows_load_or (Some n) line to g r m = grows_load line r (Constant.Number n) m
  grows_load_or None line to g r m = g r m

  pub grows_compare : (line : ℕ) (op : BinaryOp) (left right : Coded) → Grows v left → Grows v right → (truth : Bool) (label : ℕ) (m : Maker) → Grown v m (compare line op left right truth label m)
  grows_compare line op left right g h truth label m = on_put _ _ (on_put _ _ (on_part (grows_rk right h _) (grows_rk left g m)))

  pub grows_arithmetic : (line : ℕ) (op : Op) (left right : Coded) → Grows v left → Grows v right → (r : ℕ) (m : Maker) → Grown v m (arithmetic line op left right r m)
  grows_arithmetic line op left right g h r m = on_put _ _ (on_part (grows_rk right h _) (grows_rk left g m))

  grows_concat : (line : ℕ) (left right : Coded) → Grows v left → Grows v right → (r : ℕ) (m : Maker) → Grown v m (concat line left right r m)
  grows_concat line left right g h r m = on_put _ _ (on_part (h.spine _) (grows_next left g m))

  pub grows_truth : (line : ℕ) (op : BinaryOp) (left right : Coded) → Grows v left → Grows v right → (r : ℕ) (m : Maker) → Grown v m (truth_value line op left right r m)
  grows_truth line op left right g h r m =
      on_put _ _ (on_place (length m.labels) (omega arith) (on_put _ _ (on_part (grows_compare line op left right g h true (length m.labels) _) (on_new (start m)))))

  pub grows_binary_value : (line : ℕ) (op : BinaryOp) (left right : Coded) → Grows v left → Grows v right → (r : ℕ) (m : Maker) → Grown v m (binary_value line op left right r m)
  grows_binary_value line BinaryOp.Add left right g h = grows_arithmetic line Op.Add left right g h
  grows_binary_value line BinaryOp.Sub left right g h = grows_arithmetic line Op.Sub left right g h
  grows_binary_value line BinaryOp.Mul left right g h = grows_arithmetic line Op.Mul left right g h
  grows_binary_value line BinaryOp.Div left right g h = grows_arithmetic line Op.Div left right g h
  grows_binary_value line BinaryOp.Rem left right g h = grows_arithmetic line Op.Mod left right g h
  grows_binary_value line BinaryOp.Pow left right g h = grows_arithmetic line Op.Pow left right g h
  grows_binary_value line BinaryOp.Concat left right g h = grows_concat line left right g h
  grows_binary_value line op left right g h = grows_truth line op left right g h

  pub grows_binary_jump : (b : Bool) (of_comparison of_value : Bool → ℕ → Part) → ((t : Bool) (l : ℕ) (m : Maker) → Grown v m (of_comparison t l m)) → ((t : Bool) (l : ℕ) (m : Maker) → Grown v m (of_value t l m)) → (t : Bool) (l : ℕ) (m : Maker) → Grown v m (cond b of_comparison of_value t l m)
  grows_binary_jump true a b g h = g
  grows_binary_jump false a b g h = h

  grows_binary_spine : (op : BinaryOp) (of_concat of_value : Part) → ((m : Maker) → Grown v m (of_concat m)) → ((m : Maker) → Grown v m (of_value m)) → (m : Maker) → Grown v m (binary_spine op of_concat of_value m)
  grows_binary_spine BinaryOp.Concat a b g h = g
  grows_binary_spine op a b g h = h

  pub grows_binary : (line : ℕ) (op : BinaryOp) (e : Expression) (left right : Coded) → is_multiple e ≡ false → Grows v left → Grows v right → Grows v (coded_binary line op e left right)
  grows_binary line op e left right o g h =
      let s = grows_single line e (load_or (fold e) line (binary_value line op left right)) o (grows_load_or (fold e) line _ (grows_binary_value line op left right g h)) in
      record {
        to_reg = s.to_reg;
        jump_if = grows_binary_jump (is_comparison op) _ _ (λ t l m. on_free m.free (grows_compare line op left right g h t l m)) s.jump_if;
        spine = grows_binary_spine op _ _ (λ m. on_part (h.spine _) (grows_next left g m)) s.spine;
        multi = s.multi;
        target = s.target;
        to_free = s.to_free;
        jump_free = binary_jump_free (is_comparison op) _ _ (λ t l m. refl) s.jump_free;
        multi_free = s.multi_free;
      }

  pub grows_unary_value : (line : ℕ) (op : UnaryOp) (c : Coded) → Grows v c → (r : ℕ) (m : Maker) → Grown v m (unary_value line op c r m)
  grows_unary_value line op c g r m = on_put _ _ (grows_operand c g m)

  pub grows_unary_jump : (op : UnaryOp) (c : Coded) (of_value : Bool → ℕ → Part) → Grows v c → ((t : Bool) (l : ℕ) (m : Maker) → Grown v m (of_value t l m)) → (t : Bool) (l : ℕ) (m : Maker) → Grown v m (unary_jump op c of_value t l m)
  grows_unary_jump UnaryOp.Not c a g h = λ t l m. g.jump_if (not t) l m
  grows_unary_jump UnaryOp.Neg c a g h = h
  grows_unary_jump UnaryOp.Len c a g h = h

  unary_jump_free : (op : UnaryOp) (c : Coded) (of_value : Bool → ℕ → Part) → Grows v c → ((t : Bool) (l : ℕ) (m : Maker) → (of_value t l m).free ≡ m.free) → (t : Bool) (l : ℕ) (m : Maker) → (unary_jump op c of_value t l m).free ≡ m.free
  unary_jump_free UnaryOp.Not c a g h = λ t l m. g.jump_free (not t) l m
  unary_jump_free UnaryOp.Neg c a g h = h
  unary_jump_free UnaryOp.Len c a g h = h

  pub grows_unary : (line : ℕ) (op : UnaryOp) (e : Expression) (c : Coded) → is_multiple e ≡ false → Grows v c → Grows v (coded_unary line op e c)
  grows_unary line op e c o g =
      let s = grows_single line e (load_or (fold e) line (unary_value line op c)) o (grows_load_or (fold e) line _ (grows_unary_value line op c g)) in
      record {
        to_reg = s.to_reg;
        jump_if = grows_unary_jump op c _ g s.jump_if;
        spine = s.spine;
        multi = s.multi;
        target = s.target;
        to_free = s.to_free;
        jump_free = unary_jump_free op c _ g s.jump_free;
        multi_free = s.multi_free;
      }

  pub grows_decide : (line : ℕ) (truth : Bool) (left : Coded) → Grows v left → (r : ℕ) (o : Option ℕ) (m : Maker) → Grown v m (decide line truth left r o m)
  grows_decide line truth left g r (Some x) m = on_put _ _ (on_pass (start m))
  grows_decide line truth left g r None m = on_put _ _ (g.to_reg r m)

  pub decide_free : (line : ℕ) (truth : Bool) (left : Coded) → Grows v left → (r : ℕ) (o : Option ℕ) (m : Maker) → (decide line truth left r o m).free ≡ m.free
  decide_free line truth left g r (Some x) m = refl
  decide_free line truth left g r None m = g.to_free r m

  pub grows_here : (line : ℕ) (truth : Bool) (left right : Coded) → Grows v left → Grows v right → (r : ℕ) (m : Maker) → Grown v m (logic_here line truth left right r m)
  grows_here line truth left right g h r m =
      let d = grows_decide line truth left g r (local_register left.e m) m in
      on_place _ d.more (on_part (h.to_reg r _) (on_put _ _ (on_new d)))

  pub grows_logic_value : (line : ℕ) (decides : Bool) (left right : Coded) → Grows v left → Grows v right → (r : ℕ) (m : Maker) → Grown v m (logic_value line decides left right r m)
  grows_logic_value line decides left right g h r m =
      grows_cond (r == m.free) _ _ m (grows_here line decides left right g h r m) (on_put _ _ (on_take 1 (grows_here line decides left right g h m.free m)))

  pub grows_over : (truth : Bool) (left right : Coded) → Grows v left → Grows v right → (label : ℕ) (m : Maker) → Grown v m (jump_over truth left right label m)
  grows_over truth left right g h label m =
      on_place (length m.labels) (omega arith) (on_part (h.jump_if truth label _) (on_part (g.jump_if (not truth) (length m.labels) _) (on_new (start m))))

  pub grows_logic_jump : (b : Bool) (left right : Coded) → Grows v left → Grows v right → (truth : Bool) (label : ℕ) (m : Maker) → Grown v m (cond b (jump_both truth left right label) (jump_over truth left right label) m)
  grows_logic_jump true left right g h truth label m = on_part (h.jump_if truth label _) (g.jump_if truth label m)
  grows_logic_jump false left right g h truth label m = grows_over truth left right g h label m

  logic_jump_free : (b : Bool) (left right : Coded) → Grows v left → Grows v right → (truth : Bool) (label : ℕ) (m : Maker) → (cond b (jump_both truth left right label) (jump_over truth left right label) m).free ≡ m.free
  logic_jump_free true left right g h truth label m = h.jump_free truth label _ ∙ g.jump_free truth label m
  logic_jump_free false left right g h truth label m = h.jump_free truth label _ ∙ g.jump_free (not truth) (length m.labels) _

  pub grows_logic : (line : ℕ) (decides : Bool) (e : Expression) (left right : Coded) → is_multiple e ≡ false → Grows v left → Grows v right → Grows v (coded_logic line decides e left right)
  grows_logic line decides e left right o g h =
      let s = grows_single line e (logic_value line decides left right) o (grows_logic_value line decides left right g h) in
      record {
        to_reg = s.to_reg;
        spine = s.spine;
        multi = s.multi;
        target = s.target;
        to_free = s.to_free;
        multi_free = s.multi_free;
        jump_if = λ truth label m. grows_logic_jump (beq decides truth) left right g h truth label m;
        jump_free = λ truth label m. logic_jump_free (beq decides truth) left right g h truth label m;
      }

  -- ---- lists

  pub grows_all : (cs : List Coded) → AllGrow v cs → (m : Maker) → Grown v m (all_next cs m)
  grows_all [] g m = start m
  grows_all (c ∷ cs) g m = on_part (grows_all cs g.1 _) (grows_next c g.0 m)

  pub grows_multi : (op : Op) (want : Want) (cs : List Coded) → AllGrow v cs → (m : Maker) → Grown v m (all_multi op want cs m)
  grows_multi op want [] g m = start m
  grows_multi op want (c ∷ []) g m = g.0.multi op want m
  grows_multi op want (c ∷ d ∷ cs) g m = on_part (grows_multi op want (d ∷ cs) g.1 _) (grows_next c g.0 m)

  pub grows_open : (cs : List Coded) → AllGrow v cs → (m : Maker) → Grown v m (open_list cs m)
  grows_open cs g m = grows_cond (ends_open cs) _ _ m (grows_multi Op.Call None cs g m) (grows_all cs g m)

  pub grows_results : (base : ℕ) (want : Want) (m : Maker) → Grown v m (results_at base want m)
  grows_results base None m = on_used _ (on_free base (start m))
  grows_results base (Some n) m = on_take n (on_free base (start m))

  pub grows_call_at : (line : ℕ) (on : Coded) (given : Given) → Grows v on → ((m : Maker) → Grown v m (given.part m)) → (op : Op) (want : Want) (m : Maker) → Grown v m (call_at line on given op want m)
  grows_call_at line on given g h op want m = on_part (grows_results m.free want _) (on_put _ _ (on_part (h _) (grows_next on g m)))

  pub grows_method_at : (line : ℕ) (on : Coded) (text : Text) (given : Given) → Grows v on → ((m : Maker) → Grown v m (given.part m)) → (op : Op) (want : Want) (m : Maker) → Grown v m (method_at line on text given op want m)
  grows_method_at line on text given g h op want m =
      on_part (grows_results m.free want _) (on_put _ _ (on_part (h _) (on_free (m.free + 2) (on_put _ _ (on_part (grows_rk_text line text _) (on_take 2 (on_free m.free (grows_operand on g m))))))))

  pub grows_by_base : (line : ℕ) (at_base : Part) → ((m : Maker) → Grown v m (at_base m)) → (r : ℕ) (m : Maker) → Grown v m (by_base line at_base r m)
  grows_by_base line at_base g r m = on_part (grows_when (not (m.free == r)) (put line (Piece.Abc Op.Move r m.free 0)) (at_base m) (on_put _ _ (start (at_base m)))) (g m)

  pub grows_call : (line : ℕ) (e : Expression) (at : Op → Want → Part) → ((op : Op) (want : Want) (m : Maker) → Grown v m (at op want m)) → ((op : Op) (n : ℕ) (m : Maker) → (at op (Some n) m).free ≡ m.free + n) → Grows v (coded_call line e at)
  grows_call line e at g h =
      let to = by_base line (at Op.Call (Some 1)) in
      let t = grows_by_base line (at Op.Call (Some 1)) (g Op.Call (Some 1)) in
      record {
        to_reg = λ r m. on_free m.free (t r m);
        jump_if = λ truth label m. grows_test_by (literal e) line (alone e to) (λ m. on_take 1 (on_free m.free (t m.free m))) truth label m;
        spine = λ m. on_take 1 (on_free m.free (t m.free m));
        multi = g;
        target = λ m. start m;
        to_free = λ r m. refl;
        jump_free = λ truth label m. test_free (literal e) line (alone e to) truth label m;
        multi_free = λ k. h;
      }

  pub grows_vararg : (line : ℕ) → Grows v (coded_vararg line)
  grows_vararg line =
      let to = λ (r : ℕ). put line (Piece.Abc Op.Vararg r 2 0) in
      record {
        to_reg = λ r m. on_free m.free (on_put _ _ (start m));
        jump_if = λ truth label m. grows_test_by None line (alone (vararg_expression line) to) (λ m. on_take 1 (on_free m.free (on_put _ _ (start m)))) truth label m;
        spine = λ m. on_take 1 (on_free m.free (on_put _ _ (start m)));
        multi = λ op want m. on_part (grows_results m.free want _) (on_put _ _ (start m));
        target = λ m. start m;
        to_free = λ r m. refl;
        jump_free = λ truth label m. test_free None line (alone (vararg_expression line) to) truth label m;
        multi_free = λ k op n m. refl;
      }

  -- ---- constructors

  pub grows_set_list : (line t n done : ℕ) (m : Maker) → Grown v m (set_list line t n done m)
  grows_set_list line t n done m = let block = (done - 1) / 50 + 1 in on_free (t + 1) (grows_cond (nat_le block 511) (small_block line t n block) (large_block line t n block) m (on_put _ _ (start m)) (on_put _ _ (on_put _ _ (start m))))

  grows_keyed : (line t : ℕ) (key : Asks ℕ) (c : Coded) → ((m : Maker) → Grown v m (key m).after) → Grows v c → (m : Maker) → Grown v m (freeing (keyed_item line t key c) m)
  grows_keyed line t key c g h m = on_free m.free (on_put _ _ (on_part (grows_rk c h _) (g m)))

  pub grows_entries : (line t done pending : ℕ) (entries : List Entry) → EntriesGrow v entries → (m : Maker) → Grown v m (entries_from line t done pending entries m)
  grows_entries line t done pending [] g m = grows_when (nat_lt 0 pending) (set_list line t pending done) m (grows_set_list line t pending done m)
  grows_entries line t done pending (positional_entry c ∷ entries) g m =
      grows_cond (is_last entries && is_multiple c.e) _ _ m
      (on_part (grows_set_list line t 0 (suc done) _) (g.0.multi Op.Call None m))
      (on_part (grows_entries line t (suc done) _ entries g.1 _) (on_part (grows_when (suc pending == 50) (set_list line t 50 (suc done)) (next_reg c m) (grows_set_list line t 50 (suc done) (next_reg c m))) (grows_next c g.0 m)))
  grows_entries line t done pending (named_entry text c ∷ entries) g m = on_part (grows_entries line t done pending entries g.1 _) (grows_keyed line t (rk_text line text) c (grows_rk_text line text) g.0 m)
  grows_entries line t done pending (keyed_entry key c ∷ entries) g m = on_part (grows_entries line t done pending entries g.1 _) (grows_keyed line t (rk key) c (grows_rk key g.0.0) g.0.1 m)

  pub grows_table_at : (line : ℕ) (entries : List Entry) → EntriesGrow v entries → (m : Maker) → Grown v m (table_at line entries m)
  grows_table_at line entries g m = on_free (m.free + 1) (on_part (grows_entries line m.free 0 0 entries g _) (on_take 1 (on_put _ _ (start m))))

  pub grows_table : (line : ℕ) (fields : Fields) (entries : List Entry) → EntriesGrow v entries → Grows v (coded_table line fields entries)
  grows_table line fields entries g = grows_single line (constructor line fields) (by_base line (table_at line entries)) refl (grows_by_base line _ (grows_table_at line entries g))

  -- ---- functions

  pub grows_further : (line : ℕ) (uses : List Use) (m : Maker) → Grown v m (further_words line uses m)
  grows_further line [] m = start m
  grows_further line (one ∷ uses) m = on_part (grows_further line uses _) (on_put _ _ (start m))

  pub grows_closure : (line : ℕ) (inner : Inner) (r : ℕ) (m : Maker) → Grown v m (closure line inner r m)
  grows_closure line inner r m = on_part (grows_further line (next_sources m) _) (on_put line (Piece.Abx Op.Closure r (length m.functions)) (function_step (inner (source_names m (next_sources m)) (without_sources m.ahead)) m))

  pub grows_function : (line : ℕ) (body : FunctionBody) (inner : Inner) → Grows v (coded_function line body inner)
  grows_function line body inner = grows_single line (function_expression line body) (closure line inner) refl (grows_closure line inner)

-- ---- every expression

mutual
  pub grows : (v : Mode) (e : Expression) → Grows v (coded e)
  grows v (nil_literal line) = grows_single line (nil_literal line) _ refl (λ r m. on_put _ _ (start m))
  grows v (true_literal line) = grows_single line (true_literal line) _ refl (λ r m. on_put _ _ (start m))
  grows v (false_literal line) = grows_single line (false_literal line) _ refl (λ r m. on_put _ _ (start m))
  grows v (vararg_expression line) = grows_vararg line
  grows v (number_literal line n) = grows_single line (number_literal line n) _ refl (λ r m. grows_load line r (Constant.Number n) m)
  grows v (text_literal line text) = grows_single line (text_literal line text) _ refl (λ r m. grows_load line r (Constant.Text text) m)
  grows v (name_expression line text) = grows_name line text
  grows v (function_expression line body) = grows_function line body (inner body false)
  grows v (index_expression line on key) = grows_index line (index_expression line on key) (coded on) (coded key) refl (grows v on) (grows v key)
  grows v (field_expression line on text) = grows_field line (field_expression line on text) (coded on) text refl (grows v on)
  grows v (call_expression line on args on_line) = grows_call line (call_expression line on args on_line) _ (grows_call_at line (coded on) (given args line) (grows v on) (grows_given v args line)) (λ op n m. refl)
  grows v (method_call line on text args on_line) = grows_call line (method_call line on text args on_line) _ (grows_method_at line (coded on) text (given args line) (grows v on) (grows_given v args line)) (λ op n m. refl)
  grows v (and_expression line left right) = grows_logic line false (and_expression line left right) (coded left) (coded right) refl (grows v left) (grows v right)
  grows v (or_expression line left right) = grows_logic line true (or_expression line left right) (coded left) (coded right) refl (grows v left) (grows v right)
  grows v (binary_expression line op left right) = grows_binary line op (binary_expression line op left right) (coded left) (coded right) refl (grows v left) (grows v right)
  grows v (unary_expression line op e) = grows_unary line op (unary_expression line op e) (coded e) refl (grows v e)
  grows v (constructor line fields) = grows_table line fields (entries fields) (grow_entries v fields)
  grows v (parenthesized line e) = grows_paren (parenthesized line e) (coded e) refl (grows v e)

  pub grows_given : (v : Mode) (args : Arguments) (line : ℕ) (m : Maker) → Grown v m ((given args line).part m)
  grows_given v (argument_list es) line m = grows_open (all_coded es) (grow_all v es) m
  grows_given v (text_argument text) line m = grows_next_text line text m
  grows_given v (table_argument fields) line m = grows_table_at line (entries fields) (grow_entries v fields) m

  pub grow_all : (v : Mode) (es : Expressions) → AllGrow v (all_coded es)
  grow_all v no_expressions = tt
  grow_all v (syntax.expression e rest) = (grows v e, grow_all v rest)

  pub grow_entries : (v : Mode) (fields : Fields) → EntriesGrow v (entries fields)
  grow_entries v no_fields = tt
  grow_entries v (positional e separator rest) = (grows v e, grow_entries v rest)
  grow_entries v (named text e separator rest) = (grows v e, grow_entries v rest)
  grow_entries v (keyed key e separator rest) = ((grows v key, grows v e), grow_entries v rest)
