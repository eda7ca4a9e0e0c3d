-- What the scheme makes of an expression stands as the relation says, if what it makes of its parts does: one lemma a part.
use Rattle.std.proofs.Common.{◌≡◌, ◌<◌, ◌⊎◌, inl, inr, ℕ, suc, ◌+◌, ◌-◌, Bool, true, false, cond, not, List, [], ◌∷◌, length, get_or, refl, ap, ◌∙◌, subst, arith}
use Rattle.std.specs.Prelude.{Option, Some, None, ℤ, ◌==◌, is_some}
use Rattle.std.specs.Bool.{beq}
use Rattle.std.proofs.lemmas.Bool.{leb-true, eqb-true, eqb-false}
use Rattle.lua_num.specs.Bytes.{Text}
use Rattle.lua_tree.specs.declared.tree.BinaryOp.{BinaryOp}
use Rattle.lua_tree.specs.declared.tree.UnaryOp.{UnaryOp}
use Rattle.lua_tree.specs.Syntax.{Expression, nil_literal, vararg_expression, name_expression, field_expression}
use Rattle.opcode.specs.declared.op.Op.{Op}
use Rattle.opcode.specs.Word.{truth_field}
use Rattle.proto.specs.declared.parts.Constant.{Constant}
use Rattle.scheme.specs.Making.{◌>>◌, Maker, Part, Asks, put, place, new_label, jump_to, take_registers, free_from, freeing, constant, pass_name, next_name, Where, in_register, in_upvalue, in_globals, when}
use Rattle.scheme.specs.Expressions.{is_comparison, count_field, Want, part_target, concat, binary_spine, next_text, rk_text, indexed_value, indexed_target, Coded, next_reg, operand, operand_by, local_register, is_local, rk, rk_by, load, small_constant, is_small, literal, test, test_by, single, compare, comparison_word, read_where, name_value, coded_name, coded_index, coded_field, coded_paren, coded_binary, coded_unary, coded_logic, load_or, fold, arithmetic, truth_value, binary_value, unary_value, unary_jump, unary_word, decide, logic_here, logic_moved, logic_value, jump_both, jump_over, is_true_constant}
use Rattle.scheme.specs.Lists.{method_at, all_next, all_multi, ends_open, open_list, list_count, Given, results_at, call_at, by_base, coded_call, coded_vararg, vararg_at}
use Rattle.scheme.specs.declared.making.Piece.{Piece}
use Rattle.scheme.specs.declared.making.Active.{Active}
use Rattle.scheme_stands.specs.Words.{Spot, Stretch, Passed, WordAt, ConstantWord, JumpOn}
use Rattle.scheme_stands.specs.Expressions.{Form, form_of, several, NextAt, rel_alone, SpineAt, ConcatAt, BinarySpine, RkTextAt, IndexAt, PartTargetAt, BareAt, Rel, OperandBy, OperandAt, local_at, SmallAt, IsLarge, RkBy, RkAt, OneAt, TwoAt, TestAt, TestBy, CompareAt, NameBy, NameAt, rel_single, rel_name, rel_index, rel_field, rel_paren, ArithmeticAt, TruthAt, BinaryAt, LoadOr, BinaryJump, rel_binary, UnaryAt, UnaryJump, rel_unary, DecideBy, HereAt, LogicAt, LogicJump, rel_logic}
use Rattle.scheme_stands.specs.Lists.{MethodAt, AllNextAt, AllMultiAt, rels_open, OpenBy, OpenListAt, rels_count, GivenRel, ResultRoom, CallAt, MovedFrom, rel_call, VarargAt, rel_vararg, FirstAt}
use Rattle.scheme_stands.proofs.Growth.{length_end, calm, Grown, start, on_part, on_put, on_new, on_place, Final, before, later, unplaced, placed, spot, fn_of, resolved, put_at, constant_at, before_put, before_take, before_free, room_at}
use Rattle.scheme_stands.proofs.Large.{constant_first, large_at}
use Rattle.scheme_stands.proofs.Parts.{grows_when, grows_next, grows_rk_text, grows_all, grows_multi, grows_results, AllGrow, Grows, alone, grows_operand, grows_rk, grows_compare, grows_decide, decide_free}

module _ (z : Maker) where
  -- the value of an expression stands as its relation says
  pub record ToAt (c : Coded) (e : Rel) : Type 0 where
    pub is_form : form_of c.e ≡ e.form
    pub bare : (active : List Active) (p q : Spot) → Passed p q → e.bare active p q
    pub to_free : (r : ℕ) (m : Maker) → (c.to_reg r m).free ≡ m.free
    pub to_reg : (r : ℕ) (m : Maker) → Final (length m.labels) (c.to_reg r m) z → e.to_reg m.active m.free r (spot m) (spot (c.to_reg r m))

  -- and so do its other parts
  pub record Links (c : Coded) (e : Rel) : Type 0 where
    pub to : ToAt c e
    pub jump_if : (truth : Bool) (label : ℕ) (m : Maker) → Final (length m.labels) (c.jump_if truth label m) z → e.jump_if m.active m.free truth (get_or z.labels label 0) (spot m) (spot (c.jump_if truth label m))
    pub spine : (m : Maker) → Final (length m.labels) (c.spine m) z → e.spine m.active m.free (c.spine m).free (spot m) (spot (c.spine m))
    pub multi : (op : Op) (want : Want) (m : Maker) → Final (length m.labels) (c.multi op want m) z → e.multi m.active m.free op want (spot m) (spot (c.multi op want m))
    pub target : (m : Maker) → Final (length m.labels) (c.target m).after z → e.target m.active m.free (c.target m).value (c.target m).after.free (spot m) (spot (c.target m).after)

  -- ---- operands

  operand_by_at : (o : Option ℕ) (c : Coded) (e : Rel) → ToAt c e → (m : Maker) → Final (length m.labels) (operand_by o c m).after z →
      OperandBy o (fn_of z) m.active e m.free (operand_by o c m).value (operand_by o c m).after.free (spot m) (spot (operand_by o c m).after)
  operand_by_at (Some r) c e l m f = record { at_x = refl; at_free = refl; passed = l.bare m.active (spot m) (spot (pass_name m)) (record { pc = refl; ahead = refl; functions = refl }) }
  operand_by_at None c e l m f = record {
    room = subst (λ n. n < (fn_of z).size) (l.to_free m.free m) (room_at _ f);
    at_x = refl;
    at_free = ap (λ n. n + 1) (l.to_free m.free m);
    value_at = l.to_reg m.free m (before_take 1 _ f);
  }

  pub operand_at : (c : Coded) (e : Rel) → ToAt c e → (m : Maker) → Final (length m.labels) (operand c m).after z →
      OperandAt (fn_of z) m.active e m.free (operand c m).value (operand c m).after.free (spot m) (spot (operand c m).after)
  operand_at c e l m f =
      subst (λ x. OperandBy (local_at x m.active (spot m)) (fn_of z) m.active e m.free (operand c m).value (operand c m).after.free (spot m) (spot (operand c m).after)) l.is_form
      (operand_by_at (local_register c.e m) c e l m f)

  small_or : (b : Bool) (k : Constant) (c : Coded) (e : Rel) → ToAt c e → (m : Maker) → is_small k m ≡ b → Grown calm m (cond b (small_constant k) (operand c) m).after → Final (length m.labels) (cond b (small_constant k) (operand c) m).after z →
      SmallAt (fn_of z) k m.free (cond b (small_constant k) (operand c) m).value (cond b (small_constant k) (operand c) m).after.free (spot m) (spot (cond b (small_constant k) (operand c) m).after)
      ⊎ (IsLarge (fn_of z) k × OperandAt (fn_of z) m.active e m.free (cond b (small_constant k) (operand c) m).value (cond b (small_constant k) (operand c) m).after.free (spot m) (spot (cond b (small_constant k) (operand c) m).after))
  small_or true k c e l m h g f = inl (record {
    number = (constant k m).value;
    is = constant_at k m f;
    first = constant_first k m f;
    small = leb-true _ _ h;
    at_x = refl;
    at_free = refl;
    same = record { pc = refl; ahead = refl; functions = refl };
  })
  small_or false k c e l m h g f = inr (large_at k m h (before g f), operand_at c e l m f)

  rk_by_at : (o : Option Constant) (c : Coded) (e : Rel) → ToAt c e → (m : Maker) → Grown calm m (rk_by o c m).after → Final (length m.labels) (rk_by o c m).after z →
      RkBy o (fn_of z) m.active e m.free (rk_by o c m).value (rk_by o c m).after.free (spot m) (spot (rk_by o c m).after)
  rk_by_at (Some k) c e l m g f = small_or (is_small k m) k c e l m refl g f
  rk_by_at None c e l m g f = operand_at c e l m f

  pub rk_at : (c : Coded) (e : Rel) → Grows calm c → ToAt c e → (m : Maker) → Final (length m.labels) (rk c m).after z →
      RkAt (fn_of z) m.active e m.free (rk c m).value (rk c m).after.free (spot m) (spot (rk c m).after)
  rk_at c e g l m f =
      subst (λ x. RkBy x.literal (fn_of z) m.active e m.free (rk c m).value (rk c m).after.free (spot m) (spot (rk c m).after)) l.is_form
      (rk_by_at (literal c.e) c e l m (grows_rk c g m) f)

  -- one operand, and the words that follow it
  pub one_at : (c : Coded) (e : Rel) → ToAt c e → (m : Maker) (after : ℕ → Stretch) (q : Spot) → Final (length m.labels) (operand c m).after z →
      after (operand c m).value (spot (operand c m).after) q → OneAt (OperandAt (fn_of z) m.active e) m.free after (spot m) q
  one_at c e l m after q f w = record { x = (operand c m).value; free1 = (operand c m).after.free; mid = spot (operand c m).after; operand_at = operand_at c e l m f; words_at = w }

  -- a part that asks for an operand
  abbrev pub AsksAt : Asks ℕ → (List Active → (free x free1 : ℕ) → Stretch) → Type 0
  AsksAt one rel = (m : Maker) → Final (length m.labels) (one m).after z → rel m.active m.free (one m).value (one m).after.free (spot m) (spot (one m).after)

  -- two operands, and the words that follow them
  pub two_parts : (one other : Asks ℕ) (d e : List Active → (free x free1 : ℕ) → Stretch) → ((m : Maker) → Grown calm m (one m).after) → ((m : Maker) → Grown calm m (other m).after) → AsksAt one d → AsksAt other e →
      (m : Maker) (after : ℕ → ℕ → Stretch) (q : Spot) → Final (length m.labels) (other (one m).after).after z → after (one m).value (other (one m).after).value (spot (other (one m).after).after) q →
      TwoAt (d m.active) (e m.active) m.free after (spot m) q
  two_parts one other d e g h l r m after q f w =
      let m1 = (one m).after in
      let grown = g m in
      record {
        x = (one m).value;
        y = (other m1).value;
        free1 = m1.free;
        free2 = (other m1).after.free;
        mid = spot m1;
        last = spot (other m1).after;
        left_at = l m (before (h m1) f);
        right_at = subst (λ active. e active m1.free (other m1).value (other m1).after.free (spot m1) (spot (other m1).after)) grown.active (r m1 (later grown.more f));
        words_at = w;
      }

  pub two_at : (left right : Coded) (d e : Rel) → Grows calm left → Grows calm right → ToAt left d → ToAt right e → (m : Maker) (after : ℕ → ℕ → Stretch) (q : Spot) →
      Final (length m.labels) (rk right (rk left m).after).after z → after (rk left m).value (rk right (rk left m).after).value (spot (rk right (rk left m).after).after) q →
      TwoAt (RkAt (fn_of z) m.active d) (RkAt (fn_of z) m.active e) m.free after (spot m) q
  two_at left right d e g h l r = two_parts (rk left) (rk right) (λ a. RkAt (fn_of z) a d) (λ a. RkAt (fn_of z) a e) (grows_rk left g) (grows_rk right h) (rk_at left d g l) (rk_at right e h r)

  -- ---- words

  pub load_at : (line r : ℕ) (k : Constant) (m : Maker) → Final (length m.labels) (load line r k m) z → ConstantWord (fn_of z) Op.LoadK r k (spot m) (spot (load line r k m))
  load_at line r k m f = record { number = (constant k m).value; is = constant_at k m (before_put line _ (constant k m).after f); first = constant_first k m (before_put line _ (constant k m).after f); word = put_at line _ (constant k m).after f }

  comparison_is : (labels : List ℕ) (op : BinaryOp) (truth : Bool) (x y : ℕ) → resolved labels (comparison_word op truth x y) ≡ comparison_word op truth x y
  comparison_is labels BinaryOp.Add truth x y = refl
  comparison_is labels BinaryOp.Sub truth x y = refl
  comparison_is labels BinaryOp.Mul truth x y = refl
  comparison_is labels BinaryOp.Div truth x y = refl
  comparison_is labels BinaryOp.Rem truth x y = refl
  comparison_is labels BinaryOp.Pow truth x y = refl
  comparison_is labels BinaryOp.Concat truth x y = refl
  comparison_is labels BinaryOp.Eq truth x y = refl
  comparison_is labels BinaryOp.Ne truth x y = refl
  comparison_is labels BinaryOp.Lt truth x y = refl
  comparison_is labels BinaryOp.Le truth x y = refl
  comparison_is labels BinaryOp.Gt truth x y = refl
  comparison_is labels BinaryOp.Ge truth x y = refl

  pub compare_at : (line : ℕ) (op : BinaryOp) (left right : Coded) (d e : Rel) → Grows calm left → Grows calm right → ToAt left d → ToAt right e →
      (truth : Bool) (label : ℕ) (m : Maker) → Final (length m.labels) (compare line op left right truth label m) z →
      CompareAt (fn_of z) op d e m.active m.free truth (get_or z.labels label 0) (spot m) (spot (compare line op left right truth label m))
  compare_at line op left right d e g h l r truth label m f =
      let m1 = (rk left m).after in
      let m2 = (rk right m1).after in
      let word = comparison_word op truth (rk left m).value (rk right m1).value in
      let f3 = before_put line (Piece.Jump Op.Jmp 0 label) (put line word m2) f in
      two_at left right d e g h l r m _ _ (before_put line word m2 f3)
      (record {
        mid = spot (put line word m2);
        first_at = subst (λ w. WordAt (fn_of z) w (spot m2) (spot (put line word m2))) (comparison_is z.labels op truth (rk left m).value (rk right m1).value) (put_at line word m2 f3);
        second_at = put_at line (Piece.Jump Op.Jmp 0 label) (put line word m2) f;
      })

  test_at : (line : ℕ) (c : Coded) (e : Rel) → ToAt c e → (truth : Bool) (label : ℕ) (m : Maker) → Final (length m.labels) (test line c truth label m) z →
      TestAt (fn_of z) m.active e m.free truth (get_or z.labels label 0) (spot m) (spot (test line c truth label m))
  test_at line c e l truth label m f =
      let m1 = (operand c m).after in
      let word = Piece.Abc Op.Test (operand c m).value 0 (truth_field truth) in
      let f2 = before_put line (Piece.Jump Op.Jmp 0 label) (put line word m1) f in
      one_at c e l m _ _ (before_put line word m1 f2)
      (record { mid = spot (put line word m1); first_at = put_at line word m1 f2; second_at = put_at line (Piece.Jump Op.Jmp 0 label) (put line word m1) f })

  pub jump_on : (b : Bool) (line label : ℕ) (m : Maker) → Final (length m.labels) (when b (jump_to line label) m) z → JumpOn (fn_of z) b (get_or z.labels label 0) (spot m) (spot (when b (jump_to line label) m))
  jump_on true line label m f = put_at line (Piece.Jump Op.Jmp 0 label) m f
  jump_on false line label m f = record { pc = refl; ahead = refl; functions = refl }

  test_by_at : (o : Option Constant) (line : ℕ) (c : Coded) (e : Rel) → ToAt c e → (truth : Bool) (label : ℕ) (m : Maker) → Final (length m.labels) (test_by o line c truth label m) z →
      TestBy o (fn_of z) m.active e m.free truth (get_or z.labels label 0) (spot m) (spot (test_by o line c truth label m))
  test_by_at (Some k) line c e l truth label m f = jump_on (beq truth (is_true_constant k)) line label m f
  test_by_at None line c e l truth label m f = test_at line c e l truth label m (before_free m.free _ f)

  -- ---- kinds of expressions

  -- an expression is what its value is, tested, as an operand and as a part of a spine
  pub single_at : (line : ℕ) (e : Expression) (form : Form) (to : ℕ → Part) (rel : List Active → (free register : ℕ) → Stretch) → form_of e ≡ form →
      ((r : ℕ) (m : Maker) → Final (length m.labels) (to r m) z → rel m.active m.free r (spot m) (spot (to r m))) → Links (single line e to) (rel_single (fn_of z) form rel)
  single_at line e form to rel h l =
      let one : ToAt (alone e to) (rel_alone (fn_of z) form rel) = record { is_form = h; bare = λ active p q a. a; to_free = λ r m. refl; to_reg = λ r m f. l r m (before_free m.free (to r m) f) } in
      record {
        to = record { is_form = h; bare = λ active p q a. a; to_free = λ r m. refl; to_reg = λ r m f. l r m (before_free m.free (to r m) f) };
        jump_if = λ truth label m f. subst (λ x. TestBy x.literal (fn_of z) m.active (rel_alone (fn_of z) form rel) m.free truth (get_or z.labels label 0) (spot m) (spot (test_by (literal e) line (alone e to) truth label m))) h
            (test_by_at (literal e) line (alone e to) (rel_alone (fn_of z) form rel) one truth label m f);
        spine = λ m f. operand_by_at None (alone e to) (rel_alone (fn_of z) form rel) one m f;
        multi = λ op want m f. record { pc = refl; ahead = refl; functions = refl };
        target = λ m f. tt;
      }

  pub word_single : (line : ℕ) (e : Expression) (form : Form) (word : ℕ → Piece) → form_of e ≡ form → ((r : ℕ) → resolved z.labels (word r) ≡ word r) → Links (single line e (λ r. put line (word r))) (rel_single (fn_of z) form (λ active free r. WordAt (fn_of z) (word r)))
  word_single line e form word q h = single_at line e form (λ r. put line (word r)) _ q
      (λ r m f. subst (λ w. WordAt (fn_of z) w (spot m) (spot (put line (word r) m))) (h r) (put_at line (word r) m f))

  pub load_single : (line : ℕ) (e : Expression) (form : Form) (k : Constant) → form_of e ≡ form → Links (single line e (λ r. load line r k)) (rel_single (fn_of z) form (λ active free r. ConstantWord (fn_of z) Op.LoadK r k))
  load_single line e form k q = single_at line e form (λ r. load line r k) _ q (λ r m f. load_at line r k m f)

  name_by_at : (line r : ℕ) (text : Text) (w : Where) (m : Maker) → Final (length m.labels) (read_where line r text w m) z → NameBy (fn_of z) text w r (spot m) (spot (read_where line r text w m))
  name_by_at line r text (in_register x) m f = put_at line _ m f
  name_by_at line r text (in_upvalue slot) m f = put_at line _ m f
  name_by_at line r text in_globals m f =
      let k = constant (Constant.Text text) m in
      record { number = k.value; is = constant_at (Constant.Text text) m (before_put line (Piece.Abx Op.GetGlobal r k.value) k.after f); first = constant_first (Constant.Text text) m (before_put line (Piece.Abx Op.GetGlobal r k.value) k.after f); word = put_at line (Piece.Abx Op.GetGlobal r k.value) k.after f }

  name_at : (line : ℕ) (text : Text) (r : ℕ) (m : Maker) → Final (length m.labels) (name_value line text r m) z → NameAt (fn_of z) text m.active m.free r (spot m) (spot (name_value line text r m))
  name_at line text r m f = (tt, record { mid = spot (pass_name m); first_at = record { pc = refl; ahead = refl; functions = refl }; second_at = name_by_at line r text (next_name m) (pass_name m) f })

  pub links_name : (line : ℕ) (text : Text) → Links (coded_name line text) (rel_name (fn_of z) text)
  links_name line text =
      let l = single_at line (name_expression line text) (form_of (name_expression 0 text)) (name_value line text) (NameAt (fn_of z) text) refl (name_at line text) in
      record {
        to = record { is_form = refl; bare = λ active p q a. record { means = tt; passed = a }; to_free = λ r m. refl; to_reg = l.to.to_reg };
        jump_if = λ truth label m f.
            test_at line (alone (name_expression line text) (name_value line text)) (record (rel_alone (fn_of z) (form_of (name_expression 0 text)) (NameAt (fn_of z) text)) { bare = BareAt (fn_of z) text })
            (record { is_form = refl; bare = λ active p q a. record { means = tt; passed = a }; to_free = λ r m. refl; to_reg = λ r m f. name_at line text r m (before_free m.free (name_value line text r m) f) }) truth label m (before_free m.free _ f);
        spine = l.spine;
        multi = l.multi;
        target = λ m f. record { is = refl; means = tt; at_free = refl; passed = record { pc = refl; ahead = refl; functions = refl } };
      }

  pub links_paren : (e : Expression) (form : Form) (c : Coded) (d : Rel) → form_of e ≡ form → Links c d → Links (coded_paren e c) (rel_paren (fn_of z) form d)
  links_paren e form c d h l = record {
    to = record { is_form = h; bare = l.to.bare; to_free = l.to.to_free; to_reg = l.to.to_reg };
    jump_if = l.jump_if;
    spine = λ m f. operand_by_at None c d l.to m f;
    multi = λ op want m f. record { pc = refl; ahead = refl; functions = refl };
    target = λ m f. tt;
  }

  -- ---- operators

  load_or_at : (o : Option ℤ) (line : ℕ) (to : ℕ → Part) (rel : List Active → (free register : ℕ) → Stretch) →
      ((r : ℕ) (m : Maker) → Final (length m.labels) (to r m) z → rel m.active m.free r (spot m) (spot (to r m))) →
      (r : ℕ) (m : Maker) → Final (length m.labels) (load_or o line to r m) z → LoadOr o (fn_of z) rel m.active m.free r (spot m) (spot (load_or o line to r m))
  load_or_at (Some n) line to rel l r m f = load_at line r (Constant.Number n) m f
  load_or_at None line to rel l r m f = l r m f

  module _ (line : ℕ) (left right : Coded) (d e : Rel) (g : Grows calm left) (h : Grows calm right) (l : Links left d) (k : Links right e) where
    arithmetic_at : (op : Op) (r : ℕ) (m : Maker) → Final (length m.labels) (arithmetic line op left right r m) z → ArithmeticAt (fn_of z) op d e m.active m.free r (spot m) (spot (arithmetic line op left right r m))
    arithmetic_at op r m f =
        let m1 = (rk left m).after in
        let m2 = (rk right m1).after in
        let word = Piece.Abc op r (rk left m).value (rk right m1).value in
        two_at left right d e g h l.to k.to m _ _ (before_put line word m2 f) (put_at line word m2 f)

    truth_at : (op : BinaryOp) (r : ℕ) (m : Maker) → Final (length m.labels) (truth_value line op left right r m) z → TruthAt (fn_of z) op d e m.active m.free r (spot m) (spot (truth_value line op left right r m))
    truth_at op r m f =
        let label = length m.labels in
        let ma = (new_label m).after in
        let mb = compare line op left right true label ma in
        let no = Piece.Abc Op.LoadBool r 0 1 in
        let yes = Piece.Abc Op.LoadBool r 1 0 in
        let mc = put line no mb in
        let md = place label mc in
        let grown = grows_compare line op left right g h true label ma in
        let one : length ma.labels ≡ suc label = length_end m.labels 0 in
        let fd = before_put line yes md f in
        let fc = unplaced {n = mc} label (omega arith) fd in
        let fb = before_put line no mb fc in
        let is : get_or z.labels label 0 ≡ length mc.items = placed mc label (omega arith) (omega (arith, one, grown.more)) fd in
        record {
          mid = spot mb;
          yes = spot mc;
          compare = subst (λ l. CompareAt (fn_of z) op d e m.active m.free true l (spot m) (spot mb)) is (compare_at line op left right d e g h l.to k.to true label ma (later (omega (arith, one)) fb));
          no = put_at line no mb fc;
          load = put_at line yes md f;
        }

    pub spine_at : (m : Maker) → Final (length m.labels) (right.spine (next_reg left m)) z → SpineAt (fn_of z) d e m.active m.free (right.spine (next_reg left m)).free (spot m) (spot (right.spine (next_reg left m)))
    spine_at m f =
        let m1 = next_reg left m in
        let m2 = right.spine m1 in
        let g1 = grows_next left g m in
        let n = operand_by_at None left d l.to m (before (h.spine m1) f) in
        record {
          mid = spot m1;
          room = n.room;
          first = n.value_at;
          rest = subst (λ a. e.spine a (m.free + 1) m2.free (spot m1) (spot m2)) g1.active
              (subst (λ x. e.spine m1.active x m2.free (spot m1) (spot m2)) n.at_free (k.spine m1 (later g1.more f)));
        }

    concat_at : (r : ℕ) (m : Maker) → Final (length m.labels) (concat line left right r m) z → ConcatAt (fn_of z) d e m.active m.free r (spot m) (spot (concat line left right r m))
    concat_at r m f =
        let m2 = right.spine (next_reg left m) in
        let word = Piece.Abc Op.Concat r m.free (m2.free - 1) in
        record { free1 = m2.free; last = spot m2; operands = spine_at m (before_put line word m2 f); word = put_at line word m2 f }

    binary_spine_at : (op : BinaryOp) (of_value : Part) (v : Rel) →
        ((m : Maker) → Final (length m.labels) (of_value m) z → v.spine m.active m.free (of_value m).free (spot m) (spot (of_value m))) →
        (m : Maker) → Final (length m.labels) (binary_spine op (next_reg left >> right.spine) of_value m) z →
        BinarySpine (fn_of z) op d e v m.active m.free (binary_spine op (next_reg left >> right.spine) of_value m).free (spot m) (spot (binary_spine op (next_reg left >> right.spine) of_value m))
    binary_spine_at BinaryOp.Concat of_value v j = spine_at
    binary_spine_at op of_value v j = j

    binary_at : (op : BinaryOp) (r : ℕ) (m : Maker) → Final (length m.labels) (binary_value line op left right r m) z → BinaryAt (fn_of z) op d e m.active m.free r (spot m) (spot (binary_value line op left right r m))
    binary_at BinaryOp.Add = arithmetic_at Op.Add
    binary_at BinaryOp.Sub = arithmetic_at Op.Sub
    binary_at BinaryOp.Mul = arithmetic_at Op.Mul
    binary_at BinaryOp.Div = arithmetic_at Op.Div
    binary_at BinaryOp.Rem = arithmetic_at Op.Mod
    binary_at BinaryOp.Pow = arithmetic_at Op.Pow
    binary_at BinaryOp.Concat = concat_at
    binary_at BinaryOp.Eq = truth_at BinaryOp.Eq
    binary_at BinaryOp.Ne = truth_at BinaryOp.Ne
    binary_at BinaryOp.Lt = truth_at BinaryOp.Lt
    binary_at BinaryOp.Le = truth_at BinaryOp.Le
    binary_at BinaryOp.Gt = truth_at BinaryOp.Gt
    binary_at BinaryOp.Ge = truth_at BinaryOp.Ge

    comparison_at : (op : BinaryOp) (truth : Bool) (label : ℕ) (m : Maker) → Final (length m.labels) (freeing (compare line op left right truth label) m) z →
        CompareAt (fn_of z) op d e m.active m.free truth (get_or z.labels label 0) (spot m) (spot (compare line op left right truth label m))
    comparison_at op truth label m f = compare_at line op left right d e g h l.to k.to truth label m (before_free m.free _ f)

    binary_jump_at : (b : Bool) (op : BinaryOp) (of_value : Bool → ℕ → Part) (v : Rel) →
        ((truth : Bool) (label : ℕ) (m : Maker) → Final (length m.labels) (of_value truth label m) z → v.jump_if m.active m.free truth (get_or z.labels label 0) (spot m) (spot (of_value truth label m))) →
        (truth : Bool) (label : ℕ) (m : Maker) → Final (length m.labels) (cond b (λ truth label. freeing (compare line op left right truth label)) of_value truth label m) z →
        BinaryJump b (fn_of z) op d e v m.active m.free truth (get_or z.labels label 0) (spot m) (spot (cond b (λ truth label. freeing (compare line op left right truth label)) of_value truth label m))
    binary_jump_at true op of_value v j = comparison_at op
    binary_jump_at false op of_value v j = j

    pub links_binary : (op : BinaryOp) (x : Expression) → Links (coded_binary line op x left right) (rel_binary (fn_of z) op x d e)
    links_binary op x =
        let s = single_at line x (form_of x) (load_or (fold x) line (binary_value line op left right)) (LoadOr (fold x) (fn_of z) (BinaryAt (fn_of z) op d e)) refl (load_or_at (fold x) line _ _ (binary_at op)) in
        record { to = record { is_form = refl; bare = λ active p q a. a; to_free = λ r m. refl; to_reg = s.to.to_reg }; jump_if = binary_jump_at (is_comparison op) op _ _ s.jump_if; spine = binary_spine_at op _ _ s.spine; multi = s.multi; target = λ m f. tt }

    -- ---- and, or

    decide_at : (truth : Bool) (o : Option ℕ) (r : ℕ) (m : Maker) → Final (length m.labels) (decide line truth left r o m) z → DecideBy o (fn_of z) truth d m.active m.free r (spot m) (spot (decide line truth left r o m))
    decide_at truth (Some x) r m f = record { mid = spot (pass_name m); first_at = l.to.bare m.active (spot m) (spot (pass_name m)) (record { pc = refl; ahead = refl; functions = refl }); second_at = put_at line _ (pass_name m) f }
    decide_at truth None r m f = record { mid = spot (left.to_reg r m); first_at = l.to.to_reg r m (before_put line _ (left.to_reg r m) f); second_at = put_at line _ (left.to_reg r m) f }

    here_at : (truth : Bool) (r : ℕ) (m : Maker) → Final (length m.labels) (logic_here line truth left right r m) z → HereAt (fn_of z) truth d e m.active m.free r (spot m) (spot (logic_here line truth left right r m))
    here_at truth r m f =
        let o = local_register left.e m in
        let m1 = decide line truth left r o m in
        let label = length m1.labels in
        let m2 = (new_label m1).after in
        let jump = Piece.Jump Op.Jmp 0 label in
        let m3 = put line jump m2 in
        let m4 = right.to_reg r m3 in
        let first = grows_decide line truth left g r o m in
        let second = h.to_reg r m3 in
        let one : length m2.labels ≡ suc label = length_end m1.labels 0 in
        let is : get_or z.labels label 0 ≡ length m4.items = placed m4 label first.more (omega (arith, one, second.more)) f in
        let f4 = unplaced {n = m4} label first.more f in
        let f3 = before second f4 in
        let f1 : Final (length m.labels) m1 z = before (on_place {n = m4} label (omega arith) (on_part second (on_put line jump (on_new (start {v = calm} m1))))) f in
        record {
          mid = spot m1;
          on = spot m3;
          decide = subst (λ x. DecideBy (local_at x m.active (spot m)) (fn_of z) truth d m.active m.free r (spot m) (spot m1)) l.to.is_form (decide_at truth o r m f1);
          jump = subst (λ p. WordAt (fn_of z) (Piece.Jump Op.Jmp 0 p) (spot m1) (spot m3)) is (put_at line jump m2 f3);
          second = subst (λ a. e.to_reg a m.free r (spot m3) (spot m4)) first.active
              (subst (λ n. e.to_reg m1.active n r (spot m3) (spot m4)) (decide_free line truth left g r o m) (k.to.to_reg r m3 (later (omega (arith, one)) f4)));
        }

    logic_at : (truth : Bool) (r : ℕ) (m : Maker) (b : Bool) → (r == m.free) ≡ b →
        Final (length m.labels) (cond b (logic_here line truth left right r) (logic_moved line truth left right r) m) z →
        LogicAt (fn_of z) truth d e m.active m.free r (spot m) (spot (cond b (logic_here line truth left right r) (logic_moved line truth left right r) m))
    logic_at truth r m true q f = inl (eqb-true _ _ q, here_at truth r m f)
    logic_at truth r m false q f =
        let m1 = logic_here line truth left right m.free m in
        let m2 = take_registers 1 m1 in
        let word = Piece.Abc Op.Move r m.free 0 in
        let f2 = before_put line word m2 f in
        let same : m1.free ≡ m.free = h.to_free m.free _ ∙ decide_free line truth left g m.free (local_register left.e m) m in
        inr (record {
          room = subst (λ n. n < (fn_of z).size) same (room_at m1 f2);
          value = record { mid = spot m1; first_at = here_at truth m.free m (before_take 1 m1 f2); second_at = put_at line word m2 f };
        })

    logic_jump_at : (b truth : Bool) (label : ℕ) (m : Maker) → Final (length m.labels) (cond b (jump_both truth left right label) (jump_over truth left right label) m) z →
        LogicJump b d e m.active m.free truth (get_or z.labels label 0) (spot m) (spot (cond b (jump_both truth left right label) (jump_over truth left right label) m))
    logic_jump_at true truth label m f =
        let m1 = left.jump_if truth label m in
        let m2 = right.jump_if truth label m1 in
        let first = g.jump_if truth label m in
        let p = get_or z.labels label 0 in
        record {
          mid = spot m1;
          first_at = l.jump_if truth label m (before (h.jump_if truth label m1) f);
          second_at = subst (λ a. e.jump_if a m.free truth p (spot m1) (spot m2)) first.active
              (subst (λ n. e.jump_if m1.active n truth p (spot m1) (spot m2)) (g.jump_free truth label m) (k.jump_if truth label m1 (later first.more f)));
        }
    logic_jump_at false truth label m f =
        let over = length m.labels in
        let m0 = (new_label m).after in
        let m1 = left.jump_if (not truth) over m0 in
        let m2 = right.jump_if truth label m1 in
        let first = g.jump_if (not truth) over m0 in
        let second = h.jump_if truth label m1 in
        let one : length m0.labels ≡ suc over = length_end m.labels 0 in
        let is : get_or z.labels over 0 ≡ length m2.items = placed m2 over (omega arith) (omega (arith, one, first.more, second.more)) f in
        let f2 = unplaced {n = m2} over (omega arith) f in
        let p = get_or z.labels label 0 in
        record {
          mid = spot m1;
          first_at = subst (λ q. d.jump_if m.active m.free (not truth) q (spot m) (spot m1)) is (l.jump_if (not truth) over m0 (before second (later (omega (arith, one)) f2)));
          second_at = subst (λ a. e.jump_if a m.free truth p (spot m1) (spot m2)) first.active
              (subst (λ n. e.jump_if m1.active n truth p (spot m1) (spot m2)) (g.jump_free (not truth) over m0) (k.jump_if truth label m1 (later (omega (arith, one, first.more)) f2)));
        }

    pub links_logic : (decides : Bool) (x : Expression) (form : Form) → form_of x ≡ form → Links (coded_logic line decides x left right) (rel_logic (fn_of z) decides form d e)
    links_logic decides x form q =
        let s = single_at line x form (logic_value line decides left right) (LogicAt (fn_of z) decides d e) q (λ r m f. logic_at decides r m (r == m.free) refl f) in record {
          spine = s.spine;
          multi = s.multi;
          to = record { is_form = q; bare = λ active p q a. a; to_free = λ r m. refl; to_reg = λ r m f. logic_at decides r m (r == m.free) refl (before_free m.free _ f) };
          jump_if = λ truth label m f. logic_jump_at (beq decides truth) truth label m f;
          target = λ m f. tt;
        }

  unary_at : (line : ℕ) (op : UnaryOp) (c : Coded) (e : Rel) → ToAt c e → (r : ℕ) (m : Maker) → Final (length m.labels) (unary_value line op c r m) z → UnaryAt (fn_of z) op e m.active m.free r (spot m) (spot (unary_value line op c r m))
  unary_at line op c e l r m f =
      let m1 = (operand c m).after in
      let word = Piece.Abc (unary_word op) r (operand c m).value 0 in
      one_at c e l m _ _ (before_put line word m1 f) (put_at line word m1 f)

  unary_jump_at : (op : UnaryOp) (c : Coded) (e : Rel) (of_value : Bool → ℕ → Part) (v : Rel) → Links c e →
      ((truth : Bool) (label : ℕ) (m : Maker) → Final (length m.labels) (of_value truth label m) z → v.jump_if m.active m.free truth (get_or z.labels label 0) (spot m) (spot (of_value truth label m))) →
      (truth : Bool) (label : ℕ) (m : Maker) → Final (length m.labels) (unary_jump op c of_value truth label m) z →
      UnaryJump op e v m.active m.free truth (get_or z.labels label 0) (spot m) (spot (unary_jump op c of_value truth label m))
  unary_jump_at UnaryOp.Not c e of_value v l j = λ truth label m f. l.jump_if (not truth) label m f
  unary_jump_at UnaryOp.Neg c e of_value v l j = j
  unary_jump_at UnaryOp.Len c e of_value v l j = j

  pub links_unary : (line : ℕ) (op : UnaryOp) (x : Expression) (c : Coded) (e : Rel) → Links c e → Links (coded_unary line op x c) (rel_unary (fn_of z) op x e)
  links_unary line op x c e l =
      let s = single_at line x (form_of x) (load_or (fold x) line (unary_value line op c)) (LoadOr (fold x) (fn_of z) (UnaryAt (fn_of z) op e)) refl (load_or_at (fold x) line _ _ (unary_at line op c e l.to)) in
      record { to = record { is_form = refl; bare = λ active p q a. a; to_free = λ r m. refl; to_reg = s.to.to_reg }; jump_if = unary_jump_at op c e _ _ l s.jump_if; spine = s.spine; multi = s.multi; target = λ m f. tt }

  -- ---- indexing

  text_or : (b : Bool) (line : ℕ) (text : Text) (m : Maker) → is_small (Constant.Text text) m ≡ b → Grown calm m (cond b (small_constant (Constant.Text text)) (λ n. record { value = n.free; after = next_text line text n }) m).after → Final (length m.labels) (cond b (small_constant (Constant.Text text)) (λ n. record { value = n.free; after = next_text line text n }) m).after z →
      RkTextAt (fn_of z) text m.free (cond b (small_constant (Constant.Text text)) (λ n. record { value = n.free; after = next_text line text n }) m).value (cond b (small_constant (Constant.Text text)) (λ n. record { value = n.free; after = next_text line text n }) m).after.free
      (spot m) (spot (cond b (small_constant (Constant.Text text)) (λ n. record { value = n.free; after = next_text line text n }) m).after)
  text_or true line text m h g f = inl (record {
    number = (constant (Constant.Text text) m).value;
    is = constant_at (Constant.Text text) m f;
    first = constant_first (Constant.Text text) m f;
    small = leb-true _ _ h;
    at_x = refl;
    at_free = refl;
    same = record { pc = refl; ahead = refl; functions = refl };
  })
  text_or false line text m h g f = inr (
    large_at (Constant.Text text) m h (before g f),
    record {
      room = room_at (load line m.free (Constant.Text text) m) f;
      at_x = refl;
      at_free = refl;
      value_at = load_at line m.free (Constant.Text text) m (before_take 1 (load line m.free (Constant.Text text) m) f);
    },
  )

  pub rk_text_at : (line : ℕ) (text : Text) → AsksAt (rk_text line text) (λ active. RkTextAt (fn_of z) text)
  rk_text_at line text m f = text_or (is_small (Constant.Text text) m) line text m refl (grows_rk_text line text m) f

  index_at : (line : ℕ) (on : Coded) (d : Rel) (key : Asks ℕ) (e : List Active → (free x free1 : ℕ) → Stretch) → Grows calm on → ToAt on d → ((m : Maker) → Grown calm m (key m).after) → AsksAt key e →
      (r : ℕ) (m : Maker) → Final (length m.labels) (indexed_value line on key r m) z → IndexAt (fn_of z) d e m.active m.free r (spot m) (spot (indexed_value line on key r m))
  index_at line on d key e g l h k r m f =
      let m1 = (operand on m).after in
      let m2 = (key m1).after in
      let word = Piece.Abc Op.GetTable r (operand on m).value (key m1).value in
      two_parts (operand on) key (λ a. OperandAt (fn_of z) a d) e (grows_operand on g) h (operand_at on d l) k m _ _ (before_put line word m2 f) (put_at line word m2 f)

  index_target_at : (on : Coded) (d : Rel) (key : Asks ℕ) (key_local : Maker → Bool) (e : List Active → (free x free1 : ℕ) → Stretch) (e_local : List Active → Spot → Bool) → Grows calm on → ToAt on d → ((m : Maker) → Grown calm m (key m).after) → AsksAt key e → ((m : Maker) → key_local m ≡ e_local m.active (spot m)) →
      (m : Maker) → Final (length m.labels) (indexed_target on key key_local m).after z → PartTargetAt (fn_of z) d e e_local m.active m.free (indexed_target on key key_local m).value (indexed_target on key key_local m).after.free (spot m) (spot (indexed_target on key key_local m).after)
  index_target_at on d key key_local e e_local g l h k same m f =
      let m1 = (operand on m).after in
      let m2 = (key m1).after in
      let t = (operand on m).value in
      let i = (key m1).value in
      let g1 = grows_operand on g m in
      record {
        t = t;
        k = i;
        free1 = m1.free;
        mid = spot m1;
        is = ap (λ x. part_target t i (is_some (local_at x m.active (spot m))) (key_local m1)) l.is_form
            ∙ ap (λ b. part_target t i (is_some (local_at d.form m.active (spot m))) b) (same m1)
            ∙ ap (λ a. part_target t i (is_some (local_at d.form m.active (spot m))) (e_local a (spot m1))) g1.active;
        on_at = operand_at on d l m (before (h m1) f);
        key_at = subst (λ active. e active m1.free i m2.free (spot m1) (spot m2)) g1.active (k m1 (later g1.more f));
      }

  pub links_index : (line : ℕ) (x : Expression) (form : Form) (on key : Coded) (d e : Rel) → form_of x ≡ form → Grows calm on → Grows calm key → ToAt on d → ToAt key e → Links (coded_index line x on key) (rel_index (fn_of z) form d e)
  links_index line x form on key d e q g h l k =
      let s = single_at line x form (indexed_value line on (rk key)) (IndexAt (fn_of z) d (λ a. RkAt (fn_of z) a e)) q (index_at line on d (rk key) (λ a. RkAt (fn_of z) a e) g l (grows_rk key h) (rk_at key e h k)) in
      record {
        to = record { is_form = q; bare = λ active p q a. a; to_free = λ r m. refl; to_reg = s.to.to_reg };
        jump_if = s.jump_if;
        spine = s.spine;
        multi = s.multi;
        target = index_target_at on d (rk key) (is_local key.e) (λ a. RkAt (fn_of z) a e) (λ active p. is_some (local_at e.form active p)) g l (grows_rk key h) (rk_at key e h k) (λ m. ap (λ x. is_some (local_at x m.active (spot m))) k.is_form);
      }

  pub links_field : (line : ℕ) (x : Expression) (on : Coded) (d : Rel) (text : Text) → form_of x ≡ form_of (field_expression 0 (nil_literal 0) text) → Grows calm on → ToAt on d → Links (coded_field line x on text) (rel_field (fn_of z) d text)
  links_field line x on d text q g l =
      let s = single_at line x (form_of (field_expression 0 (nil_literal 0) text)) (indexed_value line on (rk_text line text)) (IndexAt (fn_of z) d (λ a. RkTextAt (fn_of z) text)) q (index_at line on d (rk_text line text) (λ a. RkTextAt (fn_of z) text) g l (grows_rk_text line text) (rk_text_at line text)) in
      record {
        to = record { is_form = q; bare = λ active p q a. a; to_free = λ r m. refl; to_reg = s.to.to_reg };
        jump_if = s.jump_if;
        spine = s.spine;
        multi = s.multi;
        target = index_target_at on d (rk_text line text) (λ m. false) (λ a. RkTextAt (fn_of z) text) (λ active p. false) g l (grows_rk_text line text) (rk_text_at line text) (λ m. refl);
      }

  -- ---- several values

  results_at_word : (base : ℕ) (want : Want) (line : ℕ) (op : Op) (a b c : ℕ) (m : Maker) {k : ℕ} → Final k (results_at base want (put line (Piece.Abc op a b c) m)) z →
      WordAt (fn_of z) (Piece.Abc op a b c) (spot m) (spot (results_at base want (put line (Piece.Abc op a b c) m))) × ResultRoom (fn_of z) base want
  results_at_word base None line op a b c m f =
      let h = f.high in
      (put_at line (Piece.Abc op a b c) m (before (grows_results {v = calm} base None (put line (Piece.Abc op a b c) m)) f), omega (arith, h))
  results_at_word base (Some n) line op a b c m f =
      let h = f.high in
      (put_at line (Piece.Abc op a b c) m (before (grows_results {v = calm} base (Some n) (put line (Piece.Abc op a b c) m)) f), omega (arith, h))

  -- the words before a value's results
  before_results : (base : ℕ) (want : Want) (line : ℕ) (word : Piece) (m : Maker) {k : ℕ} → Final k (results_at base want (put line word m)) z → Final k m z
  before_results base want line word m f = before_put line word m (before (grows_results {v = calm} base want (put line word m)) f)

  vararg_multi : (line : ℕ) (op : Op) (want : Want) (m : Maker) → Final (length m.labels) (vararg_at line op want m) z → VarargAt (fn_of z) m.active m.free op want (spot m) (spot (vararg_at line op want m))
  vararg_multi line op want m f = let w = results_at_word m.free want line Op.Vararg m.free (count_field 1 want) 0 m f in record { word = w.0; results = w.1 }

  pub next_at : (c : Coded) (e : Rel) → ToAt c e → (m : Maker) → Final (length m.labels) (next_reg c m) z → NextAt (fn_of z) (e.to_reg m.active m.free m.free) m.free m.free (next_reg c m).free (spot m) (spot (next_reg c m))
  next_at c e l m f = operand_by_at None c e l m f

  -- the parts of each expression of a list
  abbrev pub AllLinks : List Coded → List Rel → Type 0
  AllLinks [] [] = Unit {0}
  AllLinks [] (e ∷ es) = ⊥
  AllLinks (c ∷ cs) [] = ⊥
  AllLinks (c ∷ cs) (e ∷ es) = Links c e × Grows calm c × AllLinks cs es

  pub all_grow : (cs : List Coded) (es : List Rel) → AllLinks cs es → AllGrow calm cs
  all_grow [] [] l = tt
  all_grow [] (e ∷ es) l = absurd l
  all_grow (c ∷ cs) [] l = absurd l
  all_grow (c ∷ cs) (e ∷ es) l = (l.1, all_grow cs es l.2)

  pub first_at : (c : Coded) (e : Rel) → Links c e → Grows calm c → (rest : Part) (rel : List Active → ℕ → Stretch) → ((m : Maker) → Grown calm m (rest m)) →
      ((m : Maker) → Final (length m.labels) (rest m) z → rel m.active m.free (spot m) (spot (rest m))) →
      (m : Maker) → Final (length m.labels) (rest (next_reg c m)) z → FirstAt (fn_of z) e m.active m.free (rel m.active (m.free + 1)) (spot m) (spot (rest (next_reg c m)))
  first_at c e l g rest rel h k m f =
      let m1 = next_reg c m in
      let g1 = grows_next c g m in
      let n = next_at c e l.to m (before (h m1) f) in
      record {
        mid = spot m1;
        room = n.room;
        first = n.value_at;
        others = subst (λ a. rel a (m.free + 1) (spot m1) (spot (rest m1))) g1.active (subst (λ x. rel m1.active x (spot m1) (spot (rest m1))) n.at_free (k m1 (later g1.more f)));
      }

  pub all_next_at : (cs : List Coded) (es : List Rel) → AllLinks cs es → (m : Maker) → Final (length m.labels) (all_next cs m) z → AllNextAt (fn_of z) es m.active m.free (spot m) (spot (all_next cs m))
  all_next_at [] [] l m f = record { pc = refl; ahead = refl; functions = refl }
  all_next_at [] (e ∷ es) l m f = absurd l
  all_next_at (c ∷ cs) [] l m f = absurd l
  all_next_at (c ∷ cs) (e ∷ es) l m f = first_at c e l.0 l.1 (all_next cs) (AllNextAt (fn_of z) es) (grows_all cs (all_grow cs es l.2)) (all_next_at cs es l.2) m f

  pub all_multi_at : (op : Op) (want : Want) (cs : List Coded) (es : List Rel) → AllLinks cs es → (m : Maker) → Final (length m.labels) (all_multi op want cs m) z → AllMultiAt (fn_of z) op want es m.active m.free (spot m) (spot (all_multi op want cs m))
  all_multi_at op want [] [] l m f = record { pc = refl; ahead = refl; functions = refl }
  all_multi_at op want [] (e ∷ es) l m f = absurd l
  all_multi_at op want (c ∷ cs) [] l m f = absurd l
  all_multi_at op want (c ∷ []) (e ∷ []) l m f = l.0.multi op want m f
  all_multi_at op want (c ∷ []) (e ∷ d ∷ es) l m f = absurd l.2
  all_multi_at op want (c ∷ b ∷ cs) (e ∷ []) l m f = absurd l.2
  all_multi_at op want (c ∷ b ∷ cs) (e ∷ d ∷ es) l m f =
      first_at c e l.0 l.1 (all_multi op want (b ∷ cs)) (AllMultiAt (fn_of z) op want (d ∷ es)) (grows_multi op want (b ∷ cs) (all_grow (b ∷ cs) (d ∷ es) l.2)) (all_multi_at op want (b ∷ cs) (d ∷ es) l.2) m f

  pub opens_same : (cs : List Coded) (es : List Rel) → AllLinks cs es → ends_open cs ≡ rels_open es
  opens_same [] [] l = refl
  opens_same [] (e ∷ es) l = absurd l
  opens_same (c ∷ cs) [] l = absurd l
  opens_same (c ∷ []) (e ∷ []) l = ap several l.0.to.is_form
  opens_same (c ∷ []) (e ∷ d ∷ es) l = absurd l.2
  opens_same (c ∷ b ∷ cs) (e ∷ []) l = absurd l.2
  opens_same (c ∷ b ∷ cs) (e ∷ d ∷ es) l = opens_same (b ∷ cs) (d ∷ es) l.2

  pub lengths_same : (cs : List Coded) (es : List Rel) → AllLinks cs es → length cs ≡ length es
  lengths_same [] [] l = refl
  lengths_same [] (e ∷ es) l = absurd l
  lengths_same (c ∷ cs) [] l = absurd l
  lengths_same (c ∷ cs) (e ∷ es) l = ap suc (lengths_same cs es l.2)

  pub count_same : (cs : List Coded) (es : List Rel) → AllLinks cs es → list_count cs ≡ rels_count es
  count_same cs es l = ap (λ b. cond b None (Some (length cs))) (opens_same cs es l) ∙ ap (λ n. cond (rels_open es) None (Some n)) (lengths_same cs es l)

  open_by_at : (b : Bool) (cs : List Coded) (es : List Rel) → AllLinks cs es → (m : Maker) → Final (length m.labels) (cond b (all_multi Op.Call None cs) (all_next cs) m) z →
      OpenBy b (fn_of z) es m.active m.free (spot m) (spot (cond b (all_multi Op.Call None cs) (all_next cs) m))
  open_by_at true cs es l m f = all_multi_at Op.Call None cs es l m f
  open_by_at false cs es l m f = all_next_at cs es l m f

  pub open_list_at : (cs : List Coded) (es : List Rel) → AllLinks cs es → (m : Maker) → Final (length m.labels) (open_list cs m) z → OpenListAt (fn_of z) es m.active m.free (spot m) (spot (open_list cs m))
  open_list_at cs es l m f = subst (λ b. OpenBy b (fn_of z) es m.active m.free (spot m) (spot (open_list cs m))) (opens_same cs es l) (open_by_at (ends_open cs) cs es l m f)

  -- ---- calls

  pub record GivenLinks (given : Given) (rel : GivenRel) : Type 0 where
    pub grows : (m : Maker) → Grown calm m (given.part m)
    pub count_is : given.count ≡ rel.count
    pub part_at : (m : Maker) → Final (length m.labels) (given.part m) z → rel.part m.active m.free (spot m) (spot (given.part m))

  pub call_at_link : (line : ℕ) (on : Coded) (d : Rel) (given : Given) (rel : GivenRel) → Grows calm on → Links on d → GivenLinks given rel → (op : Op) (want : Want) (m : Maker) → Final (length m.labels) (call_at line on given op want m) z →
      CallAt (fn_of z) d rel m.active m.free op want (spot m) (spot (call_at line on given op want m))
  call_at_link line on d given rel g l k op want m f =
      let m1 = next_reg on m in
      let m2 = given.part m1 in
      let word = Piece.Abc op m.free (count_field 1 given.count) (count_field 1 want) in
      let g1 = grows_next on g m in
      let f2 = before_results m.free want line word m2 f in
      let n = next_at on d l.to m (before (k.grows m1) f2) in
      let w = results_at_word m.free want line op m.free (count_field 1 given.count) (count_field 1 want) m2 f in
      record {
        mid = spot m1;
        last = spot m2;
        room = n.room;
        on_at = n.value_at;
        given_at = subst (λ a. rel.part a (m.free + 1) (spot m1) (spot m2)) g1.active (subst (λ x. rel.part m1.active x (spot m1) (spot m2)) n.at_free (k.part_at m1 (later g1.more f2)));
        word = subst (λ c. WordAt (fn_of z) (Piece.Abc op m.free (count_field 1 c) (count_field 1 want)) (spot m2) (spot (call_at line on given op want m))) k.count_is w.0;
        results = w.1;
      }

  pub method_at_link : (line : ℕ) (on : Coded) (d : Rel) (text : Text) (given : Given) (rel : GivenRel) → Grows calm on → Links on d → GivenLinks given rel → (op : Op) (want : Want) (m : Maker) → Final (length m.labels) (method_at line on text given op want m) z →
      MethodAt (fn_of z) d text rel m.active m.free op want (spot m) (spot (method_at line on text given op want m))
  method_at_link line on d text given rel g l k op want m f =
      let x = (operand on m).value in
      let m1 = (operand on m).after in
      let m2 = take_registers 2 (free_from m.free m1) in
      let y = (rk_text line text m2).value in
      let m3 = (rk_text line text m2).after in
      let self = Piece.Abc Op.Self_ m.free x y in
      let m4 = put line self m3 in
      let m5 = free_from (m.free + 2) m4 in
      let m6 = given.part m5 in
      let word = Piece.Abc op m.free (count_field 2 given.count) (count_field 1 want) in
      let g1 = grows_operand on g m in
      let g3 = grows_rk_text {v = calm} line text m2 in
      let g6 = k.grows m5 in
      let f6 = before_results m.free want line word m6 f in
      let f4 = before_free (m.free + 2) m4 (before g6 f6) in
      let f3 = before_put line self m3 f4 in
      let f2 = before g3 f3 in
      let high = f2.high in
      let w = results_at_word m.free want line op m.free (count_field 2 given.count) (count_field 1 want) m6 f in
      let a3 : m3.active ≡ m.active = g3.active ∙ g1.active in
      record {
        x = x;
        free1 = m1.free;
        y = y;
        free2 = m3.free;
        mid = spot m1;
        named = spot m3;
        begun = spot m4;
        last = spot m6;
        room = omega (arith, high);
        on_at = operand_at on d l.to m (before_free m.free m1 (before_take 2 (free_from m.free m1) f2));
        name_at = rk_text_at line text m2 (later g1.more f3);
        self_at = put_at line self m3 f4;
        given_at = subst (λ a. rel.part a (m.free + 2) (spot m4) (spot m6)) a3 (k.part_at m5 (later (omega (arith, g1.more, g3.more)) f6));
        word = subst (λ c. WordAt (fn_of z) (Piece.Abc op m.free (count_field 2 c) (count_field 1 want)) (spot m6) (spot (method_at line on text given op want m))) k.count_is w.0;
        results = w.1;
      }

  moved_at : (b : Bool) (line base r : ℕ) (m m1 : Maker) (part : Stretch) → (base == r) ≡ b → part (spot m) (spot m1) → Final (length m1.labels) (when (not b) (put line (Piece.Abc Op.Move r base 0)) m1) z →
      MovedFrom (fn_of z) part base r (spot m) (spot (when (not b) (put line (Piece.Abc Op.Move r base 0)) m1))
  moved_at true line base r m m1 part h l f = inl (eqb-true _ _ h, l)
  moved_at false line base r m m1 part h l f = inr (λ same. let no = eqb-false base r h in no same, record { mid = spot m1; first_at = l; second_at = put_at line (Piece.Abc Op.Move r base 0) m1 f })

  pub by_base_at : (line : ℕ) (one : Part) (rel : List Active → (free : ℕ) → Stretch) → ((m : Maker) → Grown calm m (one m)) → ((m : Maker) → Final (length m.labels) (one m) z → rel m.active m.free (spot m) (spot (one m))) →
      (r : ℕ) (m : Maker) → Final (length m.labels) (by_base line one r m) z → MovedFrom (fn_of z) (rel m.active m.free) m.free r (spot m) (spot (by_base line one r m))
  by_base_at line one rel g l r m f =
      let m1 = one m in
      let move = put line (Piece.Abc Op.Move r m.free 0) in
      let b = m.free == r in
      let grown : Grown calm m1 (when (not b) move m1) = grows_when (not b) move m1 (on_put line (Piece.Abc Op.Move r m.free 0) (start m1)) in
      let g1 = g m in
      moved_at b line m.free r m m1 (rel m.active m.free) refl (l m (before grown f)) (later g1.more f)

  pub links_call : (line : ℕ) (x : Expression) (form : Form) (at_part : Op → Want → Part) (rel : List Active → (free : ℕ) → Op → Want → Stretch) → form_of x ≡ form → ((op : Op) (want : Want) (m : Maker) → Grown calm m (at_part op want m)) →
      ((op : Op) (want : Want) (m : Maker) → Final (length m.labels) (at_part op want m) z → rel m.active m.free op want (spot m) (spot (at_part op want m))) → Links (coded_call line x at_part) (rel_call (fn_of z) form rel)
  links_call line x form at_part rel q g l =
      let to = by_base line (at_part Op.Call (Some 1)) in
      let s = single_at line x form to (λ active free r. MovedFrom (fn_of z) (rel active free Op.Call (Some 1)) free r) q (by_base_at line (at_part Op.Call (Some 1)) (λ active free. rel active free Op.Call (Some 1)) (g Op.Call (Some 1)) (l Op.Call (Some 1))) in
      record { to = record { is_form = q; bare = λ active p q a. a; to_free = λ r m. refl; to_reg = s.to.to_reg }; jump_if = s.jump_if; spine = s.spine; multi = l; target = λ m f. tt }

  pub links_vararg : (line : ℕ) → Links (coded_vararg line) (rel_vararg (fn_of z))
  links_vararg line =
      let s = word_single line (vararg_expression line) (form_of (vararg_expression 0)) (λ r. Piece.Abc Op.Vararg r 2 0) refl (λ r. refl) in
      record { to = record { is_form = refl; bare = λ active p q a. a; to_free = λ r m. refl; to_reg = s.to.to_reg }; jump_if = s.jump_if; spine = s.spine; multi = vararg_multi line; target = λ m f. tt }
