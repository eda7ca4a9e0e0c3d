-- The words of each kind of expression capture what the marks of its parts do.
use Rattle.std.proofs.Common.{◌≡◌, inl, inr, ℕ, ◌+◌, Bool, true, false, cond, not, List, Option, Some, None, refl, sym, ◌∙◌, true≢false}
use Rattle.std.specs.Prelude.{ℤ}
use Rattle.lua_num.specs.Bytes.{Text}
use Rattle.lua_tree.specs.Outline as outline
use Rattle.lua_tree.specs.Outline.{Mark, Place, both, expression_part, mentions, nothing}
use Rattle.lua_tree.specs.Syntax.{Expression, nil_literal, true_literal, false_literal, vararg_expression, text_literal, name_expression, index_expression, field_expression, binary_expression, parenthesized}
use Rattle.lua_tree.specs.declared.tree.BinaryOp.{BinaryOp}
use Rattle.lua_tree.specs.declared.tree.UnaryOp.{UnaryOp}
use Rattle.opcode.specs.declared.op.Op.{Op}
use Rattle.proto.specs.declared.parts.Constant.{Constant}
use Rattle.recover_expr.specs.Situation.{Function}
use Rattle.scheme.specs.Expressions.{Target, Want, comparison_word, fold, is_comparison, is_name, literal, number_or, plain_literal, register_of, unary_word}
use Rattle.scheme.specs.Making.{Where, in_globals, in_register, in_upvalue}
use Rattle.scheme.specs.declared.making.Active.{Active}
use Rattle.scheme.specs.declared.making.Piece.{Piece}
use Rattle.scheme_stands.specs.Expressions.{ArithmeticAt, BareAt, BinaryAt, BinaryJump, BinarySpine, CompareAt, ConcatAt, DecideBy, Form, HereAt, IndexAt, LoadOr, LogicAt, LogicJump, NameAt, NameBy, OperandAt, OperandBy, Rel, RkAt, RkBy, RkTextAt, SpineAt, TestAt, TestBy, TruthAt, TwoAt, UnaryAt, UnaryJump, form_of, rel_alone, rel_binary, rel_field, rel_index, rel_logic, rel_name, rel_paren, rel_single, rel_unary, several}
use Rattle.scheme_stands.specs.Lists.{CallAt, GivenRel, MethodAt, MovedFrom, rel_call, rel_vararg}
use Rattle.scheme_stands.specs.Words as words
use Rattle.scheme_stands.specs.Words.{Fn, JumpOn, Spot, Stretch, WordAt, meaning}
use Rattle.scheme_stands.proofs.Counting.{expression_closed}
use Rattle.scheme_stands.proofs.Here.{tame_expression}
use Rattle.scheme_stands.proofs.Moving.{fold_still}
use Rattle.reads_back.proofs.CapturedLeaves.{dots_caught, name_caught}
use Rattle.reads_back.proofs.CapturedStretches.{Onward, Catches, Catching, Still, abc_still, abx_still, caught_on, caught_still, caught_then, is_quiet, jump_still, still_same, still_then}

no_more : {A : Type 0} (b : Bool) → b ≡ false → b ≡ true → A
no_more b is_not is = absurd (true≢false (sym is ∙ is_not))

-- ---- the uses of an expression

-- its value; a name is passed with no word, and a literal has no mark
pub record ValueCatches (f : Function) (all : Onward) (base : Place) (active : List Active) (part : outline.Part) (c : Rel) : Type 0 where
  pub named : c.form.name ≡ true → (p q : Spot) → words.Passed p q → Catches f all base active part p q
  pub bare : (p q : Spot) → c.bare active p q → words.Passed p q
  pub quiet : (k : Constant) → c.form.literal ≡ Some k → (p q : Spot) → Still f p q → Catches f all base active part p q
  pub to_reg : (free r : ℕ) (p q : Spot) → c.to_reg active free r p q → Catches f all base active part p q

pub record RelCatches (f : Function) (all : Onward) (base : Place) (active : List Active) (part : outline.Part) (is_target : Bool) (c : Rel) : Type 0 where
  pub value : ValueCatches f all base active part c
  pub jump_if : (free : ℕ) (truth : Bool) (label : ℕ) (p q : Spot) → c.jump_if active free truth label p q → Catches f all base active part p q
  pub spine : (free free1 : ℕ) (p q : Spot) → c.spine active free free1 p q → Catches f all base active part p q
  -- several values are asked only of what can give them, by the word of a call
  pub multi : several c.form ≡ true → (free : ℕ) (op : Op) (want : Want) → is_quiet op ≡ true → (p q : Spot) → c.multi active free op want p q → Catches f all base active part p q
  pub target : is_target ≡ true → (free : ℕ) (target : Target) (free1 : ℕ) (p q : Spot) → c.target active free target free1 p q → Catches f all base active part p q

-- ---- literals

plain_still : (e : Expression) (k : Constant) → plain_literal e ≡ Some k → (place : Place) → expression_part e place ≡ nothing place
plain_still (nil_literal line) k is place = refl
plain_still (true_literal line) k is place = refl
plain_still (false_literal line) k is place = refl
plain_still (text_literal line text) k is place = refl
plain_still e k is place = cc

literal_by : (folded : Option ℤ) (e : Expression) (k : Constant) → fold e ≡ folded → number_or folded (plain_literal e) ≡ Some k → (place : Place) → expression_part e place ≡ nothing place
literal_by (Some n) e k folded is place = fold_still e n folded place
literal_by None e k folded is place = plain_still e k is place

literal_still : (e : Expression) (k : Constant) → literal e ≡ Some k → (place : Place) → expression_part e place ≡ nothing place
literal_still e k is place = literal_by (fold e) e k refl is place

module _ {f : Function} {g : Fn} {all : Onward} {base : Place} {active : List Active} (of : Catching f g all base active) where
  abbrev Caught : outline.Part → (p q : Spot) → Type 0
  Caught part p q = Catches f all base active part p q

  abbrev Value : outline.Part → Rel → Type 0
  Value part c = ValueCatches f all base active part c

  abbrev Uses : outline.Part → Bool → Rel → Type 0
  Uses part is_target c = RelCatches f all base active part is_target c

  pub literal_caught : (e : Expression) (k : Constant) → literal e ≡ Some k → (p q : Spot) → Still f p q → Caught (expression_part e) p q
  literal_caught e k is p q still = caught_still (tame_expression e) (expression_closed e) (literal_still e k is) still

  pub named_caught : (e : Expression) → is_name e ≡ true → (p q : Spot) → words.Passed p q → Caught (expression_part e) p q
  named_caught (name_expression line text) is p q passed = name_caught of line text p q passed
  named_caught (parenthesized line e) is p q passed = named_caught e is p q passed
  named_caught e is p q passed = cc

  -- ---- operands

  module _ (part : outline.Part) (c : Rel) (v : Value part c) where
    operand_by : (named : Bool) (local : Option ℕ) (free x free1 : ℕ) (p q : Spot) → c.form.name ≡ named → OperandBy (cond named local None) g active c free x free1 p q → Caught part p q
    operand_by true (Some r) free x free1 p q is at = v.named is p q (v.bare p q at.passed)
    operand_by true None free x free1 p q is at = v.to_reg free free p q at.value_at
    operand_by false local free x free1 p q is at = v.to_reg free free p q at.value_at

    pub operand_caught : (free x free1 : ℕ) (p q : Spot) → OperandAt g active c free x free1 p q → Caught part p q
    operand_caught free x free1 p q at = operand_by c.form.name (register_of (meaning active p)) free x free1 p q refl at

    rk_by : (k : Option Constant) (free x free1 : ℕ) (p q : Spot) → c.form.literal ≡ k → RkBy k g active c free x free1 p q → Caught part p q
    rk_by (Some k) free x free1 p q is (inl at) = v.quiet k is p q (still_same at.same)
    rk_by (Some k) free x free1 p q is (inr (large, at)) = operand_caught free x free1 p q at
    rk_by None free x free1 p q is at = operand_caught free x free1 p q at

    pub rk_caught : (free x free1 : ℕ) (p q : Spot) → RkAt g active c free x free1 p q → Caught part p q
    rk_caught free x free1 p q at = rk_by c.form.literal free x free1 p q refl at

    test_caught : (free : ℕ) (truth : Bool) (label : ℕ) (p q : Spot) → TestAt g active c free truth label p q → Caught part p q
    test_caught free truth label p q at =
        let words = at.words_at in
        caught_on (operand_caught free at.x at.free1 p at.mid at.operand_at) (still_then {m = words.mid} (abc_still of.is_function refl words.first_at) (jump_still of.is_function refl words.second_at))

    jump_on : (does : Bool) (label : ℕ) (p q : Spot) → JumpOn g does label p q → Still f p q
    jump_on true label p q at = jump_still of.is_function refl at
    jump_on false label p q at = still_same at

    test_by : (k : Option Constant) (free : ℕ) (truth : Bool) (label : ℕ) (p q : Spot) → c.form.literal ≡ k → TestBy k g active c free truth label p q → Caught part p q
    test_by (Some k) free truth label p q is at = v.quiet k is p q (jump_on _ label p q at)
    test_by None free truth label p q is at = test_caught free truth label p q at

    value_jump : (free : ℕ) (truth : Bool) (label : ℕ) (p q : Spot) → TestBy c.form.literal g active c free truth label p q → Caught part p q
    value_jump free truth label p q at = test_by c.form.literal free truth label p q refl at

  pub text_still : (text : Text) (free x free1 : ℕ) (p q : Spot) → RkTextAt g text free x free1 p q → Still f p q
  text_still text free x free1 p q (inl at) = still_same at.same
  text_still text free x free1 p q (inr (large, at)) = abx_still of.is_function refl at.value_at.word

  -- an expression by its value alone, which gives one value
  pub single_caught : (part : outline.Part) (form : Form) (to : List Active → (free r : ℕ) → Stretch) → several form ≡ false → Value part (rel_alone g form to) → Uses part false (rel_single g form to)
  single_caught part form to one v = record {
    value = record { named = v.named; bare = v.bare; quiet = v.quiet; to_reg = v.to_reg };
    jump_if = value_jump part (rel_alone g form to) v;
    spine = λ free free1 p q at. v.to_reg free free p q at.value_at;
    multi = λ is. no_more (several form) one is;
    target = λ is. no_more false refl is;
  }

  -- ---- two parts

  pub two_caught : (a b : outline.Part) (one other : (free x free1 : ℕ) → Stretch) → ((free x free1 : ℕ) (p q : Spot) → one free x free1 p q → Caught a p q) → ((free x free1 : ℕ) (p q : Spot) → other free x free1 p q → Caught b p q) →
      (words : ℕ → ℕ → Stretch) → ((x y : ℕ) (p q : Spot) → words x y p q → Still f p q) → (free : ℕ) (p q : Spot) → TwoAt one other free words p q → Caught (both a b) p q
  two_caught a b one other first second words still free p q at =
      caught_on (caught_then a b (first free at.x at.free1 p at.mid at.left_at) (second at.free1 at.y at.free2 at.mid at.last at.right_at)) (still at.x at.y at.last q at.words_at)

  comparison_still : (op : BinaryOp) (truth : Bool) (x y : ℕ) (p q : Spot) → WordAt g (comparison_word op truth x y) p q → Still f p q
  comparison_still BinaryOp.Ne truth x y p q at = abc_still of.is_function refl at
  comparison_still BinaryOp.Lt truth x y p q at = abc_still of.is_function refl at
  comparison_still BinaryOp.Le truth x y p q at = abc_still of.is_function refl at
  comparison_still BinaryOp.Gt truth x y p q at = abc_still of.is_function refl at
  comparison_still BinaryOp.Ge truth x y p q at = abc_still of.is_function refl at
  comparison_still op truth x y p q at = abc_still of.is_function refl at

  module _ (a b : outline.Part) (left right : Rel) (s t : Bool) (first : Uses a s left) (second : Uses b t right) where
    compare_caught : (op : BinaryOp) (free : ℕ) (truth : Bool) (label : ℕ) (p q : Spot) → CompareAt g op left right active free truth label p q → Caught (both a b) p q
    compare_caught op free truth label = two_caught a b (RkAt g active left) (RkAt g active right) (rk_caught a left first.value) (rk_caught b right second.value) _
        (λ x y p q at. still_then {m = at.mid} (comparison_still op truth x y p at.mid at.first_at) (jump_still of.is_function refl at.second_at)) free

    arithmetic_caught : (op : Op) → is_quiet op ≡ true → (free r : ℕ) (p q : Spot) → ArithmeticAt g op left right active free r p q → Caught (both a b) p q
    arithmetic_caught op quiet free r = two_caught a b (RkAt g active left) (RkAt g active right) (rk_caught a left first.value) (rk_caught b right second.value) _ (λ x y p q at. abc_still of.is_function quiet at) free

    truth_caught : (op : BinaryOp) (free r : ℕ) (p q : Spot) → TruthAt g op left right active free r p q → Caught (both a b) p q
    truth_caught op free r p q at = caught_on (compare_caught op free true at.yes.pc p at.mid at.compare) (still_then {m = at.yes} (abc_still of.is_function refl at.no) (abc_still of.is_function refl at.load))

    spine_caught : (free free1 : ℕ) (p q : Spot) → SpineAt g left right active free free1 p q → Caught (both a b) p q
    spine_caught free free1 p q at = caught_then a b (first.value.to_reg free free p at.mid at.first) (second.spine (free + 1) free1 at.mid q at.rest)

    concat_caught : (free r : ℕ) (p q : Spot) → ConcatAt g left right active free r p q → Caught (both a b) p q
    concat_caught free r p q at = caught_on (spine_caught free at.free1 p at.last at.operands) (abc_still of.is_function refl at.word)

    pub binary_value : (op : BinaryOp) (free r : ℕ) (p q : Spot) → BinaryAt g op left right active free r p q → Caught (both a b) p q
    binary_value BinaryOp.Add = arithmetic_caught Op.Add refl
    binary_value BinaryOp.Sub = arithmetic_caught Op.Sub refl
    binary_value BinaryOp.Mul = arithmetic_caught Op.Mul refl
    binary_value BinaryOp.Div = arithmetic_caught Op.Div refl
    binary_value BinaryOp.Rem = arithmetic_caught Op.Mod refl
    binary_value BinaryOp.Pow = arithmetic_caught Op.Pow refl
    binary_value BinaryOp.Concat = concat_caught
    binary_value BinaryOp.Eq = truth_caught BinaryOp.Eq
    binary_value BinaryOp.Ne = truth_caught BinaryOp.Ne
    binary_value BinaryOp.Lt = truth_caught BinaryOp.Lt
    binary_value BinaryOp.Le = truth_caught BinaryOp.Le
    binary_value BinaryOp.Gt = truth_caught BinaryOp.Gt
    binary_value BinaryOp.Ge = truth_caught BinaryOp.Ge

    binary_jump : (compares : Bool) (op : BinaryOp) (v : Rel) → ((free : ℕ) (truth : Bool) (label : ℕ) (p q : Spot) → v.jump_if active free truth label p q → Caught (both a b) p q) →
        (free : ℕ) (truth : Bool) (label : ℕ) (p q : Spot) → BinaryJump compares g op left right v active free truth label p q → Caught (both a b) p q
    binary_jump true op v other = compare_caught op
    binary_jump false op v other = other

    binary_spine : (op : BinaryOp) (v : Rel) → ((free free1 : ℕ) (p q : Spot) → v.spine active free free1 p q → Caught (both a b) p q) → (free free1 : ℕ) (p q : Spot) → BinarySpine g op left right v active free free1 p q → Caught (both a b) p q
    binary_spine BinaryOp.Concat v other = spine_caught
    binary_spine op v other = other

    -- ---- and, or

    decide_by : (named : Bool) (local : Option ℕ) (decides : Bool) (free r : ℕ) (p q : Spot) → left.form.name ≡ named → DecideBy (cond named local None) g decides left active free r p q → Caught a p q
    decide_by true (Some x) decides free r p q is at = caught_on (first.value.named is p at.mid (first.value.bare p at.mid at.first_at)) (abc_still of.is_function refl at.second_at)
    decide_by true None decides free r p q is at = caught_on (first.value.to_reg free r p at.mid at.first_at) (abc_still of.is_function refl at.second_at)
    decide_by false local decides free r p q is at = caught_on (first.value.to_reg free r p at.mid at.first_at) (abc_still of.is_function refl at.second_at)

    here_caught : (decides : Bool) (free r : ℕ) (p q : Spot) → HereAt g decides left right active free r p q → Caught (both a b) p q
    here_caught decides free r p q at =
        caught_then a b (caught_on (decide_by left.form.name (register_of (meaning active p)) decides free r p at.mid refl at.decide) (jump_still of.is_function refl at.jump)) (second.value.to_reg free r at.on q at.second)

    pub logic_value : (decides : Bool) (free r : ℕ) (p q : Spot) → LogicAt g decides left right active free r p q → Caught (both a b) p q
    logic_value decides free r p q (inl at) = here_caught decides free r p q at.1
    logic_value decides free r p q (inr at) = let moved = at.value in caught_on (here_caught decides free free p moved.mid moved.first_at) (abc_still of.is_function refl moved.second_at)

    logic_jump : (same : Bool) (free : ℕ) (truth : Bool) (label : ℕ) (p q : Spot) → LogicJump same left right active free truth label p q → Caught (both a b) p q
    logic_jump true free truth label p q at = caught_then a b (first.jump_if free truth label p at.mid at.first_at) (second.jump_if free truth label at.mid q at.second_at)
    logic_jump false free truth label p q at = caught_then a b (first.jump_if free (not truth) q.pc p at.mid at.first_at) (second.jump_if free truth label at.mid q at.second_at)

    pub logic_all : (decides : Bool) (form : Form) → several form ≡ false → Value (both a b) (rel_alone g form (LogicAt g decides left right)) → Uses (both a b) false (rel_logic g decides form left right)
    logic_all decides form one v = record {
      value = record { named = v.named; bare = v.bare; quiet = v.quiet; to_reg = v.to_reg };
      jump_if = λ free truth. logic_jump _ free truth;
      spine = λ free free1 p q at. v.to_reg free free p q at.value_at;
      multi = λ is. no_more (several form) one is;
      target = λ is. no_more false refl is;
    }

    pub binary_all : (op : BinaryOp) (line : ℕ) (x y : Expression) → Uses (both a b) false (rel_single g (form_of (binary_expression line op x y)) (LoadOr (fold (binary_expression line op x y)) g (BinaryAt g op left right))) →
        Uses (both a b) false (rel_binary g op (binary_expression line op x y) left right)
    binary_all op line x y single = record {
      value = record { named = single.value.named; bare = λ p q at. at; quiet = single.value.quiet; to_reg = single.value.to_reg };
      jump_if = binary_jump (is_comparison op) op _ single.jump_if;
      spine = binary_spine op _ single.spine;
      multi = single.multi;
      target = single.target;
    }

  -- a folded number is loaded
  pub load_caught : (folded : Option ℤ) (e : Expression) (to : List Active → (free r : ℕ) → Stretch) → fold e ≡ folded → ((free r : ℕ) (p q : Spot) → to active free r p q → Caught (expression_part e) p q) →
      (free r : ℕ) (p q : Spot) → LoadOr folded g to active free r p q → Caught (expression_part e) p q
  load_caught (Some n) e to is other free r p q at = caught_still (tame_expression e) (expression_closed e) (fold_still e n is) (abx_still of.is_function refl at.word)
  load_caught None e to is other free r p q at = other free r p q at

  unary_jump : (op : UnaryOp) (part : outline.Part) (c v : Rel) (s : Bool) → Uses part s c → ((free : ℕ) (truth : Bool) (label : ℕ) (p q : Spot) → v.jump_if active free truth label p q → Caught part p q) →
      (free : ℕ) (truth : Bool) (label : ℕ) (p q : Spot) → UnaryJump op c v active free truth label p q → Caught part p q
  unary_jump UnaryOp.Not part c v s uses other free truth label p q at = uses.jump_if free (not truth) label p q at
  unary_jump UnaryOp.Neg part c v s uses other free truth label p q at = other free truth label p q at
  unary_jump UnaryOp.Len part c v s uses other free truth label p q at = other free truth label p q at

  unary_still : (op : UnaryOp) (r x : ℕ) (p q : Spot) → WordAt g (Piece.Abc (unary_word op) r x 0) p q → Still f p q
  unary_still UnaryOp.Not r x p q at = abc_still of.is_function refl at
  unary_still UnaryOp.Neg r x p q at = abc_still of.is_function refl at
  unary_still UnaryOp.Len r x p q at = abc_still of.is_function refl at

  pub unary_value : (op : UnaryOp) (part : outline.Part) (c : Rel) → Value part c → (free r : ℕ) (p q : Spot) → UnaryAt g op c active free r p q → Caught part p q
  unary_value op part c v free r p q at = caught_on (operand_caught part c v free at.x at.free1 p at.mid at.operand_at) (unary_still op r at.x at.mid q at.words_at)

  pub unary_all : (op : UnaryOp) (part : outline.Part) (e : Expression) (c : Rel) (s : Bool) → Uses part s c → Uses part false (rel_single g (form_of e) (LoadOr (fold e) g (UnaryAt g op c))) → Uses part false (rel_unary g op e c)
  unary_all op part e c s uses single = record {
    value = record { named = single.value.named; bare = λ p q at. at; quiet = single.value.quiet; to_reg = single.value.to_reg };
    jump_if = unary_jump op part c _ s uses single.jump_if;
    spine = single.spine;
    multi = single.multi;
    target = single.target;
  }

  -- ---- names, indexing, parentheses

  name_by : (text : Text) (w : Where) (r : ℕ) (p q : Spot) → NameBy g text w r p q → Still f p q
  name_by text (in_register x) r p q at = abc_still of.is_function refl at
  name_by text (in_upvalue slot) r p q at = abc_still of.is_function refl at
  name_by text in_globals r p q at = abx_still of.is_function refl at.word

  pub name_all : (line : ℕ) (text : Text) → Uses (mentions line text) true (rel_name g text)
  name_all line text =
      let v : Value (mentions line text) (rel_alone g (form_of (name_expression 0 text)) (NameAt g text)) = record {
        named = λ is p q at. name_caught of line text p q at;
        bare = λ p q at. at;
        quiet = λ k is p q at. cc;
        to_reg = λ free r p q at. caught_on (name_caught of line text p at.1.mid at.1.first_at) (name_by text (meaning active p) r at.1.mid q at.1.second_at);
      } in
      let single = single_caught (mentions line text) (form_of (name_expression 0 text)) (NameAt g text) refl v in
      record {
        value = record { named = single.value.named; bare = λ p q at. at.passed; quiet = single.value.quiet; to_reg = single.value.to_reg };
        jump_if = λ free truth label p q at. test_caught (mentions line text) (record (rel_alone g (form_of (name_expression 0 text)) (NameAt g text)) { bare = BareAt g text }) (record { named = v.named; bare = λ p q at. at.passed; quiet = v.quiet; to_reg = v.to_reg }) free truth label p q at;
        spine = single.spine;
        multi = single.multi;
        target = λ is free target free1 p q at. name_caught of line text p q at.passed;
      }

  pub field_all : (part : outline.Part) (on : Rel) (text : Text) → Value part on → Uses part true (rel_field g on text)
  field_all part on text first =
      let v : Value part (rel_alone g (form_of (field_expression 0 (nil_literal 0) text)) (IndexAt g on (λ active. RkTextAt g text))) = record {
        named = λ is p q at. cc;
        bare = λ p q at. at;
        quiet = λ k is p q at. cc;
        to_reg = λ free r p q at. caught_on (operand_caught part on first free at.x at.free1 p at.mid at.left_at) (still_then {m = at.last} (text_still text at.free1 at.y at.free2 at.mid at.last at.right_at) (abc_still of.is_function refl at.words_at));
      } in
      let single = single_caught part (form_of (field_expression 0 (nil_literal 0) text)) (IndexAt g on (λ active. RkTextAt g text)) refl v in
      record {
        value = record { named = single.value.named; bare = λ p q at. at; quiet = single.value.quiet; to_reg = single.value.to_reg };
        jump_if = single.jump_if;
        spine = single.spine;
        multi = single.multi;
        target = λ is free target free2 p q at. caught_on (operand_caught part on first free at.t at.free1 p at.mid at.on_at) (text_still text at.free1 at.k free2 at.mid q at.key_at);
      }

  pub index_all : (a b : outline.Part) (line : ℕ) (x y : Expression) (on key : Rel) → Value a on → Value b key → Uses (both a b) true (rel_index g (form_of (index_expression line x y)) on key)
  index_all a b line x y on key first second =
      let v : Value (both a b) (rel_alone g (form_of (index_expression line x y)) (IndexAt g on (λ active. RkAt g active key))) = record {
        named = λ is p q at. cc;
        bare = λ p q at. at;
        quiet = λ k is p q at. cc;
        to_reg = λ free r. two_caught a b (OperandAt g active on) (RkAt g active key) (operand_caught a on first) (rk_caught b key second) _ (λ x y p q at. abc_still of.is_function refl at) free;
      } in
      let single = single_caught (both a b) (form_of (index_expression line x y)) (IndexAt g on (λ active. RkAt g active key)) refl v in
      record {
        value = record { named = single.value.named; bare = λ p q at. at; quiet = single.value.quiet; to_reg = single.value.to_reg };
        jump_if = single.jump_if;
        spine = single.spine;
        multi = single.multi;
        target = λ is free target free2 p q at. caught_then a b (operand_caught a on first free at.t at.free1 p at.mid at.on_at) (rk_caught b key second at.free1 at.k free2 at.mid q at.key_at);
      }

  pub paren_all : (part : outline.Part) (line : ℕ) (x : Expression) (c : Rel) (s : Bool) → ((p q : Spot) → is_name x ≡ true → words.Passed p q → Caught part p q) → ((k : Constant) (p q : Spot) → literal (parenthesized line x) ≡ Some k → Still f p q → Caught part p q) →
      Uses part s c → Uses part false (rel_paren g (form_of (parenthesized line x)) c)
  paren_all part line x c s named quiet uses = record {
    value = record { named = λ is p q at. named p q is at; bare = uses.value.bare; quiet = λ k is p q at. quiet k p q is at; to_reg = uses.value.to_reg };
    jump_if = uses.jump_if;
    spine = λ free free1 p q at. uses.value.to_reg free free p q at.value_at;
    multi = λ is. no_more false refl is;
    target = λ is. no_more false refl is;
  }

  -- ---- calls

  -- the arguments of a call
  abbrev GivenCaught : outline.Part → GivenRel → Type 0
  GivenCaught part given = (free : ℕ) (p q : Spot) → given.part active free p q → Caught part p q

  pub call_caught : (a b : outline.Part) (on : Rel) (given : GivenRel) → Value a on → GivenCaught b given → (free : ℕ) (op : Op) (want : Want) → is_quiet op ≡ true → (p q : Spot) → CallAt g on given active free op want p q → Caught (both a b) p q
  call_caught a b on given first second free op want quiet p q at =
      caught_on (caught_then a b (first.to_reg free free p at.mid at.on_at) (second (free + 1) at.mid at.last at.given_at)) (abc_still of.is_function quiet at.word)

  pub method_caught : (a b : outline.Part) (on : Rel) (text : Text) (given : GivenRel) → Value a on → GivenCaught b given → (free : ℕ) (op : Op) (want : Want) → is_quiet op ≡ true → (p q : Spot) → MethodAt g on text given active free op want p q → Caught (both a b) p q
  method_caught a b on text given first second free op want quiet p q at =
      let named = still_then {m = at.named} {q = at.begun} (text_still text (free + 2) at.y at.free2 at.mid at.named at.name_at) (abc_still of.is_function refl at.self_at) in
      caught_on (caught_then a b (caught_on (operand_caught a on first free at.x at.free1 p at.mid at.on_at) named) (second (free + 2) at.begun at.last at.given_at)) (abc_still of.is_function quiet at.word)

  pub moved_caught : (part : outline.Part) (from : Stretch) (free r : ℕ) (p q : Spot) → ((m : Spot) → from p m → Caught part p m) → MovedFrom g from free r p q → Caught part p q
  moved_caught part from free r p q first (inl at) = first q at.1
  moved_caught part from free r p q first (inr (other, at)) = caught_on (first at.mid at.first_at) (abc_still of.is_function refl at.second_at)

  pub call_all : (part : outline.Part) (form : Form) (at_part : List Active → (free : ℕ) → Op → Want → Stretch) → form.name ≡ false → form.literal ≡ None →
      ((free : ℕ) (op : Op) (want : Want) → is_quiet op ≡ true → (p q : Spot) → at_part active free op want p q → Caught part p q) → Uses part false (rel_call g form at_part)
  call_all part form at_part unnamed none call =
      let to = λ (active : List Active) (free r : ℕ). MovedFrom g (at_part active free Op.Call (Some 1)) free r in
      let v : Value part (rel_alone g form to) = record {
        named = λ is p q at. no_more form.name unnamed is;
        bare = λ p q at. at;
        quiet = λ k is p q at. let other : None ≡ Some k = sym none ∙ is in cc;
        to_reg = λ free r p q at. moved_caught part (at_part active free Op.Call (Some 1)) free r p q (λ m at. call free Op.Call (Some 1) refl p m at) at;
      } in
      record {
        value = record { named = v.named; bare = v.bare; quiet = v.quiet; to_reg = v.to_reg };
        jump_if = value_jump part (rel_alone g form to) v;
        spine = λ free free1 p q at. v.to_reg free free p q at.value_at;
        multi = λ is. call;
        target = λ is. no_more false refl is;
      }

  pub vararg_all : (line : ℕ) → Uses (expression_part (vararg_expression line)) false (rel_vararg g)
  vararg_all line =
      let part = expression_part (vararg_expression line) in
      let to = λ (active : List Active) (free r : ℕ). WordAt g (Piece.Abc Op.Vararg r 2 0) in
      let v : Value part (rel_alone g (form_of (vararg_expression 0)) to) = record {
        named = λ is p q at. cc;
        bare = λ p q at. at;
        quiet = λ k is p q at. cc;
        to_reg = λ free r p q at. dots_caught of line p q (abc_still of.is_function refl at);
      } in
      record {
        value = record { named = v.named; bare = v.bare; quiet = v.quiet; to_reg = v.to_reg };
        jump_if = value_jump part (rel_alone g (form_of (vararg_expression 0)) to) v;
        spine = λ free free1 p q at. v.to_reg free free p q at.value_at;
        multi = λ is free op want quiet p q at. dots_caught of line p q (abc_still of.is_function refl at.word);
        target = λ is. no_more false refl is;
      }
