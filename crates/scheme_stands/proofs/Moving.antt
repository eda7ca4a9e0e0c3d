-- The words of each kind of expression pass the marks of its parts.
use Rattle.std.proofs.Common.{◌≡◌, inl, inr, ℕ, ◌+◌, Bool, true, false, cond, not, List, ◌++◌, drop, refl, sym, ap, ◌∙◌, true≢false, append_assoc}
use Rattle.std.specs.Prelude.{Option, Some, None, ℤ}
use Rattle.lua_num.specs.declared.arith.ArithOp.{ArithOp}
use Rattle.lua_num.specs.Bytes.{Text}
use Rattle.lua_tree.specs.declared.tree.BinaryOp.{BinaryOp}
use Rattle.lua_tree.specs.declared.tree.UnaryOp.{UnaryOp}
use Rattle.lua_tree.specs.Outline as outline
use Rattle.lua_tree.specs.Outline.{Mark, Place, Walk, both, within, mentions, nothing, expression_part}
use Rattle.lua_tree.specs.Syntax.{Expression, nil_literal, true_literal, false_literal, vararg_expression, number_literal, text_literal, name_expression, function_expression, index_expression, field_expression, call_expression, method_call, and_expression, or_expression, binary_expression, unary_expression, constructor, parenthesized}
use Rattle.opcode.specs.declared.op.Op.{Op}
use Rattle.proto.specs.declared.parts.Constant.{Constant}
use Rattle.scheme.specs.Making.{Ahead, Where, in_register, in_upvalue, in_globals}
use Rattle.scheme.specs.Expressions.{Want, is_name, literal, fold, fold_binary, fold_unary, arith_op, plain_literal, number_or, is_comparison, register_of}
use Rattle.scheme.specs.declared.making.Active.{Active}
use Rattle.scheme.specs.declared.making.Piece.{Piece}
use Rattle.scheme_stands.specs.Words.{Law, never, Fn, Spot, Stretch, Passed, WordAt, JumpOn, meaning}
use Rattle.scheme_stands.specs.Expressions.{Form, form_of, several, Rel, OperandBy, OperandAt, RkBy, RkAt, RkTextAt, TwoAt, TestBy, TestAt, CompareAt, rel_alone, rel_single, rel_name, BareAt, rel_paren, rel_index, rel_field, NameBy, NameAt, IndexAt, ArithmeticAt, TruthAt, SpineAt, ConcatAt, BinaryAt, LoadOr, BinaryJump, BinarySpine, rel_binary, UnaryAt, UnaryJump, rel_unary, DecideBy, HereAt, LogicAt, LogicJump, rel_logic}
use Rattle.scheme_stands.specs.Lists.{GivenRel, CallAt, MethodAt, MovedFrom, rel_call, rel_vararg}
use Rattle.scheme_stands.specs.Places.{ahead_at, Moves, ValueMoves, RelMoves}

no_more : {A : Type 0} (b : Bool) → b ≡ false → b ≡ true → A
no_more b h k = absurd (true≢false (sym k ∙ h))

-- ---- parts in a row

pub still_as : (all : List Mark) (part : outline.Part) → ((place : Place) → part place ≡ nothing place) → (p q : Spot) → q.ahead ≡ p.ahead → Moves all part p q
still_as all part is p q h place rest e =
    h ∙ e ∙ ap (λ w. ahead_at all place (w.marks ++ rest)) (is place) ∙ sym (ap (λ w. ahead_at all w.next rest) (is place))

pub chain : (all : List Mark) (a b : outline.Part) (p m q : Spot) → Moves all a p m → Moves all b m q → Moves all (both a b) p q
chain all a b p m q g h place rest e =
    let x = a place in
    let y = b x.next in
    h x.next rest (g place (y.marks ++ rest) (e ∙ ap (λ marks. ahead_at all place marks) (append_assoc x.marks y.marks rest)))

pub behind : (all : List Mark) (a : outline.Part) (p m q : Spot) → Moves all a p m → q.ahead ≡ m.ahead → Moves all a p q
behind all a p m q g h place rest e = h ∙ g place rest e

pub ahead_of : (all : List Mark) (a : outline.Part) (p m q : Spot) → m.ahead ≡ p.ahead → Moves all a m q → Moves all a p q
ahead_of all a p m q h g place rest e = g place rest (h ∙ e)

-- ---- expressions that are names or literals

same_both : (a b : outline.Part) (place : Place) → a place ≡ nothing place → b place ≡ nothing place → both a b place ≡ nothing place
same_both a b place g h =
    ap (λ (w : Walk). let second = b w.next in record { marks = w.marks ++ second.marks; next = second.next }) g
    ∙ ap (λ (w : Walk). record { marks = w.marks; next = w.next }) h

first_folds : (o : Option ArithOp) (a b : Option ℤ) (n : ℤ) → fold_binary o a b ≡ Some n → (x : ℤ) × (a ≡ Some x)
first_folds None a b n e = cc
first_folds (Some op) None b n e = cc
first_folds (Some op) (Some x) b n e = (x, refl)

second_folds : (o : Option ArithOp) (a b : Option ℤ) (n : ℤ) → fold_binary o a b ≡ Some n → (x : ℤ) × (b ≡ Some x)
second_folds None a b n e = cc
second_folds (Some op) None b n e = cc
second_folds (Some op) (Some x) None n e = cc
second_folds (Some op) (Some x) (Some y) n e = (y, refl)

inner_folds : (op : UnaryOp) (a : Option ℤ) (n : ℤ) → fold_unary op a ≡ Some n → (x : ℤ) × (a ≡ Some x)
inner_folds UnaryOp.Neg None n e = cc
inner_folds UnaryOp.Neg (Some x) n e = (x, refl)
inner_folds UnaryOp.Not a n e = cc
inner_folds UnaryOp.Len a n e = cc

-- a folded expression has no marks
pub fold_still : (e : Expression) (n : ℤ) → fold e ≡ Some n → (place : Place) → expression_part e place ≡ nothing place
fold_still (number_literal line x) n h place = refl
fold_still (parenthesized line e) n h place = fold_still e n h place
fold_still (unary_expression line op e) n h place = let i = inner_folds op (fold e) n h in fold_still e i.0 i.1 place
fold_still (binary_expression line op left right) n h place =
    let i = first_folds (arith_op op) (fold left) (fold right) n h in
    let j = second_folds (arith_op op) (fold left) (fold right) n h in
    same_both (expression_part left) (expression_part right) place (fold_still left i.0 i.1 place) (fold_still right j.0 j.1 place)
fold_still (nil_literal line) n h place = cc
fold_still (true_literal line) n h place = cc
fold_still (false_literal line) n h place = cc
fold_still (vararg_expression line) n h place = cc
fold_still (text_literal line text) n h place = cc
fold_still (name_expression line text) n h place = cc
fold_still (function_expression line body) n h place = cc
fold_still (index_expression line on key) n h place = cc
fold_still (field_expression line on text) n h place = cc
fold_still (call_expression line on args on_line) n h place = cc
fold_still (method_call line on text args on_line) n h place = cc
fold_still (and_expression line left right) n h place = cc
fold_still (or_expression line left right) n h place = cc
fold_still (constructor line items) n h place = cc

plain_still : (e : Expression) (k : Constant) → plain_literal e ≡ Some k → (place : Place) → expression_part e place ≡ nothing place
plain_still (nil_literal line) k h place = refl
plain_still (true_literal line) k h place = refl
plain_still (false_literal line) k h place = refl
plain_still (text_literal line text) k h place = refl
plain_still (number_literal line x) k h place = refl
plain_still (parenthesized line e) k h place = cc
plain_still (unary_expression line op e) k h place = cc
plain_still (binary_expression line op left right) k h place = cc
plain_still (vararg_expression line) k h place = cc
plain_still (name_expression line text) k h place = cc
plain_still (function_expression line body) k h place = cc
plain_still (index_expression line on key) k h place = cc
plain_still (field_expression line on text) k h place = cc
plain_still (call_expression line on args on_line) k h place = cc
plain_still (method_call line on text args on_line) k h place = cc
plain_still (and_expression line left right) k h place = cc
plain_still (or_expression line left right) k h place = cc
plain_still (constructor line items) k h place = cc

literal_by : (o : Option ℤ) (e : Expression) (k : Constant) → fold e ≡ o → number_or o (plain_literal e) ≡ Some k → (place : Place) → expression_part e place ≡ nothing place
literal_by (Some n) e k f h place = fold_still e n f place
literal_by None e k f h place = plain_still e k h place

pub literal_moves : (all : List Mark) (e : Expression) (k : Constant) → literal e ≡ Some k → (p q : Spot) → q.ahead ≡ p.ahead → Moves all (expression_part e) p q
literal_moves all e k h p q a = still_as all (expression_part e) (literal_by (fold e) e k refl h) p q a

-- a name that is passed
pub passed_moves : (all : List Mark) (line : ℕ) (text : Text) (p q : Spot) → Passed p q → Moves all (mentions line text) p q
passed_moves all line text p q a place rest e = a.ahead ∙ ap (λ (x : Ahead). record x { names = drop 1 x.names }) e

pub name_moves : (all : List Mark) (e : Expression) → is_name e ≡ true → (p q : Spot) → Passed p q → Moves all (expression_part e) p q
name_moves all (name_expression line text) h p q a = passed_moves all line text p q a
name_moves all (parenthesized line e) h p q a = name_moves all e h p q a
name_moves all (number_literal line x) h p q a = cc
name_moves all (unary_expression line op e) h p q a = cc
name_moves all (binary_expression line op left right) h p q a = cc
name_moves all (nil_literal line) h p q a = cc
name_moves all (true_literal line) h p q a = cc
name_moves all (false_literal line) h p q a = cc
name_moves all (vararg_expression line) h p q a = cc
name_moves all (text_literal line text) h p q a = cc
name_moves all (function_expression line body) h p q a = cc
name_moves all (index_expression line on key) h p q a = cc
name_moves all (field_expression line on text) h p q a = cc
name_moves all (call_expression line on args on_line) h p q a = cc
name_moves all (method_call line on text args on_line) h p q a = cc
name_moves all (and_expression line left right) h p q a = cc
name_moves all (or_expression line left right) h p q a = cc
name_moves all (constructor line items) h p q a = cc

-- what stands although the law may exclude it
pub not_never : (l : Law) (part : Stretch) (p q : Spot) → never l part p q → part p q
not_never None part p q t = t
not_never (Some n) part p q t = absurd t

module _ (all : List Mark) (f : Fn) where
  -- ---- operands

  module _ (part : outline.Part) (c : Rel) (v : ValueMoves all part c) where
    operand_by : (b : Bool) (o : Option ℕ) (active : List Active) (free x free1 : ℕ) (p q : Spot) → c.form.name ≡ b → OperandBy (cond b o None) f active c free x free1 p q → Moves all part p q
    operand_by true (Some r) active free x free1 p q h a = v.named h p q (v.bare active p q a.passed)
    operand_by true None active free x free1 p q h a = v.to_reg active free free p q a.value_at
    operand_by false o active free x free1 p q h a = v.to_reg active free free p q a.value_at

    pub operand_moves : (active : List Active) (free x free1 : ℕ) (p q : Spot) → OperandAt f active c free x free1 p q → Moves all part p q
    operand_moves active free x free1 p q a = operand_by c.form.name (register_of (meaning active p)) active free x free1 p q refl a

    rk_by : (o : Option Constant) (active : List Active) (free x free1 : ℕ) (p q : Spot) → c.form.literal ≡ o → RkBy o f active c free x free1 p q → Moves all part p q
    rk_by (Some k) active free x free1 p q h (inl a) = v.quiet k h p q (a.same).ahead
    rk_by (Some k) active free x free1 p q h (inr (large, a)) = operand_moves active free x free1 p q a
    rk_by None active free x free1 p q h a = operand_moves active free x free1 p q a

    pub rk_moves : (active : List Active) (free x free1 : ℕ) (p q : Spot) → RkAt f active c free x free1 p q → Moves all part p q
    rk_moves active free x free1 p q a = rk_by c.form.literal active free x free1 p q refl a

    test_moves : (active : List Active) (free : ℕ) (truth : Bool) (label : ℕ) (p q : Spot) → TestAt f active c free truth label p q → Moves all part p q
    test_moves active free truth label p q a =
        let w = a.words_at in
        let w1 = w.first_at in
        let w2 = w.second_at in
        behind all part p a.mid q (operand_moves active free a.x a.free1 p a.mid a.operand_at) (w2.ahead ∙ w1.ahead)

    jump_on : (b : Bool) (label : ℕ) (p q : Spot) → JumpOn f b label p q → q.ahead ≡ p.ahead
    jump_on true label p q a = a.ahead
    jump_on false label p q a = a.ahead

    test_by : (o : Option Constant) (active : List Active) (free : ℕ) (truth : Bool) (label : ℕ) (p q : Spot) → c.form.literal ≡ o → TestBy o f active c free truth label p q → Moves all part p q
    test_by (Some k) active free truth label p q h a = v.quiet k h p q (jump_on _ label p q a)
    test_by None active free truth label p q h a = test_moves active free truth label p q a

    pub value_jump : (active : List Active) (free : ℕ) (truth : Bool) (label : ℕ) (p q : Spot) → TestBy c.form.literal f active c free truth label p q → Moves all part p q
    value_jump active free truth label p q a = test_by c.form.literal active free truth label p q refl a

  pub text_same : (text : Text) (free x free1 : ℕ) (p q : Spot) → RkTextAt f text free x free1 p q → q.ahead ≡ p.ahead
  text_same text free x free1 p q (inl a) = (a.same).ahead
  text_same text free x free1 p q (inr (large, a)) = let v = a.value_at in let w = v.word in w.ahead

  -- an expression by its value alone, which gives one value
  pub single_moves : (part : outline.Part) (form : Form) (to : List Active → (free r : ℕ) → Stretch) → several form ≡ false → ValueMoves all part (rel_alone f form to) → RelMoves all part false (rel_single f form to)
  single_moves part form to one v = record {
    value = record { named = v.named; bare = v.bare; quiet = v.quiet; to_reg = v.to_reg };
    jump_if = λ active. value_jump part (rel_alone f form to) v active;
    spine = λ active free free1 p q a. v.to_reg active free free p q a.value_at;
    multi = λ h. no_more (several form) one h;
    target = λ h. no_more false refl h;
  }

  -- ---- two parts

  pub two_moves : (a b : outline.Part) (one other : (free x free1 : ℕ) → Stretch) → ((free x free1 : ℕ) (p q : Spot) → one free x free1 p q → Moves all a p q) → ((free x free1 : ℕ) (p q : Spot) → other free x free1 p q → Moves all b p q) →
      (words : ℕ → ℕ → Stretch) → ((x y : ℕ) (p q : Spot) → words x y p q → q.ahead ≡ p.ahead) → (free : ℕ) (p q : Spot) → TwoAt one other free words p q → Moves all (both a b) p q
  two_moves a b one other g h words w free p q t =
      behind all (both a b) p t.last q (chain all a b p t.mid t.last (g free t.x t.free1 p t.mid t.left_at) (h t.free1 t.y t.free2 t.mid t.last t.right_at)) (w t.x t.y t.last q t.words_at)

  module _ (a b : outline.Part) (left right : Rel) (s t : Bool) (g : RelMoves all a s left) (h : RelMoves all b t right) where
    pub compare_moves : (op : BinaryOp) (active : List Active) (free : ℕ) (truth : Bool) (label : ℕ) (p q : Spot) → CompareAt f op left right active free truth label p q → Moves all (both a b) p q
    compare_moves op active free truth label = two_moves a b (RkAt f active left) (RkAt f active right) (rk_moves a left g.value active) (rk_moves b right h.value active) _
        (λ x y p q w. let w1 = w.first_at in let w2 = w.second_at in w2.ahead ∙ w1.ahead) free

    arithmetic_moves : (op : Op) (active : List Active) (free r : ℕ) (p q : Spot) → ArithmeticAt f op left right active free r p q → Moves all (both a b) p q
    arithmetic_moves op active free r = two_moves a b (RkAt f active left) (RkAt f active right) (rk_moves a left g.value active) (rk_moves b right h.value active) _ (λ x y p q w. w.ahead) free

    truth_moves : (op : BinaryOp) (active : List Active) (free r : ℕ) (p q : Spot) → TruthAt f op left right active free r p q → Moves all (both a b) p q
    truth_moves op active free r p q t =
        let w1 = t.no in
        let w2 = t.load in
        behind all (both a b) p t.mid q (compare_moves op active free true (t.yes).pc p t.mid t.compare) (w2.ahead ∙ w1.ahead)

    spine_moves : (active : List Active) (free free1 : ℕ) (p q : Spot) → SpineAt f left right active free free1 p q → Moves all (both a b) p q
    spine_moves active free free1 p q t = chain all a b p t.mid q ((g.value).to_reg active free free p t.mid t.first) (h.spine active (free + 1) free1 t.mid q t.rest)

    concat_moves : (active : List Active) (free r : ℕ) (p q : Spot) → ConcatAt f left right active free r p q → Moves all (both a b) p q
    concat_moves active free r p q t = let w = t.word in behind all (both a b) p t.last q (spine_moves active free t.free1 p t.last t.operands) w.ahead

    binary_moves : (op : BinaryOp) (active : List Active) (free r : ℕ) (p q : Spot) → BinaryAt f op left right active free r p q → Moves all (both a b) p q
    binary_moves BinaryOp.Add = arithmetic_moves Op.Add
    binary_moves BinaryOp.Sub = arithmetic_moves Op.Sub
    binary_moves BinaryOp.Mul = arithmetic_moves Op.Mul
    binary_moves BinaryOp.Div = arithmetic_moves Op.Div
    binary_moves BinaryOp.Rem = arithmetic_moves Op.Mod
    binary_moves BinaryOp.Pow = arithmetic_moves Op.Pow
    binary_moves BinaryOp.Concat = concat_moves
    binary_moves BinaryOp.Eq = truth_moves BinaryOp.Eq
    binary_moves BinaryOp.Ne = truth_moves BinaryOp.Ne
    binary_moves BinaryOp.Lt = truth_moves BinaryOp.Lt
    binary_moves BinaryOp.Le = truth_moves BinaryOp.Le
    binary_moves BinaryOp.Gt = truth_moves BinaryOp.Gt
    binary_moves BinaryOp.Ge = truth_moves BinaryOp.Ge

    binary_jump : (o : Bool) (op : BinaryOp) (v : Rel) → ((active : List Active) (free : ℕ) (truth : Bool) (label : ℕ) (p q : Spot) → v.jump_if active free truth label p q → Moves all (both a b) p q) →
        (active : List Active) (free : ℕ) (truth : Bool) (label : ℕ) (p q : Spot) → BinaryJump o f op left right v active free truth label p q → Moves all (both a b) p q
    binary_jump true op v j = compare_moves op
    binary_jump false op v j = j

    binary_spine : (op : BinaryOp) (v : Rel) → ((active : List Active) (free free1 : ℕ) (p q : Spot) → v.spine active free free1 p q → Moves all (both a b) p q) →
        (active : List Active) (free free1 : ℕ) (p q : Spot) → BinarySpine f op left right v active free free1 p q → Moves all (both a b) p q
    binary_spine BinaryOp.Concat v j = spine_moves
    binary_spine op v j = j

    -- ---- and, or

    decide_by : (n : Bool) (o : Option ℕ) (decides : Bool) (active : List Active) (free r : ℕ) (p q : Spot) → left.form.name ≡ n → DecideBy (cond n o None) f decides left active free r p q → Moves all a p q
    decide_by true (Some x) decides active free r p q e t = let w = t.second_at in behind all a p t.mid q ((g.value).named e p t.mid ((g.value).bare active p t.mid t.first_at)) w.ahead
    decide_by true None decides active free r p q e t = let w = t.second_at in behind all a p t.mid q ((g.value).to_reg active free r p t.mid t.first_at) w.ahead
    decide_by false o decides active free r p q e t = let w = t.second_at in behind all a p t.mid q ((g.value).to_reg active free r p t.mid t.first_at) w.ahead

    here_moves : (decides : Bool) (active : List Active) (free r : ℕ) (p q : Spot) → HereAt f decides left right active free r p q → Moves all (both a b) p q
    here_moves decides active free r p q t =
        let w = t.jump in
        chain all a b p t.on q (behind all a p t.mid t.on (decide_by left.form.name (register_of (meaning active p)) decides active free r p t.mid refl t.decide) w.ahead) ((h.value).to_reg active free r t.on q t.second)

    logic_moves : (decides : Bool) (active : List Active) (free r : ℕ) (p q : Spot) → LogicAt f decides left right active free r p q → Moves all (both a b) p q
    logic_moves decides active free r p q (inl t) = here_moves decides active free r p q t.1
    logic_moves decides active free r p q (inr t) = let s = t.value in let w = s.second_at in behind all (both a b) p s.mid q (here_moves decides active free free p s.mid s.first_at) w.ahead

    logic_jump : (o : Bool) (active : List Active) (free : ℕ) (truth : Bool) (label : ℕ) (p q : Spot) → LogicJump o left right active free truth label p q → Moves all (both a b) p q
    logic_jump true active free truth label p q t = chain all a b p t.mid q (g.jump_if active free truth label p t.mid t.first_at) (h.jump_if active free truth label t.mid q t.second_at)
    logic_jump false active free truth label p q t = chain all a b p t.mid q (g.jump_if active free (not truth) q.pc p t.mid t.first_at) (h.jump_if active free truth label t.mid q t.second_at)

    pub logic_all : (decides : Bool) (form : Form) → several form ≡ false → ValueMoves all (both a b) (rel_alone f form (LogicAt f decides left right)) → RelMoves all (both a b) false (rel_logic f decides form left right)
    logic_all decides form one v = record {
      value = record { named = v.named; bare = v.bare; quiet = v.quiet; to_reg = v.to_reg };
      jump_if = λ active free truth. logic_jump _ active free truth;
      spine = λ active free free1 p q t. v.to_reg active free free p q t.value_at;
      multi = λ k. no_more (several form) one k;
      target = λ k. no_more false refl k;
    }

    pub logic_value : (decides : Bool) (active : List Active) (free r : ℕ) (p q : Spot) → LogicAt f decides left right active free r p q → Moves all (both a b) p q
    logic_value = logic_moves

    pub binary_all : (op : BinaryOp) (line : ℕ) (x y : Expression) → RelMoves all (both a b) false (rel_single f (form_of (binary_expression line op x y)) (LoadOr (fold (binary_expression line op x y)) f (BinaryAt f op left right))) →
        RelMoves all (both a b) false (rel_binary f op (binary_expression line op x y) left right)
    binary_all op line x y s = record {
      value = record { named = (s.value).named; bare = λ active p q a. a; quiet = (s.value).quiet; to_reg = (s.value).to_reg };
      jump_if = binary_jump (is_comparison op) op _ s.jump_if;
      spine = binary_spine op _ s.spine;
      multi = s.multi;
      target = s.target;
    }

    pub binary_value : (op : BinaryOp) (active : List Active) (free r : ℕ) (p q : Spot) → BinaryAt f op left right active free r p q → Moves all (both a b) p q
    binary_value = binary_moves

  -- a folded number is loaded
  pub load_moves : (o : Option ℤ) (e : Expression) (to : List Active → (free r : ℕ) → Stretch) → fold e ≡ o → ((active : List Active) (free r : ℕ) (p q : Spot) → to active free r p q → Moves all (expression_part e) p q) →
      (active : List Active) (free r : ℕ) (p q : Spot) → LoadOr o f to active free r p q → Moves all (expression_part e) p q
  load_moves (Some n) e to h g active free r p q a = let w = a.word in still_as all (expression_part e) (fold_still e n h) p q w.ahead
  load_moves None e to h g active free r p q a = g active free r p q a

  unary_jump : (op : UnaryOp) (part : outline.Part) (c v : Rel) (s : Bool) → RelMoves all part s c → ((active : List Active) (free : ℕ) (truth : Bool) (label : ℕ) (p q : Spot) → v.jump_if active free truth label p q → Moves all part p q) →
      (active : List Active) (free : ℕ) (truth : Bool) (label : ℕ) (p q : Spot) → UnaryJump op c v active free truth label p q → Moves all part p q
  unary_jump UnaryOp.Not part c v s g j active free truth label p q t = g.jump_if active free (not truth) label p q t
  unary_jump UnaryOp.Neg part c v s g j active free truth label p q t = j active free truth label p q t
  unary_jump UnaryOp.Len part c v s g j active free truth label p q t = j active free truth label p q t

  pub unary_value : (op : UnaryOp) (part : outline.Part) (c : Rel) → ValueMoves all part c → (active : List Active) (free r : ℕ) (p q : Spot) → UnaryAt f op c active free r p q → Moves all part p q
  unary_value op part c v active free r p q t = let w = t.words_at in behind all part p t.mid q (operand_moves part c v active free t.x t.free1 p t.mid t.operand_at) w.ahead

  pub unary_all : (op : UnaryOp) (part : outline.Part) (e : Expression) (c : Rel) (s : Bool) → RelMoves all part s c → RelMoves all part false (rel_single f (form_of e) (LoadOr (fold e) f (UnaryAt f op c))) → RelMoves all part false (rel_unary f op e c)
  unary_all op part e c s g v = record {
    value = record { named = (v.value).named; bare = λ active p q a. a; quiet = (v.value).quiet; to_reg = (v.value).to_reg };
    jump_if = unary_jump op part c _ s g v.jump_if;
    spine = v.spine;
    multi = v.multi;
    target = v.target;
  }

  -- ---- names, indexing, parentheses

  name_by : (text : Text) (w : Where) (r : ℕ) (p q : Spot) → NameBy f text w r p q → q.ahead ≡ p.ahead
  name_by text (in_register x) r p q a = a.ahead
  name_by text (in_upvalue slot) r p q a = a.ahead
  name_by text in_globals r p q a = let w = a.word in w.ahead

  pub name_all : (line : ℕ) (text : Text) → RelMoves all (mentions line text) true (rel_name f text)
  name_all line text =
      let v : ValueMoves all (mentions line text) (rel_alone f (form_of (name_expression 0 text)) (NameAt f text)) = record {
        named = λ h p q a. passed_moves all line text p q a;
        bare = λ active p q a. a;
        quiet = λ k h p q a. cc;
        to_reg = λ active free r p q t. behind all (mentions line text) p t.1.mid q (passed_moves all line text p t.1.mid t.1.first_at) (name_by text (meaning active p) r t.1.mid q t.1.second_at);
      } in
      let s = single_moves (mentions line text) (form_of (name_expression 0 text)) (NameAt f text) refl v in
      record {
        value = record { named = (s.value).named; bare = λ active p q a. a.passed; quiet = (s.value).quiet; to_reg = (s.value).to_reg };
        jump_if = λ active free truth label p q t. test_moves (mentions line text) (record (rel_alone f (form_of (name_expression 0 text)) (NameAt f text)) { bare = BareAt f text }) (record { named = v.named; bare = λ active p q a. a.passed; quiet = v.quiet; to_reg = v.to_reg }) active free truth label p q t;
        spine = s.spine;
        multi = s.multi;
        target = λ h active free target free1 p q a. passed_moves all line text p q a.passed;
      }

  pub field_all : (part : outline.Part) (on : Rel) (text : Text) → ValueMoves all part on → RelMoves all part true (rel_field f on text)
  field_all part on text g =
      let v : ValueMoves all part (rel_alone f (form_of (field_expression 0 (nil_literal 0) text)) (IndexAt f on (λ active. RkTextAt f text))) = record {
        named = λ h p q a. cc;
        bare = λ active p q a. a;
        quiet = λ k h p q a. cc;
        to_reg = λ active free r p q t. let w = t.words_at in behind all part p t.mid q (operand_moves part on g active free t.x t.free1 p t.mid t.left_at) (w.ahead ∙ text_same text t.free1 t.y t.free2 t.mid t.last t.right_at);
      } in
      let s = single_moves part (form_of (field_expression 0 (nil_literal 0) text)) (IndexAt f on (λ active. RkTextAt f text)) refl v in
      record {
        value = record { named = (s.value).named; bare = λ active p q a. a; quiet = (s.value).quiet; to_reg = (s.value).to_reg };
        jump_if = s.jump_if;
        spine = s.spine;
        multi = s.multi;
        target = λ h active free target free2 p q t. behind all part p t.mid q (operand_moves part on g active free t.t t.free1 p t.mid t.on_at) (text_same text t.free1 t.k free2 t.mid q t.key_at);
      }

  pub index_all : (a b : outline.Part) (line : ℕ) (x y : Expression) (on key : Rel) → ValueMoves all a on → ValueMoves all b key → RelMoves all (both a b) true (rel_index f (form_of (index_expression line x y)) on key)
  index_all a b line x y on key g h =
      let v : ValueMoves all (both a b) (rel_alone f (form_of (index_expression line x y)) (IndexAt f on (λ active. RkAt f active key))) = record {
        named = λ h p q a. cc;
        bare = λ active p q a. a;
        quiet = λ k h p q a. cc;
        to_reg = λ active free r. two_moves a b (OperandAt f active on) (RkAt f active key) (operand_moves a on g active) (rk_moves b key h active) _ (λ x y p q w. w.ahead) free;
      } in
      let s = single_moves (both a b) (form_of (index_expression line x y)) (IndexAt f on (λ active. RkAt f active key)) refl v in
      record {
        value = record { named = (s.value).named; bare = λ active p q a. a; quiet = (s.value).quiet; to_reg = (s.value).to_reg };
        jump_if = s.jump_if;
        spine = s.spine;
        multi = s.multi;
        target = λ e active free target free2 p q t. chain all a b p t.mid q (operand_moves a on g active free t.t t.free1 p t.mid t.on_at) (rk_moves b key h active t.free1 t.k free2 t.mid q t.key_at);
      }

  -- ---- calls

  -- the arguments of a call
  abbrev pub GivenMoves : outline.Part → GivenRel → Type 0
  GivenMoves part given = (active : List Active) (free : ℕ) (p q : Spot) → given.part active free p q → Moves all part p q

  pub call_moves : (a b : outline.Part) (on : Rel) (given : GivenRel) → ValueMoves all a on → GivenMoves b given → (active : List Active) (free : ℕ) (op : Op) (want : Want) (p q : Spot) → CallAt f on given active free op want p q → Moves all (both a b) p q
  call_moves a b on given g h active free op want p q t =
      let w = t.word in
      behind all (both a b) p t.last q (chain all a b p t.mid t.last (g.to_reg active free free p t.mid t.on_at) (h active (free + 1) t.mid t.last t.given_at)) w.ahead

  pub method_moves : (a b : outline.Part) (on : Rel) (text : Text) (given : GivenRel) → ValueMoves all a on → GivenMoves b given → (active : List Active) (free : ℕ) (op : Op) (want : Want) (p q : Spot) → MethodAt f on text given active free op want p q → Moves all (both a b) p q
  method_moves a b on text given g h active free op want p q t =
      let w = t.word in
      let s = t.self_at in
      behind all (both a b) p t.last q
      (chain all a b p t.begun t.last (behind all a p t.mid t.begun (operand_moves a on g active free t.x t.free1 p t.mid t.on_at) (s.ahead ∙ text_same text (free + 2) t.y t.free2 t.mid t.named t.name_at))
      (h active (free + 2) t.begun t.last t.given_at)) w.ahead

  moved_moves : (part : outline.Part) (at_base : Stretch) (free r : ℕ) (p q : Spot) → ((m : Spot) → at_base p m → Moves all part p m) → MovedFrom f at_base free r p q → Moves all part p q
  moved_moves part at_base free r p q g (inl t) = g q t.1
  moved_moves part at_base free r p q g (inr (other, t)) = let w = t.second_at in behind all part p t.mid q (g t.mid t.first_at) w.ahead

  pub moved_value : (part : outline.Part) (at_base : List Active → (free : ℕ) → Stretch) → ((active : List Active) (free : ℕ) (p q : Spot) → at_base active free p q → Moves all part p q) →
      (active : List Active) (free r : ℕ) (p q : Spot) → MovedFrom f (at_base active free) free r p q → Moves all part p q
  moved_value part at_base g active free r p q t = moved_moves part (at_base active free) free r p q (λ m. g active free p m) t

  pub call_all : (part : outline.Part) (form : Form) (at_part : List Active → (free : ℕ) → Op → Want → Stretch) → form.name ≡ false → form.literal ≡ None → ((active : List Active) (free : ℕ) (op : Op) (want : Want) (p q : Spot) → at_part active free op want p q → Moves all part p q) →
      RelMoves all part false (rel_call f form at_part)
  call_all part form at_part none bare g =
      let to = λ (active : List Active) (free r : ℕ). MovedFrom f (at_part active free Op.Call (Some 1)) free r in
      let v : ValueMoves all part (rel_alone f form to) = record {
        named = λ h p q a. no_more form.name none h;
        bare = λ active p q a. a;
        quiet = λ k h p q a. let x : None ≡ Some k = sym bare ∙ h in cc;
        to_reg = moved_value part (λ active free. at_part active free Op.Call (Some 1)) (λ active free p q t. g active free Op.Call (Some 1) p q t);
      } in
      record {
        value = record { named = v.named; bare = v.bare; quiet = v.quiet; to_reg = v.to_reg };
        jump_if = λ active. value_jump part (rel_alone f form to) v active;
        spine = λ active free free1 p q a. v.to_reg active free free p q a.value_at;
        multi = λ h. g;
        target = λ h. no_more false refl h;
      }

  pub vararg_all : (line : ℕ) → RelMoves all (expression_part (vararg_expression line)) false (rel_vararg f)
  vararg_all line =
      let part = expression_part (vararg_expression line) in
      let to = λ (active : List Active) (free r : ℕ). WordAt f (Piece.Abc Op.Vararg r 2 0) in
      let v : ValueMoves all part (rel_alone f (form_of (vararg_expression 0)) to) = record {
        named = λ h p q a. cc;
        bare = λ active p q a. a;
        quiet = λ k h p q a. cc;
        to_reg = λ active free r p q w place rest e. w.ahead ∙ e;
      } in
      record {
        value = record { named = v.named; bare = v.bare; quiet = v.quiet; to_reg = v.to_reg };
        jump_if = λ active. value_jump part (rel_alone f (form_of (vararg_expression 0)) to) v active;
        spine = λ active free free1 p q a. v.to_reg active free free p q a.value_at;
        multi = λ h active free op want p q a place rest e. let w = a.word in w.ahead ∙ e;
        target = λ h. no_more false refl h;
      }

  pub paren_all : (part : outline.Part) (line : ℕ) (x : Expression) (c : Rel) (s : Bool) → ((p q : Spot) → is_name x ≡ true → Passed p q → Moves all part p q) → ((k : Constant) (p q : Spot) → literal (parenthesized line x) ≡ Some k → q.ahead ≡ p.ahead → Moves all part p q) → RelMoves all part s c → RelMoves all part false (rel_paren f (form_of (parenthesized line x)) c)
  paren_all part line x c s n l g = record {
    value = record { named = λ h p q a. n p q h a; bare = (g.value).bare; quiet = λ k h p q a. l k p q h a; to_reg = (g.value).to_reg };
    jump_if = g.jump_if;
    spine = λ active free free1 p q a. (g.value).to_reg active free free p q a.value_at;
    multi = λ h. no_more false refl h;
    target = λ h. no_more false refl h;
  }
