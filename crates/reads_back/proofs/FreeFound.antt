-- The uses of an expression whose words stand with their law: where a name is free in it, and means no local, it is that of an upvalue; by its parts and the functions in it.
use Rattle.std.proofs.Common.{◌≡◌, ℕ, zero, suc, inl, inr, Bool, true, false, not, cond, if◌then◌else◌, List, [], ◌∷◌, ◌++◌, length, Option, Some, None, refl, sym, ap, ap₂, ◌∙◌, subst}
use Rattle.std.proofs.lemmas.Slice.Eq.{bytes_eq-Decides}
use Rattle.std.specs.Bool.{beq}
use Rattle.std.specs.Prelude.{◌&&◌, ◌||◌, ◌+◌, ◌-◌, nat_lt, slice_get, ℤ}
use Rattle.std.specs.Str.{bytes_eq}
use Rattle.lua_num.specs.Bytes.{Text}
use Rattle.lua_tree.specs.Scoping.{Use}
use Rattle.lua_tree.specs.Syntax as syntax
use Rattle.lua_tree.specs.Syntax.{Expressions, no_expressions, Expression, nil_literal, true_literal, false_literal, number_literal, text_literal, name_expression, binary_expression, unary_expression, parenthesized, Fields, no_fields, positional, named, keyed, FunctionBody}
use Rattle.lua_tree.specs.declared.tree.BinaryOp.{BinaryOp}
use Rattle.lua_tree.specs.declared.tree.UnaryOp.{UnaryOp}
use Rattle.opcode.specs.declared.op.Op.{Op}
use Rattle.proto.specs.Chunk.{Chunk}
use Rattle.proto.specs.declared.parts.Constant.{Constant}
use Rattle.scheme.specs.Expressions.{Target, Want, arith_op, fold, is_comparison, literal, number_or, plain_literal, register_of}
use Rattle.scheme.specs.Functions.{without_sources}
use Rattle.scheme.specs.Lists.{pending_after}
use Rattle.scheme.specs.Making.{Ahead, Where, in_globals, in_register, in_upvalue, head_or, where_is}
use Rattle.scheme.specs.declared.making.Active.{Active}
use Rattle.scheme_stands.proofs.Forms.{form_is}
use Rattle.scheme_stands.specs.Expressions.{Form, Rel, form_of, several, OperandAt, OperandBy, RkAt, RkBy, RkTextAt, TwoAt, TestAt, TestBy, CompareAt, rel_single, rel_alone, rel_name, BareAt, NameAt, IndexAt, ArithmeticAt, SpineAt, BinaryAt, LoadOr, BinaryJump, BinarySpine, UnaryAt, UnaryJump, DecideBy, HereAt, LogicAt, LogicJump, rel_logic, PartTargetAt}
use Rattle.scheme_stands.specs.Functions.{ClosureAt}
use Rattle.scheme_stands.specs.Lists.{FirstAt, AllNextAt, AllMultiAt, rels_open, OpenBy, OpenListAt, FilledAt, AdjustBy, AdjustAt, GivenRel, CallAt, MethodAt, MovedFrom, rel_call, ItemBy, is_last_item, TableAt}
use Rattle.scheme_stands.specs.Relation.{FunctionOf, ItemsAt, all_related, related}
use Rattle.scheme_stands.specs.Words.{CapturedBy, Fn, IsCaptured, MeansBy, Names, Spot, Stretch, asking, is_among, is_named, meaning, names_in, onto, own_register, register_in}
use Rattle.reads_back.proofs.FreeNames.{free_in, free_in_all, free_in_body, free_in_fields}
use Rattle.reads_back.proofs.Rooms.{folded_both, folded_one}
use Rattle.reads_back.proofs.Tests.{not_so, or_first, or_second, of_either}

-- ---- tests

-- a test that is denied fails
pub is_not : (a : Bool) → not a ≡ true → a ≡ false
is_not true is = not_so is
is_not false is = refl

-- ---- active locals of which none has the name

-- a name among the later names is among all
among_behind : (text : Text) (names others : List Text) → is_among text others ≡ true → is_among text (names ++ others) ≡ true
among_behind text [] others is = is
among_behind text (name ∷ names) others is = or_second (bytes_eq text name) _ (among_behind text names others is)

-- a name that stands at a place is among the names
among_at : (text : Text) (names : List Text) (slot : ℕ) → slice_get names slot ≡ Some text → is_among text names ≡ true
among_at text [] slot there = cc
among_at text (name ∷ names) zero there = let same : text ≡ name = cc in or_first (bytes_eq text name) _ ((bytes_eq-Decides text name).1 same)
among_at text (name ∷ names) (suc slot) there = or_second (bytes_eq text name) _ (among_at text names slot there)

-- the last one stands first where they are turned about
pub onto_end : {A : Type 0} (xs : List A) (y : A) (zs : List A) → onto (xs ++ y ∷ []) zs ≡ y ∷ onto xs zs
onto_end [] y zs = refl
onto_end (x ∷ xs) y zs = onto_end xs y (x ∷ zs)

-- and so with one more that has another name
pub none_then : (text : Text) (active : List Active) (x : Active) → is_named text x ≡ false → own_register text active ≡ None → own_register text (active ++ x ∷ []) ≡ None
none_then text active x apart none =
    ap (register_in text) (onto_end active x []) ∙ ap (λ is. if is then Some (length (onto active [])) else own_register text active) apart ∙ none

-- ---- what is captured

-- where a captured name is no local's, it is an upvalue's
captured_upvalue : (n : Names) (active : List Active) (text : Text) (w : Where) → IsCaptured n active text w → own_register text active ≡ None → is_among text n.upvalues ≡ true
captured_upvalue n active text (in_register r) captured none = let is = captured.0 in cc
captured_upvalue n active text (in_upvalue slot) captured none = among_at text n.upvalues slot captured.1
captured_upvalue n active text in_globals captured none = absurd captured

-- and so for each name that is captured
captured_among : (n : Names) (active : List Active) (text : Text) (names : List Text) (uses : List Use) → CapturedBy n active names uses → is_among text names ≡ true → own_register text active ≡ None → is_among text n.upvalues ≡ true
captured_among n active text [] uses captured is none = not_so is
captured_among n active text (name ∷ names) [] captured is none = absurd captured
captured_among n active text (name ∷ names) (one ∷ uses) captured is none =
    of_either (bytes_eq text name) (is_among text names) is
    (λ same. captured_upvalue n active text (where_is one active) (subst (λ name. IsCaptured n active name (where_is one active)) (sym ((bytes_eq-Decides text name).0 same)) captured.0) none)
    (λ is. captured_among n active text names uses captured.1 is none)

-- a name that means no local and no global
meant_upvalue : (n : Names) (active : List Active) (text : Text) (w : Where) → MeansBy n active text w → is_among text n.around ≡ true → own_register text active ≡ None → is_among text n.upvalues ≡ true
meant_upvalue n active text (in_register r) means around none = cc
meant_upvalue n active text (in_upvalue slot) means around none = among_at text n.upvalues slot means.1
meant_upvalue n active text in_globals means around none = let is = means.1 in cc

-- ---- literals have no free names

-- only numbers are folded
folded_closed : (text : Text) (e : Expression) (k : ℤ) → fold e ≡ Some k → free_in text e ≡ false
folded_closed text (number_literal line x) k is = refl
folded_closed text (parenthesized line e) k is = folded_closed text e k is
folded_closed text (unary_expression line op e) k is = let inside = folded_one op (fold e) k is in folded_closed text e inside.0 inside.1
folded_closed text (binary_expression line op left right) k is =
    let sides = folded_both (arith_op op) (fold left) (fold right) k is in
    ap₂ (λ (one other : Bool). one || other) (folded_closed text left sides.0.0 sides.0.1) (folded_closed text right sides.1.0 sides.1.1)
folded_closed text e k is = cc

plain_closed : (text : Text) (e : Expression) (k : Constant) → plain_literal e ≡ Some k → free_in text e ≡ false
plain_closed text (nil_literal line) k is = refl
plain_closed text (true_literal line) k is = refl
plain_closed text (false_literal line) k is = refl
plain_closed text (text_literal line it) k is = refl
plain_closed text e k is = cc

literal_closed_by : (text : Text) (folded : Option ℤ) (e : Expression) (k : Constant) → fold e ≡ folded → number_or folded (plain_literal e) ≡ Some k → free_in text e ≡ false
literal_closed_by text (Some x) e k folded is = folded_closed text e x folded
literal_closed_by text None e k folded is = plain_closed text e k is

literal_closed : (text : Text) (e : Expression) (k : Constant) → literal e ≡ Some k → free_in text e ≡ false
literal_closed text e k is = literal_closed_by text (fold e) e k refl is

closed_last : (text : Text) (fields : Fields) → is_last_item fields ≡ true → free_in_fields text fields ≡ false
closed_last text no_fields is = refl
closed_last text items is = cc

-- ---- what is found

-- the name is in scope around the function, and none of these locals has it
pub record IsOutside (text : Text) (n : Names) (active : List Active) : Type 0 where
  pub around : is_among text n.around ≡ true
  pub none : own_register text active ≡ None

-- in each function that this one opens the name is captured where it is free
abbrev pub IsCapturedInside : Text → FunctionBody → (method : Bool) → Type 0
IsCapturedInside text body method = (n : Names) (before behind : Ahead) (chunk : Chunk) → FunctionOf body method (Some n) before behind chunk → is_among text n.around ≡ true → free_in_body text method body ≡ true → is_among text n.upvalues ≡ true

module _ (text : Text) (n : Names) where
  -- where it is free in a part that stands
  abbrev pub Finds : (free : Bool) → Stretch → Type 0
  Finds free part = (p q : Spot) → part p q → free ≡ true → is_among text n.upvalues ≡ true

  closed_found : (free : Bool) → free ≡ false → free ≡ true → is_among text n.upvalues ≡ true
  closed_found free closed is = cc

  -- each use of an expression
  pub record UsesFind (free : Bool) (active : List Active) (c : Rel) : Type 0 where
    pub to_reg : (from r : ℕ) → Finds free (c.to_reg active from r)
    pub jump_if : (from : ℕ) (truth : Bool) (label : ℕ) → Finds free (c.jump_if active from truth label)
    pub spine : (from to : ℕ) → Finds free (c.spine active from to)
    pub multi : (from : ℕ) (op : Op) (want : Want) → Finds free (c.multi active from op want)
    pub target : (from : ℕ) (target : Target) (to : ℕ) → Finds free (c.target active from target to)
    pub bare : c.form.name ≡ true → Finds free (c.bare active)
    pub closed : (k : Constant) → c.form.literal ≡ Some k → free ≡ false

  module _ (f : Fn) (active : List Active) where
    abbrev g : Fn
    g = asking n f

    abbrev pub EachFinds : Expressions → Type 0
    EachFinds no_expressions = Unit {0}
    EachFinds (syntax.expression e es) = UsesFind (free_in text e) active (related g e) × EachFinds es

    abbrev pub ItemsFind : Fields → Type 0
    ItemsFind no_fields = Unit {0}
    ItemsFind (positional e separator rest) = UsesFind (free_in text e) active (related g e) × ItemsFind rest
    ItemsFind (named name e separator rest) = UsesFind (free_in text e) active (related g e) × ItemsFind rest
    ItemsFind (keyed key e separator rest) = UsesFind (free_in text key) active (related g key) × UsesFind (free_in text e) active (related g e) × ItemsFind rest

    -- ---- operands

    module _ (free : Bool) (c : Rel) (to : (from r : ℕ) → Finds free (c.to_reg active from r)) (bare : c.form.name ≡ true → Finds free (c.bare active)) where
      operand_by : (named : Bool) (local : Option ℕ) → c.form.name ≡ named → (from x behind : ℕ) → Finds free (OperandBy (cond named local None) g active c from x behind)
      operand_by true (Some r) is from x behind p q at = bare is p q at.passed
      operand_by true None is from x behind p q at = to from from p q at.value_at
      operand_by false local is from x behind p q at = to from from p q at.value_at

      pub operand_found : (from x behind : ℕ) → Finds free (OperandAt g active c from x behind)
      operand_found from x behind p q at = operand_by c.form.name (register_of (meaning active p)) refl from x behind p q at

      test_found : (from : ℕ) (truth : Bool) (label : ℕ) → Finds free (TestAt g active c from truth label)
      test_found from truth label p q at = operand_found from at.x at.free1 p at.mid at.operand_at

    module _ (free : Bool) (c : Rel) (finds : UsesFind free active c) where
      pub operand_finds : (from x behind : ℕ) → Finds free (OperandAt g active c from x behind)
      operand_finds = operand_found free c finds.to_reg finds.bare

      rk_by : (k : Option Constant) → c.form.literal ≡ k → (from x behind : ℕ) → Finds free (RkBy k g active c from x behind)
      rk_by (Some k) is from x behind p q (inl at) = closed_found free (finds.closed k is)
      rk_by (Some k) is from x behind p q (inr (large, at)) = operand_finds from x behind p q at
      rk_by None is from x behind p q at = operand_finds from x behind p q at

      pub rk_finds : (from x behind : ℕ) → Finds free (RkAt g active c from x behind)
      rk_finds = rk_by c.form.literal refl

    two_finds : (free other : Bool) (left right : (from x behind : ℕ) → Stretch) (words : (x y : ℕ) → Stretch) → ((from x behind : ℕ) → Finds free (left from x behind)) →
        ((from x behind : ℕ) → Finds other (right from x behind)) →
        (from : ℕ) → Finds (free || other) (TwoAt left right from words)
    two_finds free other left right words first second from p q at is =
        of_either free other is (λ is. first from at.x at.free1 p at.mid at.left_at is) (λ is. second at.free1 at.y at.free2 at.mid at.last at.right_at is)

    -- ---- expressions from their parts

    test_by : (free : Bool) (c : Rel) (k : Option Constant) → ((from r : ℕ) → Finds free (c.to_reg active from r)) → c.form.name ≡ false → ((one : Constant) → k ≡ Some one → free ≡ false) →
        (from : ℕ) (truth : Bool) (label : ℕ) → Finds free (TestBy k g active c from truth label)
    test_by free c (Some k) to unnamed closed from truth label p q at = closed_found free (closed k refl)
    test_by free c None to unnamed closed from truth label p q at = test_found free c to (λ is. absurd cc) from truth label p q at

    -- by its value alone
    single_finds : (free : Bool) (form : Form) (to : List Active → (from r : ℕ) → Stretch) → form.name ≡ false → ((k : Constant) → form.literal ≡ Some k → free ≡ false) →
        ((from r : ℕ) → Finds free (to active from r)) → UsesFind free active (rel_single g form to)
    single_finds free form to unnamed closed finds = record {
      to_reg = finds;
      jump_if = test_by free (rel_alone g form to) form.literal finds unnamed closed;
      spine = λ from behind p q at. finds from from p q at.value_at;
      multi = λ from op want p q at. absurd at;
      target = λ from target behind p q at. absurd at;
      bare = λ is. absurd cc;
      closed = closed;
    }

    -- what has no free names
    pub closed_uses : (c : Rel) → UsesFind false active c
    closed_uses c = record {
      to_reg = λ from r p q at is. not_so is;
      jump_if = λ from truth label p q at is. not_so is;
      spine = λ from behind p q at is. not_so is;
      multi = λ from op want p q at is. not_so is;
      target = λ from target behind p q at is. not_so is;
      bare = λ is_name p q at is. not_so is;
      closed = λ k is. refl;
    }

    module _ (outside : IsOutside text n active) where
      means_found : (name : Text) (w : Where) → MeansBy n active name w → bytes_eq text name ≡ true → is_among text n.upvalues ≡ true
      means_found name w means is =
          meant_upvalue n active text w (subst (λ name. MeansBy n active name w) (sym ((bytes_eq-Decides text name).0 is)) means) outside.around outside.none

      pub name_finds : (name : Text) → UsesFind (bytes_eq text name) active (rel_name g name)
      name_finds name = record {
        to_reg = to;
        jump_if = λ from truth label p q at is. test_found (bytes_eq text name) (record (rel_alone g (form_of (name_expression 0 name)) (NameAt g name)) { bare = BareAt g name }) to bare from truth label p q at is;
        spine = λ from behind p q at is. to from from p q at.value_at is;
        multi = λ from op want p q at. absurd at;
        target = λ from target behind p q at is. means_found name (meaning active p) at.means is;
        bare = bare;
        closed = λ k is. absurd cc;
      }
        where
          to : (from r : ℕ) → Finds (bytes_eq text name) ((rel_name g name).to_reg active from r)
          to from r p q at is = means_found name (meaning active p) at.0 is

          bare : (rel_name g name).form.name ≡ true → Finds (bytes_eq text name) ((rel_name g name).bare active)
          bare is_name p q at is = means_found name (meaning active p) at.means is

      -- a closure captures what is free in its function
      pub function_finds : (body : FunctionBody) (method : Bool) → IsCapturedInside text body method → (from r : ℕ) →
          Finds (free_in_body text method body) (ClosureAt g (FunctionOf body method) active from r)
      function_finds body method inside from r p q at is =
          let names = names_in (onto active []) in
          captured_among n active text at.names (head_or [] p.ahead.sources) at.captured
          (inside (record { around = names ++ n.around; upvalues = at.names }) (without_sources p.ahead) at.mid.ahead at.chunk at.made_at (among_behind text names n.around outside.around) is) outside.none

      pub function_uses : (line : ℕ) (body : FunctionBody) → IsCapturedInside text body false → UsesFind (free_in_body text false body) active (related g (syntax.function_expression line body))
      function_uses line body inside = single_finds (free_in_body text false body) (form_of (syntax.function_expression 0 (syntax.function_body [] false syntax.no_statements 0 0))) (ClosureAt g (FunctionOf body false)) refl (λ k is. absurd cc) (function_finds body false inside)

    moved_finds : (free : Bool) (part : Stretch) (from r : ℕ) → Finds free part → Finds free (MovedFrom g part from r)
    moved_finds free part from r finds p q (inl at) is = finds p q at.1 is
    moved_finds free part from r finds p q (inr at) is = finds p at.1.mid at.1.first_at is

    -- ---- indexing

    indexed_finds : (free other : Bool) (on : Rel) (key : List Active → (from x behind : ℕ) → Stretch) → UsesFind free active on → ((from x behind : ℕ) → Finds other (key active from x behind)) →
        (from r : ℕ) → Finds (free || other) (IndexAt g on key active from r)
    indexed_finds free other on key first second from r = two_finds free other (OperandAt g active on) (key active) _ (operand_finds free on first) second from

    target_finds : (free other : Bool) (on : Rel) (key : List Active → (from x behind : ℕ) → Stretch) (is_local : List Active → Spot → Bool) → UsesFind free active on →
        ((from x behind : ℕ) → Finds other (key active from x behind)) →
        (from : ℕ) (target : Target) (behind : ℕ) → Finds (free || other) (PartTargetAt g on key is_local active from target behind)
    target_finds free other on key is_local first second from target behind p q at is =
        of_either free other is (λ is. operand_finds free on first from at.t at.free1 p at.mid at.on_at is) (λ is. second at.free1 at.k behind at.mid q at.key_at is)

    pub index_finds : (line : ℕ) (on key : Expression) → UsesFind (free_in text on) active (related g on) → UsesFind (free_in text key) active (related g key) →
        UsesFind (free_in text on || free_in text key) active (related g (syntax.index_expression line on key))
    index_finds line on key first second =
        let at_key = rk_finds (free_in text key) (related g key) second in
        let value = single_finds (free_in text on || free_in text key) (form_of (syntax.index_expression line on key)) (IndexAt g (related g on) (λ active. RkAt g active (related g key))) refl (λ k is. absurd cc)
        (indexed_finds (free_in text on) (free_in text key) (related g on) (λ active. RkAt g active (related g key)) first at_key) in
        record {
          to_reg = value.to_reg;
          jump_if = value.jump_if;
          spine = value.spine;
          multi = λ from op want p q at. absurd at;
          target = target_finds (free_in text on) (free_in text key) (related g on) (λ active. RkAt g active (related g key)) _ first at_key;
          bare = λ is. absurd cc;
          closed = λ k is. absurd cc;
        }

    -- the name of a field is not free
    pub field_finds : (line : ℕ) (on : Expression) (name : Text) → UsesFind (free_in text on) active (related g on) →
        UsesFind (free_in text on) active (related g (syntax.field_expression line on name))
    field_finds line on name finds =
        let value = single_finds (free_in text on) (form_of (syntax.field_expression 0 (nil_literal 0) name)) (IndexAt g (related g on) (λ active. RkTextAt g name)) refl (λ k is. absurd cc)
        (λ from r p q at. operand_finds (free_in text on) (related g on) finds from at.x at.free1 p at.mid at.left_at) in
        record {
          to_reg = value.to_reg;
          jump_if = value.jump_if;
          spine = value.spine;
          multi = λ from op want p q at. absurd at;
          target = λ from target behind p q at. operand_finds (free_in text on) (related g on) finds from at.t at.free1 p at.mid at.on_at;
          bare = λ is. absurd cc;
          closed = λ k is. absurd cc;
        }

    -- ---- operators

    load_or_finds : (free : Bool) (folded : Option ℤ) (to : List Active → (from r : ℕ) → Stretch) → ((k : ℤ) → folded ≡ Some k → free ≡ false) →
        ((from r : ℕ) → Finds free (to active from r)) → (from r : ℕ) → Finds free (LoadOr folded g to active from r)
    load_or_finds free (Some k) to closed finds from r p q at = closed_found free (closed k refl)
    load_or_finds free None to closed finds from r p q at = finds from r p q at

    module _ (free other : Bool) (left right : Rel) (first : UsesFind free active left) (second : UsesFind other active right) where
      arithmetic_finds : (op : Op) (from r : ℕ) → Finds (free || other) (ArithmeticAt g op left right active from r)
      arithmetic_finds op from r = two_finds free other (RkAt g active left) (RkAt g active right) _ (rk_finds free left first) (rk_finds other right second) from

      compare_finds : (op : BinaryOp) (from : ℕ) (truth : Bool) (label : ℕ) → Finds (free || other) (CompareAt g op left right active from truth label)
      compare_finds op from truth label = two_finds free other (RkAt g active left) (RkAt g active right) _ (rk_finds free left first) (rk_finds other right second) from

      spine_finds : (from behind : ℕ) → Finds (free || other) (SpineAt g left right active from behind)
      spine_finds from behind p q at is = of_either free other is (λ is. first.to_reg from from p at.mid at.first is) (λ is. second.spine (from + 1) behind at.mid q at.rest is)

      binary_value_finds : (op : BinaryOp) (from r : ℕ) → Finds (free || other) (BinaryAt g op left right active from r)
      binary_value_finds BinaryOp.Add from r p q at = arithmetic_finds Op.Add from r p q at
      binary_value_finds BinaryOp.Sub from r p q at = arithmetic_finds Op.Sub from r p q at
      binary_value_finds BinaryOp.Mul from r p q at = arithmetic_finds Op.Mul from r p q at
      binary_value_finds BinaryOp.Div from r p q at = arithmetic_finds Op.Div from r p q at
      binary_value_finds BinaryOp.Rem from r p q at = arithmetic_finds Op.Mod from r p q at
      binary_value_finds BinaryOp.Pow from r p q at = arithmetic_finds Op.Pow from r p q at
      binary_value_finds BinaryOp.Concat from r p q at = spine_finds from at.free1 p at.last at.operands
      binary_value_finds op from r p q at = compare_finds op from true at.yes.pc p at.mid at.compare

      binary_jump_finds : (compares : Bool) (op : BinaryOp) (value : Rel) → UsesFind (free || other) active value → (from : ℕ) (truth : Bool) (label : ℕ) →
          Finds (free || other) (BinaryJump compares g op left right value active from truth label)
      binary_jump_finds true op value finds from truth label p q at = compare_finds op from truth label p q at
      binary_jump_finds false op value finds from truth label p q at = finds.jump_if from truth label p q at

      binary_spine_finds : (op : BinaryOp) (value : Rel) → UsesFind (free || other) active value → (from behind : ℕ) → Finds (free || other) (BinarySpine g op left right value active from behind)
      binary_spine_finds BinaryOp.Concat value finds from behind p q at = spine_finds from behind p q at
      binary_spine_finds op value finds from behind p q at = finds.spine from behind p q at

      -- both sides stand
      decide_by : (decides : Bool) (is_name : Bool) (local : Option ℕ) → left.form.name ≡ is_name → (from r : ℕ) → Finds free (DecideBy (cond is_name local None) g decides left active from r)
      decide_by decides true (Some x) is from r p q at = first.bare is p at.mid at.first_at
      decide_by decides true None is from r p q at = first.to_reg from r p at.mid at.first_at
      decide_by decides false local is from r p q at = first.to_reg from r p at.mid at.first_at

      here_finds : (decides : Bool) (from r : ℕ) → Finds (free || other) (HereAt g decides left right active from r)
      here_finds decides from r p q at is =
          of_either free other is (λ is. decide_by decides left.form.name (register_of (meaning active p)) refl from r p at.mid at.decide is) (λ is. second.to_reg from r at.on q at.second is)

      logic_value_finds : (decides : Bool) (from r : ℕ) → Finds (free || other) (LogicAt g decides left right active from r)
      logic_value_finds decides from r p q (inl at) = here_finds decides from r p q at.1
      logic_value_finds decides from r p q (inr at) = here_finds decides from from p at.value.mid at.value.first_at

      logic_jump_finds : (both : Bool) (from : ℕ) (truth : Bool) (label : ℕ) → Finds (free || other) (LogicJump both left right active from truth label)
      logic_jump_finds true from truth label p q at is = of_either free other is (λ is. first.jump_if from truth label p at.mid at.first_at is) (λ is. second.jump_if from truth label at.mid q at.second_at is)
      logic_jump_finds false from truth label p q at is = of_either free other is (λ is. first.jump_if from (not truth) q.pc p at.mid at.first_at is) (λ is. second.jump_if from truth label at.mid q at.second_at is)

      pub logic_finds : (decides : Bool) (form : Form) → form.name ≡ false → ((k : Constant) → form.literal ≡ Some k → (free || other) ≡ false) →
          UsesFind (free || other) active (rel_logic g decides form left right)
      logic_finds decides form unnamed closed = record {
        to_reg = logic_value_finds decides;
        jump_if = λ from truth label. logic_jump_finds (beq decides truth) from truth label;
        spine = λ from behind p q at. logic_value_finds decides from from p q at.value_at;
        multi = λ from op want p q at. absurd at;
        target = λ from target behind p q at. absurd at;
        bare = λ is. absurd cc;
        closed = closed;
      }

    pub binary_finds : (line : ℕ) (op : BinaryOp) (l r : Expression) → UsesFind (free_in text l) active (related g l) → UsesFind (free_in text r) active (related g r) →
        UsesFind (free_in text l || free_in text r) active (related g (binary_expression line op l r))
    binary_finds line op l r first second =
        let e = binary_expression line op l r in
        let to = λ (active : List Active). LoadOr (fold e) g (BinaryAt g op (related g l) (related g r)) active in
        let value = single_finds (free_in text e) (form_of e) to refl (literal_closed text e)
        (load_or_finds (free_in text e) (fold e) (BinaryAt g op (related g l) (related g r)) (folded_closed text e) (binary_value_finds (free_in text l) (free_in text r) (related g l) (related g r) first second op)) in
        record {
          to_reg = value.to_reg;
          jump_if = binary_jump_finds (free_in text l) (free_in text r) (related g l) (related g r) first second (is_comparison op) op (rel_single g (form_of e) to) value;
          spine = binary_spine_finds (free_in text l) (free_in text r) (related g l) (related g r) first second op (rel_single g (form_of e) to) value;
          multi = λ from op want p q at. absurd at;
          target = λ from target behind p q at. absurd at;
          bare = λ is. absurd cc;
          closed = literal_closed text e;
        }

    unary_jump_finds : (free : Bool) (op : UnaryOp) (c value : Rel) → UsesFind free active c → UsesFind free active value → (from : ℕ) (truth : Bool) (label : ℕ) →
        Finds free (UnaryJump op c value active from truth label)
    unary_jump_finds free UnaryOp.Not c value finds value_finds from truth label p q at = finds.jump_if from (not truth) label p q at
    unary_jump_finds free op c value finds value_finds from truth label p q at = value_finds.jump_if from truth label p q at

    pub unary_finds : (line : ℕ) (op : UnaryOp) (e : Expression) → UsesFind (free_in text e) active (related g e) → UsesFind (free_in text e) active (related g (unary_expression line op e))
    unary_finds line op e finds =
        let whole = unary_expression line op e in
        let to = λ (active : List Active). LoadOr (fold whole) g (UnaryAt g op (related g e)) active in
        let value = single_finds (free_in text e) (form_of whole) to refl (literal_closed text whole)
        (load_or_finds (free_in text e) (fold whole) (UnaryAt g op (related g e)) (folded_closed text whole) (λ from r p q at. operand_finds (free_in text e) (related g e) finds from at.x at.free1 p at.mid at.operand_at)) in
        record {
          to_reg = value.to_reg;
          jump_if = unary_jump_finds (free_in text e) op (related g e) (rel_single g (form_of whole) to) finds value;
          spine = value.spine;
          multi = λ from op want p q at. absurd at;
          target = λ from target behind p q at. absurd at;
          bare = λ is. absurd cc;
          closed = literal_closed text whole;
        }

    -- a name in parentheses is a name
    pub parenthesized_finds : (line : ℕ) (e : Expression) → UsesFind (free_in text e) active (related g e) → UsesFind (free_in text e) active (related g (parenthesized line e))
    parenthesized_finds line e finds = record {
      to_reg = finds.to_reg;
      jump_if = finds.jump_if;
      spine = λ from behind p q at. finds.to_reg from from p q at.value_at;
      multi = λ from op want p q at. absurd at;
      target = λ from target behind p q at. absurd at;
      bare = λ is. finds.bare (ap (λ (form : Form). form.name) (form_is g e) ∙ is);
      closed = literal_closed text (parenthesized line e);
    }

    -- ---- lists and calls

    next_finds : (free other : Bool) (c : Rel) (from : ℕ) (rest : Stretch) → UsesFind free active c → Finds other rest → Finds (free || other) (FirstAt g c active from rest)
    next_finds free other c from rest first second p q at is = of_either free other is (λ is. first.to_reg from from p at.mid at.first is) (λ is. second at.mid q at.others is)

    next_each_finds : (es : Expressions) → EachFinds es → (from : ℕ) → Finds (free_in_all text es) (AllNextAt g (all_related g es) active from)
    next_each_finds no_expressions each from p q at = not_so
    next_each_finds (syntax.expression e es) each from p q at = next_finds (free_in text e) (free_in_all text es) (related g e) from _ each.0 (next_each_finds es each.1 (from + 1)) p q at

    -- the last one gives several values
    multi_each_finds : (op : Op) (want : Want) (es : Expressions) → EachFinds es → (from : ℕ) → Finds (free_in_all text es) (AllMultiAt g op want (all_related g es) active from)
    multi_each_finds op want no_expressions each from p q at = not_so
    multi_each_finds op want (syntax.expression e no_expressions) each from p q at = λ is. of_either (free_in text e) false is (each.0.multi from op want p q at) not_so
    multi_each_finds op want (syntax.expression e (syntax.expression d es)) each from p q at =
        next_finds (free_in text e) (free_in_all text (syntax.expression d es)) (related g e) from _ each.0 (multi_each_finds op want (syntax.expression d es) each.1 (from + 1)) p q at

    open_by_finds : (are : Bool) (es : Expressions) → EachFinds es → (from : ℕ) → Finds (free_in_all text es) (OpenBy are g (all_related g es) active from)
    open_by_finds true es each from p q at = multi_each_finds Op.Call None es each from p q at
    open_by_finds false es each from p q at = next_each_finds es each from p q at

    pub open_finds : (es : Expressions) → EachFinds es → (from : ℕ) → Finds (free_in_all text es) (OpenListAt g (all_related g es) active from)
    open_finds es each = open_by_finds (rels_open (all_related g es)) es each

    filled_finds : (are : Bool) (es : Expressions) (missing : ℕ) → EachFinds es → (from : ℕ) → Finds (free_in_all text es) (FilledAt are g (all_related g es) missing active from)
    filled_finds true es missing each from p q at = multi_each_finds Op.Call (Some (missing + 1)) es each from p q at
    filled_finds false es missing each from p q at = next_each_finds es each from p at.mid at.first_at

    adjust_by_finds : (fewer : Bool) (es : Expressions) (count : ℕ) → EachFinds es → (from : ℕ) → Finds (free_in_all text es) (AdjustBy fewer g (all_related g es) count active from)
    adjust_by_finds true es count each from p q at = filled_finds (rels_open (all_related g es)) es (count - length (all_related g es)) each from p q at
    adjust_by_finds false es count each from p q at = next_each_finds es each from p q at

    pub adjust_finds : (es : Expressions) (count : ℕ) → EachFinds es → (from : ℕ) → Finds (free_in_all text es) (AdjustAt g (all_related g es) count active from)
    adjust_finds es count = adjust_by_finds (nat_lt (length (all_related g es)) count) es count

    called_finds : (free : Bool) (form : Form) (part : List Active → (from : ℕ) → Op → Want → Stretch) → form.name ≡ false → ((k : Constant) → form.literal ≡ Some k → free ≡ false) →
        ((from : ℕ) (op : Op) (want : Want) → Finds free (part active from op want)) →
        UsesFind free active (rel_call g form part)
    called_finds free form part unnamed closed finds =
        let value = single_finds free form (λ active from r. MovedFrom g (part active from Op.Call (Some 1)) from r) unnamed closed (λ from r. moved_finds free (part active from Op.Call (Some 1)) from r (finds from Op.Call (Some 1))) in
        record {
          to_reg = value.to_reg;
          jump_if = value.jump_if;
          spine = value.spine;
          multi = finds;
          target = λ from target behind p q at. absurd at;
          bare = value.bare;
          closed = closed;
        }

    pub call_finds : (free other : Bool) (form : Form) (on : Rel) (given : GivenRel) → form.name ≡ false → ((k : Constant) → form.literal ≡ Some k → (free || other) ≡ false) →
        UsesFind free active on → ((from : ℕ) → Finds other (given.part active from)) →
        UsesFind (free || other) active (rel_call g form (CallAt g on given))
    call_finds free other form on given unnamed closed first second =
        called_finds (free || other) form (CallAt g on given) unnamed closed
        (λ from op want p q at is. of_either free other is (λ is. first.to_reg from from p at.mid at.on_at is) (λ is. second (from + 1) at.mid at.last at.given_at is))

    pub method_finds : (free other : Bool) (form : Form) (on : Rel) (name : Text) (given : GivenRel) → form.name ≡ false →
        ((k : Constant) → form.literal ≡ Some k → (free || other) ≡ false) → UsesFind free active on → ((from : ℕ) → Finds other (given.part active from)) →
        UsesFind (free || other) active (rel_call g form (MethodAt g on name given))
    method_finds free other form on name given unnamed closed first second =
        called_finds (free || other) form (MethodAt g on name given) unnamed closed
        (λ from op want p q at is. of_either free other is (λ is. operand_finds free on first from at.x at.free1 p at.mid at.on_at is) (λ is. second (from + 2) at.begun at.last at.given_at is))

    -- ---- constructors

    item_by_finds : (last several_values : Bool) (e : Expression) (rest : Fields) → UsesFind (free_in text e) active (related g e) → is_last_item rest ≡ last →
        (t done pending : ℕ) (others : Stretch) → Finds (free_in_fields text rest) others →
        Finds (free_in text e || free_in_fields text rest) (ItemBy (last && several_values) g (related g e) active t done pending others)
    item_by_finds true true e rest finds last t done pending others second p q at is =
        of_either (free_in text e) _ is (λ is. finds.multi (t + suc pending) Op.Call None p at.mid at.first_at is) (closed_found (free_in_fields text rest) (closed_last text rest last))
    item_by_finds true false e rest finds last t done pending others second p q at is =
        of_either (free_in text e) _ is (λ is. finds.to_reg (t + suc pending) (t + suc pending) p at.mid at.first is) (λ is. second at.others.mid q at.others.second_at is)
    item_by_finds false several_values e rest finds last t done pending others second p q at is =
        of_either (free_in text e) _ is (λ is. finds.to_reg (t + suc pending) (t + suc pending) p at.mid at.first is) (λ is. second at.others.mid q at.others.second_at is)

    items_find : (fields : Fields) → ItemsFind fields → (t done pending : ℕ) → Finds (free_in_fields text fields) (ItemsAt g fields active t done pending)
    items_find no_fields find t done pending p q at = not_so
    items_find (positional e separator rest) find t done pending p q at =
        item_by_finds (is_last_item rest) (several (form_of e)) e rest find.0 refl t done pending _ (items_find rest find.1 t (suc done) (pending_after (suc pending))) p q at
    items_find (named name e separator rest) find t done pending p q at = λ is.
        of_either (free_in text e) _ is (λ is. rk_finds (free_in text e) (related g e) find.0 at.first_at.free1 at.first_at.y at.first_at.free2 at.first_at.mid at.first_at.last at.first_at.right_at is)
        (λ is. items_find rest find.1 t done pending at.mid q at.second_at is)
    items_find (keyed key e separator rest) find t done pending p q at = λ is.
        of_either (free_in text key || free_in text e) _ is
        (λ is. two_finds (free_in text key) (free_in text e) (RkAt g active (related g key)) (RkAt g active (related g e)) _ (rk_finds _ (related g key) find.0) (rk_finds _ (related g e) find.1) (t + suc pending) p at.mid at.first_at is)
        (λ is. items_find rest find.2 t done pending at.mid q at.second_at is)

    pub table_finds : (fields : Fields) → ItemsFind fields → (from : ℕ) → Finds (free_in_fields text fields) (TableAt g (λ t. ItemsAt g fields active t 0 0) from)
    table_finds fields find from p q at = items_find fields find from 0 0 at.mid q at.items_at

    pub constructor_finds : (line : ℕ) (fields : Fields) → ItemsFind fields → UsesFind (free_in_fields text fields) active (related g (syntax.constructor line fields))
    constructor_finds line fields find =
        single_finds (free_in_fields text fields) (form_of (syntax.constructor line fields)) (λ active from r. MovedFrom g (TableAt g (λ t. ItemsAt g fields active t 0 0) from) from r) refl (λ k is. absurd cc)
        (λ from r. moved_finds (free_in_fields text fields) (TableAt g (λ t. ItemsAt g fields active t 0 0) from) from r (table_finds fields find from))
