-- An operand in the register of a local is a name that means this local, and a number or a string is a constant: what operands of a comparison are in registers.
use Rattle.std.proofs.Common.{◌≡◌, ℕ, ◌<◌, ◌≤◌, ◌⊎◌, inl, inr, max, Bool, true, false, ℤ, List, length, Option, Some, None, refl, sym, ap, ◌∙◌, subst, arith}
use Rattle.std.proofs.lemmas.Option.{same_Some}
use Rattle.std.specs.Prelude.{◌||◌}
use Rattle.lua_num.specs.Bytes.{Text}
use Rattle.lua_tree.specs.Syntax.{Expression, nil_literal, true_literal, false_literal, vararg_expression, number_literal, text_literal, name_expression, function_expression, index_expression, field_expression, call_expression, method_call, binary_expression, unary_expression, parenthesized, constructor}
use Rattle.lua_tree.specs.declared.tree.BinaryOp.{BinaryOp}
use Rattle.proto.specs.declared.parts.Constant.{Constant}
use Rattle.core_expr.specs.Making.{and_last, deepest, deepest_item, depth_of, depth_of_operand, made_index}
use Rattle.core_expr.specs.Values.{OperandValue, Value, Values, and_operand, binary_value, call_value, concat_value, constant_operand, index_value, local_value, method_value, no_operands, table_value, unary_value, value_operand}
use Rattle.scheme.specs.Expressions.{fold, is_name, literal, number_or, plain_literal}
use Rattle.scheme.specs.Making.{in_globals, in_register, in_upvalue}
use Rattle.scheme.specs.declared.making.Active.{Active}
use Rattle.scheme_order.specs.Turned.{is_constant_literal}
use Rattle.scheme_stands.specs.Expressions.{IsLarge}
use Rattle.scheme_stands.specs.Words.{Fn, Means, Names, own_register}
use Rattle.reads_back.specs.Cores.{Counted, IsArithmetic, IsConstant, IsCore, IsFoldedOr, IsNamed, IsOperand, IsOperandBy, IsOperator, IsUnary, core, still}
use Rattle.reads_back.proofs.ComparisonOrder.{HasLocal}
use Rattle.reads_back.proofs.MarksSame.{over_made}
use Rattle.reads_back.proofs.TestedAs.{BothTested, IsField}
use Rattle.reads_back.proofs.Tests.{not_so}

-- ---- the value of a local is that of a name

index_no_local : (on : Value) (key : OperandValue) (v : Value) (r : ℕ) → made_index on key ≡ Some v → v ≡ local_value r → ⊥
index_no_local (index_value on keys depth) key v r is local = let made = over_made (depth_of_operand key) (λ d. index_value on (and_last keys key) (max depth d)) v is in cc
index_no_local on key v r is local = let made = over_made (max (depth_of on) (depth_of_operand key)) (λ d. index_value on (and_operand key no_operands) d) v is in cc

module _ (g : Fn) (active : List Active) (r : ℕ) where
  arithmetic_no_local : (op : BinaryOp) (Left Right : OperandValue → Type 0) (v : Value) → IsArithmetic op Left Right v → v ≡ local_value r → ⊥
  arithmetic_no_local op Left Right v (plain, x, y, is_x, is_y, made) local = let is = over_made (max (depth_of_operand x) (depth_of_operand y)) (λ d. binary_value op x y d) v made in cc

  operator_no_local : (op : BinaryOp) (Left Right : Counted OperandValue) (Operands : Counted Values) (before behind : ℕ) (v : Value) → IsOperator op Left Right Operands before behind v → v ≡ local_value r → ⊥
  operator_no_local BinaryOp.Concat Left Right Operands before behind v (values, are, made) local = let is = over_made (deepest values) (λ d. concat_value values d) v made in cc
  operator_no_local op Left Right Operands before behind v is local = arithmetic_no_local op (Left before is.0) (Right is.0 behind) v is.1 local

  folded_no_local : (folded : Option ℤ) (Is : Counted Value) (before behind : ℕ) (v : Value) → (Is before behind v → v ≡ local_value r → ⊥) → IsFoldedOr folded g Is before behind v → v ≡ local_value r → ⊥
  folded_no_local (Some n) Is before behind v none (still, (number, has, is)) local = cc
  folded_no_local None Is before behind v none is local = none is local

  name_of_local : (e : Expression) (before behind : ℕ) (v : Value) → IsCore g active e before behind v → v ≡ local_value r → is_name e ≡ true
  name_of_local (nil_literal line) before behind v is local = let same = is.1 in cc
  name_of_local (true_literal line) before behind v is local = let same = is.1 in cc
  name_of_local (false_literal line) before behind v is local = let same = is.1 in cc
  name_of_local (vararg_expression line) before behind v is local = let same = is.1 in cc
  name_of_local (number_literal line number) before behind v (still, (place, has, same)) local = cc
  name_of_local (text_literal line text) before behind v (still, (place, has, same)) local = cc
  name_of_local (name_expression line text) before behind v is local = refl
  name_of_local (function_expression line body) before behind v is local = let made = is.1 in cc
  name_of_local (index_expression line on key) before behind v is local = let parts = is.1 in absurd (index_no_local parts.0 parts.1 v r parts.4 local)
  name_of_local (field_expression line on text) before behind v is local = let parts = is.1 in absurd (index_no_local parts.0 parts.1 v r parts.4 local)
  name_of_local (call_expression line on args on_line) before behind v (mid, (callee, values, all, is_callee, given, made)) local = let is = over_made (max (depth_of callee) (deepest values)) (λ d. call_value callee values all d) v made in cc
  name_of_local (method_call line on name args on_line) before behind v (mid, (callee, number, values, all, is_callee, has, given, made)) local = let is = over_made (max (depth_of callee) (deepest values)) (λ d. method_value callee number values all d) v made in cc
  name_of_local (binary_expression line op left right) before behind v is local =
      absurd (folded_no_local (fold (binary_expression line op left right)) _ before behind v (λ is local. operator_no_local op _ _ _ before behind v is local) is local)
  name_of_local (unary_expression line op e) before behind v is local =
      absurd (folded_no_local (fold (unary_expression line op e)) _ before behind v unary is local)
    where
      unary : IsUnary op ((core g active e).value before behind) v → v ≡ local_value r → ⊥
      unary (of, is_of, made) local = let is = over_made (depth_of of) (λ d. unary_value op of d) v made in cc
  name_of_local (constructor line items) before behind v (made_items, all, are, made) local = let is = over_made (deepest_item made_items) (λ d. table_value made_items all d) v made in cc
  name_of_local (parenthesized line e) before behind v is local = name_of_local e before behind v is local
  name_of_local e before behind v is local = absurd is

  operand_of_local : (e : Expression) (before behind : ℕ) (o : OperandValue) → IsOperand g active e before behind o → o ≡ value_operand (local_value r) → is_name e ≡ true
  operand_of_local e before behind o is local = by (literal e) is
    where
      by : (k : Option Constant) → IsOperandBy k g (IsCore g active e) before behind o → is_name e ≡ true
      by (Some k) (inl (still, (number, has, small, same))) = cc
      by (Some k) (inr (large, (v, inside, same))) = let is_local : v ≡ local_value r = cc in name_of_local e before behind v inside is_local
      by None (v, inside, same) = let is_local : v ≡ local_value r = cc in name_of_local e before behind v inside is_local

-- ---- names

name_unfolded : (e : Expression) → is_name e ≡ true → fold e ≡ None
name_unfolded (name_expression line text) named = refl
name_unfolded (parenthesized line e) named = name_unfolded e named
name_unfolded e named = cc

pub name_no_literal : (e : Expression) → is_name e ≡ true → literal e ≡ None
name_no_literal (name_expression line text) named = refl
name_no_literal (parenthesized line e) named = ap (λ folded. number_or folded None) (name_unfolded e named)
name_no_literal e named = cc

pub literal_no_name : (e : Expression) (k : Constant) → literal e ≡ Some k → is_name e ≡ false
literal_no_name e k is = by (is_name e) refl
  where
    by : (named : Bool) → is_name e ≡ named → named ≡ false
    by true named = let none = name_no_literal e named in cc
    by false named = refl

name_still : (g : Fn) (active : List Active) (e : Expression) → is_name e ≡ true → (before behind : ℕ) (v : Value) → IsCore g active e before behind v → behind ≡ before
name_still g active (name_expression line text) named before behind v is = is.0
name_still g active (parenthesized line e) named before behind v is = name_still g active e named before behind v is
name_still g active e named before behind v is = cc

-- ---- what the name of a local means

-- it is a name, in parentheses or not, that means the local in this register
abbrev pub IsNameOf : List Active → (register : ℕ) → Expression → Type 0
IsNameOf active r (name_expression line text) = own_register text active ≡ Some r
IsNameOf active r (parenthesized line e) = IsNameOf active r e
IsNameOf active r e = ⊥

-- where the law is asked, a name with the value of a local means that local
module _ (g : Fn) (active : List Active) (r : ℕ) (n : Names) (law : g.law ≡ Some n) where
  text_means : (text : Text) → IsNamed g active text (local_value r) → own_register text active ≡ Some r
  text_means text (in_register place, means, is) =
      let same : place ≡ r = cc in
      subst (λ r. own_register text active ≡ Some r) same (subst (λ law. Means law active text (in_register place)) law means)
  text_means text (in_upvalue slot, means, is) = cc
  text_means text (in_globals, means, (number, has, is)) = cc

  name_means : (e : Expression) → is_name e ≡ true → (before behind : ℕ) → IsCore g active e before behind (local_value r) → IsNameOf active r e
  name_means (name_expression line text) named before behind is = text_means text is.1
  name_means (parenthesized line e) named before behind is = name_means e named before behind is
  name_means e named before behind is = cc

-- ---- a number or a string is a constant

module _ (g : Fn) (active : List Active) where
  folded_is : (folded : Option ℤ) (Is : Counted Value) (n : ℤ) (before behind : ℕ) (v : Value) → folded ≡ Some n → IsFoldedOr folded g Is before behind v → still (IsConstant g (Constant.Number n)) before behind v
  folded_is (Some number) Is n before behind v is inside = subst (λ n. still (IsConstant g (Constant.Number n)) before behind v) (same_Some number n is) inside
  folded_is None Is n before behind v is inside = cc

  folded_constant : (e : Expression) (n : ℤ) (before behind : ℕ) (v : Value) → fold e ≡ Some n → IsCore g active e before behind v → still (IsConstant g (Constant.Number n)) before behind v
  folded_constant (number_literal line number) n before behind v is inside = subst (λ n. still (IsConstant g (Constant.Number n)) before behind v) (same_Some number n is) inside
  folded_constant (parenthesized line e) n before behind v is inside = folded_constant e n before behind v is inside
  folded_constant (unary_expression line op e) n before behind v is inside = folded_is (fold (unary_expression line op e)) _ n before behind v is inside
  folded_constant (binary_expression line op left right) n before behind v is inside = folded_is (fold (binary_expression line op left right)) _ n before behind v is inside
  folded_constant e n before behind v is inside = cc

  text_constant : (e : Expression) (text : Text) (before behind : ℕ) (v : Value) → plain_literal e ≡ Some (Constant.Text text) → IsCore g active e before behind v → still (IsConstant g (Constant.Text text)) before behind v
  text_constant (text_literal line other) text before behind v is inside = let same : other ≡ text = cc in subst (λ text. still (IsConstant g (Constant.Text text)) before behind v) same inside
  text_constant e text before behind v is inside = cc

  literal_constant : (e : Expression) (k : Constant) (before behind : ℕ) (v : Value) → literal e ≡ Some k → is_constant_literal (Some k) ≡ true → IsCore g active e before behind v → still (IsConstant g k) before behind v
  literal_constant e k before behind v is constant inside = by (fold e) refl is
    where
      plain : (k : Constant) → plain_literal e ≡ Some k → is_constant_literal (Some k) ≡ true → still (IsConstant g k) before behind v
      plain (Constant.Text text) is constant = text_constant e text before behind v is inside
      plain (Constant.Number n) is constant = absurd (no_number e n is)
        where
          no_number : (e : Expression) (n : ℤ) → plain_literal e ≡ Some (Constant.Number n) → ⊥
          no_number (nil_literal line) n is = cc
          no_number e n is = cc
      plain k is constant = cc

      by : (folded : Option ℤ) → fold e ≡ folded → number_or folded (plain_literal e) ≡ Some k → still (IsConstant g k) before behind v
      by (Some n) folded is = subst (λ k. still (IsConstant g k) before behind v) (same_Some (Constant.Number n) k is) (folded_constant e n before behind v folded inside)
      by None folded is = plain k is constant

-- ---- two operands of which one is in the register of a local

-- one of them is a number or a string
abbrev pub OneConstant : (l r : Expression) → Type 0
OneConstant l r = (is_constant_literal (literal l) || is_constant_literal (literal r)) ≡ true

-- an operand that is a local
pub record LocalOperand (g : Fn) (active : List Active) (e : Expression) (before behind : ℕ) (o : OperandValue) : Type 0 where
  pub register : ℕ
  pub is : o ≡ value_operand (local_value register)
  pub named : is_name e ≡ true
  pub inside : IsCore g active e before behind (local_value register)
  pub still : behind ≡ before
  -- where the law is asked, it means the local in this register
  pub means : (n : Names) → g.law ≡ Some n → IsNameOf active register e

local_operand : (g : Fn) (active : List Active) (e : Expression) (before behind : ℕ) (o : OperandValue) (r : ℕ) → IsOperand g active e before behind o → o ≡ value_operand (local_value r) → LocalOperand g active e before behind o
local_operand g active e before behind o r is local = by (subst (λ (k : Option Constant). IsOperandBy k g (IsCore g active e) before behind o) (name_no_literal e named) is)
  where
    named : is_name e ≡ true
    named = operand_of_local g active r e before behind o is local

    by : IsOperandBy None g (IsCore g active e) before behind o → LocalOperand g active e before behind o
    by (v, inside, same) =
        let is_local : v ≡ local_value r = cc in
        let here = subst (IsCore g active e before behind) is_local inside in
        record { register = r; is = local; named = named; inside = here; still = name_still g active e named before behind v inside; means = λ n law. name_means g active r n law e named before behind here }

-- an operand in a register that is a number or a string
pub record LiteralOperand (g : Fn) (e : Expression) (before behind : ℕ) : Type 0 where
  pub constant : Constant
  pub is : literal e ≡ Some constant
  pub loaded : is_constant_literal (Some constant) ≡ true
  pub large : IsLarge g constant
  pub still : behind ≡ before

literal_operand : (g : Fn) (active : List Active) (e : Expression) (before behind : ℕ) (v : Value) → is_constant_literal (literal e) ≡ true → IsOperand g active e before behind (value_operand v) → LiteralOperand g e before behind
literal_operand g active e before behind v constant is = by (literal e) refl constant is
  where
    by : (k : Option Constant) → literal e ≡ k → is_constant_literal k ≡ true → IsOperandBy k g (IsCore g active e) before behind (value_operand v) → LiteralOperand g e before behind
    by (Some k) known constant (inl (still, (number, has, small, same))) = cc
    by (Some k) known constant (inr (large, (w, inside, same))) = record { constant = k; is = known; loaded = constant; large = large; still = (literal_constant g active e k before behind w known constant inside).0 }
    by None known constant is = cc

module _ {g : Fn} {active : List Active} {l r : Expression} {before behind : ℕ} (both : BothTested g active l r before behind) where
  abbrev count : ℕ
  count = length active

  -- the register behind the first operand is no local's
  free_behind : (o : OperandValue) (x free1 : ℕ) → IsField count count x free1 o → count ≤ free1
  free_behind (constant_operand number) x free1 at = let same = at.1 in omega (arith, same)
  free_behind (value_operand v) x free1 (inl at) = let same = at.2 in omega (arith, same)
  free_behind (value_operand v) x free1 (inr at) = let same = at.2 in omega (arith, same)

  -- an operand in the register of a local is that local
  field_local : (free field free1 : ℕ) (v : Value) → count ≤ free → field < count → IsField count free field free1 (value_operand v) → v ≡ local_value field
  field_local free field free1 v least below (inl at) = at.1
  field_local free field free1 v least below (inr at) = let same = at.0 in absurd (omega (arith, least, below, same))

  pub some_local : HasLocal count both.x both.y both.first both.second → LocalOperand g active l before both.mid both.first ⊎ LocalOperand g active r both.mid behind both.second
  some_local (v, w, first, second, inl below) =
      let at = subst (IsField count count both.x both.free1) first both.at_first in
      let local = field_local count both.x both.free1 v (omega arith) below at in
      inl (local_operand g active l before both.mid both.first both.x both.is_first (first ∙ ap value_operand local))
  some_local (v, w, first, second, inr below) =
      let at = subst (IsField count both.free1 both.y both.free2) second both.at_second in
      let local = field_local both.free1 both.y both.free2 w (free_behind both.first both.x both.free1 both.at_first) below at in
      inr (local_operand g active r both.mid behind both.second both.y both.is_second (second ∙ ap value_operand local))

  -- a local, and a number or a string
  pub local_and_literal : HasLocal count both.x both.y both.first both.second → OneConstant l r →
      (LocalOperand g active l before both.mid both.first × LiteralOperand g r both.mid behind) ⊎ (LiteralOperand g l before both.mid × LocalOperand g active r both.mid behind both.second)
  local_and_literal locals one = by (is_constant_literal (literal l)) (is_constant_literal (literal r)) refl refl one (some_local locals)
    where
      first_literal : is_constant_literal (literal l) ≡ true → LiteralOperand g l before both.mid
      first_literal is = literal_operand g active l before both.mid locals.0 is (subst (IsOperand g active l before both.mid) locals.2 both.is_first)

      second_literal : is_constant_literal (literal r) ≡ true → LiteralOperand g r both.mid behind
      second_literal is = literal_operand g active r both.mid behind locals.1 is (subst (IsOperand g active r both.mid behind) locals.3 both.is_second)

      no_both : {A : Type 0} (e : Expression) → is_name e ≡ true → is_constant_literal (literal e) ≡ true → A
      no_both e named is = not_so (sym (ap is_constant_literal (name_no_literal e named)) ∙ is)

      by : (a b : Bool) → is_constant_literal (literal l) ≡ a → is_constant_literal (literal r) ≡ b → (a || b) ≡ true → LocalOperand g active l before both.mid both.first ⊎ LocalOperand g active r both.mid behind both.second →
          (LocalOperand g active l before both.mid both.first × LiteralOperand g r both.mid behind) ⊎ (LiteralOperand g l before both.mid × LocalOperand g active r both.mid behind both.second)
      by a true is_a is_b one (inl local) = inl (local, second_literal is_b)
      by true false is_a is_b one (inl local) = no_both l local.named is_a
      by false false is_a is_b one local = cc
      by true b is_a is_b one (inr local) = inr (first_literal is_a, local)
      by false true is_a is_b one (inr local) = no_both r local.named is_b
