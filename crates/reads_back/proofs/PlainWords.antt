-- What is written of the value of an expression is a string, nil, true or false only where the value is one.
use Rattle.std.proofs.Common.{◌≡◌, ℕ, suc, max, Bool, true, false, ℤ, List, Option, Some, None, is_some, refl, sym, ap, ◌∙◌, subst}
use Rattle.lua_num.specs.Bytes.{Text}
use Rattle.lua_tree.specs.Syntax.{Expression, nil_literal, true_literal, false_literal, vararg_expression, number_literal, text_literal, name_expression, function_expression, index_expression, field_expression, call_expression, method_call, binary_expression, unary_expression, parenthesized, constructor}
use Rattle.lua_tree.specs.WellFormed.{is_prefix}
use Rattle.lua_tree.specs.declared.tree.BinaryOp.{BinaryOp}
use Rattle.proto.specs.declared.parts.Constant.{Constant}
use Rattle.core_expr.specs.Counting.{left_by, left_by_operand, taken_behind, taken_behind_operand}
use Rattle.core_expr.specs.Making.{and_last, deepest, depth_of, depth_of_operand, made_index, deepest_item}
use Rattle.core_expr.specs.Places.{Place, constant_name, field_name, local_name, upvalue_name}
use Rattle.core_expr.specs.Values.{Value, nil_value, bool_value, vararg_value, constant_value, local_value, upvalue_value, global_value, index_value, binary_value, unary_value, concat_value, call_value, method_value, function_value, Values, no_values, and_value, OperandValue, OperandList, no_operands, and_operand, Inner, table_value}
use Rattle.core_expr.specs.Writing.{Wording, as_prefix, can_write, function_left, function_word, name_word, unless, with_key, word, word_keys, word_operand}
use Rattle.scheme.specs.Expressions.{fold, literal, plain_literal}
use Rattle.scheme.specs.Making.{Where, in_globals, in_register, in_upvalue}
use Rattle.scheme.specs.declared.making.Active.{Active}
use Rattle.scheme_stands.specs.Words.{Fn}
use Rattle.reads_back.specs.Cores.{HasNumber, IsArithmetic, IsConstant, IsCore, IsFoldedOr, IsIndexed, IsOperandBy, IsOperator, IsUnary, IsVariable, core, Counted, concat_by, first_and, unary_by}
use Rattle.reads_back.proofs.MarksSame.{over_made}

-- ---- what is made

record IsIndexValue (v : Value) : Type 0 where
  on : Value
  keys : OperandList
  depth : ℕ
  is : v ≡ index_value on keys depth

index_is : (on : Value) (key : OperandValue) (v : Value) → made_index on key ≡ Some v → IsIndexValue v
index_is (index_value on keys depth) key v is =
    record { on = on; keys = and_last keys key; depth = max depth (suc (depth_of_operand key)); is = over_made (depth_of_operand key) (λ d. index_value on (and_last keys key) (max depth d)) v is }
index_is on key v is =
    record { on = on; keys = and_operand key no_operands; depth = suc (max (depth_of on) (depth_of_operand key)); is = over_made (max (depth_of on) (depth_of_operand key)) (λ d. index_value on (and_operand key no_operands) d) v is }

-- ---- words that are no plain literal

prefix_plain : (x : Expression) → is_prefix x ≡ true → plain_literal x ≡ None
prefix_plain (nil_literal line) prefix = cc
prefix_plain (true_literal line) prefix = cc
prefix_plain (false_literal line) prefix = cc
prefix_plain (text_literal line text) prefix = cc
prefix_plain x prefix = refl

as_prefix_plain : (w : Wording) → plain_literal (as_prefix w).words ≡ None
as_prefix_plain w = by (is_prefix w.words) refl
  where
    by : (prefix : Bool) → is_prefix w.words ≡ prefix → plain_literal (unless prefix w).words ≡ None
    by true is = prefix_plain w.words is
    by false is = refl

with_key_plain : (name : Option Text) (on key : Wording) → plain_literal (with_key name on key).words ≡ None
with_key_plain None on key = refl
with_key_plain (Some name) on key = refl

keys_plain : (at : Place) (n : ℕ) (fs : List (Option Inner)) (w : Wording) (keys : OperandList) → plain_literal w.words ≡ None → plain_literal (word_keys at n fs w keys).words ≡ None
keys_plain at n fs w no_operands plain = plain
keys_plain at n fs w (and_operand key rest) plain = keys_plain at (taken_behind_operand key n) (left_by_operand key fs) (with_key (field_name at key) w (word_operand at n fs key)) rest (with_key_plain (field_name at key) w (word_operand at n fs key))

name_plain : (name : Option Text) → is_some name ≡ true → plain_literal (name_word name).words ≡ None
name_plain None is = cc
name_plain (Some name) is = refl

function_plain : (found : Option Inner) → is_some found ≡ true → plain_literal (function_word found).words ≡ None
function_plain None is = cc
function_plain (Some found) is = refl

-- ---- which values expressions have

-- a constant that is loaded is a number or a string
abbrev pub IsLoadable : Constant → Type 0
IsLoadable (Constant.Number n) = Unit {0}
IsLoadable (Constant.Text text) = Unit {0}
IsLoadable k = ⊥

-- how the value of an expression is written where it is written as it is
pub data IsShown (g : Fn) (at : Place) (left : List (Option Inner)) (v : Value) : Type 0 where
  is_nil : v ≡ nil_value → IsShown g at left v
  is_truth : (b : Bool) → v ≡ bool_value b → IsShown g at left v
  is_constant : (k : Constant) (number : ℕ) → IsLoadable k → HasNumber g k number → v ≡ constant_value number → IsShown g at left v
  is_no_literal : ((n : ℕ) → plain_literal (word at n left v).words ≡ None) → IsShown g at left v

pub record HasFirst (row : Values) : Type 0 where
  pub first : Value
  pub rest : Values
  pub is : row ≡ and_value first rest

pub spine_is_some : (g : Fn) (active : List Active) (e : Expression) (before behind : ℕ) (row : Values) → (core g active e).spine before behind row → HasFirst row
spine_is_some g active (binary_expression line BinaryOp.Concat left right) before behind row is = let parts = is.1 in record { first = parts.0; rest = parts.1; is = parts.4 }
spine_is_some g active (binary_expression line op left right) before behind row is = record { first = is.0; rest = no_values; is = is.2 }
spine_is_some g active e before behind row is = record { first = is.0; rest = no_values; is = is.2 }

module _ (g : Fn) (active : List Active) (at : Place) (left : List (Option Inner)) where
  shown_words : (v w : Value) → v ≡ w → ((n : ℕ) → plain_literal (word at n left w).words ≡ None) → IsShown g at left v
  shown_words v w is plain = subst (IsShown g at left) (sym is) (is_no_literal plain)

  shown_constant : (k : Constant) (v : Value) → IsLoadable k → IsConstant g k v → IsShown g at left v
  shown_constant k v loadable (number, has, is) = is_constant k number loadable has is

  shown_folded : (folded : Option ℤ) (Is : Counted Value) (before behind : ℕ) (v : Value) → (Is before behind v → IsShown g at left v) → IsFoldedOr folded g Is before behind v → IsShown g at left v
  shown_folded (Some n) Is before behind v shown is = shown_constant (Constant.Number n) v tt is.1
  shown_folded None Is before behind v shown is = shown is

  shown_name : (text : Text) (w : Where) (v : Value) → can_write at left v ≡ true → IsVariable g text w v → IsShown g at left v
  shown_name text (in_register r) v can is = shown_words v (local_value r) is (λ n. name_plain (local_name at r) (subst (λ (v : Value). can_write at left v ≡ true) is can))
  shown_name text (in_upvalue slot) v can is = shown_words v (upvalue_value slot) is (λ n. name_plain (upvalue_name at slot) (subst (λ (v : Value). can_write at left v ≡ true) is can))
  shown_name text in_globals v can (number, has, is) = shown_words v (global_value number) is (λ n. name_plain (constant_name at number) (subst (λ (v : Value). can_write at left v ≡ true) is can))

  shown_index : (On : Value → Type 0) (Key : OperandValue → Type 0) (v : Value) → IsIndexed On Key v → IsShown g at left v
  shown_index On Key v (on, key, is_on, is_key, is) =
      let made = index_is on key v is in
      shown_words v (index_value made.on made.keys made.depth) made.is (λ n. keys_plain at (taken_behind made.on n) (left_by made.on left) (as_prefix (word at n left made.on)) made.keys (as_prefix_plain (word at n left made.on)))

  shown_concat : (first second : Expression) (before behind : ℕ) (v : Value) → concat_by (first_and (core g active first).value (core g active second).spine) before behind v → IsShown g at left v
  shown_concat first second before behind v (values, (mid, (one, rest, is_one, are_rest, is)), made) =
      let more = spine_is_some g active second mid behind rest are_rest in
      let both : values ≡ and_value one (and_value more.first more.rest) = is ∙ ap (and_value one) more.is in
      shown_words v (concat_value (and_value one (and_value more.first more.rest)) (suc (deepest values)))
      (over_made (deepest values) (λ d. concat_value values d) v made ∙ ap (λ (operands : Values). concat_value operands (suc (deepest values))) both) (λ n. refl)

  shown_arithmetic : (op : BinaryOp) (Left Right : OperandValue → Type 0) (v : Value) → IsArithmetic op Left Right v → IsShown g at left v
  shown_arithmetic op Left Right v (plain, x, y, is_x, is_y, is) =
      let depth = max (depth_of_operand x) (depth_of_operand y) in
      shown_words v (binary_value op x y (suc depth)) (over_made depth (λ d. binary_value op x y d) v is) (λ n. refl)

  shown_operator : (op : BinaryOp) (Left Right : Counted OperandValue) (first second : Expression) (before behind : ℕ) (v : Value) → IsOperator op Left Right (first_and (core g active first).value (core g active second).spine) before behind v → IsShown g at left v
  shown_operator BinaryOp.Concat Left Right first second before behind v is = shown_concat first second before behind v is
  shown_operator op Left Right first second before behind v is = shown_arithmetic op (Left before is.0) (Right is.0 behind) v is.1

  pub shown : (e : Expression) (before behind : ℕ) (v : Value) → IsCore g active e before behind v → can_write at left v ≡ true → IsShown g at left v
  shown (nil_literal line) before behind v is can = is_nil is.1
  shown (true_literal line) before behind v is can = is_truth true is.1
  shown (false_literal line) before behind v is can = is_truth false is.1
  shown (vararg_expression line) before behind v is can = shown_words v vararg_value is.1 (λ n. refl)
  shown (number_literal line n) before behind v is can = shown_constant (Constant.Number n) v tt is.1
  shown (text_literal line text) before behind v is can = shown_constant (Constant.Text text) v tt is.1
  shown (name_expression line text) before behind v is can = let means = is.1 in shown_name text means.0 v can means.2
  shown (function_expression line body) before behind v is can = shown_words v (function_value before false) is.1 (λ n. function_plain (function_left left before) (subst (λ (v : Value). can_write at left v ≡ true) is.1 can))
  shown (index_expression line on key) before behind v is can = shown_index _ _ v is.1
  shown (field_expression line on text) before behind v is can = shown_index _ _ v is.1
  shown (call_expression line on args on_line) before behind v (mid, (callee, values, all, is_callee, given, is)) can =
      let depth = max (depth_of callee) (deepest values) in
      shown_words v (call_value callee values all (suc depth)) (over_made depth (λ d. call_value callee values all d) v is) (λ n. refl)
  shown (method_call line on name args on_line) before behind v (mid, (callee, number, values, all, is_callee, has, given, is)) can =
      let depth = max (depth_of callee) (deepest values) in
      shown_words v (method_value callee number values all (suc depth)) (over_made depth (λ d. method_value callee number values all d) v is) (λ n. refl)
  shown (binary_expression line op first second) before behind v is can =
      let operands = first_and (core g active first).value (core g active second).spine in
      let Left = IsOperandBy (literal first) g (core g active first).value in
      let Right = IsOperandBy (literal second) g (core g active second).value in
      shown_folded (fold (binary_expression line op first second)) (IsOperator op Left Right operands) before behind v (shown_operator op Left Right first second before behind v) is
  shown (unary_expression line op e) before behind v is can = shown_folded (fold (unary_expression line op e)) (unary_by op (core g active e).value) before behind v unary is
    where
      unary : IsUnary op ((core g active e).value before behind) v → IsShown g at left v
      unary (of, is_of, is) = shown_words v (unary_value op of (suc (depth_of of))) (over_made (depth_of of) (λ d. unary_value op of d) v is) (λ n. refl)
  shown (constructor line items) before behind v (made, all, are, is) can = shown_words v (table_value made all (suc (deepest_item made))) (over_made (deepest_item made) (λ d. table_value made all d) v is) (λ n. refl)
  shown (parenthesized line e) before behind v is can = shown e before behind v is can
  shown e before behind v is can = absurd is
