-- In the value of an expression no operator is a comparison.
use Rattle.std.proofs.Common.{◌≡◌, ℕ, max, inl, inr, Bool, true, false, ◌&&◌, List, Option, Some, None, sym, subst}
use Rattle.std.specs.Prelude.{ℤ}
use Rattle.lua_num.specs.Bytes.{Text}
use Rattle.lua_tree.specs.Syntax as syntax
use Rattle.lua_tree.specs.Syntax.{Arguments, Expression, Expressions, Fields, argument_list, binary_expression, call_expression, constructor, false_literal, field_expression, function_expression, index_expression, keyed, method_call, name_expression, named, nil_literal, no_expressions, no_fields, number_literal, parenthesized, positional, table_argument, text_argument, text_literal, true_literal, unary_expression, vararg_expression}
use Rattle.lua_tree.specs.declared.tree.BinaryOp.{BinaryOp}
use Rattle.proto.specs.declared.parts.Constant.{Constant}
use Rattle.core_expr.specs.Making.{and_last, deepest, deepest_item, depth_of, depth_of_operand, made_index, made_table}
use Rattle.core_expr.specs.Values.{ItemList, OperandList, OperandValue, Value, Values, and_operand, and_value, binary_value, call_value, concat_value, index_value, method_value, no_operands, no_values, table_value, unary_value}
use Rattle.scheme.specs.Expressions.{fold, is_multiple, literal}
use Rattle.scheme.specs.Making.{Where, in_globals, in_register, in_upvalue}
use Rattle.scheme.specs.declared.making.Active.{Active}
use Rattle.scheme_stands.specs.Lists.{is_last_item}
use Rattle.scheme_stands.specs.Words.{Fn}
use Rattle.reads_back.specs.Cores.{AreCores, AreGiven, AreItems, Counted, CountedItems, IsConstant, IsCore, IsFoldedOr, IsItem, IsKey, IsKeyedItem, IsOperand, IsOperandBy, IsOperator, IsVariable, core, first_and, only, still}
use Rattle.reads_back.proofs.MarksSame.{over_made}
use Rattle.reads_back.proofs.PlainValues.{NoComparison, NoComparisonItems, NoComparisonKeys, NoComparisonOperand, NoComparisons}

-- ---- values from their parts

last_none : (keys : OperandList) (key : OperandValue) → NoComparisonKeys keys → NoComparisonOperand key → NoComparisonKeys (and_last keys key)
last_none no_operands key none one = (one, tt)
last_none (and_operand o rest) key none one = (none.0, last_none rest key none.1 one)

index_none : (on : Value) (key : OperandValue) (v : Value) → made_index on key ≡ Some v → NoComparison on → NoComparisonOperand key → NoComparison v
index_none (index_value on keys depth) key v is none one =
    subst NoComparison (sym (over_made (depth_of_operand key) (λ d. index_value on (and_last keys key) (max depth d)) v is)) (none.0, last_none keys key none.1 one)
index_none on key v is none one = subst NoComparison (sym (over_made (max (depth_of on) (depth_of_operand key)) (λ d. index_value on (and_operand key no_operands) d) v is)) (none, (one, tt))

module _ (g : Fn) (active : List Active) where
  constant_none : (k : Constant) (v : Value) → IsConstant g k v → NoComparison v
  constant_none k v is = subst NoComparison (sym is.2) tt

  variable_none : (text : Text) (w : Where) (v : Value) → IsVariable g text w v → NoComparison v
  variable_none text (in_register r) v is = subst NoComparison (sym is) tt
  variable_none text (in_upvalue slot) v is = subst NoComparison (sym is) tt
  variable_none text in_globals v is = subst NoComparison (sym is.2) tt

  -- a constant, or a value
  operand_by : (k : Option Constant) (Is : Counted Value) → ((before behind : ℕ) (v : Value) → Is before behind v → NoComparison v) → (before behind : ℕ) (o : OperandValue) → IsOperandBy k g Is before behind o → NoComparisonOperand o
  operand_by (Some k) Is none before behind o (inl small) = subst NoComparisonOperand (sym small.1.3) tt
  operand_by (Some k) Is none before behind o (inr (large, one)) = subst NoComparisonOperand (sym one.2) (none before behind one.0 one.1)
  operand_by None Is none before behind o one = subst NoComparisonOperand (sym one.2) (none before behind one.0 one.1)

  pub key_none : (text : Text) (before behind : ℕ) (o : OperandValue) → IsKey g text before behind o → NoComparisonOperand o
  key_none text before behind o is = operand_by (Some (Constant.Text text)) (still (IsConstant g (Constant.Text text))) (λ before behind v is. constant_none (Constant.Text text) v is.1) before behind o is

  first_none : (vs : Values) (first : Value) (rest : Values) → vs ≡ and_value first rest → NoComparison first → NoComparisons rest → NoComparisons vs
  first_none vs first rest is one others = subst NoComparisons (sym is) (one, others)

  -- the value, and the values from it on in a `..`
  record HasNone (e : Expression) : Type 0 where
    one : (before behind : ℕ) (v : Value) → IsCore g active e before behind v → NoComparison v
    spine : (before behind : ℕ) (vs : Values) → (core g active e).spine before behind vs → NoComparisons vs

  only_none : (Is : Counted Value) → ((before behind : ℕ) (v : Value) → Is before behind v → NoComparison v) → (before behind : ℕ) (vs : Values) → only Is before behind vs → NoComparisons vs
  only_none Is one before behind vs is = first_none vs is.0 no_values is.2 (one before behind is.0 is.1) tt

  alone_none : (e : Expression) → ((before behind : ℕ) (v : Value) → IsCore g active e before behind v → NoComparison v) → ((before behind : ℕ) (vs : Values) → (core g active e).spine before behind vs → only (IsCore g active e) before behind vs) → HasNone e
  alone_none e one alone = record { one = one; spine = λ before behind vs is. only_none (IsCore g active e) one before behind vs (alone before behind vs is) }

  -- ---- operators

  operator_none : (op : BinaryOp) (left right : Expression) → HasNone left → HasNone right → (before behind : ℕ) (v : Value) →
      IsOperator op (IsOperandBy (literal left) g (IsCore g active left)) (IsOperandBy (literal right) g (IsCore g active right)) (first_and (IsCore g active left) (core g active right).spine) before behind v → NoComparison v
  operator_none BinaryOp.Concat left right first second before behind v is =
      let parts = is.1.1 in
      subst NoComparison (sym (over_made (deepest is.0) (λ d. concat_value is.0 d) v is.2)) (first_none is.0 parts.0 parts.1 parts.4 (first.one before is.1.0 parts.0 parts.2) (second.spine is.1.0 behind parts.1 parts.3))
  operator_none op left right first second before behind v is =
      let parts = is.1 in
      subst NoComparison (sym (over_made (max (depth_of_operand parts.1) (depth_of_operand parts.2)) (λ d. binary_value op parts.1 parts.2 d) v parts.5))
      (parts.0, operand_by (literal left) (IsCore g active left) first.one before is.0 parts.1 parts.3, operand_by (literal right) (IsCore g active right) second.one is.0 behind parts.2 parts.4)

  folded_or_none : (folded : Option ℤ) (Is : Counted Value) (before behind : ℕ) (v : Value) → (Is before behind v → NoComparison v) → IsFoldedOr folded g Is before behind v → NoComparison v
  folded_or_none (Some n) Is before behind v none is = constant_none (Constant.Number n) v is.1
  folded_or_none None Is before behind v none is = none is

  spine_none : (op : BinaryOp) (line : ℕ) (left right : Expression) → HasNone left → HasNone right → ((before behind : ℕ) (v : Value) → IsCore g active (binary_expression line op left right) before behind v → NoComparison v) →
      (before behind : ℕ) (vs : Values) → (core g active (binary_expression line op left right)).spine before behind vs → NoComparisons vs
  spine_none BinaryOp.Concat line left right first second one before behind vs is =
      let parts = is.1 in
      first_none vs parts.0 parts.1 parts.4 (first.one before is.0 parts.0 parts.2) (second.spine is.0 behind parts.1 parts.3)
  spine_none op line left right first second one before behind vs is = only_none (IsCore g active (binary_expression line op left right)) one before behind vs is

  -- ---- constructors

  table_none : (items : ItemList) (all : Bool) (v : Value) → made_table items all ≡ Some v → NoComparisonItems items → NoComparison v
  table_none items all v is none = subst NoComparison (sym (over_made (deepest_item items) (λ d. table_value items all d) v is)) none

  item_none : (is_open : Bool) (Is : Counted Value) (Rest : CountedItems) → ((before behind : ℕ) (v : Value) → Is before behind v → NoComparison v) → ((before behind : ℕ) (items : ItemList) (all : Bool) → Rest before behind items all → NoComparisonItems items) →
      (before behind : ℕ) (items : ItemList) (all : Bool) → IsItem is_open Is Rest before behind items all → NoComparisonItems items
  item_none true Is Rest one rest before behind items all is = subst NoComparisonItems (sym is.2) (one before behind is.0 is.1, tt)
  item_none false Is Rest one rest before behind items all is =
      let parts = is.1 in
      subst NoComparisonItems (sym parts.4) (one before is.0 parts.0 parts.2, rest is.0 behind parts.1 all parts.3)

  keyed_none : (Key Item : Counted OperandValue) (Rest : CountedItems) → ((before behind : ℕ) (o : OperandValue) → Key before behind o → NoComparisonOperand o) → ((before behind : ℕ) (o : OperandValue) → Item before behind o → NoComparisonOperand o) →
      ((before behind : ℕ) (items : ItemList) (all : Bool) → Rest before behind items all → NoComparisonItems items) → (before behind : ℕ) (items : ItemList) (all : Bool) → IsKeyedItem Key Item Rest before behind items all → NoComparisonItems items
  keyed_none Key Item Rest first second rest before behind items all is =
      let parts = is.2 in
      subst NoComparisonItems (sym parts.6) (first before is.0 parts.0 parts.3, second is.0 is.1 parts.1 parts.4, rest is.1 behind parts.2 all parts.5)

  -- ---- expressions

  mutual
    none_of : (e : Expression) → HasNone e
    none_of (nil_literal line) = alone_none (nil_literal line) (λ before behind v is. subst NoComparison (sym is.1) tt) (λ before behind vs is. is)
    none_of (true_literal line) = alone_none (true_literal line) (λ before behind v is. subst NoComparison (sym is.1) tt) (λ before behind vs is. is)
    none_of (false_literal line) = alone_none (false_literal line) (λ before behind v is. subst NoComparison (sym is.1) tt) (λ before behind vs is. is)
    none_of (vararg_expression line) = alone_none (vararg_expression line) (λ before behind v is. subst NoComparison (sym is.1) tt) (λ before behind vs is. is)
    none_of (number_literal line n) = alone_none (number_literal line n) (λ before behind v is. constant_none (Constant.Number n) v is.1) (λ before behind vs is. is)
    none_of (text_literal line text) = alone_none (text_literal line text) (λ before behind v is. constant_none (Constant.Text text) v is.1) (λ before behind vs is. is)
    none_of (name_expression line text) = alone_none (name_expression line text) (λ before behind v is. let means = is.1 in variable_none text means.0 v means.2) (λ before behind vs is. is)
    none_of (function_expression line body) = alone_none (function_expression line body) (λ before behind v is. subst NoComparison (sym is.1) tt) (λ before behind vs is. is)
    none_of (index_expression line on key) =
        let first = none_of on in
        let second = none_of key in
        alone_none (index_expression line on key)
        (λ before behind v is. let parts = is.1 in index_none parts.0 parts.1 v parts.4 (first.one before is.0 parts.0 parts.2) (operand_by (literal key) (IsCore g active key) second.one is.0 behind parts.1 parts.3)) (λ before behind vs is. is)
    none_of (field_expression line on text) =
        let first = none_of on in
        alone_none (field_expression line on text) (λ before behind v is. let parts = is.1 in index_none parts.0 parts.1 v parts.4 (first.one before is.0 parts.0 parts.2) (key_none text is.0 behind parts.1 parts.3)) (λ before behind vs is. is)
    none_of (call_expression line on args on_line) =
        let first = none_of on in
        alone_none (call_expression line on args on_line)
        (λ before behind v is.
        let parts = is.1 in
        subst NoComparison (sym (over_made (max (depth_of parts.0) (deepest parts.1)) (λ d. call_value parts.0 parts.1 parts.2 d) v parts.5)) (first.one before is.0 parts.0 parts.3, given_none args is.0 behind parts.1 parts.2 parts.4))
        (λ before behind vs is. is)
    none_of (method_call line on name args on_line) =
        let first = none_of on in
        alone_none (method_call line on name args on_line)
        (λ before behind v is.
        let parts = is.1 in
        subst NoComparison (sym (over_made (max (depth_of parts.0) (deepest parts.2)) (λ d. method_value parts.0 parts.1 parts.2 parts.3 d) v parts.7)) (first.one before is.0 parts.0 parts.4, given_none args is.0 behind parts.2 parts.3 parts.6))
        (λ before behind vs is. is)
    none_of (binary_expression line op left right) =
        let first = none_of left in
        let second = none_of right in
        let e = binary_expression line op left right in
        let one : (before behind : ℕ) (v : Value) → IsCore g active e before behind v → NoComparison v =
        λ before behind v is. folded_or_none (fold e) _ before behind v (λ is. operator_none op left right first second before behind v is) is in
        record { one = one; spine = spine_none op line left right first second one }
    none_of (unary_expression line op operand) =
        let first = none_of operand in
        let e = unary_expression line op operand in
        alone_none e (λ before behind v is. folded_or_none (fold e) _ before behind v (λ is. subst NoComparison (sym (over_made (depth_of is.0) (λ d. unary_value op is.0 d) v is.2)) (first.one before behind is.0 is.1)) is) (λ before behind vs is. is)
    none_of (constructor line fields) = alone_none (constructor line fields) (λ before behind v is. table_none is.0 is.1 v is.3 (items_none fields before behind is.0 is.1 is.2)) (λ before behind vs is. is)
    none_of (parenthesized line e) = let first = none_of e in alone_none (parenthesized line e) first.one (λ before behind vs is. is)
    none_of e = alone_none e (λ before behind v is. absurd is) (λ before behind vs is. is)

    given_none : (args : Arguments) (before behind : ℕ) (vs : Values) (all : Bool) → AreGiven g active args before behind vs all → NoComparisons vs
    given_none (argument_list es) before behind vs all is = values_none es before behind vs is.0
    given_none (text_argument text) before behind vs all is = let text_is = is.1.0 in first_none vs text_is.0 no_values text_is.2 (constant_none (Constant.Text text) text_is.0 text_is.1) tt
    given_none (table_argument fields) before behind vs all is =
        let table = is.0.1 in
        first_none vs is.0.0 no_values is.0.2 (table_none table.0 table.1 is.0.0 table.3 (items_none fields before behind table.0 table.1 table.2)) tt

    items_none : (fields : Fields) (before behind : ℕ) (items : ItemList) (all : Bool) → AreItems g active fields before behind items all → NoComparisonItems items
    items_none no_fields before behind items all is = subst NoComparisonItems (sym is.1) tt
    items_none (positional e separator rest) before behind items all is =
        let one = none_of e in
        item_none (is_last_item rest && is_multiple e) (IsCore g active e) (AreItems g active rest) one.one (items_none rest) before behind items all is
    items_none (named text e separator rest) before behind items all is =
        let one = none_of e in
        keyed_none (IsKey g text) (IsOperand g active e) (AreItems g active rest) (key_none text) (operand_by (literal e) (IsCore g active e) one.one) (items_none rest) before behind items all is
    items_none (keyed key e separator rest) before behind items all is =
        let first = none_of key in
        let one = none_of e in
        keyed_none (IsOperand g active key) (IsOperand g active e) (AreItems g active rest) (operand_by (literal key) (IsCore g active key) first.one) (operand_by (literal e) (IsCore g active e) one.one) (items_none rest) before behind items all is

    -- of the values of several expressions
    pub values_none : (es : Expressions) (before behind : ℕ) (vs : Values) → AreCores g active es before behind vs → NoComparisons vs
    values_none no_expressions before behind vs is = subst NoComparisons (sym is.1) tt
    values_none (syntax.expression e es) before behind vs is =
        let first = none_of e in
        let parts = is.1 in
        first_none vs parts.0 parts.1 parts.4 (first.one before is.0 parts.0 parts.2) (values_none es is.0 behind parts.1 parts.3)

  -- of one expression
  pub value_none : (e : Expression) (before behind : ℕ) (v : Value) → IsCore g active e before behind v → NoComparison v
  value_none e = (none_of e).one

  -- as an operand
  pub operand_none : (e : Expression) (before behind : ℕ) (o : OperandValue) → IsOperand g active e before behind o → NoComparisonOperand o
  operand_none e before behind o is = operand_by (literal e) (IsCore g active e) (none_of e).one before behind o is
