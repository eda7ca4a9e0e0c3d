-- Serves a body. Values from their parts, each with its depth: a tree has 200 levels, and a call of one constructor is two values for one level.
use Rattle.std.specs.Prelude.{ℕ, suc, max, Bool, nat_lt, Option, Some, None, if◌then◌else◌}
use Rattle.lua_tree.specs.declared.tree.BinaryOp.{BinaryOp}
use Rattle.lua_tree.specs.declared.tree.UnaryOp.{UnaryOp}
use Rattle.core_expr.specs.Values.{Value, index_value, binary_value, unary_value, concat_value, call_value, method_value, table_value, Values, no_values, and_value, OperandValue, constant_operand, value_operand, OperandList, no_operands, and_operand, ItemList, no_items, and_positional, and_keyed}

-- 1 for what has no parts
abbrev pub depth_of : Value → ℕ
depth_of (index_value on keys depth) = depth
depth_of (binary_value op left right depth) = depth
depth_of (unary_value op of depth) = depth
depth_of (concat_value operands depth) = depth
depth_of (call_value on args all depth) = depth
depth_of (method_value on name args all depth) = depth
depth_of (table_value items all depth) = depth
depth_of v = 1

abbrev pub depth_of_operand : OperandValue → ℕ
depth_of_operand (constant_operand k) = 1
depth_of_operand (value_operand v) = depth_of v

abbrev pub deepest : Values → ℕ
deepest no_values = 0
deepest (and_value v rest) = max (depth_of v) (deepest rest)

abbrev pub deepest_item : ItemList → ℕ
deepest_item no_items = 0
deepest_item (and_positional v rest) = max (depth_of v) (deepest_item rest)
deepest_item (and_keyed key item rest) = max (max (depth_of_operand key) (depth_of_operand item)) (deepest_item rest)

-- what is made over parts of which the deepest is so deep
abbrev pub made_over : ℕ → (ℕ → Value) → Option Value
made_over depth make = if nat_lt depth 400 then Some (make (suc depth)) else None

abbrev pub and_last : OperandList → OperandValue → OperandList
and_last no_operands key = and_operand key no_operands
and_last (and_operand o rest) key = and_operand o (and_last rest key)

-- one key more where the value is a chain of keys already
abbrev pub made_index : Value → OperandValue → Option Value
made_index (index_value on keys depth) key = made_over (depth_of_operand key) (λ d. index_value on (and_last keys key) (max depth d))
made_index on key = made_over (max (depth_of on) (depth_of_operand key)) (λ d. index_value on (and_operand key no_operands) d)

abbrev pub made_binary : BinaryOp → OperandValue → OperandValue → Option Value
made_binary op left right = made_over (max (depth_of_operand left) (depth_of_operand right)) (λ d. binary_value op left right d)

abbrev pub made_unary : UnaryOp → Value → Option Value
made_unary op of = made_over (depth_of of) (λ d. unary_value op of d)

abbrev pub made_concat : Values → Option Value
made_concat operands = made_over (deepest operands) (λ d. concat_value operands d)

abbrev pub made_call : Value → Values → Bool → Option Value
made_call on args all = made_over (max (depth_of on) (deepest args)) (λ d. call_value on args all d)

abbrev pub made_method : Value → ℕ → Values → Bool → Option Value
made_method on name args all = made_over (max (depth_of on) (deepest args)) (λ d. method_value on name args all d)

abbrev pub made_table : ItemList → Bool → Option Value
made_table items all = made_over (deepest_item items) (λ d. table_value items all d)
