-- Serves a body. How many constants are taken behind a value, and which functions are left.
use Rattle.std.specs.Prelude.{ℕ, ◌+◌, ◌-◌, ◌^◌, false, max, min, List, slice_set, Option, None}
use Rattle.core_expr.specs.Values.{Value, constant_value, global_value, index_value, binary_value, unary_value, concat_value, call_value, method_value, table_value, function_value, Values, no_values, and_value, OperandValue, constant_operand, value_operand, OperandList, no_operands, and_operand, ItemList, no_items, and_positional, and_keyed, Inner}

-- one more, where 32 bits count it
abbrev pub one_more : ℕ → ℕ
one_more n = min (n + 1) (2 ^ 32 - 1)

-- so many constants are taken with one of this number
abbrev pub with_constant : (taken number : ℕ) → ℕ
with_constant n k = max n (one_more k)

abbrev mutual
  pub taken_behind : Value → ℕ → ℕ
  taken_behind (constant_value k) n = with_constant n k
  taken_behind (global_value k) n = with_constant n k
  taken_behind (index_value on keys depth) n = taken_behind_operands keys (taken_behind on n)
  taken_behind (binary_value op left right depth) n = taken_behind_operand right (taken_behind_operand left n)
  taken_behind (unary_value op of depth) n = taken_behind of n
  taken_behind (concat_value operands depth) n = taken_behind_values operands n
  taken_behind (call_value on args all depth) n = taken_behind_values args (taken_behind on n)
  taken_behind (method_value on name args all depth) n = taken_behind_values args (with_constant (taken_behind on n) name)
  taken_behind (table_value items all depth) n = taken_behind_items items n
  taken_behind v n = n

  pub taken_behind_values : Values → ℕ → ℕ
  taken_behind_values no_values n = n
  taken_behind_values (and_value v rest) n = taken_behind_values rest (taken_behind v n)

  pub taken_behind_operand : OperandValue → ℕ → ℕ
  taken_behind_operand (constant_operand k) n = with_constant n k
  taken_behind_operand (value_operand v) n = taken_behind v n

  pub taken_behind_operands : OperandList → ℕ → ℕ
  taken_behind_operands no_operands n = n
  taken_behind_operands (and_operand o rest) n = taken_behind_operands rest (taken_behind_operand o n)

  pub taken_behind_items : ItemList → ℕ → ℕ
  taken_behind_items no_items n = n
  taken_behind_items (and_positional v rest) n = taken_behind_items rest (taken_behind v n)
  taken_behind_items (and_keyed key item rest) n = taken_behind_items rest (taken_behind_operand item (taken_behind_operand key n))

-- the functions that are left where those in a value are used
abbrev mutual
  pub left_by : Value → List (Option Inner) → List (Option Inner)
  left_by (index_value on keys depth) fs = left_by_operands keys (left_by on fs)
  left_by (binary_value op left right depth) fs = left_by_operand right (left_by_operand left fs)
  left_by (unary_value op of depth) fs = left_by of fs
  left_by (concat_value operands depth) fs = left_by_values operands fs
  left_by (call_value on args all depth) fs = left_by_values args (left_by on fs)
  left_by (method_value on name args all depth) fs = left_by_values args (left_by on fs)
  left_by (table_value items all depth) fs = left_by_items items fs
  left_by (function_value number false) fs = slice_set fs number None
  left_by v fs = fs

  pub left_by_values : Values → List (Option Inner) → List (Option Inner)
  left_by_values no_values fs = fs
  left_by_values (and_value v rest) fs = left_by_values rest (left_by v fs)

  pub left_by_operand : OperandValue → List (Option Inner) → List (Option Inner)
  left_by_operand (constant_operand k) fs = fs
  left_by_operand (value_operand v) fs = left_by v fs

  pub left_by_operands : OperandList → List (Option Inner) → List (Option Inner)
  left_by_operands no_operands fs = fs
  left_by_operands (and_operand o rest) fs = left_by_operands rest (left_by_operand o fs)

  pub left_by_items : ItemList → List (Option Inner) → List (Option Inner)
  left_by_items no_items fs = fs
  left_by_items (and_positional v rest) fs = left_by_items rest (left_by v fs)
  left_by_items (and_keyed key item rest) fs = left_by_items rest (left_by_operand item (left_by_operand key fs))
