-- How many constants are taken behind a value does not depend on the order in which they are counted.
use Rattle.std.proofs.Common.{◌≡◌, ℕ, max, refl, ap, ◌∙◌, arith}
use Rattle.core_expr.specs.Counting.{one_more, taken_behind, taken_behind_values, taken_behind_operand, taken_behind_operands, taken_behind_items}
use Rattle.core_expr.specs.Values.{Value, nil_value, vararg_value, bool_value, constant_value, local_value, upvalue_value, global_value, index_value, binary_value, unary_value, concat_value, call_value, method_value, table_value, function_value, Values, no_values, and_value, OperandValue, constant_operand, value_operand, OperandList, no_operands, and_operand, ItemList, no_items, and_positional, and_keyed}
use Rattle.reads_back.specs.Acted.{Assigned, taken_behind_last}

pub max_swap : (n m c : ℕ) → max (max n m) c ≡ max (max n c) m
max_swap n m c = omega arith

mutual
  -- what was taken before counts the same behind
  pub taken_later : (v : Value) (n m : ℕ) → taken_behind v (max n m) ≡ max (taken_behind v n) m
  taken_later nil_value n m = refl
  taken_later vararg_value n m = refl
  taken_later (bool_value b) n m = refl
  taken_later (constant_value k) n m = max_swap n m (one_more k)
  taken_later (local_value r) n m = refl
  taken_later (upvalue_value slot) n m = refl
  taken_later (global_value k) n m = max_swap n m (one_more k)
  taken_later (index_value on keys depth) n m = ap (taken_behind_operands keys) (taken_later on n m) ∙ operands_taken_later keys (taken_behind on n) m
  taken_later (binary_value op left right depth) n m = ap (taken_behind_operand right) (operand_taken_later left n m) ∙ operand_taken_later right (taken_behind_operand left n) m
  taken_later (unary_value op of depth) n m = taken_later of n m
  taken_later (concat_value operands depth) n m = values_taken_later operands n m
  taken_later (call_value on args all depth) n m = ap (taken_behind_values args) (taken_later on n m) ∙ values_taken_later args (taken_behind on n) m
  taken_later (method_value on name args all depth) n m =
      ap (λ there. taken_behind_values args (max there (one_more name))) (taken_later on n m)
      ∙ ap (taken_behind_values args) (max_swap (taken_behind on n) m (one_more name))
      ∙ values_taken_later args (max (taken_behind on n) (one_more name)) m
  taken_later (table_value items all depth) n m = items_taken_later items n m
  taken_later (function_value number itself) n m = refl

  pub values_taken_later : (values : Values) (n m : ℕ) → taken_behind_values values (max n m) ≡ max (taken_behind_values values n) m
  values_taken_later no_values n m = refl
  values_taken_later (and_value v rest) n m = ap (taken_behind_values rest) (taken_later v n m) ∙ values_taken_later rest (taken_behind v n) m

  pub operand_taken_later : (operand : OperandValue) (n m : ℕ) → taken_behind_operand operand (max n m) ≡ max (taken_behind_operand operand n) m
  operand_taken_later (constant_operand k) n m = max_swap n m (one_more k)
  operand_taken_later (value_operand v) n m = taken_later v n m

  operands_taken_later : (operands : OperandList) (n m : ℕ) → taken_behind_operands operands (max n m) ≡ max (taken_behind_operands operands n) m
  operands_taken_later no_operands n m = refl
  operands_taken_later (and_operand o rest) n m = ap (taken_behind_operands rest) (operand_taken_later o n m) ∙ operands_taken_later rest (taken_behind_operand o n) m

  items_taken_later : (items : ItemList) (n m : ℕ) → taken_behind_items items (max n m) ≡ max (taken_behind_items items n) m
  items_taken_later no_items n m = refl
  items_taken_later (and_positional v rest) n m = ap (taken_behind_items rest) (taken_later v n m) ∙ items_taken_later rest (taken_behind v n) m
  items_taken_later (and_keyed key item rest) n m =
      ap (λ there. taken_behind_items rest (taken_behind_operand item there)) (operand_taken_later key n m)
      ∙ ap (taken_behind_items rest) (operand_taken_later item (taken_behind_operand key n) m)
      ∙ items_taken_later rest (taken_behind_operand item (taken_behind_operand key n)) m

-- so many constants are taken behind all values that are assigned
abbrev pub taken_by : Assigned → ℕ → ℕ
taken_by to n = taken_behind_last to.last (taken_behind_values to.values n)
