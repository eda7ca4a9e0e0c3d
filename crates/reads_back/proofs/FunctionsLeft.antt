-- The functions that are left, each with its number: what is written of a value takes some of them away, and leaves the others.
use Rattle.std.proofs.Common.{◌≡◌, ℕ, zero, suc, ◌+◌, List, [], ◌∷◌, Option, Some, None, subst, arith}
use Rattle.std.specs.Prelude.{true, false, slice_get, slice_set}
use Rattle.core_expr.specs.Counting.{left_by, left_by_items, left_by_operand, left_by_operands, left_by_values}
use Rattle.core_expr.specs.Targets.{TargetValue, index_target, left_by_target}
use Rattle.core_expr.specs.Values.{Inner, Value, Values, OperandValue, OperandList, ItemList, index_value, binary_value, unary_value, concat_value, call_value, method_value, table_value, function_value, no_values, and_value, constant_operand, value_operand, no_operands, and_operand, no_items, and_positional, and_keyed}
use Rattle.core_expr.specs.Writing.{function_left, function_there}
use Rattle.reads_back.specs.Acted.{left_by_targets}

-- this holds of each that is left, and its number, where the first one has this number
abbrev pub EachLeft : (Holds : ℕ → Inner → Type 0) → (number : ℕ) → List (Option Inner) → Type 0
EachLeft Holds number [] = Unit {0}
EachLeft Holds number (None ∷ left) = EachLeft Holds (suc number) left
EachLeft Holds number (Some found ∷ left) = Holds number found × EachLeft Holds (suc number) left

module _ (Holds : ℕ → Inner → Type 0) where
  each_but : (number place : ℕ) (left : List (Option Inner)) → EachLeft Holds number left → EachLeft Holds number (slice_set left place None)
  each_but number place [] each = tt
  each_but number zero (None ∷ left) each = each
  each_but number zero (Some found ∷ left) each = each.1
  each_but number (suc place) (None ∷ left) each = each_but (suc number) place left each
  each_but number (suc place) (Some found ∷ left) each = (each.0, each_but (suc number) place left each.1)

  each_at : (number place : ℕ) (left : List (Option Inner)) (found : Inner) → EachLeft Holds number left → function_there (slice_get left place) ≡ Some found → Holds (number + place) found
  each_at number place [] found each there = cc
  each_at number zero (None ∷ left) found each there = cc
  each_at number zero (Some one ∷ left) found each there =
      let same : one ≡ found = cc in
      let first : number ≡ number + 0 = omega arith in
      subst (Holds (number + 0)) same (subst (λ n. Holds n one) first each.0)
  each_at number (suc place) (None ∷ left) found each there =
      let next : suc number + place ≡ number + suc place = omega arith in
      subst (λ n. Holds n found) next (each_at (suc number) place left found each there)
  each_at number (suc place) (Some one ∷ left) found each there =
      let next : suc number + place ≡ number + suc place = omega arith in
      subst (λ n. Holds n found) next (each_at (suc number) place left found each.1 there)

  -- of a function that is left
  pub left_there : (place : ℕ) (left : List (Option Inner)) (found : Inner) → EachLeft Holds 0 left → function_left left place ≡ Some found → Holds place found
  left_there place left found each there =
      let same : 0 + place ≡ place = omega arith in
      subst (λ n. Holds n found) same (each_at 0 place left found each there)

  -- ---- what is left behind values

  mutual
    pub each_by : (v : Value) (left : List (Option Inner)) → EachLeft Holds 0 left → EachLeft Holds 0 (left_by v left)
    each_by (index_value on keys depth) left each = each_by_operands keys (left_by on left) (each_by on left each)
    each_by (binary_value op one other depth) left each = each_by_operand other (left_by_operand one left) (each_by_operand one left each)
    each_by (unary_value op of depth) left each = each_by of left each
    each_by (concat_value operands depth) left each = each_by_values operands left each
    each_by (call_value on args all depth) left each = each_by_values args (left_by on left) (each_by on left each)
    each_by (method_value on name args all depth) left each = each_by_values args (left_by on left) (each_by on left each)
    each_by (table_value items all depth) left each = each_by_items items left each
    each_by (function_value number true) left each = each
    each_by (function_value number false) left each = each_but 0 number left each
    each_by v left each = each

    pub each_by_values : (vs : Values) (left : List (Option Inner)) → EachLeft Holds 0 left → EachLeft Holds 0 (left_by_values vs left)
    each_by_values no_values left each = each
    each_by_values (and_value v rest) left each = each_by_values rest (left_by v left) (each_by v left each)

    pub each_by_operand : (o : OperandValue) (left : List (Option Inner)) → EachLeft Holds 0 left → EachLeft Holds 0 (left_by_operand o left)
    each_by_operand (constant_operand k) left each = each
    each_by_operand (value_operand v) left each = each_by v left each

    each_by_operands : (os : OperandList) (left : List (Option Inner)) → EachLeft Holds 0 left → EachLeft Holds 0 (left_by_operands os left)
    each_by_operands no_operands left each = each
    each_by_operands (and_operand o rest) left each = each_by_operands rest (left_by_operand o left) (each_by_operand o left each)

    each_by_items : (items : ItemList) (left : List (Option Inner)) → EachLeft Holds 0 left → EachLeft Holds 0 (left_by_items items left)
    each_by_items no_items left each = each
    each_by_items (and_positional v rest) left each = each_by_items rest (left_by v left) (each_by v left each)
    each_by_items (and_keyed key item rest) left each = each_by_items rest (left_by_operand item (left_by_operand key left)) (each_by_operand item (left_by_operand key left) (each_by_operand key left each))

  -- ---- what is left behind targets, and behind an operand that goes to the last one

  pub each_by_target : (t : TargetValue) (left : List (Option Inner)) → EachLeft Holds 0 left → EachLeft Holds 0 (left_by_target t left)
  each_by_target (index_target on key) left each = each_by_operand key (left_by on left) (each_by on left each)
  each_by_target t left each = each

  pub each_by_targets : (ts : List TargetValue) (left : List (Option Inner)) → EachLeft Holds 0 left → EachLeft Holds 0 (left_by_targets ts left)
  each_by_targets [] left each = each
  each_by_targets (t ∷ ts) left each = each_by_targets ts (left_by_target t left) (each_by_target t left each)
