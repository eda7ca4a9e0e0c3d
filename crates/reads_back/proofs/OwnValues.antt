-- A value in which a function captures its own register is not written.
use Rattle.std.proofs.Common.{◌≡◌, ℕ, suc, ◌&&◌, Bool, true, false, List, [], ◌∷◌, ◌++◌, length, max, nat_lt, Option, Some, None, is_some, refl, sym, ap, ◌∙◌, if◌then◌else◌}
use Rattle.std.proofs.Math.Bool.{or_assoc, or_comm}
use Rattle.std.specs.Prelude.{◌||◌}
use Rattle.lua_tree.specs.declared.tree.BinaryOp.{BinaryOp}
use Rattle.lua_tree.specs.declared.tree.UnaryOp.{UnaryOp}
use Rattle.core_expr.specs.Counting.{left_by, left_by_operand}
use Rattle.core_expr.specs.Making.{and_last, depth_of, depth_of_operand, made_binary, made_call, made_concat, made_index, made_method, made_over, made_unary}
use Rattle.core_expr.specs.Places.{Place, constant_name, field_name, is_variable, variable_name}
use Rattle.core_expr.specs.Targets.{Comparison, TargetValue, are_fields, can_write_both, can_write_comparison, can_write_target, field_names, field_path, index_target, is_long_path, is_swapped, long_path, path_of}
use Rattle.core_expr.specs.Values.{Inner, ItemList, OperandList, OperandValue, Value, Values, and_keyed, and_operand, and_positional, and_value, binary_value, call_value, concat_value, constant_operand, constant_value, function_value, global_value, index_value, local_value, method_value, no_items, no_operands, no_values, table_value, unary_value, upvalue_value, value_operand}
use Rattle.core_expr.specs.Writing.{can_write, can_write_items, can_write_operand, can_write_operands, can_write_values, text_or_empty}
use Rattle.reads_back.proofs.EachSome.{Each, each_some, each_where}
use Rattle.reads_back.proofs.Tests.{not_so}

-- a function in it captures the register that it goes to
abbrev mutual
  pub holds_own : Value → Bool
  holds_own (index_value on keys depth) = holds_own on || operands_own keys
  holds_own (binary_value op left right depth) = operand_own left || operand_own right
  holds_own (unary_value op of depth) = holds_own of
  holds_own (concat_value operands depth) = values_own operands
  holds_own (call_value on args all depth) = holds_own on || values_own args
  holds_own (method_value on name args all depth) = holds_own on || values_own args
  holds_own (table_value items all depth) = items_own items
  holds_own (function_value number itself) = itself
  holds_own v = false

  pub values_own : Values → Bool
  values_own no_values = false
  values_own (and_value v rest) = holds_own v || values_own rest

  pub operand_own : OperandValue → Bool
  operand_own (constant_operand k) = false
  operand_own (value_operand v) = holds_own v

  operands_own : OperandList → Bool
  operands_own no_operands = false
  operands_own (and_operand o rest) = operand_own o || operands_own rest

  items_own : ItemList → Bool
  items_own no_items = false
  items_own (and_positional v rest) = holds_own v || items_own rest
  items_own (and_keyed key item rest) = operand_own key || (operand_own item || items_own rest)

-- ---- it is not written

then_not : (one other : Bool) → other ≡ false → (one && other) ≡ false
then_not true other is = is
then_not false other is = refl

either_not : (one other first second : Bool) → (one ≡ true → first ≡ false) → (other ≡ true → second ≡ false) → (one || other) ≡ true → (first && second) ≡ false
either_not true other first second one_not other_not is = ap (λ first. first && second) (one_not refl)
either_not false other first second one_not other_not is = then_not first second (other_not is)

mutual
  pub not_written : (at : Place) (fs : List (Option Inner)) (v : Value) → holds_own v ≡ true → can_write at fs v ≡ false
  not_written at fs (index_value on keys depth) own =
      then_not _ _ (either_not (holds_own on) (operands_own keys) (can_write at fs on) (can_write_operands at (left_by on fs) keys) (not_written at fs on) (operands_not_written at (left_by on fs) keys) own)
  not_written at fs (binary_value op left right depth) own =
      either_not (operand_own left) (operand_own right) (can_write_operand at fs left) (can_write_operand at (left_by_operand left fs) right) (operand_not_written at fs left) (operand_not_written at (left_by_operand left fs) right) own
  not_written at fs (unary_value op of depth) own = not_written at fs of own
  not_written at fs (concat_value operands depth) own = then_not _ _ (values_not_written at fs operands own)
  not_written at fs (call_value on args all depth) own =
      either_not (holds_own on) (values_own args) (can_write at fs on) (can_write_values at (left_by on fs) args) (not_written at fs on) (values_not_written at (left_by on fs) args) own
  not_written at fs (method_value on name args all depth) own =
      let named = is_some (constant_name at name) in
      let given = can_write_values at (left_by on fs) args in
      either_not (holds_own on) (values_own args) (can_write at fs on) (named && given) (not_written at fs on) (λ is. then_not named given (values_not_written at (left_by on fs) args is)) own
  not_written at fs (table_value items all depth) own = items_not_written at fs items own
  not_written at fs (function_value number true) own = refl
  not_written at fs (function_value number false) own = not_so own
  not_written at fs v own = not_so own

  pub values_not_written : (at : Place) (fs : List (Option Inner)) (vs : Values) → values_own vs ≡ true → can_write_values at fs vs ≡ false
  values_not_written at fs no_values own = not_so own
  values_not_written at fs (and_value v rest) own =
      either_not (holds_own v) (values_own rest) (can_write at fs v) (can_write_values at (left_by v fs) rest) (not_written at fs v) (values_not_written at (left_by v fs) rest) own

  pub operand_not_written : (at : Place) (fs : List (Option Inner)) (o : OperandValue) → operand_own o ≡ true → can_write_operand at fs o ≡ false
  operand_not_written at fs (constant_operand k) own = not_so own
  operand_not_written at fs (value_operand v) own = not_written at fs v own

  operands_not_written : (at : Place) (fs : List (Option Inner)) (os : OperandList) → operands_own os ≡ true → can_write_operands at fs os ≡ false
  operands_not_written at fs no_operands own = not_so own
  operands_not_written at fs (and_operand o rest) own =
      either_not (operand_own o) (operands_own rest) (can_write_operand at fs o) (can_write_operands at (left_by_operand o fs) rest) (operand_not_written at fs o) (operands_not_written at (left_by_operand o fs) rest) own

  items_not_written : (at : Place) (fs : List (Option Inner)) (items : ItemList) → items_own items ≡ true → can_write_items at fs items ≡ false
  items_not_written at fs no_items own = not_so own
  items_not_written at fs (and_positional v rest) own =
      either_not (holds_own v) (items_own rest) (can_write at fs v) (can_write_items at (left_by v fs) rest) (not_written at fs v) (items_not_written at (left_by v fs) rest) own
  items_not_written at fs (and_keyed key item rest) own =
      let behind = left_by_operand key fs in
      let last = left_by_operand item behind in
      either_not (operand_own key) (operand_own item || items_own rest) (can_write_operand at fs key) (can_write_operand at behind item && can_write_items at last rest) (operand_not_written at fs key)
      (either_not (operand_own item) (items_own rest) (can_write_operand at behind item) (can_write_items at last rest) (operand_not_written at behind item) (items_not_written at last rest)) own

comparison_refused : (at : Place) (fs : List (Option Inner)) (first second : OperandValue) → (operand_own first || operand_own second) ≡ true → can_write_both at fs first second ≡ false
comparison_refused at fs first second own =
    either_not (operand_own first) (operand_own second) (can_write_operand at fs first) (can_write_operand at (left_by_operand first fs) second) (operand_not_written at fs first) (operand_not_written at (left_by_operand first fs) second) own

pub comparison_not_written : (at : Place) (n : ℕ) (fs : List (Option Inner)) (c : Comparison) → (operand_own c.left || operand_own c.right) ≡ true → can_write_comparison at n fs c ≡ false
comparison_not_written at n fs c own = by (is_swapped (length at.entries) n c)
  where
    by : (swapped : Bool) → (if swapped then can_write_both at fs c.right c.left else can_write_both at fs c.left c.right) ≡ false
    by true = comparison_refused at fs c.right c.left (or_comm (operand_own c.right) (operand_own c.left) ∙ own)
    by false = comparison_refused at fs c.left c.right own

-- ---- targets

abbrev pub target_own : TargetValue → Bool
target_own (index_target on key) = holds_own on || operand_own key
target_own target = false

pub target_not_written : (at : Place) (fs : List (Option Inner)) (t : TargetValue) → target_own t ≡ true → can_write_target at fs t ≡ false
target_not_written at fs (index_target on key) own = comparison_refused at fs (value_operand on) key own
target_not_written at fs t own = not_so own

-- no path says it
variable_other : (v : Value) → holds_own v ≡ true → is_variable v ≡ false
variable_other (local_value r) own = not_so own
variable_other (upvalue_value u) own = not_so own
variable_other (global_value k) own = not_so own
variable_other v own = refl

key_unnamed : (at : Place) (key : OperandValue) → operand_own key ≡ true → is_some (field_name at key) ≡ false
key_unnamed at (constant_operand k) own = not_so own
key_unnamed at (value_operand (constant_value k)) own = not_so own
key_unnamed at (value_operand v) own = refl

keys_unnamed : (at : Place) (keys : OperandList) → operands_own keys ≡ true → are_fields at keys ≡ false
keys_unnamed at no_operands own = not_so own
keys_unnamed at (and_operand key rest) own = either_not (operand_own key) (operands_own rest) (is_some (field_name at key)) (are_fields at rest) (key_unnamed at key) (keys_unnamed at rest) own

long_unsaid : (at : Place) (on : Value) (keys : OperandList) (key : OperandValue) → ((holds_own on || operands_own keys) || operand_own key) ≡ true → long_path at on keys key ≡ None
long_unsaid at on keys key own =
    let not_long : is_long_path at on keys key ≡ false =
    either_not (holds_own on) (operands_own keys || operand_own key) (is_variable on) (are_fields at keys && is_some (field_name at key)) (variable_other on)
    (either_not (operands_own keys) (operand_own key) (are_fields at keys) (is_some (field_name at key)) (keys_unnamed at keys) (key_unnamed at key)) (sym (or_assoc (holds_own on) (operands_own keys) (operand_own key)) ∙ own) in
    ap (λ long. if long then Some (text_or_empty (variable_name at on) ∷ field_names at keys ++ (text_or_empty (field_name at key) ∷ [])) else None) not_long

pub path_unsaid : (at : Place) (t : TargetValue) → target_own t ≡ true → path_of at t ≡ None
path_unsaid at (index_target on key) own = by on own
  where
    by : (on : Value) → (holds_own on || operand_own key) ≡ true → field_path at on key ≡ None
    by (index_value on keys depth) own = long_unsaid at on keys key own
    by on own = long_unsaid at on no_operands key (ap (λ first. first || operand_own key) (or_comm (holds_own on) false) ∙ own)
path_unsaid at t own = not_so own

-- ---- values that are made of others

over_own : (depth : ℕ) (make : ℕ → Value) → ((n : ℕ) → holds_own (make n) ≡ true) → Each (λ v. holds_own v ≡ true) (made_over depth make)
over_own depth make all = each_where (nat_lt depth 400) (each_some (all (suc depth)))

and_last_own : (keys : OperandList) (key : OperandValue) → operands_own (and_last keys key) ≡ (operands_own keys || operand_own key)
and_last_own no_operands key = or_comm (operand_own key) false
and_last_own (and_operand o keys) key = ap (λ rest. operand_own o || rest) (and_last_own keys key) ∙ sym (or_assoc (operand_own o) (operands_own keys) (operand_own key))

pub index_own : (on : Value) (key : OperandValue) → (holds_own on || operand_own key) ≡ true → Each (λ v. holds_own v ≡ true) (made_index on key)
index_own (index_value on keys depth) key own =
    over_own (depth_of_operand key) (λ n. index_value on (and_last keys key) (max depth n)) (λ n. ap (λ rest. holds_own on || rest) (and_last_own keys key) ∙ sym (or_assoc (holds_own on) (operands_own keys) (operand_own key)) ∙ own)
index_own on key own =
    over_own (max (depth_of on) (depth_of_operand key)) (λ n. index_value on (and_operand key no_operands) n) (λ n. ap (λ rest. holds_own on || rest) (or_comm (operand_own key) false) ∙ own)

pub binary_own : (op : BinaryOp) (left right : OperandValue) → (operand_own left || operand_own right) ≡ true → Each (λ v. holds_own v ≡ true) (made_binary op left right)
binary_own op left right own = over_own _ (λ n. binary_value op left right n) (λ n. own)

pub unary_own : (op : UnaryOp) (of : Value) → holds_own of ≡ true → Each (λ v. holds_own v ≡ true) (made_unary op of)
unary_own op of own = over_own _ (λ n. unary_value op of n) (λ n. own)

pub concat_own : (operands : Values) → values_own operands ≡ true → Each (λ v. holds_own v ≡ true) (made_concat operands)
concat_own operands own = over_own _ (λ n. concat_value operands n) (λ n. own)

pub call_own : (on : Value) (args : Values) (all : Bool) → (holds_own on || values_own args) ≡ true → Each (λ v. holds_own v ≡ true) (made_call on args all)
call_own on args all own = over_own _ (λ n. call_value on args all n) (λ n. own)

pub method_own : (on : Value) (name : ℕ) (args : Values) (all : Bool) → (holds_own on || values_own args) ≡ true → Each (λ v. holds_own v ≡ true) (made_method on name args all)
method_own on name args all own = over_own _ (λ n. method_value on name args all n) (λ n. own)
