-- Targets that a path says, and functions that go alone to one.
use Rattle.std.proofs.Common.{◌≡◌, ℕ, Bool, true, false, List, [], ◌∷◌, ◌++◌, Option, Some, None, is_some, refl, sym, ap, ◌∙◌, subst}
use Rattle.std.specs.Prelude.{nat_lt, length, option_and_then, not, ◌&&◌, ◌||◌, if◌then◌else◌}
use Rattle.std.proofs.lemmas.Option.{same_Some}
use Rattle.std.proofs.lemmas.Slice.Eq.{bytes_eq-Decides}
use Rattle.lua_num.specs.Bytes.{Text}
use Rattle.lua_tree.specs.Outline.{all_params}
use Rattle.lua_tree.specs.Syntax.{Expression, FunctionBody, Statement, field_expression, function_statement}
use Rattle.core_expr.specs.Counting.{left_by, left_by_operand, left_by_operands, left_by_values, one_more}
use Rattle.core_expr.specs.Places.{Place, field_name, is_variable, variable_name}
use Rattle.core_expr.specs.Targets.{TargetValue, are_fields, field_names, has_long_path, index_target, is_long_path, left_by_target, long_path, path_of}
use Rattle.core_expr.specs.Values.{Inner, OperandList, OperandValue, Value, Values, and_operand, and_value, constant_operand, constant_value, function_value, global_value, index_value, local_value, no_operands, no_values, upvalue_value, value_operand}
use Rattle.core_expr.specs.Writing.{can_write_values, function_left, text_or_empty}
use Rattle.recover_expr.specs.Assigning.{all_but_first, function_as, function_number, is_self, last_name, names_before_last, self, takes_self, with_number, without_self}
use Rattle.scheme.specs.Expressions.{Coded, Target, coded_field, name_target, part_target}
use Rattle.scheme.specs.Functions.{Inner as InnerPart, coded_function}
use Rattle.scheme.specs.Making.{Maker, active_count, in_globals, in_register, in_upvalue}
use Rattle.scheme.specs.Scheme.{coded}
use Rattle.scheme.specs.Statements.{all_targets, assign_part, copies, each_stored, with_fields}
use Rattle.reads_back.specs.Assignments.{fields_behind}
use Rattle.reads_back.specs.Acted.{can_write_last, function_in, left_by_targets, levels_by, levels_or, named_by, named_or, path_to, said_by}
use Rattle.reads_back.proofs.Tests.{first_of_both, given_is, not_so, second_of_both, test_holds}

-- ---- a path is an expression

pub coded_fields : (on : Expression) (texts : List Text) → (coded on).e ≡ on → coded (fields_behind on texts) ≡ with_fields 1 (coded on) texts
coded_fields on [] itself = refl
coded_fields on (text ∷ texts) itself =
    coded_fields (field_expression 1 on text) texts refl ∙ ap (λ (e : Expression). with_fields 1 (coded_field 1 (field_expression 1 e text) (coded on) text) texts) (sym itself)

-- ---- what a path is of

-- what is known of a target with a path: it is a variable, or one with names alone behind it
pub record IsLongPath (at : Place) (on : Value) (keys : OperandList) (key : OperandValue) (path : List Text) : Type 0 where
  pub variable : is_variable on ≡ true
  pub fields : are_fields at keys ≡ true
  pub field : is_some (field_name at key) ≡ true
  pub same : text_or_empty (variable_name at on) ∷ field_names at keys ++ (text_or_empty (field_name at key) ∷ []) ≡ path

pub long_is : (at : Place) (on : Value) (keys : OperandList) (key : OperandValue) (path : List Text) → long_path at on keys key ≡ Some path → IsLongPath at on keys key path
long_is at on keys key path is =
    let holds = test_holds (is_long_path at on keys key) _ path is in
    let behind = second_of_both (is_variable on) _ holds in
    record { variable = first_of_both _ _ holds; fields = first_of_both _ _ behind; field = second_of_both (are_fields at keys) _ behind; same = given_is (is_long_path at on keys key) _ path is }

-- its variable has a name, where one that has a path has it
pub variable_named : (at : Place) (on : Value) (keys : OperandList) (key : OperandValue) (path : List Text) → has_long_path at on keys key ≡ true → long_path at on keys key ≡ Some path → is_some (variable_name at on) ≡ true
variable_named at on keys key path has is = by (is_long_path at on keys key) (test_holds (is_long_path at on keys key) _ path is) has
  where
    by : (long : Bool) → long ≡ true → (not long || is_some (variable_name at on)) ≡ true → is_some (variable_name at on) ≡ true
    by true holds has = has
    by false holds has = not_so holds

-- it is of one target
pub path_alone : (at : Place) (ts : List TargetValue) (path : List Text) → path_to at ts ≡ Some path → (t : TargetValue) × (ts ≡ t ∷ []) × (path_of at t ≡ Some path)
path_alone at [] path is = cc
path_alone at (t ∷ []) path is = (t, refl, is)
path_alone at (t ∷ u ∷ ts) path is = cc

-- ---- a path uses no function

field_leaves : (at : Place) (key : OperandValue) (fs : List (Option Inner)) → is_some (field_name at key) ≡ true → left_by_operand key fs ≡ fs
field_leaves at (constant_operand k) fs is = refl
field_leaves at (value_operand (constant_value k)) fs is = refl
field_leaves at (value_operand v) fs is = not_so is

fields_leave : (at : Place) (keys : OperandList) (fs : List (Option Inner)) → are_fields at keys ≡ true → left_by_operands keys fs ≡ fs
fields_leave at no_operands fs are = refl
fields_leave at (and_operand key rest) fs are = ap (left_by_operands rest) (field_leaves at key fs (first_of_both _ _ are)) ∙ fields_leave at rest fs (second_of_both (is_some (field_name at key)) _ are)

variable_leaves : (on : Value) (fs : List (Option Inner)) → is_variable on ≡ true → left_by on fs ≡ fs
variable_leaves (local_value r) fs is = refl
variable_leaves (upvalue_value u) fs is = refl
variable_leaves (global_value k) fs is = refl
variable_leaves on fs is = not_so is

long_leaves : (at : Place) (on : Value) (keys : OperandList) (key : OperandValue) (path : List Text) (fs : List (Option Inner)) → long_path at on keys key ≡ Some path → left_by_operand key (left_by_operands keys (left_by on fs)) ≡ fs
long_leaves at on keys key path fs is =
    let long = long_is at on keys key path is in
    ap (λ fs. left_by_operand key (left_by_operands keys fs)) (variable_leaves on fs long.variable) ∙ ap (left_by_operand key) (fields_leave at keys fs long.fields) ∙ field_leaves at key fs long.field

-- a target with a path leaves all functions
pub path_leaves : (at : Place) (t : TargetValue) (path : List Text) (fs : List (Option Inner)) → path_of at t ≡ Some path → left_by_target t fs ≡ fs
path_leaves at (index_target (index_value on keys depth) key) path fs is = long_leaves at on keys key path fs is
path_leaves at (index_target on key) path fs is = long_leaves at on no_operands key path fs is
path_leaves at t path fs is = refl

pub path_to_leaves : (at : Place) (ts : List TargetValue) (path : List Text) (fs : List (Option Inner)) → path_to at ts ≡ Some path → left_by_targets ts fs ≡ fs
path_to_leaves at [] path fs is = cc
path_to_leaves at (t ∷ []) path fs is = path_leaves at t path fs is
path_to_leaves at (t ∷ u ∷ ts) path fs is = cc

-- ---- a function that is all of the values

function_numbered : (v : Value) (number : ℕ) → function_number v ≡ Some number → v ≡ function_value number false
function_numbered (function_value k false) number is = ap (λ k. function_value k false) (same_Some k number is)
function_numbered v number is = cc

-- it goes to a name, or straight to a part
pub function_alone : (P : Values → Option OperandValue → Type 0) (number : ℕ) → P (and_value (function_value number false) no_values) None → P no_values (Some (value_operand (function_value number false))) →
    (vs : Values) (last : Option OperandValue) → function_in vs last ≡ Some number → P vs last
function_alone P number to_name to_part (and_value v no_values) None is = subst (λ v. P (and_value v no_values) None) (sym (function_numbered v number is)) to_name
function_alone P number to_name to_part no_values (Some (value_operand v)) is = subst (λ v. P no_values (Some (value_operand v))) (sym (function_numbered v number is)) to_part
function_alone P number to_name to_part vs last is = cc

-- what can be written is there
pub function_there_yet : (at : Place) (fs : List (Option Inner)) (number : ℕ) (vs : Values) (last : Option OperandValue) → function_in vs last ≡ Some number → (can_write_values at fs vs && can_write_last at (left_by_values vs fs) last) ≡ true → is_some (function_left fs number) ≡ true
function_there_yet at fs number =
    function_alone (λ vs last. (can_write_values at fs vs && can_write_last at (left_by_values vs fs) last) ≡ true → is_some (function_left fs number) ≡ true) number (λ can. first_of_both _ _ (first_of_both _ _ can)) (λ can. can)

-- ---- what is said by a function statement

-- one target with a path, to which a function goes that is left
pub record IsNamed (at : Place) (left : List (Option Inner)) (ts : List TargetValue) (vs : Values) (last : Option OperandValue) (path : List Text) (found : Inner) : Type 0 where
  pub target : TargetValue
  pub number : ℕ
  pub one : ts ≡ target ∷ []
  pub has_path : path_of at target ≡ Some path
  pub goes : function_in vs last ≡ Some number
  pub there : function_left left number ≡ Some found

-- what holds of an assignment and its levels, and of each function statement that says a function and a path, holds of what is written
module _ (Holds : Statement → ℕ → Type 0) (at : Place) (left : List (Option Inner)) (ts : List TargetValue) (vs : Values) (last : Option OperandValue) (otherwise : Statement) (levels : ℕ) where
  abbrev HoldsNamed : Type 0
  HoldsNamed = (path : List Text) (found : Inner) → IsNamed at left ts vs last path found → Holds (function_as path found.body) (one_more (one_more found.levels))

  left_holds : (number : ℕ) (path : List Text) (found : Option Inner) → function_in vs last ≡ Some number → path_to at ts ≡ Some path → function_left left number ≡ found → Holds otherwise levels → HoldsNamed →
      Holds (said_by found path otherwise) (levels_by found levels)
  left_holds number path None goes is there plain named = plain
  left_holds number path (Some found) goes is there plain named =
      let alone = path_alone at ts path is in
      named path found (record { target = alone.0; number = number; one = alone.1; has_path = alone.2; goes = goes; there = there })

  path_holds : (number : ℕ) (path : Option (List Text)) → function_in vs last ≡ Some number → path_to at ts ≡ path → Holds otherwise levels → HoldsNamed →
      Holds (named_or left (with_number number path) otherwise) (levels_or left (with_number number path) levels)
  path_holds number None goes is plain named = plain
  path_holds number (Some path) goes is plain named = left_holds number path (function_left left number) goes is refl plain named

  number_holds : (number : Option ℕ) → function_in vs last ≡ number → Holds otherwise levels → HoldsNamed →
      Holds (named_or left (option_and_then (λ number. with_number number (path_to at ts)) number) otherwise) (levels_or left (option_and_then (λ number. with_number number (path_to at ts)) number) levels)
  number_holds None goes plain named = plain
  number_holds (Some number) goes plain named = path_holds number (path_to at ts) goes refl plain named

  pub named_or_holds : Holds otherwise levels → HoldsNamed → Holds (named_or left (named_by at ts vs last) otherwise) (levels_or left (named_by at ts vs last) levels)
  named_or_holds plain named = number_holds (function_in vs last) refl plain named

-- ---- the statement that says it: a function, or a method

module _ (Holds : Statement → Type 0) (path : List Text) (body : FunctionBody) where
  method_holds : (b : Bool) → (nat_lt 1 (length path) && takes_self body) ≡ b → Holds (function_statement path None body) →
      (nat_lt 1 (length path) ≡ true → takes_self body ≡ true → Holds (function_statement (names_before_last path) (last_name path) (without_self body))) →
      Holds (if b then function_statement (names_before_last path) (last_name path) (without_self body) else function_statement path None body)
  method_holds true is plain method = method (first_of_both _ _ is) (second_of_both (nat_lt 1 (length path)) _ is)
  method_holds false is plain method = plain

  pub function_as_holds : Holds (function_statement path None body) → (nat_lt 1 (length path) ≡ true → takes_self body ≡ true → Holds (function_statement (names_before_last path) (last_name path) (without_self body))) → Holds (function_as path body)
  function_as_holds plain method = method_holds (nat_lt 1 (length path) && takes_self body) refl plain method

-- a first parameter `self` is that of a method
pub params_part : (params : List Text) → is_self params ≡ true → all_params true (all_but_first params) ≡ params
params_part [] takes = not_so takes
params_part (first ∷ params) takes = ap (λ (first : Text). first ∷ params) (sym ((bytes_eq-Decides first self).0 takes))

-- a path has a last name
pub last_there : (name : Text) (path : List Text) → is_some (last_name (name ∷ path)) ≡ true
last_there name [] = refl
last_there name (other ∷ path) = last_there other path

-- ---- a function is stored by its code only

store_same : (one other : FunctionBody) (code : InnerPart) (places : List Target) (m : Maker) → each_stored 1 places (coded_function 1 one code ∷ []) m ≡ each_stored 1 places (coded_function 1 other code ∷ []) m
store_same one other code [] m = refl
store_same one other code (name_target text (in_register r) ∷ []) m = refl
store_same one other code (name_target text (in_upvalue slot) ∷ []) m = refl
store_same one other code (name_target text in_globals ∷ []) m = refl
store_same one other code (part_target on key on_local key_local ∷ []) m = refl
store_same one other code (target ∷ next ∷ places) m = refl

pub assign_same : (on : Coded) (one other : FunctionBody) (code : InnerPart) (m : Maker) → assign_part 1 (on ∷ []) (coded_function 1 one code ∷ []) m ≡ assign_part 1 (on ∷ []) (coded_function 1 other code ∷ []) m
assign_same on one other code m =
    let parts = all_targets (on ∷ []) m in
    let places = copies 1 (active_count parts.after) parts.value parts.after in
    store_same one other code places.value places.after
