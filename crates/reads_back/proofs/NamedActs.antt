-- A function that goes alone to a target with a path: the function statement that says it is well formed, no deeper than its levels tell, and mentions what the target and the function do.
use Rattle.std.proofs.Common.{◌≡◌, ℕ, ◌+◌, true, false, List, [], ◌∷◌, ◌++◌, Option, Some, None, is_some, refl, sym, ap, subst}
use Rattle.std.specs.Prelude.{nat_lt, length}
use Rattle.std.proofs.lemmas.Option.{same_Some}
use Rattle.lua_num.specs.Bytes.{Text}
use Rattle.lua_tree.specs.Names.{are_names, are_some_names, is_name}
use Rattle.lua_tree.specs.Outline.{Part, body_part, both, mentions, nothing, path_part, statement_part}
use Rattle.lua_tree.specs.Syntax.{FunctionBody, function_body, function_statement}
use Rattle.lua_tree.specs.WellFormed.{depth_of_body, depth_of_statement, ends_block, formed_body, formed_expression, formed_statement, is_optional_name}
use Rattle.core_expr.specs.Places.{Place, constant_name, field_name, field_number, local_name, name_of_number, upvalue_name, variable_name}
use Rattle.core_expr.specs.Targets.{TargetValue, are_fields, can_have_path, field_names, field_path, global_target, has_field_path, has_long_path, index_target, local_target, long_path, path_of, upvalue_target}
use Rattle.core_expr.specs.Values.{Inner, OperandList, OperandValue, Value, Values, and_operand, constant_operand, constant_value, global_value, index_value, local_value, no_operands, upvalue_value, value_operand}
use Rattle.core_expr.specs.Writing.{name_word, text_or_empty}
use Rattle.recover_expr.specs.Assigning.{all_but_first, function_as, last_name, names_before_last, takes_self, without_self}
use Rattle.reads_back.proofs.FunctionsLeft.{left_there}
use Rattle.reads_back.proofs.Marks.{SamePart, both_same, exact_part, name_mentioned, nothing_behind, part_back, part_of, part_of_operand, part_then, parts_of_operands, same_part}
use Rattle.reads_back.proofs.Paths.{IsNamed, function_as_holds, last_there, long_is, params_part, variable_named}
use Rattle.reads_back.proofs.Tests.{both_hold, first_of_both, not_so, second_of_both}
use Rattle.reads_back.proofs.WrittenFormed.{AreFineLeft, IsFineFunction, word_fine}

-- ---- the function

pub named_fine : (at : Place) (left : List (Option Inner)) (ts : List TargetValue) (vs : Values) (last : Option OperandValue) (path : List Text) (found : Inner) → IsNamed at left ts vs last path found → AreFineLeft left → IsFineFunction found
named_fine at left ts vs last path found named fine_left = left_there (λ number found. IsFineFunction found) named.number left found fine_left named.there

-- ---- its form

front_names : (path : List Text) → are_names path ≡ true → are_names (names_before_last path) ≡ true
front_names [] names = refl
front_names (name ∷ []) names = refl
front_names (name ∷ other ∷ path) names = both_hold _ _ (first_of_both _ _ names) (front_names (other ∷ path) (second_of_both (is_name name) _ names))

last_is_name : (path : List Text) → are_names path ≡ true → is_optional_name (last_name path) ≡ true
last_is_name [] names = refl
last_is_name (name ∷ []) names = first_of_both _ _ names
last_is_name (name ∷ other ∷ path) names = last_is_name (other ∷ path) (second_of_both (is_name name) _ names)

tail_names : (params : List Text) → are_names params ≡ true → are_names (all_but_first params) ≡ true
tail_names [] names = refl
tail_names (first ∷ params) names = second_of_both (is_name first) _ names

formed_without_self : (body : FunctionBody) → formed_body body ≡ true → formed_body (without_self body) ≡ true
formed_without_self (function_body params vararg block first last) formed = both_hold _ _ (tail_names params (first_of_both _ _ formed)) (second_of_both (are_names params) _ formed)

method_formed : (path : List Text) (body : FunctionBody) → nat_lt 1 (length path) ≡ true → are_some_names path ≡ true → formed_body body ≡ true → formed_statement (function_statement (names_before_last path) (last_name path) (without_self body)) ≡ true
method_formed [] body long names formed = not_so names
method_formed (name ∷ []) body long names formed = not_so long
method_formed (name ∷ other ∷ path) body long names formed =
    let rest = second_of_both (is_name name) _ names in
    both_hold _ _ (both_hold _ _ (first_of_both _ _ names) (front_names (other ∷ path) rest)) (both_hold _ _ (last_is_name (other ∷ path) rest) (formed_without_self body formed))

-- where the path's names are names, and the function is well formed
pub function_as_formed : (path : List Text) (body : FunctionBody) → are_some_names path ≡ true → formed_body body ≡ true → formed_statement (function_as path body) ≡ true
function_as_formed path body names formed =
    function_as_holds (λ s. formed_statement s ≡ true) path body (both_hold _ _ names formed) (λ long takes. method_formed path body long names formed)

depth_without_self : (body : FunctionBody) → depth_of_body (without_self body) ≡ depth_of_body body
depth_without_self (function_body params vararg block first last) = refl

pub function_as_depth : (path : List Text) (body : FunctionBody) → depth_of_statement (function_as path body) ≡ 1 + depth_of_body body
function_as_depth path body = function_as_holds (λ s. depth_of_statement s ≡ 1 + depth_of_body body) path body refl (λ long takes. ap (λ depth. 1 + depth) (depth_without_self body))

pub function_as_ends : (path : List Text) (body : FunctionBody) → ends_block (function_as path body) ≡ false
function_as_ends path body = function_as_holds (λ s. ends_block s ≡ false) path body refl (λ long takes. refl)

-- ---- what it mentions

method_body_part : (body : FunctionBody) → takes_self body ≡ true → SamePart (body_part true (without_self body)) (body_part false body)
method_body_part (function_body params vararg block first last) takes =
    exact_part (λ place. ap (λ params. body_part false (function_body params vararg block first last) place) (params_part params takes))

method_part : (line : ℕ) (path : List Text) (body : FunctionBody) → nat_lt 1 (length path) ≡ true → takes_self body ≡ true →
    SamePart (statement_part line (function_statement (names_before_last path) (last_name path) (without_self body))) (both (path_part line path) (body_part false body))
method_part line [] body long takes = not_so long
method_part line (name ∷ []) body long takes = not_so long
method_part line (name ∷ other ∷ path) body long takes =
    both_same (same_part (mentions line name)) (part_then (exact_part (λ place. ap (λ method. body_part method (without_self body) place) (last_there other path))) (method_body_part body takes))

-- the first name of its path, and what the function does
pub function_as_part : (line : ℕ) (path : List Text) (body : FunctionBody) → SamePart (statement_part line (function_as path body)) (both (path_part line path) (body_part false body))
function_as_part line path body =
    function_as_holds (λ s. SamePart (statement_part line s) (both (path_part line path) (body_part false body))) path body (same_part (both (path_part line path) (body_part false body))) (method_part line path body)

-- ---- its names are names

word_is_name : (name : Option Text) → is_some name ≡ true → formed_expression (name_word name).words ≡ true → is_name (text_or_empty name) ≡ true
word_is_name None some formed = not_so some
word_is_name (Some text) some formed = formed

local_is_name : (at : Place) (r : ℕ) → is_some (local_name at r) ≡ true → is_name (text_or_empty (local_name at r)) ≡ true
local_is_name at r some = let fine = word_fine at (local_value r) 0 [] tt some in word_is_name (local_name at r) some fine.formed

upvalue_is_name : (at : Place) (u : ℕ) → is_some (upvalue_name at u) ≡ true → is_name (text_or_empty (upvalue_name at u)) ≡ true
upvalue_is_name at u some = let fine = word_fine at (upvalue_value u) 0 [] tt some in word_is_name (upvalue_name at u) some fine.formed

constant_is_name : (at : Place) (k : ℕ) → is_some (constant_name at k) ≡ true → is_name (text_or_empty (constant_name at k)) ≡ true
constant_is_name at k some = let fine = word_fine at (global_value k) 0 [] tt some in word_is_name (constant_name at k) some fine.formed

variable_is_name : (at : Place) (v : Value) → is_some (variable_name at v) ≡ true → is_name (text_or_empty (variable_name at v)) ≡ true
variable_is_name at (local_value r) some = local_is_name at r some
variable_is_name at (upvalue_value u) some = upvalue_is_name at u some
variable_is_name at (global_value k) some = constant_is_name at k some
variable_is_name at v some = not_so some

number_is_name : (at : Place) (number : Option ℕ) → is_some (name_of_number at number) ≡ true → is_name (text_or_empty (name_of_number at number)) ≡ true
number_is_name at None some = not_so some
number_is_name at (Some k) some = constant_is_name at k some

field_is_name : (at : Place) (key : OperandValue) → is_some (field_name at key) ≡ true → is_name (text_or_empty (field_name at key)) ≡ true
field_is_name at key some = number_is_name at (field_number key) some

fields_are_names : (at : Place) (keys : OperandList) (key : OperandValue) → are_fields at keys ≡ true → is_some (field_name at key) ≡ true → are_names (field_names at keys ++ (text_or_empty (field_name at key) ∷ [])) ≡ true
fields_are_names at no_operands key fields field = both_hold _ _ (field_is_name at key field) refl
fields_are_names at (and_operand first keys) key fields field = both_hold _ _ (field_is_name at first (first_of_both _ _ fields)) (fields_are_names at keys key (second_of_both (is_some (field_name at first)) _ fields) field)

long_names : (at : Place) (on : Value) (keys : OperandList) (key : OperandValue) (path : List Text) → has_long_path at on keys key ≡ true → long_path at on keys key ≡ Some path → are_some_names path ≡ true
long_names at on keys key path has is =
    let long = long_is at on keys key path is in
    subst (λ path. are_some_names path ≡ true) long.same (both_hold _ _ (variable_is_name at on (variable_named at on keys key path has is)) (fields_are_names at keys key long.fields long.field))

field_path_names : (at : Place) (on : Value) (key : OperandValue) (path : List Text) → has_field_path at on key ≡ true → field_path at on key ≡ Some path → are_some_names path ≡ true
field_path_names at (index_value on keys depth) key path has is = long_names at on keys key path has is
field_path_names at on key path has is = long_names at on no_operands key path has is

single_names : (name : Option Text) (path : List Text) → is_name (text_or_empty name) ≡ true → Some (text_or_empty name ∷ []) ≡ Some path → are_some_names path ≡ true
single_names name path named is = subst (λ path. are_some_names path ≡ true) (same_Some (text_or_empty name ∷ []) path is) (both_hold _ _ named refl)

-- the names of a target's path are names
pub path_names : (at : Place) (t : TargetValue) (path : List Text) → can_have_path at t ≡ true → path_of at t ≡ Some path → are_some_names path ≡ true
path_names at (local_target r) path has is = single_names (local_name at r) path (local_is_name at r has) is
path_names at (upvalue_target u) path has is = single_names (upvalue_name at u) path (upvalue_is_name at u has) is
path_names at (global_target k) path has is = single_names (constant_name at k) path (constant_is_name at k has) is
path_names at (index_target on key) path has is = field_path_names at on key path has is

-- ---- its first name is all that is mentioned

module _ (at : Place) (of : ℕ → Part) where
  field_part : (key : OperandValue) → is_some (field_name at key) ≡ true → SamePart (part_of_operand at of key) nothing
  field_part (constant_operand k) some = same_part nothing
  field_part (value_operand (constant_value k)) some = same_part nothing
  field_part (value_operand v) some = not_so some

  fields_part : (keys : OperandList) → are_fields at keys ≡ true → SamePart (parts_of_operands at of keys) nothing
  fields_part no_operands fields = same_part nothing
  fields_part (and_operand key keys) fields = both_same (field_part key (first_of_both _ _ fields)) (fields_part keys (second_of_both (is_some (field_name at key)) _ fields))

  name_part : (name : Option Text) → is_some name ≡ true → SamePart (mentions 1 (text_or_empty name)) (name_mentioned name)
  name_part None some = not_so some
  name_part (Some text) some = same_part (mentions 1 text)

  variable_part : (v : Value) → is_some (variable_name at v) ≡ true → SamePart (mentions 1 (text_or_empty (variable_name at v))) (part_of at of v)
  variable_part (local_value r) some = name_part (local_name at r) some
  variable_part (upvalue_value u) some = name_part (upvalue_name at u) some
  variable_part (global_value k) some = name_part (constant_name at k) some
  variable_part v some = not_so some

  -- a variable with names behind it, and one more
  long_part : (on : Value) (keys : OperandList) (key : OperandValue) (path : List Text) → has_long_path at on keys key ≡ true → long_path at on keys key ≡ Some path →
      SamePart (path_part 1 path) (both (both (part_of at of on) (parts_of_operands at of keys)) (both (part_of_operand at of key) nothing))
  long_part on keys key path has is =
      let long = long_is at on keys key path is in
      let first = variable_part on (variable_named at on keys key path has is) in
      let behind = both_same (both_same (same_part (part_of at of on)) (fields_part keys long.fields)) (both_same (field_part key long.field) (same_part nothing)) in
      part_then (exact_part (λ place. ap (λ path. path_part 1 path place) (sym long.same)))
      (part_then first (part_back (part_then behind (part_then (nothing_behind (both (part_of at of on) nothing)) (nothing_behind (part_of at of on))))))

  -- names behind a value
  pub field_path_part : (on : Value) (key : OperandValue) (path : List Text) → has_field_path at on key ≡ true → field_path at on key ≡ Some path →
      SamePart (path_part 1 path) (part_of at of (index_value on (and_operand key no_operands) 1))
  field_path_part (index_value on keys depth) key path has is = long_part on keys key path has is
  field_path_part on key path has is =
      part_then (long_part on no_operands key path has is) (both_same (nothing_behind (part_of at of on)) (same_part (both (part_of_operand at of key) nothing)))

  -- a name alone
  pub single_path_part : (name : Option Text) (path : List Text) → is_some name ≡ true → Some (text_or_empty name ∷ []) ≡ Some path → SamePart (path_part 1 path) (name_mentioned name)
  single_path_part name path some is = part_then (exact_part (λ place. ap (λ path. path_part 1 path place) (sym (same_Some (text_or_empty name ∷ []) path is)))) (name_part name some)
