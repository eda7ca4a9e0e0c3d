-- A function that goes alone to a target with a path makes the same words as a function statement of that path and as an assignment, and its levels are few.
use Rattle.std.proofs.Common.{◌≡◌, ℕ, suc, ◌≤◌, Bool, true, false, max, nat_lt, List, [], ◌∷◌, ◌++◌, length, Option, Some, None, is_some, refl, sym, ap, ap₂, ◌∙◌, subst, subst₂, arith, inl, inr, ◌⊎◌, not}
use Rattle.std.proofs.lemmas.Option.{same_Some}
use Rattle.std.specs.Prelude.{◌&&◌, if◌then◌else◌, option_and_then}
use Rattle.lua_num.specs.Bytes.{Text}
use Rattle.lua_tree.specs.Names.{is_name as is_good_name}
use Rattle.lua_tree.specs.Syntax as syntax
use Rattle.lua_tree.specs.Syntax.{Expression, Expressions, no_expressions, FunctionBody, function_body, Statement, name_expression, field_expression, function_expression}
use Rattle.lua_tree.specs.WellFormed.{depth_of_body, depth_of_expressions, is_prefix, depth_of_statement, depth_of_expression}
use Rattle.proto.specs.declared.parts.Constant.{Constant}
use Rattle.core_expr.specs.Counting.{left_by, left_by_operand, one_more, taken_behind, taken_behind_operand}
use Rattle.core_expr.specs.Held.{wordings_with}
use Rattle.core_expr.specs.Making.{and_last, depth_of, depth_of_operand, made_index, made_over}
use Rattle.core_expr.specs.Places.{Place, as_name, as_text, constant_name, field_name, is_variable, local_name, name_of_number, place, upvalue_name, variable_name}
use Rattle.core_expr.specs.Targets.{TargetValue, are_fields, can_have_path, field_names, field_path, global_target, has_field_path, has_long_path, index_target, is_long_path, left_by_target, local_target, long_path, path_of, taken_behind_target, upvalue_target, word_target}
use Rattle.core_expr.specs.Values.{Value, OperandList, OperandValue, Values, and_operand, and_value, function_value, global_value, index_value, Inner, local_value, no_operands, no_values, upvalue_value, value_operand}
use Rattle.core_expr.specs.Writing.{Wording, Wordings, and_wording, as_prefix, function_left, name_word, no_wordings, over, text_or_empty, unless, with_key, word, word_keys, word_operand, as_value, function_word}
use Rattle.recover_expr.specs.Assigning.{function_as, last_name, names_before_last, takes_self, with_number, without_self}
use Rattle.recover_expr.specs.Situation.{Function}
use Rattle.scheme.specs.Expressions.{Coded, coded_field}
use Rattle.scheme.specs.Functions.{coded_function}
use Rattle.scheme.specs.Making.{Maker, Where, in_globals, in_register, in_upvalue}
use Rattle.scheme.specs.Scheme.{coded, inner, statement_made}
use Rattle.scheme.specs.Statements.{assign_part, path_from, with_fields, with_method}
use Rattle.scheme.specs.declared.making.Active.{Active}
use Rattle.scheme_stands.specs.Words.{Fn}
use Rattle.same_flow.specs.Space.{space_of_body, space_of_expression, space_of_expressions, space_of_statement}
use Rattle.reads_back.specs.Assignments.{fields_behind}
use Rattle.reads_back.specs.Acted.{AreAssigned, Assigned, IsTarget, IsVariableTarget, act_levels, act_statement, assigned, assigned_levels, assigned_statement, function_in, is_path, lean_assignment, left_by_targets, named_by, taken_behind_targets, words_assigned, AreWithOperand, AreValues, values_assigned}
use Rattle.reads_back.specs.Cores.{IsCore, IsKey, HasNumber, IsVariable}
use Rattle.reads_back.proofs.ConstantsSame.{constant_is}
use Rattle.reads_back.proofs.LeanTargets.{IsLean}
use Rattle.reads_back.proofs.Paths.{assign_same, coded_fields, function_alone, function_as_holds, last_there, long_is, params_part, path_leaves, variable_named}
use Rattle.reads_back.proofs.Rewriting.{IsMadeBy}
use Rattle.reads_back.proofs.Rooms.{lean_room_assignment}
use Rattle.reads_back.proofs.Said.{can_say, said_holds}
use Rattle.reads_back.proofs.Tests.{both_hold, first_of_both, given_is, not_below, second_of_both}

-- ---- the words of a path

fields_prefix : (e : Expression) (texts : List Text) → is_prefix e ≡ true → is_prefix (fields_behind e texts) ≡ true
fields_prefix e [] is = is
fields_prefix e (text ∷ texts) is = fields_prefix (field_expression 1 e text) texts refl

fields_last : (e : Expression) (texts : List Text) (text : Text) → field_expression 1 (fields_behind e texts) text ≡ fields_behind e (texts ++ text ∷ [])
fields_last e [] text = refl
fields_last e (next ∷ texts) text = fields_last (field_expression 1 e next) texts text

prefix_words : (bare : Bool) (w : Wording) → is_prefix w.words ≡ bare → bare ≡ true → (unless bare w).words ≡ w.words
prefix_words true w is bare = refl
prefix_words false w is bare = cc

key_named : (name : Option Text) (on key : Wording) → is_some name ≡ true → (with_key name on key).words ≡ field_expression 1 on.words (text_or_empty name)
key_named (Some name) on key is = refl
key_named None on key is = cc

keys_named : (at : Place) (n : ℕ) (fs : List (Option Inner)) (on : Wording) (keys : OperandList) → are_fields at keys ≡ true → (word_keys at n fs on keys).words ≡ fields_behind on.words (field_names at keys)
keys_named at n fs on no_operands are = refl
keys_named at n fs on (and_operand key rest) are =
    let w = word_operand at n fs key in
    keys_named at (taken_behind_operand key n) (left_by_operand key fs) (with_key (field_name at key) on w) rest (second_of_both _ _ are)
    ∙ ap (λ e. fields_behind e (field_names at rest)) (key_named (field_name at key) on w (first_of_both _ _ are))

name_words : (name : Option Text) → is_some name ≡ true → (name_word name).words ≡ name_expression 1 (text_or_empty name)
name_words (Some name) is = refl
name_words None is = cc

variable_words : (at : Place) (n : ℕ) (fs : List (Option Inner)) (on : Value) → is_some (variable_name at on) ≡ true → (word at n fs on).words ≡ name_expression 1 (text_or_empty (variable_name at on))
variable_words at n fs (local_value r) is = name_words (local_name at r) is
variable_words at n fs (upvalue_value u) is = name_words (upvalue_name at u) is
variable_words at n fs (global_value k) is = name_words (constant_name at k) is
variable_words at n fs on is = cc

-- a value whose words are a prefix stands without parentheses
bare_prefix : (w : Wording) (e : Expression) → w.words ≡ e → is_prefix e ≡ true → (as_prefix w).words ≡ e
bare_prefix w e is prefix = prefix_words (is_prefix w.words) w refl (ap is_prefix is ∙ prefix) ∙ is

-- what is known of a value with keys behind it and then one more
long_words : (at : Place) (w key_word : Wording) (on : Value) (keys : OperandList) (key : OperandValue) (path : List Text) → long_path at on keys key ≡ Some path →
    w.words ≡ fields_behind (name_expression 1 (text_or_empty (variable_name at on))) (field_names at keys) → coded (with_key (field_name at key) (as_prefix w) key_word).words ≡ path_from 1 path
long_words at w key_word on keys key path is words =
    let name = text_or_empty (variable_name at on) in
    let last = text_or_empty (field_name at key) in
    let long = long_is at on keys key path is in
    ap coded (
    key_named (field_name at key) (as_prefix w) key_word long.field
    ∙ ap (λ e. field_expression 1 e last) (bare_prefix w _ words (fields_prefix (name_expression 1 name) (field_names at keys) refl))
    ∙ fields_last (name_expression 1 name) (field_names at keys) last)
    ∙ coded_fields (name_expression 1 name) (field_names at keys ++ last ∷ []) refl
    ∙ ap (path_from 1) long.same

-- a variable with a key behind it
alone_words : (at : Place) (n : ℕ) (fs : List (Option Inner)) (key_word : Wording) (on : Value) (key : OperandValue) (path : List Text) → long_path at on no_operands key ≡ Some path → has_long_path at on no_operands key ≡ true →
    coded (with_key (field_name at key) (as_prefix (word at n fs on)) key_word).words ≡ path_from 1 path
alone_words at n fs key_word on key path is has =
    long_words at (word at n fs on) key_word on no_operands key path is (variable_words at n fs on (variable_named at on no_operands key path has is))

field_words : (at : Place) (n : ℕ) (fs : List (Option Inner)) (key_word : Wording) (on : Value) (key : OperandValue) (path : List Text) → field_path at on key ≡ Some path → has_field_path at on key ≡ true →
    coded (with_key (field_name at key) (as_prefix (word at n fs on)) key_word).words ≡ path_from 1 path
field_words at n fs key_word (index_value on keys depth) key path is has =
    let long = long_is at on keys key path is in
    let first = variable_words at n fs on (variable_named at on keys key path has is) in
    long_words at (word at n fs (index_value on keys depth)) key_word on keys key path is
    (keys_named at (taken_behind on n) (left_by on fs) (as_prefix (word at n fs on)) keys long.fields
    ∙ ap (λ e. fields_behind e (field_names at keys)) (bare_prefix (word at n fs on) _ first refl))
field_words at n fs key_word on key path is has = alone_words at n fs key_word on key path is has

name_path : (name : Option Text) (path : List Text) → is_some name ≡ true → Some (text_or_empty name ∷ []) ≡ Some path → coded (name_word name).words ≡ path_from 1 path
name_path name path there is = ap coded (name_words name there) ∙ ap (path_from 1) (same_Some _ _ is)

-- the words of a target with a path are the path
path_words : (at : Place) (n : ℕ) (fs : List (Option Inner)) (t : TargetValue) (path : List Text) → path_of at t ≡ Some path → can_have_path at t ≡ true → coded (word_target at n fs t).words ≡ path_from 1 path
path_words at n fs (local_target r) path is has = name_path (local_name at r) path has is
path_words at n fs (upvalue_target u) path is has = name_path (upvalue_name at u) path has is
path_words at n fs (global_target k) path is has = name_path (constant_name at k) path has is
path_words at n fs (index_target on key) path is has = field_words at n fs (word_operand at (taken_behind on n) (left_by on fs) key) on key path is has

-- ---- a function statement is an assignment

-- with the name of a method behind it
with_last : (on : Coded) (text : Text) (texts : List Text) → with_method 1 (with_fields 1 on (names_before_last (text ∷ texts))) (last_name (text ∷ texts)) ≡ with_fields 1 on (text ∷ texts)
with_last on text [] = refl
with_last on text (next ∷ texts) = with_last (coded_field 1 (field_expression 1 on.e text) on text) next texts

-- a method takes `self` before its parameters
inner_method : (body : FunctionBody) → takes_self body ≡ true → inner (without_self body) true ≡ inner body false
inner_method (function_body params vararg block first last) takes = ap (λ params. inner (function_body params vararg block first last) false) (params_part params takes)

-- so a path with a function is said as an assignment to it
method_said : (path : List Text) (body : FunctionBody) (m : Maker) → nat_lt 1 (length path) ≡ true → takes_self body ≡ true →
    statement_made (syntax.function_statement (names_before_last path) (last_name path) (without_self body)) 1 None m ≡ assign_part 1 (path_from 1 path ∷ []) (coded_function 1 body (inner body false) ∷ []) m
method_said [] body m long takes = cc
method_said (first ∷ []) body m long takes = cc
method_said (first ∷ second ∷ path) body m long takes =
    let own = without_self body in
    let on : Coded = path_from 1 (first ∷ second ∷ path) in
    ap (λ on. assign_part 1 (on ∷ []) (coded_function 1 own (inner own (is_some (last_name (first ∷ second ∷ path)))) ∷ []) m) (with_last (coded (name_expression 1 first)) second path)
    ∙ ap (λ is. assign_part 1 (on ∷ []) (coded_function 1 own (inner own is) ∷ []) m) (last_there first (second ∷ path))
    ∙ ap (λ code. assign_part 1 (on ∷ []) (coded_function 1 own code ∷ []) m) (inner_method body takes)
    ∙ assign_same on own body (inner body false) m

function_said : (path : List Text) (body : FunctionBody) (m : Maker) → statement_made (function_as path body) 1 None m ≡ assign_part 1 (path_from 1 path ∷ []) (coded (function_expression 1 body) ∷ []) m
function_said path body m = function_as_holds (λ s. statement_made s 1 None m ≡ assign_part 1 (path_from 1 path ∷ []) (coded (function_expression 1 body) ∷ []) m) path body refl (method_said path body m)

-- the statement of a function that goes to a target with a path makes the same words as the assignment
function_named : (at : Place) (n : ℕ) (fs : List (Option Inner)) (t : TargetValue) (path : List Text) (body : FunctionBody) → path_of at t ≡ Some path → can_have_path at t ≡ true → (m : Maker) →
    statement_made (function_as path body) 1 None m ≡ statement_made (syntax.assignment (syntax.expression (word_target at n fs t).words no_expressions) (syntax.expression (function_expression 1 body) no_expressions)) 1 None m
function_named at n fs t path body is has m = function_said path body m ∙ ap (λ on. assign_part 1 (on ∷ []) (coded (function_expression 1 body) ∷ []) m) (sym (path_words at n fs t path is has))

-- ---- a function that is all of the values

-- what is written of it
abbrev only_words : Inner → Wordings
only_words found = and_wording (over found.levels (function_expression 1 found.body)) no_wordings

single_words : (all : Bool) (number : ℕ) (w : Wording) → (as_value (true && not all) (function_value number false) w) ≡ w
single_words true number w = refl
single_words false number w = refl

front_or_behind : (n : ℕ) → max 0 n ≡ max n 0
front_or_behind n = omega arith

function_words : (at : Place) (n : ℕ) (fs : List (Option Inner)) (all : Bool) (number : ℕ) (found : Inner) → function_left fs number ≡ Some found → (vs : Values) (last : Option OperandValue) → function_in vs last ≡ Some number →
    words_assigned at n fs vs all last ≡ only_words found
function_words at n fs all number found is =
    function_alone (λ vs last. words_assigned at n fs vs all last ≡ only_words found) number
    (ap (λ w. and_wording w no_wordings) (single_words all number (function_word (function_left fs number)) ∙ ap function_word is))
    (ap (λ w. wordings_with no_wordings w) (ap function_word is) ∙ ap (λ levels. record { words = (only_words found).words; levels = levels }) (front_or_behind (one_more found.levels)))

module _ (at : Place) (n : ℕ) (fs : List (Option Inner)) (vs : Values) (all : Bool) (last : Option OperandValue) where
  abbrev statement_of : List TargetValue → Statement
  statement_of ts = assigned_statement at n fs ts vs all last

  -- a function that is said by a path
  module _ (t : TargetValue) (path : List Text) (number : ℕ) (found : Inner) (is : path_of at t ≡ Some path) (only : function_in vs last ≡ Some number) (there : function_left fs number ≡ Some found) where
    words_alone : words_assigned at (taken_behind_target t n) (left_by_target t fs) vs all last ≡ only_words found
    words_alone =
        ap (λ fs. words_assigned at (taken_behind_target t n) fs vs all last) (path_leaves at t path fs is)
        ∙ function_words at (taken_behind_target t n) fs all number found there vs last only

    said_same : can_have_path at t ≡ true → (m : Maker) → statement_made (function_as path found.body) 1 None m ≡ statement_made (statement_of (t ∷ [])) 1 None m
    said_same has m =
        function_named at n fs t path found.body is has m
        ∙ ap (λ (w : Wordings). statement_made (syntax.assignment (syntax.expression (word_target at n fs t).words no_expressions) w.words) 1 None m) (sym words_alone)

  -- the statement of an act makes the same words as the assignment
  pub named_same : (ts : List TargetValue) → can_say at fs (assigned ts vs all last) ≡ true → (m : Maker) → statement_made (act_statement at n fs (assigned ts vs all last)) 1 None m ≡ statement_made (statement_of ts) 1 None m
  named_same ts can m =
      said_holds (λ s levels. statement_made s 1 None m ≡ statement_made (statement_of ts) 1 None m) at fs ts vs all last (statement_of ts) 0 can (λ none written. refl)
      (λ path found named has.
      subst (λ ts. statement_made (function_as path found.body) 1 None m ≡ statement_made (statement_of ts) 1 None m) (sym named.one)
      (said_same named.target path named.number found named.has_path named.goes named.there has m))

  -- ---- it has few levels

  abbrev levels_of : List TargetValue → ℕ
  levels_of ts = assigned_levels at n fs ts vs all last

  abbrev value_levels : List TargetValue → ℕ
  value_levels ts = (words_assigned at (taken_behind_targets ts n) (left_by_targets ts fs) vs all last).levels

  -- a target that has a path needs no levels where a function goes to it
  pub named_few : (ts : List TargetValue) (most : ℕ) → can_say at fs (assigned ts vs all last) ≡ true → (named_by at ts vs last ≡ None → levels_of ts ≤ suc most) → ((only : ℕ) → function_in vs last ≡ Some only → value_levels ts ≤ most) →
      act_levels at n fs (assigned ts vs all last) ≤ suc most
  named_few ts most can otherwise few =
      said_holds (λ s levels. levels ≤ suc most) at fs ts vs all last (statement_of ts) (levels_of ts) can (λ none written. otherwise none)
      (λ path found named has.
      let low = subst (λ ts. value_levels ts ≤ most) named.one (few named.number named.goes) in
      omega (arith, low, ap (λ (w : Wordings). w.levels) (words_alone named.target path named.number found named.has_path named.goes named.there)))

-- ---- a path has a path

-- a variable, or one with fields behind it
abbrev IsPathValue : Place → Value → Type 0
IsPathValue at (index_value on keys depth) = (is_variable on && are_fields at keys) ≡ true
IsPathValue at v = is_variable v ≡ true

fields_and : (at : Place) (keys : OperandList) (key : OperandValue) → are_fields at keys ≡ true → is_some (field_name at key) ≡ true → are_fields at (and_last keys key) ≡ true
fields_and at no_operands key are is = both_hold _ _ is refl
fields_and at (and_operand o keys) key are is = both_hold _ _ (first_of_both _ _ are) (fields_and at keys key (second_of_both _ _ are) is)

alone_made : (at : Place) (on : Value) (key : OperandValue) (v : Value) (deep : ℕ) → is_variable on ≡ true → is_some (field_name at key) ≡ true → made_over deep (λ d. index_value on (and_operand key no_operands) d) ≡ Some v → IsPathValue at v
alone_made at on key v deep is named made = subst (IsPathValue at) (given_is (nat_lt deep 400) _ v made) (both_hold _ _ is (both_hold _ _ named refl))

path_made : (at : Place) (on : Value) (key : OperandValue) (v : Value) → IsPathValue at on → is_some (field_name at key) ≡ true → made_index on key ≡ Some v → IsPathValue at v
path_made at (index_value on keys depth) key v is named made =
    subst (IsPathValue at) (given_is (nat_lt (depth_of_operand key) 400) _ v made) (both_hold _ _ (first_of_both _ _ is) (fields_and at keys key (second_of_both _ _ is) named))
path_made at on key v is named made = alone_made at on key v (max (depth_of on) (depth_of_operand key)) is named made

given_there : {A : Type 0} (b : Bool) (a : A) → b ≡ true → is_some (if b then Some a else None) ≡ true
given_there true a is = refl
given_there false a is = cc

alone_there : (at : Place) (on : Value) (key : OperandValue) → is_variable on ≡ true → is_some (field_name at key) ≡ true → is_some (long_path at on no_operands key) ≡ true
alone_there at on key is named = given_there (is_long_path at on no_operands key) _ (both_hold _ _ is named)

path_there : (at : Place) (on : Value) (key : OperandValue) → IsPathValue at on → is_some (field_name at key) ≡ true → is_some (field_path at on key) ≡ true
path_there at (index_value on keys depth) key is named = given_there (is_long_path at on keys key) _ (both_hold _ _ (first_of_both _ _ is) (both_hold _ _ (second_of_both _ _ is) named))
path_there at on key is named = alone_there at on key is named

module _ {f : Function} {g : Fn} {active : List Active} {listed : List ℕ} {z : Maker} (made : IsMadeBy f g active listed z) where
  abbrev named_at : Place
  named_at = place f.of listed f.short

  name_there : (text : Text) (number : ℕ) → HasNumber g (Constant.Text text) number → is_good_name text ≡ true → is_some (constant_name named_at number) ≡ true
  name_there text number has good =
      ap (λ k. is_some (as_name (as_text k))) (constant_is made (Constant.Text text) number has) ∙ ap (λ (good : Bool). is_some (if good then Some text else None)) good

  -- a key that is a name is written as a field
  field_there : (text : Text) (before behind : ℕ) (key : OperandValue) → is_good_name text ≡ true → IsKey g text before behind key → is_some (field_name named_at key) ≡ true
  field_there text before behind key good (inl (same, (number, has, small, is))) = ap (λ key. is_some (field_name named_at key)) is ∙ name_there text number has good
  field_there text before behind key good (inr (large, (v, (same, (number, has, is_constant)), is))) =
      ap (λ key. is_some (field_name named_at key)) (is ∙ ap value_operand is_constant)
      ∙ ap (λ (small : Bool). is_some (name_of_number named_at (if small then None else Some number))) (not_below 255 number (large number has.is))
      ∙ name_there text number has good

  variable_there : (text : Text) (w : Where) (v : Value) → IsVariable g text w v → IsPathValue named_at v
  variable_there text (in_register r) v is = subst (IsPathValue named_at) (sym is) refl
  variable_there text (in_upvalue slot) v is = subst (IsPathValue named_at) (sym is) refl
  variable_there text in_globals v (number, has, is) = subst (IsPathValue named_at) (sym is) refl

  value_there : (e : Expression) (before behind : ℕ) (v : Value) → is_path e ≡ true → IsCore g active e before behind v → IsPathValue named_at v
  value_there (name_expression line text) before behind v is (same, (w, means, variable)) = variable_there text w v variable
  value_there (field_expression line on text) before behind v is (mid, (o, key, on_is, key_is, made_of)) =
      path_made named_at o key v (value_there on before mid o (first_of_both _ _ is) on_is) (field_there text mid behind key (second_of_both _ _ is) key_is) made_of
  value_there e before behind v is core = cc

  target_variable : (text : Text) (w : Where) (t : TargetValue) → IsVariableTarget g text w t → is_some (path_of named_at t) ≡ true
  target_variable text (in_register r) t is = ap (λ t. is_some (path_of named_at t)) is
  target_variable text (in_upvalue slot) t is = ap (λ t. is_some (path_of named_at t)) is
  target_variable text in_globals t (number, has, is) = ap (λ t. is_some (path_of named_at t)) is

  -- what a path means has a path
  target_there : (target : Expression) (before behind : ℕ) (t : TargetValue) → is_path target ≡ true → IsTarget g active target before behind t → is_some (path_of named_at t) ≡ true
  target_there (name_expression line text) before behind t is (same, w, means, variable) = target_variable text w t variable
  target_there (field_expression line on text) before behind (index_target o k) is (mid, on_is, key_is) =
      path_there named_at o k (value_there on before mid o (first_of_both _ _ is) on_is) (field_there text mid behind k (second_of_both _ _ is) key_is)
  target_there (field_expression line on text) before behind t is is_target = absurd is_target
  target_there target before behind t is is_target = cc

  -- ---- so it is said by it

  still_said : (number : Option ℕ) (path : Option (List Text)) → is_some number ≡ true → is_some path ≡ true → option_and_then (λ number. with_number number path) number ≡ None → ⊥
  still_said (Some number) (Some path) is there none = cc
  still_said (Some number) None is there none = cc
  still_said None path is there none = cc

  function_given : (line : ℕ) (body : FunctionBody) (t : TargetValue) (before behind : ℕ) (to : Assigned) →
      AreWithOperand g active (t ∷ []) (syntax.expression (function_expression line body) no_expressions) before behind to ⊎ AreValues g active (t ∷ []) (syntax.expression (function_expression line body) no_expressions) before behind to →
      is_some (function_in to.values to.last) ≡ true
  function_given line body t before behind to (inl (part, exact, o, (none, (v, (next, is, comes, functions, coming), operand)), all, last)) =
      ap₂ (λ vs last. is_some (function_in vs last)) none (last ∙ ap Some (operand ∙ ap value_operand is))
  function_given line body t before behind to (inr (from, (mid, (v, rest, (next, is, comes, functions, coming), (same, none), values)), no_part, to_is)) =
      let from_is : from ≡ and_value (function_value before false) no_values = values ∙ ap₂ and_value is none in
      ap (λ (to : Assigned). is_some (function_in to.values to.last)) (sym to_is)
      ∙ ap (λ (from : Values). let to = values_assigned 1 (Some t) false from in is_some (function_in to.values to.last)) from_is

  said_alone : (target : Expression) (line : ℕ) (body : FunctionBody) (before behind : ℕ) (ts : List TargetValue) (to : Assigned) → is_path target ≡ true →
      AreAssigned g active (syntax.expression target no_expressions) (syntax.expression (function_expression line body) no_expressions) ts before behind to → named_by named_at ts to.values to.last ≡ None → ⊥
  said_alone target line body before behind (t ∷ []) to is (mid, (mid_target, is_target, same), values) none =
      still_said (function_in to.values to.last) (path_of named_at t) (function_given line body t mid behind to values) (target_there target before mid_target t is is_target) none
  said_alone target line body before behind [] to is stored none = absurd stored.1
  said_alone target line body before behind (t ∷ u ∷ ts) to is stored none = absurd stored.1.2

  pub said_lean : (targets es : Expressions) (before behind : ℕ) (ts : List TargetValue) (to : Assigned) → IsLean targets es → AreAssigned g active targets es ts before behind to → named_by named_at ts to.values to.last ≡ None → ⊥
  said_lean targets es before behind ts to lean stored =
      said_alone lean.target lean.line lean.body before behind ts to lean.path
      (subst₂ (λ (targets es : Expressions). AreAssigned g active targets es ts before behind to) lean.one lean.alone stored)

  lean_by : (path : Bool) (target : Expression) (line : ℕ) (body : FunctionBody) → is_path target ≡ path → (path ≡ true → ⊥) →
      depth_of_statement (syntax.assignment (syntax.expression target no_expressions) (syntax.expression (function_expression line body) no_expressions)) ≤ (if path then suc (depth_of_body body) else max (depth_of_expression target) (suc (depth_of_body body)))
  lean_by true target line body is other = absurd (other refl)
  lean_by false target line body is other = omega arith

  -- what is no function statement is as deep as it is
  pub lean_alone : (targets es : Expressions) (before behind : ℕ) (ts : List TargetValue) (to : Assigned) → AreAssigned g active targets es ts before behind to → named_by named_at ts to.values to.last ≡ None →
      depth_of_statement (syntax.assignment targets es) ≤ lean_assignment targets es
  lean_alone (syntax.expression target no_expressions) (syntax.expression (function_expression line body) no_expressions) before behind ts to stored none =
      lean_by (is_path target) target line body refl (λ is. said_alone target line body before behind ts to is stored none)
  lean_alone targets es before behind ts to stored none = omega arith

  -- and has as much room
  lean_room_by : (path : Bool) (target : Expression) (line : ℕ) (body : FunctionBody) → is_path target ≡ path → (is_path target ≡ true → ⊥) →
      space_of_statement (syntax.assignment (syntax.expression target no_expressions) (syntax.expression (function_expression line body) no_expressions)) ≤ (if path then suc (space_of_body body) else max (space_of_expression target) (suc (space_of_body body)))
  lean_room_by true target line body is other = absurd (other is)
  lean_room_by false target line body is other = omega arith

  pub lean_room_alone : (targets es : Expressions) (before behind : ℕ) (ts : List TargetValue) (to : Assigned) → AreAssigned g active targets es ts before behind to → named_by named_at ts to.values to.last ≡ None →
      space_of_statement (syntax.assignment targets es) ≤ lean_room_assignment targets es
  lean_room_alone (syntax.expression target no_expressions) (syntax.expression (function_expression line body) no_expressions) before behind ts to stored none =
      lean_room_by (is_path target) target line body refl (λ is. said_alone target line body before behind ts to is stored none)
  lean_room_alone targets es before behind ts to stored none = omega arith

lean_values_by : (path : Bool) (target : Expression) (line : ℕ) (body : FunctionBody) → depth_of_expressions (syntax.expression (function_expression line body) no_expressions) ≤ (if path then suc (depth_of_body body) else max (depth_of_expression target) (suc (depth_of_body body)))
lean_values_by true target line body = omega arith
lean_values_by false target line body = omega arith

-- the values count in any case
pub lean_values : (targets es : Expressions) → depth_of_expressions es ≤ lean_assignment targets es
lean_values (syntax.expression target no_expressions) (syntax.expression (function_expression line body) no_expressions) = lean_values_by (is_path target) target line body
lean_values targets es = omega arith

lean_room_values_by : (path : Bool) (target : Expression) (line : ℕ) (body : FunctionBody) → space_of_expressions (syntax.expression (function_expression line body) no_expressions) ≤ (if path then suc (space_of_body body) else max (space_of_expression target) (suc (space_of_body body)))
lean_room_values_by true target line body = omega arith
lean_room_values_by false target line body = omega arith

pub lean_room_values : (targets es : Expressions) → space_of_expressions es ≤ lean_room_assignment targets es
lean_room_values (syntax.expression target no_expressions) (syntax.expression (function_expression line body) no_expressions) = lean_room_values_by (is_path target) target line body
lean_room_values targets es = omega arith
