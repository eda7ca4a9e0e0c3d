-- Whether an act can be said: where a function statement says it, the variable that its path begins with has a name and the function is there; else it can be written.
use Rattle.std.proofs.Common.{◌≡◌, ℕ, Bool, true, List, [], ◌∷◌, Option, Some, None, is_some, refl, sym, ap, ◌∙◌, subst}
use Rattle.std.proofs.lemmas.Option.{same_Some}
use Rattle.std.specs.Prelude.{◌&&◌, not, nat_le, option_and_then}
use Rattle.lua_num.specs.Bytes.{Text}
use Rattle.lua_tree.specs.Syntax.{Statement}
use Rattle.core_expr.specs.Counting.{left_by_values, one_more}
use Rattle.core_expr.specs.Places.{Place}
use Rattle.core_expr.specs.Targets.{TargetValue, local_target, upvalue_target, global_target, index_target, can_have_path, can_write_target, has_long_path, is_long_path, path_of}
use Rattle.core_expr.specs.Values.{Value, local_value, upvalue_value, global_value, index_value, Values, OperandValue, OperandList, no_operands, Inner}
use Rattle.core_expr.specs.Writing.{can_write, can_write_values, function_left, operand_count}
use Rattle.recover_expr.specs.Assigning.{function_as, with_number}
use Rattle.reads_back.specs.Acted.{Acted, assigned, can_act, can_write_last, can_write_targets, function_in, left_by_targets, levels_by, levels_or, named_by, named_or, path_to, said_by}
use Rattle.reads_back.proofs.Paths.{IsNamed, function_there_yet, path_alone, path_to_leaves}
use Rattle.reads_back.proofs.Tests.{both_hold, first_of_both, not_so, or_second, second_of_both}

-- ---- what can be said

-- one target, which has a path or surely none
abbrev pub can_name : Place → List TargetValue → Bool
can_name at (t ∷ []) = can_have_path at t
can_name at ts = true

abbrev pub can_say_by : Place → List (Option Inner) → List TargetValue → Option (List Text × ℕ) → (otherwise : Bool) → Bool
can_say_by at fs ts None otherwise = otherwise
can_say_by at fs ts (Some named) otherwise = can_name at ts && is_some (function_left fs named.1)

abbrev pub can_say : Place → List (Option Inner) → Acted → Bool
can_say at fs (assigned ts vs all last) = can_say_by at fs ts (named_by at ts vs last) (can_act at fs (assigned ts vs all last))
can_say at fs acted = can_act at fs acted

-- ---- what can be written has its path

has_long : (at : Place) (fs : List (Option Inner)) (on : Value) (keys : OperandList) (key : OperandValue) → can_write at fs on ≡ true → has_long_path at on keys key ≡ true
has_long at fs (local_value r) keys key can = or_second (not (is_long_path at (local_value r) keys key)) _ can
has_long at fs (upvalue_value u) keys key can = or_second (not (is_long_path at (upvalue_value u) keys key)) _ can
has_long at fs (global_value k) keys key can = or_second (not (is_long_path at (global_value k) keys key)) _ can
has_long at fs on keys key can = refl

can_path : (at : Place) (fs : List (Option Inner)) (t : TargetValue) → can_write_target at fs t ≡ true → can_have_path at t ≡ true
can_path at fs (local_target r) can = can
can_path at fs (upvalue_target u) can = can
can_path at fs (global_target k) can = can
can_path at fs (index_target (index_value on keys depth) key) can = has_long at fs on keys key (first_of_both _ _ (second_of_both (nat_le (operand_count keys) 200) _ (first_of_both _ _ can)))
can_path at fs (index_target on key) can = has_long at fs on no_operands key (first_of_both _ _ can)

one_path : (at : Place) (fs : List (Option Inner)) (ts : List TargetValue) → can_write_targets at fs ts ≡ true → can_name at ts ≡ true
one_path at fs [] can = refl
one_path at fs (t ∷ []) can = can_path at fs t (first_of_both _ _ can)
one_path at fs (t ∷ u ∷ ts) can = refl

-- a name with a number is made of both
pub named_parts : (made : Option ℕ) (path : Option (List Text)) (names : List Text) (number : ℕ) → option_and_then (λ number. with_number number path) made ≡ Some (names, number) → (made ≡ Some number) × (path ≡ Some names)
named_parts None path names number is = cc
named_parts (Some n) None names number is = cc
named_parts (Some n) (Some some) names number is =
    let same = same_Some (some, n) (names, number) is in
    (ap (λ (p : List Text × ℕ). Some p.1) same, ap (λ (p : List Text × ℕ). Some p.0) same)

module _ (at : Place) (fs : List (Option Inner)) (ts : List TargetValue) (vs : Values) (all : Bool) (last : Option OperandValue) where
  abbrev names_there : Option (List Text × ℕ)
  names_there = named_by at ts vs last

  -- what a function statement says, where its function can be written behind its target
  pub says_function : (names : List Text) (number : ℕ) → names_there ≡ Some (names, number) → can_name at ts ≡ true → (can_write_values at (left_by_targets ts fs) vs && can_write_last at (left_by_values vs (left_by_targets ts fs)) last) ≡ true →
      can_say at fs (assigned ts vs all last) ≡ true
  says_function names number is name can =
      let parts = named_parts (function_in vs last) (path_to at ts) names number is in
      let there = function_there_yet at fs number vs last parts.0 (ap (λ fs. can_write_values at fs vs && can_write_last at (left_by_values vs fs) last) (sym (path_to_leaves at ts names fs parts.1)) ∙ can) in
      ap (λ named. can_say_by at fs ts named (can_act at fs (assigned ts vs all last))) is ∙ both_hold _ _ name there

  -- what can be written can be said
  pub can_be_said : can_act at fs (assigned ts vs all last) ≡ true → can_say at fs (assigned ts vs all last) ≡ true
  can_be_said can = by names_there refl
    where
      by : (found : Option (List Text × ℕ)) → names_there ≡ found → can_say at fs (assigned ts vs all last) ≡ true
      by None is = ap (λ named. can_say_by at fs ts named (can_act at fs (assigned ts vs all last))) is ∙ can
      by (Some one) is = says_function one.0 one.1 is (one_path at fs ts (first_of_both _ _ can)) (second_of_both (can_write_targets at fs ts) _ can)

  -- what no names say can be written
  pub said_written : names_there ≡ None → can_say at fs (assigned ts vs all last) ≡ true → can_act at fs (assigned ts vs all last) ≡ true
  said_written none can = ap (λ named. can_say_by at fs ts named (can_act at fs (assigned ts vs all last))) (sym none) ∙ can

  said_named : (names : List Text) (number : ℕ) → names_there ≡ Some (names, number) → can_say at fs (assigned ts vs all last) ≡ true → (can_name at ts && is_some (function_left fs number)) ≡ true
  said_named names number is can = ap (λ named. can_say_by at fs ts named (can_act at fs (assigned ts vs all last))) (sym is) ∙ can

  -- what names say is there
  pub said_there : (names : List Text) (number : ℕ) → names_there ≡ Some (names, number) → can_say at fs (assigned ts vs all last) ≡ true → is_some (function_left fs number) ≡ true
  said_there names number is can = second_of_both (can_name at ts) _ (said_named names number is can)

-- where a function goes alone to one target, it has a path or surely none
pub said_path : (at : Place) (fs : List (Option Inner)) (t : TargetValue) (vs : Values) (all : Bool) (last : Option OperandValue) (number : ℕ) → function_in vs last ≡ Some number →
    can_say at fs (assigned (t ∷ []) vs all last) ≡ true → can_have_path at t ≡ true
said_path at fs t vs all last number is can = by (path_of at t) refl
  where
    named_as : (path : Option (List Text)) → path_of at t ≡ path → named_by at (t ∷ []) vs last ≡ with_number number path
    named_as path has = ap (option_and_then (λ number. with_number number (path_of at t))) is ∙ ap (with_number number) has

    by : (path : Option (List Text)) → path_of at t ≡ path → can_have_path at t ≡ true
    by None none = can_path at fs t (first_of_both _ _ (first_of_both _ _ (said_written at fs (t ∷ []) vs all last (named_as None none) can)))
    by (Some path) has = first_of_both _ _ (said_named at fs (t ∷ []) vs all last path number (named_as (Some path) has) can)

-- ---- what holds of what is said

-- what holds of an assignment and its levels where no names say it, and of each function statement that says a function and a path, holds of what is said
module _ (Holds : Statement → ℕ → Type 0) (at : Place) (left : List (Option Inner)) (ts : List TargetValue) (vs : Values) (all : Bool) (last : Option OperandValue) (otherwise : Statement) (levels : ℕ) where
  abbrev HoldsNamed : Type 0
  HoldsNamed = (path : List Text) (found : Inner) (named : IsNamed at left ts vs last path found) → can_have_path at named.target ≡ true → Holds (function_as path found.body) (one_more (one_more found.levels))

  named_holds : (names : List Text) (number : ℕ) (found : Option Inner) → named_by at ts vs last ≡ Some (names, number) → function_left left number ≡ found → (can_name at ts && is_some found) ≡ true → HoldsNamed →
      Holds (said_by found names otherwise) (levels_by found levels)
  named_holds names number None is there can named = not_so (second_of_both (can_name at ts) _ can)
  named_holds names number (Some found) is there can named =
      let parts = named_parts (function_in vs last) (path_to at ts) names number is in
      let alone = path_alone at ts names parts.1 in
      named names found (record { target = alone.0; number = number; one = alone.1; has_path = alone.2; goes = parts.0; there = there }) (subst (λ ts. can_name at ts ≡ true) alone.1 (first_of_both _ _ can))

  pub said_holds : can_say at left (assigned ts vs all last) ≡ true → (named_by at ts vs last ≡ None → can_act at left (assigned ts vs all last) ≡ true → Holds otherwise levels) → HoldsNamed →
      Holds (named_or left (named_by at ts vs last) otherwise) (levels_or left (named_by at ts vs last) levels)
  said_holds can plain named = by (named_by at ts vs last) refl
    where
      by : (found : Option (List Text × ℕ)) → named_by at ts vs last ≡ found → Holds (named_or left found otherwise) (levels_or left found levels)
      by None is = plain is (said_written at left ts vs all last is can)
      by (Some one) is = named_holds one.0 one.1 (function_left left one.1) is refl (said_named at left ts vs all last one.0 one.1 is can) named
