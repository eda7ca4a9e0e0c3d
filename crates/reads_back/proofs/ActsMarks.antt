-- What is written of an act mentions the same names as the act, in the same order.
use Rattle.std.proofs.Common.{◌≡◌, ◌≤◌, arith, ℕ, ◌⊎◌, inl, inr, Bool, false, List, [], ◌∷◌, length, Option, Some, None, refl, ap, subst, ◌∙◌, true, sym, is_some}
use Rattle.lua_num.specs.Bytes.{Text}
use Rattle.lua_tree.specs.Joins.{join_expressions}
use Rattle.lua_tree.specs.OneLine.{one_line_expression, one_line_expressions, one_line_statement}
use Rattle.lua_tree.specs.Outline.{Part, both, come, declares, expression_part, expressions_part, nothing, path_part, statement_part, body_part}
use Rattle.lua_tree.specs.Syntax as syntax
use Rattle.lua_tree.specs.Syntax.{Expression, Expressions, Statement, assignment, call_statement, field_expression, index_expression, local_statement, name_expression, no_expressions, return_statement, local_function}
use Rattle.lua_tree.specs.WellFormed.{depth_of_expressions}
use Rattle.core_expr.specs.Counting.{left_by_values, taken_behind_values}
use Rattle.core_expr.specs.Places.{Place, constant_name, local_name, place, upvalue_name}
use Rattle.core_expr.specs.Targets.{TargetValue, can_have_path, can_write_target, global_target, index_target, left_by_target, local_target, path_of, upvalue_target, taken_behind_target, word_target}
use Rattle.core_expr.specs.Values.{Inner, OperandValue, Value, Values}
use Rattle.core_expr.specs.Writing.{can_write_values, word_operand, word_values, function_left}
use Rattle.recover_expr.specs.Assigning.{function_as}
use Rattle.recover_expr.specs.Situation.{Function}
use Rattle.scheme.specs.Expressions.{literal}
use Rattle.scheme.specs.Making.{Where, in_globals, in_register, in_upvalue}
use Rattle.scheme.specs.declared.making.Active.{Active}
use Rattle.scheme_stands.specs.Words.{Fn}
use Rattle.reads_back.specs.Acted.{Acted, AreActTargets, AreAssigned, Assigns, assigned_levels, assigned_statement, function_in, AreTargets, AreValues, AreWithOperand, Assigned, EndWithOperand, IsAct, IsActTarget, IsActed, IsTarget, IsVariableTarget, act_statement, assigned, called, can_act, can_write_last, can_write_targets, declared, last_target, left_by_targets, returned, taken_behind_targets, words_assigned, words_targets, declared_function, is_path, lean_assignment, lean_depth, local_by}
use Rattle.reads_back.specs.Cores.{AllHaveCores, HasCore, IsCore, IsVariable, ends_open}
use Rattle.reads_back.proofs.ActsFormed.{can_be_read, value_of_target, written_as_value}
use Rattle.reads_back.proofs.Marks.{ArePartsLeft, IsPartLeft, SamePart, both_assoc, both_same, exact_part, nothing_behind, operand_part, part_back, part_of, part_of_operand, part_then, parts_of, same_part, values_part, word_part}
use Rattle.reads_back.proofs.FunctionsLeft.{each_by_target, each_by_targets, each_by_values, left_there}
use Rattle.reads_back.proofs.DeclaredValues.{assigned_part, assigned_parts, declared_parts, last_part}
use Rattle.reads_back.proofs.MarksSame.{ArePartsMade, index_part, key_part, list_part, marks_of, of_operand, OwnPartsMade}
use Rattle.reads_back.proofs.LocalFunctionMarks.{given_marks, own_marks}
use Rattle.reads_back.proofs.Rewriting.{OwnListed}
use Rattle.reads_back.proofs.NameReads.{AreListed}
use Rattle.reads_back.proofs.LeanTargets.{ArePathsOr, IsLow, IsPathOr, targets_low}
use Rattle.reads_back.proofs.NamedActs.{field_path_part, function_as_part, single_path_part}
use Rattle.reads_back.proofs.NamedSame.{lean_values}
use Rattle.reads_back.proofs.Paths.{IsNamed, function_alone}
use Rattle.reads_back.proofs.Said.{can_say, said_holds}
use Rattle.reads_back.proofs.Tests.{first_of_both, second_of_both, not_so}
use Rattle.reads_back.proofs.WordsRead.{IsFunction}

module _ (at : Place) (of : ℕ → Part) where
  target_part : (t : TargetValue) (n : ℕ) (fs : List (Option Inner)) → ArePartsLeft of fs → can_write_target at fs t ≡ true → SamePart (expression_part (word_target at n fs t).words) (part_of at of (value_of_target t))
  target_part t n fs parts_left can = part_then (exact_part (λ here. ap (λ w. expression_part w.words here) (written_as_value at n fs t))) (word_part at of (value_of_target t) n fs parts_left (can_be_read at fs t can))

module _ (at : Place) (of : ℕ → Part) where
  -- the path of a target mentions what the target does
  path_of_part : (t : TargetValue) (path : List Text) → can_have_path at t ≡ true → path_of at t ≡ Some path → SamePart (path_part 1 path) (part_of at of (value_of_target t))
  path_of_part (local_target r) path has is = single_path_part at of (local_name at r) path has is
  path_of_part (upvalue_target u) path has is = single_path_part at of (upvalue_name at u) path has is
  path_of_part (global_target k) path has is = single_path_part at of (constant_name at k) path has is
  path_of_part (index_target on key) path has is = field_path_part at of on key path has is

  -- a function that is all of the values is all that they mention
  alone_part : (vs : Values) (all : Bool) (last : Option OperandValue) (number : ℕ) → function_in vs last ≡ Some number → SamePart (of number) (assigned_part at of (record { values = vs; all = all; last = last }))
  alone_part vs all last number is =
      function_alone (λ vs last. SamePart (of number) (assigned_part at of (record { values = vs; all = all; last = last }))) number
      (part_back (part_then (nothing_behind (both (of number) nothing)) (nothing_behind (of number)))) (same_part (of number)) vs last is

module _ {f : Function} {g : Fn} {active : List Active} {listed : List ℕ} (is_function : IsFunction f g) (listed_names : AreListed f g active listed) (of : ℕ → Part) (parts_made : ArePartsMade g active of) where
  abbrev at : Place
  at = place f.of listed f.short

  variable_value : (text : Text) (w : Where) (t : TargetValue) → IsVariableTarget g text w t → IsVariable g text w (value_of_target t)
  variable_value text (in_register r) t is = ap value_of_target is
  variable_value text (in_upvalue slot) t is = ap value_of_target is
  variable_value text in_globals t (number, has, is) = (number, has, ap value_of_target is)

  -- a path, of any length
  path_marks : (e : Expression) (before behind : ℕ) (v : Value) → HasCore e → is_path e ≡ true → IsCore g active e before behind v → SamePart (part_of at of v) (expression_part (one_line_expression e))
  path_marks (name_expression line text) before behind v has path is = (marks_of is_function listed_names of parts_made (name_expression line text) has (omega arith)).one before behind v is
  path_marks (field_expression line on text) before behind v has path (mid, (o, key, is, is_key, made)) =
      let on_part = path_marks on before mid o has (first_of_both _ _ path) is in
      part_then (index_part at of o key v made) (part_then (both_same on_part (key_part is_function listed_names of parts_made text mid behind key is_key)) (nothing_behind (expression_part (one_line_expression on))))
  path_marks e before behind v has path is = not_so path

  -- what is indexed by a name
  on_marks : (line : ℕ) (on : Expression) (text : Text) (before behind : ℕ) (v : Value) → HasCore on → IsPathOr (IsLow 200) (field_expression line on text) → IsCore g active on before behind v → SamePart (part_of at of v) (expression_part (one_line_expression on))
  on_marks line on text before behind v has (inl path) is = path_marks on before behind v has (first_of_both _ _ path) is
  on_marks line on text before behind v has (inr few) is = (marks_of is_function listed_names of parts_made on has (omega (arith, few))).one before behind v is

  -- what is assigned to
  target_marks : (e : Expression) (before behind : ℕ) (t : TargetValue) → IsActTarget e → IsPathOr (IsLow 200) e → IsTarget g active e before behind t → SamePart (part_of at of (value_of_target t)) (expression_part (one_line_expression e))
  target_marks (name_expression line text) before behind t has few is =
      (marks_of is_function listed_names of parts_made (name_expression line text) has (omega arith)).one before behind (value_of_target t) (is.0, (is.1, is.2, variable_value text is.1 t is.3))
  target_marks (index_expression line on key) before behind (index_target o k) has (inl path) is = not_so path
  target_marks (index_expression line on key) before behind (index_target o k) has (inr few) is =
      both_same ((marks_of is_function listed_names of parts_made on has.0 (omega (arith, few))).one before is.0 o is.1)
      (part_then (nothing_behind (part_of_operand at of k)) (of_operand is_function listed_names of parts_made key is.0 behind k (literal key) refl (marks_of is_function listed_names of parts_made key has.1 (omega (arith, few))).one is.2))
  target_marks (field_expression line on text) before behind (index_target o k) has few is =
      let key = key_part is_function listed_names of parts_made text is.0 behind k is.2 in
      part_then (both_same (on_marks line on text before is.0 o has few is.1) (part_then (nothing_behind (part_of_operand at of k)) key)) (nothing_behind (expression_part (one_line_expression on)))
  target_marks e before behind t has few is = absurd (assumption is)

  targets_marks : (es : Expressions) (before behind : ℕ) (ts : List TargetValue) (n : ℕ) (fs : List (Option Inner)) → ArePartsLeft of fs → AreActTargets es → ArePathsOr (IsLow 200) es → AreTargets g active es before behind ts → can_write_targets at fs ts ≡ true →
      SamePart (expressions_part (words_targets at n fs ts).words) (expressions_part (one_line_expressions es))
  targets_marks no_expressions before behind [] n fs parts_left are few is can = same_part nothing
  targets_marks no_expressions before behind (t ∷ ts) n fs parts_left are few is can = absurd is
  targets_marks (syntax.expression e es) before behind [] n fs parts_left are few is can = absurd is
  targets_marks (syntax.expression e es) before behind (t ∷ ts) n fs parts_left are few is can =
      both_same (part_then (target_part at of t n fs parts_left (first_of_both _ _ can)) (target_marks e before is.0 t are.0 few.0 is.1))
      (targets_marks es is.0 behind ts (taken_behind_target t n) (left_by_target t fs) (each_by_target (IsPartLeft of) t fs parts_left) are.1 few.1 is.2 (second_of_both (can_write_target at fs t) _ can))

  -- ---- the values that are assigned

  -- an expression more at the end
  end_part : (es : Expressions) (e : Expression) → SamePart (expressions_part (join_expressions es (syntax.expression e no_expressions))) (both (expressions_part es) (expression_part e))
  end_part no_expressions e = nothing_behind (expression_part e)
  end_part (syntax.expression d es) e = part_then (both_same (same_part (expression_part d)) (end_part es e)) (part_back (both_assoc (expression_part d) (expressions_part es) (expression_part e)))

  assigned_words : (vs : Values) (all : Bool) (last : Option OperandValue) (n : ℕ) (fs : List (Option Inner)) → ArePartsLeft of fs → can_write_values at fs vs ≡ true → can_write_last at (left_by_values vs fs) last ≡ true →
      SamePart (expressions_part (words_assigned at n fs vs all last).words) (assigned_part at of (record { values = vs; all = all; last = last }))
  assigned_words vs all None n fs parts_left can can_last = part_then (values_part at of vs all n fs parts_left can) (part_back (nothing_behind (parts_of at of vs)))
  assigned_words vs all (Some o) n fs parts_left can can_last =
      let operand = word_operand at (taken_behind_values vs n) (left_by_values vs fs) o in
      part_then (end_part (word_values at n fs vs all).words operand.words)
      (both_same (values_part at of vs all n fs parts_left can) (operand_part at of o (taken_behind_values vs n) (left_by_values vs fs) (each_by_values (IsPartLeft of) vs fs parts_left) can_last))

  -- as many values as targets, with an operand behind them
  ended_part : (es : Expressions) (o : OperandValue) (before behind : ℕ) (vs : Values) → AllHaveCores es → depth_of_expressions es ≤ 200 → EndWithOperand g active es o before behind vs → SamePart (both (parts_of at of vs) (part_of_operand at of o)) (expressions_part (one_line_expressions es))
  ended_part no_expressions o before behind vs has few is = absurd is
  ended_part (syntax.expression e no_expressions) o before behind vs has few is =
      let last = of_operand is_function listed_names of parts_made e before behind o (literal e) refl (marks_of is_function listed_names of parts_made e has.0 (omega (arith, few))).one is.1 in
      part_then (both_same (exact_part (λ place. ap (λ vs. parts_of at of vs place) is.0)) last) (part_back (nothing_behind (expression_part (one_line_expression e))))
  ended_part (syntax.expression e (syntax.expression d es)) o before behind vs has few (mid, is) =
      let front : SamePart (parts_of at of vs) (both (part_of at of is.0) (parts_of at of is.1)) = exact_part (λ place. ap (λ vs. parts_of at of vs place) is.4) in
      part_then (both_same front (same_part (part_of_operand at of o)))
      (part_then (both_assoc (part_of at of is.0) (parts_of at of is.1) (part_of_operand at of o)) (both_same ((marks_of is_function listed_names of parts_made e has.0 (omega (arith, few))).one before mid is.0 is.2) (ended_part (syntax.expression d es) o mid behind is.1 has.1 (omega (arith, few)) is.3)))

  values_marks : (es : Expressions) (ts : List TargetValue) (before behind : ℕ) (to : Assigned) → AllHaveCores es → depth_of_expressions es ≤ 200 → AreWithOperand g active ts es before behind to ⊎ AreValues g active ts es before behind to → SamePart (assigned_part at of to) (expressions_part (one_line_expressions es))
  values_marks es ts before behind to has few (inl is) =
      part_then (both_same (same_part (parts_of at of to.values)) (exact_part (λ place. ap (λ (last : Option OperandValue). last_part at of last place) is.5))) (ended_part es is.2 before behind to.values has few is.3)
  values_marks es ts before behind to has few (inr is) =
      part_then (assigned_parts at of (length ts) (last_target ts) (ends_open es) is.0 to is.3) (list_part is_function listed_names of parts_made es has (omega (arith, few)) before behind is.0 is.1)

  -- an assignment, where no path says it
  assigned_marks : (targets es : Expressions) (before behind : ℕ) (ts : List TargetValue) (vs : Values) (all : Bool) (last : Option OperandValue) (n : ℕ) (left : List (Option Inner)) → ArePartsLeft of left → Assigns targets es → lean_assignment targets es ≤ 200 → AreAssigned g active targets es ts before behind (record { values = vs; all = all; last = last }) → can_act at left (assigned ts vs all last) ≡ true →
      SamePart (statement_part 1 (assigned_statement at n left ts vs all last)) (statement_part 1 (one_line_statement (assignment targets es)))
  assigned_marks targets es before behind ts vs all last n left parts_left has few is can =
      let values = second_of_both (can_write_targets at left ts) _ can in
      both_same (targets_marks targets before is.0 ts n left parts_left has.targets (targets_low 200 targets es few) is.1 (first_of_both _ _ can))
      (part_then (assigned_words vs all last (taken_behind_targets ts n) (left_by_targets ts left) (each_by_targets (IsPartLeft of) ts left parts_left) (first_of_both _ _ values) (second_of_both (can_write_values at (left_by_targets ts left) vs) _ values))
      (values_marks es ts is.0 behind (record { values = vs; all = all; last = last }) has.values (omega (arith, few, lean_values targets es)) is.2))

  -- one target
  alone_marks : (es : Expressions) (before behind : ℕ) (ts : List TargetValue) (t : TargetValue) → ts ≡ t ∷ [] → AreActTargets es → ArePathsOr (IsLow 200) es → AreTargets g active es before behind ts → SamePart (part_of at of (value_of_target t)) (expressions_part (one_line_expressions es))
  alone_marks no_expressions before behind ts t one are few is = absurd (subst (AreTargets g active no_expressions before behind) one is)
  alone_marks (syntax.expression e no_expressions) before behind ts t one are few is =
      let those = subst (AreTargets g active (syntax.expression e no_expressions) before behind) one is in
      part_then (target_marks e before those.0 t are.0 few.0 those.1) (part_back (nothing_behind (expression_part (one_line_expression e))))
  alone_marks (syntax.expression e (syntax.expression d es)) before behind ts t one are few is =
      let those = subst (AreTargets g active (syntax.expression e (syntax.expression d es)) before behind) one is in
      absurd those.2

  -- a function statement that says a path
  named_marks : (targets es : Expressions) (before behind : ℕ) (ts : List TargetValue) (vs : Values) (all : Bool) (last : Option OperandValue) (left : List (Option Inner)) → ArePartsLeft of left → Assigns targets es → lean_assignment targets es ≤ 200 → AreAssigned g active targets es ts before behind (record { values = vs; all = all; last = last }) →
      (path : List Text) (found : Inner) (named : IsNamed at left ts vs last path found) → can_have_path at named.target ≡ true → SamePart (statement_part 1 (function_as path found.body)) (statement_part 1 (one_line_statement (assignment targets es)))
  named_marks targets es before behind ts vs all last left parts_left has few is path found named can_path =
      let target = path_of_part at of named.target path can_path named.has_path in
      let body = left_there (IsPartLeft of) named.number left found parts_left named.there in
      let function = part_then body (alone_part at of vs all last named.number named.goes) in
      part_then (function_as_part 1 path found.body)
      (both_same (part_then target (alone_marks targets before is.0 ts named.target named.one has.targets (targets_low 200 targets es few) is.1))
      (part_then function (values_marks es ts is.0 behind (record { values = vs; all = all; last = last }) has.values (omega (arith, few, lean_values targets es)) is.2)))

  -- on the line 1, which every path has that is written as a target
  pub act_marks : (s : Statement) → lean_depth s ≤ 200 → OwnListed f g active s → OwnPartsMade g active of s → (before behind : ℕ) (acted : Acted) (n : ℕ) (left : List (Option Inner)) → ArePartsLeft of left → IsAct s → IsActed g active s before behind acted → can_say at left acted ≡ true → SamePart (statement_part 1 (act_statement at n left acted)) (statement_part 1 (one_line_statement s))
  act_marks (call_statement e) few own parts before behind (called v) n left parts_left has is can = part_then (word_part at of v n left parts_left can) ((marks_of is_function listed_names of parts_made e has.1 (omega (arith, few))).one before behind v is)
  act_marks (assignment targets es) few own parts before behind (assigned ts vs all last) n left parts_left has is can =
      said_holds (λ s levels. SamePart (statement_part 1 s) (statement_part 1 (one_line_statement (assignment targets es)))) at left ts vs all last (assigned_statement at n left ts vs all last) (assigned_levels at n left ts vs all last) can
      (λ none can. assigned_marks targets es before behind ts vs all last n left parts_left has few is can) (named_marks targets es before behind ts vs all last left parts_left has few is)
  act_marks (local_statement names es) few own parts before behind (declared others vs all) n left parts_left has is can =
      let made = part_then (declared_parts at of (length names) (ends_open es) is.1 vs all is.3) (list_part is_function listed_names of parts_made es has.1 (omega (arith, few)) before behind is.1 is.2) in
      let values = part_then (values_part at of vs all n left parts_left can) made in
      part_then
      (exact_part (λ here. ap (λ names. both (declares 1 0 names) (both (expressions_part (word_values at n left vs all).words) (come 0 names here.declarations)) here) is.0))
      (record { each = λ here. (both_same (same_part (declares 1 0 names)) (both_same values (same_part (come 0 names here.declarations)))).each here })
  act_marks (return_statement es) few own parts before behind (returned vs all) n left parts_left has is can = part_then (values_part at of vs all n left parts_left can) (list_part is_function listed_names of parts_made es has (omega (arith, few)) before behind vs is.0)
  act_marks (local_function text body) few own parts before behind (declared others vs all) n left parts_left has (counts, c, as_many, next, other) can =
      let values = part_then (values_part at of vs all n left parts_left can) (part_then (exact_part (λ here. ap (λ vs. parts_of at of vs here) other.2)) (nothing_behind (of before))) in
      let given = part_then values (exact_part (λ here. ap (λ number. of number here) (sym as_many))) in
      part_then
      (exact_part (λ here. ap (λ names. both (declares 1 0 names) (both (expressions_part (word_values at n left vs all).words) (come 0 names here.declarations)) here) other.1))
      (part_then
      (record { each = λ here. (both_same (same_part (declares 1 0 (text ∷ []))) (both_same given (same_part (come 0 (text ∷ []) here.declarations)))).each here })
      (given_marks is_function of text body own parts has.1 (omega (arith, few)) c next other.0))
  act_marks (local_function text body) few own parts before behind (declared_function name number) n left parts_left has (counts, c, as_many, next, same) can =
      by (function_left left number) (λ found there. left_there (IsPartLeft of) number left found parts_left there) can
    where
      by : (found : Option Inner) → ((one : Inner) → found ≡ Some one → SamePart (body_part false one.body) (of number)) → is_some found ≡ true → SamePart (statement_part 1 (local_by name found)) (statement_part 1 (one_line_statement (local_function text body)))
      by None part some = not_so some
      by (Some found) part some =
          part_then (exact_part (λ here. ap (λ name. statement_part 1 (local_function name found.body) here) same.1))
          (own_marks is_function of text body own parts has.1 (omega (arith, few)) c next found (part_then (part found refl) (exact_part (λ here. ap (λ number. of number here) (same.2 ∙ sym as_many)))))
  act_marks s few own parts before behind acted n left parts_left has is can = absurd is
