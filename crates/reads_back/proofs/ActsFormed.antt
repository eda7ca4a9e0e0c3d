-- What is written of an act is well formed, no deeper than its levels tell, does not begin with a parenthesis, and ends no block.
use Rattle.std.proofs.Common.{◌≡◌, ℕ, ◌≤◌, Bool, true, false, ◌&&◌, ◌||◌, ◌⊎◌, inl, inr, List, [], ◌∷◌, Option, Some, None, is_some, max, refl, sym, ap, ◌∙◌, subst, arith}
use Rattle.std.specs.Prelude.{suc, length, nat_lt, not, ◌==◌, if◌then◌else◌}
use Rattle.lua_num.specs.Bytes.{Text}
use Rattle.lua_tree.specs.Joins.{join_expressions}
use Rattle.lua_tree.specs.Names.{are_some_names, is_name}
use Rattle.lua_tree.specs.Syntax as syntax
use Rattle.lua_tree.specs.Syntax.{Expression, Expressions, Statement, assignment, call_expression, call_statement, field_expression, index_expression, local_statement, method_call, name_expression, no_expressions, parenthesized, return_statement, local_function}
use Rattle.lua_tree.specs.WellFormed.{are_targets, depth_of_expression, depth_of_expressions, depth_of_statement, ends_block, formed_expression, formed_expressions, formed_statement, has_expressions, is_call, is_target}
use Rattle.core_expr.specs.Counting.{one_more, left_by_values, taken_behind_values}
use Rattle.core_expr.specs.Making.{deepest, depth_of}
use Rattle.core_expr.specs.Places.{Place, constant_name, field_name, local_name, upvalue_name}
use Rattle.core_expr.specs.Targets.{TargetValue, can_have_path, can_write_target, global_target, index_target, left_by_target, local_target, taken_behind_target, upvalue_target, word_target}
use Rattle.core_expr.specs.Values.{Inner, OperandValue, Value, Values, and_operand, and_value, nil_value, no_values, call_value, global_value, index_value, local_value, method_value, no_operands, upvalue_value}
use Rattle.core_expr.specs.Writing.{Wording, can_write, can_write_values, name_word, with_key, word, word_operand, word_values, function_left}
use Rattle.recover_expr.specs.Assigning.{function_as}
use Rattle.recover_expr.specs.Entries.{and_last_value}
use Rattle.recover_expr.specs.Lists.{value_count}
use Rattle.scheme.specs.declared.making.Active.{Active}
use Rattle.scheme_stands.specs.Words.{Fn}
use Rattle.reads_back.specs.Acted.{Acted, AreAssigned, AreTargets, AreValues, AreWithOperand, Assigned, Assigns, IsAct, IsActed, act_levels, act_statement, assigned, assigned_levels, assigned_statement, called, can_act, can_write_last, can_write_targets, declared, last_target, left_by_targets, returned, some_missing, taken_behind_targets, with_last_nil, words_assigned, words_targets, local_by, declared_function, levels_by}
use Rattle.reads_back.specs.Cores.{AreCores, IsCore, ends_open}
use Rattle.reads_back.proofs.FunctionsLeft.{each_by_target, each_by_targets, each_by_values, left_there}
use Rattle.reads_back.proofs.MarksSame.{over_made}
use Rattle.reads_back.proofs.NamedActs.{function_as_depth, function_as_ends, function_as_formed, named_fine, path_names}
use Rattle.reads_back.proofs.Paths.{IsNamed, named_or_holds}
use Rattle.reads_back.proofs.Said.{can_say, said_holds}
use Rattle.reads_back.proofs.Tests.{both_hold, first_of_both, not_so, or_first, or_second, second_of_both}
use Rattle.reads_back.proofs.WrittenFormed.{AreFine, AreFineLeft, IsFine, operand_fine, values_fine, word_fine, IsFineFunction}

-- ---- a target is written as the value that is read there

abbrev pub value_of_target : TargetValue → Value
value_of_target (local_target r) = local_value r
value_of_target (upvalue_target u) = upvalue_value u
value_of_target (global_target k) = global_value k
value_of_target (index_target on key) = index_value on (and_operand key no_operands) 1

pub written_as_value : (at : Place) (n : ℕ) (fs : List (Option Inner)) (t : TargetValue) → word_target at n fs t ≡ word at n fs (value_of_target t)
written_as_value at n fs (local_target r) = refl
written_as_value at n fs (upvalue_target u) = refl
written_as_value at n fs (global_target k) = refl
written_as_value at n fs (index_target on key) = refl

and_true : (a : Bool) → a ≡ true → (a && true) ≡ true
and_true a is = both_hold a true is refl

pub can_be_read : (at : Place) (fs : List (Option Inner)) (t : TargetValue) → can_write_target at fs t ≡ true → can_write at fs (value_of_target t) ≡ true
can_be_read at fs (local_target r) can = can
can_be_read at fs (upvalue_target u) can = can
can_be_read at fs (global_target k) can = can
can_be_read at fs (index_target on key) can = both_hold _ _ (first_of_both _ _ can) (and_true _ (second_of_both _ _ can))

target_fine : (at : Place) (n : ℕ) (left : List (Option Inner)) → AreFineLeft left → (t : TargetValue) → can_write_target at left t ≡ true → IsFine (word_target at n left t)
target_fine at n left fine_left t can = subst IsFine (sym (written_as_value at n left t)) (word_fine at (value_of_target t) n left fine_left (can_be_read at left t can))

-- it is a name, an index or a field
named_target : (name : Option Text) → is_some name ≡ true → is_target (name_word name).words ≡ true
named_target None some = not_so some
named_target (Some text) some = refl

keyed_target : (name : Option Text) (on key : Wording) → is_target (with_key name on key).words ≡ true
keyed_target None on key = refl
keyed_target (Some name) on key = refl

target_is : (at : Place) (n : ℕ) (left : List (Option Inner)) (t : TargetValue) → can_write_target at left t ≡ true → is_target (word_target at n left t).words ≡ true
target_is at n left (local_target r) can = named_target (local_name at r) can
target_is at n left (upvalue_target u) can = named_target (upvalue_name at u) can
target_is at n left (global_target k) can = named_target (constant_name at k) can
target_is at n left (index_target on key) can = keyed_target (field_name at key) _ _

-- ---- values that go to targets

-- targets keep the rules of form
targets_fine : (at : Place) (ts : List TargetValue) (n : ℕ) (left : List (Option Inner)) → AreFineLeft left → can_write_targets at left ts ≡ true → AreFine (words_targets at n left ts) × (are_targets (words_targets at n left ts).words ≡ true)
targets_fine at [] n left fine_left can = (record { formed = refl; shallow = λ few. omega arith }, refl)
targets_fine at (t ∷ ts) n left fine_left can =
    let first = first_of_both _ _ can in
    let one = target_fine at n left fine_left t first in
    let is = target_is at n left t first in
    let rest = targets_fine at ts (taken_behind_target t n) (left_by_target t left) (each_by_target _ t left fine_left) (second_of_both (can_write_target at left t) _ can) in
    let fine = rest.0 in (
      record {
        formed = both_hold _ _ one.formed fine.formed;
        shallow = λ few. let low = one.shallow (omega (arith, few)) in let more = fine.shallow (omega (arith, few)) in omega (arith, low, more);
      },
      both_hold _ _ is rest.1,
    )

-- an expression more at the end
end_formed : (es : Expressions) (e : Expression) → formed_expressions es ≡ true → formed_expression e ≡ true → formed_expressions (join_expressions es (syntax.expression e no_expressions)) ≡ true
end_formed no_expressions e first last = and_true _ last
end_formed (syntax.expression d es) e first last = both_hold _ _ (first_of_both _ _ first) (end_formed es e (second_of_both (formed_expression d) _ first) last)

end_depth : (es : Expressions) (e : Expression) → depth_of_expressions (join_expressions es (syntax.expression e no_expressions)) ≡ max (depth_of_expressions es) (depth_of_expression e)
end_depth no_expressions e = omega arith
end_depth (syntax.expression d es) e = let rest = end_depth es e in omega (arith, rest)

values_assigned_fine : (at : Place) (vs : Values) (all : Bool) (last : Option OperandValue) (n : ℕ) (left : List (Option Inner)) → AreFineLeft left → can_write_values at left vs ≡ true → can_write_last at (left_by_values vs left) last ≡ true → AreFine (words_assigned at n left vs all last)
values_assigned_fine at vs all None n left fine_left can can_last = values_fine at vs all n left fine_left can
values_assigned_fine at vs all (Some o) n left fine_left can can_last =
    let front = values_fine at vs all n left fine_left can in
    let words = (word_values at n left vs all).words in
    let one = operand_fine at o (taken_behind_values vs n) (left_by_values vs left) (each_by_values _ vs left fine_left) can_last in
    let operand = word_operand at (taken_behind_values vs n) (left_by_values vs left) o in
    record {
      formed = end_formed words operand.words front.formed one.formed;
      shallow = λ few.
          let low = front.shallow (omega (arith, few)) in
          let high = one.shallow (omega (arith, few)) in
          omega (arith, low, high, end_depth words operand.words);
    }

assigned_parts : (at : Place) (ts : List TargetValue) (vs : Values) (all : Bool) (last : Option OperandValue) (n : ℕ) (left : List (Option Inner)) → AreFineLeft left → can_act at left (assigned ts vs all last) ≡ true →
    (AreFine (words_targets at n left ts) × (are_targets (words_targets at n left ts).words ≡ true)) × AreFine (words_assigned at (taken_behind_targets ts n) (left_by_targets ts left) vs all last)
assigned_parts at ts vs all last n left fine_left can =
    let values = second_of_both (can_write_targets at left ts) _ can in (
      targets_fine at ts n left fine_left (first_of_both _ _ can),
      values_assigned_fine at vs all last (taken_behind_targets ts n) (left_by_targets ts left) (each_by_targets _ ts left fine_left) (first_of_both _ _ values) (second_of_both (can_write_values at (left_by_targets ts left) vs) _ values),
    )

-- ---- there are some of both

abbrev has_values : Values → Bool
has_values no_values = false
has_values (and_value v vs) = true

some_last : (vs : Values) (v : Value) → has_values (and_last_value vs v) ≡ true
some_last no_values v = refl
some_last (and_value w vs) v = refl

-- values, or an operand
abbrev has_assigned : Assigned → Bool
has_assigned to = has_values to.values || is_some to.last

some_nil : (t : Option TargetValue) (from : Values) → has_values from ≡ true → has_assigned (with_last_nil t from) ≡ true
some_nil None from some = or_first _ _ (some_last from nil_value)
some_nil (Some (local_target r)) from some = or_first _ _ some
some_nil (Some (upvalue_target slot)) from some = or_first _ _ (some_last from nil_value)
some_nil (Some (global_target number)) from some = or_first _ _ (some_last from nil_value)
some_nil (Some (index_target on key)) from some = or_first _ _ some

some_by : (fewer one : Bool) (t : Option TargetValue) (from : Values) → has_values from ≡ true → has_assigned (if fewer then some_missing one t from else record { values = from; all = true; last = None }) ≡ true
some_by true true t from some = some_nil t from some
some_by true false t from some = or_first _ _ some
some_by false one t from some = or_first _ _ some

some_end : (es : Expressions) (e : Expression) → has_expressions (join_expressions es (syntax.expression e no_expressions)) ≡ true
some_end no_expressions e = refl
some_end (syntax.expression d es) e = refl

some_words : (at : Place) (n : ℕ) (fs : List (Option Inner)) (vs : Values) (all : Bool) (last : Option OperandValue) → has_assigned (record { values = vs; all = all; last = last }) ≡ true → has_expressions (words_assigned at n fs vs all last).words ≡ true
some_words at n fs no_values all None some = some
some_words at n fs (and_value v vs) all None some = refl
some_words at n fs vs all (Some o) some = some_end (word_values at n fs vs all).words (word_operand at (taken_behind_values vs n) (left_by_values vs fs) o).words

module _ (g : Fn) (active : List Active) where
  some_values : (es : Expressions) (before behind : ℕ) (from : Values) → has_expressions es ≡ true → AreCores g active es before behind from → has_values from ≡ true
  some_values no_expressions before behind from some are = not_so some
  some_values (syntax.expression e es) before behind from some are = let parts = are.1 in ap has_values parts.4

  some_assigned : (es : Expressions) (ts : List TargetValue) (before behind : ℕ) (to : Assigned) → has_expressions es ≡ true → AreWithOperand g active ts es before behind to ⊎ AreValues g active ts es before behind to → has_assigned to ≡ true
  some_assigned es ts before behind to some (inl is) = ap (λ (last : Option OperandValue). has_values to.values || is_some last) is.5 ∙ or_second (has_values to.values) _ refl
  some_assigned es ts before behind to some (inr is) =
      ap has_assigned (sym is.3) ∙ some_by (not (ends_open es) && nat_lt (value_count is.0) (length ts)) (suc (value_count is.0) == length ts) (last_target ts) is.0 (some_values es before behind is.0 some is.1)

  some_targets : (at : Place) (n : ℕ) (left : List (Option Inner)) (targets : Expressions) (before behind : ℕ) (ts : List TargetValue) → has_expressions targets ≡ true → AreTargets g active targets before behind ts → has_expressions (words_targets at n left ts).words ≡ true
  some_targets at n left no_expressions before behind ts some are = not_so some
  some_targets at n left (syntax.expression target targets) before behind [] some are = absurd are
  some_targets at n left (syntax.expression target targets) before behind (t ∷ ts) some are = refl

-- ---- a local function that captures itself

own_formed : (name : Text) (found : Option Inner) → is_name name ≡ true → ((one : Inner) → found ≡ Some one → IsFineFunction one) → is_some found ≡ true → formed_statement (local_by name found) ≡ true
own_formed name None good fine some = not_so some
own_formed name (Some found) good fine some = both_hold _ _ good (fine found refl).formed

own_shallow : (name : Text) (found : Option Inner) → ((one : Inner) → found ≡ Some one → IsFineFunction one) → is_some found ≡ true → levels_by found 1 ≤ 1000 → suc (depth_of_statement (local_by name found)) ≤ levels_by found 1
own_shallow name None fine some few = not_so some
own_shallow name (Some found) fine some few = let low = (fine found refl).shallow (omega (arith, few)) in omega (arith, few, low)

own_ends : (name : Text) (found : Option Inner) → ends_block (local_by name found) ≡ false
own_ends name None = refl
own_ends name (Some found) = refl

-- ---- acts; calls are written as calls

pub called_is : (at : Place) (g : Fn) (active : List Active) (left : List (Option Inner)) (e : Expression) (before behind : ℕ) (v : Value) (n : ℕ) → is_call e ≡ true → IsCore g active e before behind v → is_call (word at n left v).words ≡ true
called_is at g active left (call_expression line on args on_line) before behind v n call is =
    let parts = is.1 in
    ap (λ v. is_call (word at n left v).words) (over_made (max (depth_of parts.0) (deepest parts.1)) (λ d. call_value parts.0 parts.1 parts.2 d) v parts.5)
called_is at g active left (method_call line on name args on_line) before behind v n call is =
    let parts = is.1 in
    ap (λ v. is_call (word at n left v).words) (over_made (max (depth_of parts.0) (deepest parts.2)) (λ d. method_value parts.0 parts.1 parts.2 parts.3 d) v parts.7)
called_is at g active left e before behind v n call is = not_so call

module _ (at : Place) (g : Fn) (active : List Active) where
  -- an assignment, where no path says it
  assigned_formed : (targets es : Expressions) (before behind : ℕ) (ts : List TargetValue) (vs : Values) (all : Bool) (last : Option OperandValue) (n : ℕ) (left : List (Option Inner)) → AreFineLeft left → Assigns targets es → AreAssigned g active targets es ts before behind (record { values = vs; all = all; last = last }) → can_act at left (assigned ts vs all last) ≡ true →
      formed_statement (assigned_statement at n left ts vs all last) ≡ true
  assigned_formed targets es before behind ts vs all last n left fine_left has is can =
      let fine = assigned_parts at ts vs all last n left fine_left can in
      let to = fine.0.0 in
      let values = fine.1 in
      let some = some_words at (taken_behind_targets ts n) (left_by_targets ts left) vs all last (some_assigned g active es ts is.0 behind (record { values = vs; all = all; last = last }) has.given is.2) in
      both_hold _ _ (some_targets g active at n left targets before is.0 ts has.some is.1) (both_hold _ _ fine.0.1 (both_hold _ _ to.formed (both_hold _ _ some values.formed)))

  -- it is no deeper than its levels tell
  assigned_shallow : (ts : List TargetValue) (vs : Values) (all : Bool) (last : Option OperandValue) (n : ℕ) (left : List (Option Inner)) → AreFineLeft left → can_act at left (assigned ts vs all last) ≡ true → assigned_levels at n left ts vs all last ≤ 1000 →
      suc (depth_of_statement (assigned_statement at n left ts vs all last)) ≤ assigned_levels at n left ts vs all last
  assigned_shallow ts vs all last n left fine_left can few =
      let fine = assigned_parts at ts vs all last n left fine_left can in
      let targets = fine.0.0 in
      let values = fine.1 in
      let low = targets.shallow (omega (arith, few)) in
      let high = values.shallow (omega (arith, few)) in
      omega (arith, few, low, high)

  pub act_formed : (s : Statement) (before behind : ℕ) (acted : Acted) (n : ℕ) (left : List (Option Inner)) → AreFineLeft left → IsAct s → IsActed g active s before behind acted → can_say at left acted ≡ true → formed_statement (act_statement at n left acted) ≡ true
  act_formed (call_statement e) before behind (called v) n left fine_left has is can = let fine = word_fine at v n left fine_left can in both_hold _ _ (called_is at g active left e before behind v n has.0 is) fine.formed
  act_formed (assignment targets es) before behind (assigned ts vs all last) n left fine_left has is can =
      let named : (path : List Text) (found : Inner) (named : IsNamed at left ts vs last path found) → can_have_path at named.target ≡ true → formed_statement (function_as path found.body) ≡ true = λ path found named can_path.
      let fine = named_fine at left ts vs last path found named fine_left in
      function_as_formed path found.body (path_names at named.target path can_path named.has_path) fine.formed in
      said_holds (λ s levels. formed_statement s ≡ true) at left ts vs all last (assigned_statement at n left ts vs all last) (assigned_levels at n left ts vs all last) can (λ none can. assigned_formed targets es before behind ts vs all last n left fine_left has is can) named
  act_formed (local_statement names es) before behind (declared others vs all) n left fine_left has is can =
      let fine = values_fine at vs all n left fine_left can in
      both_hold _ _ (ap are_some_names is.0 ∙ has.0) fine.formed
  act_formed (local_function text body) before behind (declared others vs all) n left fine_left has is can =
      let fine = values_fine at vs all n left fine_left can in
      let names = is.4.1 in
      both_hold _ _ (ap are_some_names names ∙ both_hold _ _ has.0 refl) fine.formed
  act_formed (local_function text body) before behind (declared_function name number) n left fine_left has is can =
      own_formed name (function_left left number) (ap is_name is.4.1 ∙ has.0) (λ found there. left_there (λ number found. IsFineFunction found) number left found fine_left there) can
  act_formed (return_statement es) before behind (returned vs all) n left fine_left has is can = let fine = values_fine at vs all n left fine_left can in fine.formed
  act_formed s before behind acted n left fine_left has is can = absurd is

  pub act_shallow : (s : Statement) (before behind : ℕ) (acted : Acted) (n : ℕ) (left : List (Option Inner)) → AreFineLeft left → IsAct s → IsActed g active s before behind acted → can_say at left acted ≡ true → act_levels at n left acted ≤ 1000 → suc (depth_of_statement (act_statement at n left acted)) ≤ act_levels at n left acted
  act_shallow s before behind (called v) n left fine_left has is can few = let fine = word_fine at v n left fine_left can in let low = fine.shallow (omega (arith, few)) in omega (arith, few, low)
  act_shallow s before behind (assigned ts vs all last) n left fine_left has is can few =
      let named : (path : List Text) (found : Inner) → IsNamed at left ts vs last path found → one_more (one_more found.levels) ≤ 1000 → suc (depth_of_statement (function_as path found.body)) ≤ one_more (one_more found.levels) = λ path found named few.
      let fine = named_fine at left ts vs last path found named fine_left in
      let low = fine.shallow (omega (arith, few)) in
      omega (arith, few, low, function_as_depth path found.body) in
      said_holds (λ s levels. levels ≤ 1000 → suc (depth_of_statement s) ≤ levels) at left ts vs all last (assigned_statement at n left ts vs all last) (assigned_levels at n left ts vs all last) can (λ none can. assigned_shallow ts vs all last n left fine_left can) (λ path found is can_path. named path found is) few
  act_shallow s before behind (declared names vs all) n left fine_left has is can few = let fine = values_fine at vs all n left fine_left can in let low = fine.shallow (omega (arith, few)) in omega (arith, few, low)
  act_shallow s before behind (declared_function name number) n left fine_left has is can few = own_shallow name (function_left left number) (λ found there. left_there (λ number found. IsFineFunction found) number left found fine_left there) can few
  act_shallow s before behind (returned vs all) n left fine_left has is can few = let fine = values_fine at vs all n left fine_left can in let low = fine.shallow (omega (arith, few)) in omega (arith, few, low)

-- a return ends its block, and nothing else does
pub act_ends : (at : Place) (g : Fn) (active : List Active) (s : Statement) (before behind : ℕ) (acted : Acted) (n : ℕ) (left : List (Option Inner)) → IsActed g active s before behind acted → ends_block (act_statement at n left acted) ≡ ends_block s
act_ends at g active (call_statement e) before behind (called v) n left is = refl
act_ends at g active (assignment targets es) before behind (assigned ts vs all last) n left is =
    named_or_holds (λ s levels. ends_block s ≡ false) at left ts vs last (assigned_statement at n left ts vs all last) (assigned_levels at n left ts vs all last) refl (λ path found named. function_as_ends path found.body)
act_ends at g active (local_statement names es) before behind (declared others vs all) n left is = refl
act_ends at g active (return_statement es) before behind (returned vs all) n left is = refl
act_ends at g active (local_function text body) before behind (declared others vs all) n left is = refl
act_ends at g active (local_function text body) before behind (declared_function name number) n left is = own_ends name (function_left left number)
act_ends at g active s before behind acted n left is = absurd is
