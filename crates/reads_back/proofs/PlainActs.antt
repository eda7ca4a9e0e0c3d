-- What is written of an act, of a test and of the head of a loop has no `and`, `or` or comparison as a value, where the functions that are left are plain.
use Rattle.std.proofs.Common.{◌≡◌, ℕ, suc, Bool, true, false, not, ◌&&◌, ◌⊎◌, inl, inr, List, [], ◌∷◌, length, Some, None, refl, sym, ap, ◌∙◌, subst}
use Rattle.std.specs.Prelude.{Option, option_map, nat_lt, ◌==◌, if◌then◌else◌}
use Rattle.lua_num.specs.Bytes.{Text}
use Rattle.lua_tree.specs.Joins.{join_expressions}
use Rattle.lua_tree.specs.Syntax as syntax
use Rattle.lua_tree.specs.Syntax.{Expression, Expressions, FunctionBody, Statement, assignment, binary_expression, call_statement, field_expression, function_body, index_expression, local_function, local_statement, name_expression, no_expressions, return_statement}
use Rattle.lua_tree.specs.declared.tree.BinaryOp.{BinaryOp}
use Rattle.core_expr.specs.Counting.{left_by_operand, left_by_values, taken_behind_operand, taken_behind_values}
use Rattle.core_expr.specs.Places.{Place}
use Rattle.core_expr.specs.Targets.{TargetValue, global_target, index_target, is_swapped, left_by_target, local_target, mirrored, taken_behind_target, upvalue_target, word_both}
use Rattle.core_expr.specs.Values.{Inner, OperandValue, Value, Values, and_value, nil_value, no_values}
use Rattle.core_expr.specs.Writing.{Wording, function_left, word, word_operand, word_values}
use Rattle.recover_expr.specs.Assigning.{function_as, without_self}
use Rattle.recover_expr.specs.Declaring.{is_one, without_step_one}
use Rattle.recover_expr.specs.Entries.{Listed, and_last_value}
use Rattle.recover_expr.specs.Lists.{before_last, split_last, value_count}
use Rattle.recover_expr.specs.Testing.{TestedValue, tested_comparison, tested_value}
use Rattle.scheme.specs.Expressions.{is_comparison}
use Rattle.scheme.specs.Shapes.{plain_body, plain_comparison, plain_statement, plain_values, plainness}
use Rattle.scheme.specs.declared.making.Active.{Active}
use Rattle.scheme.specs.Making.{Where, in_globals, in_register, in_upvalue}
use Rattle.scheme_stands.specs.Words.{Fn}
use Rattle.same_flow.specs.Renaming as renaming
use Rattle.same_flow.specs.Renaming.{IsOneStep}
use Rattle.reads_back.specs.Acted.{Acted, AreTargets, AreValues, AreWithOperand, Assigned, EndWithOperand, IsActed, IsTarget, IsVariableTarget, act_statement, assigned, assigned_levels, assigned_statement, called, declared, declared_function, declared_values, ends_with_nil, filled, last_target, left_by_targets, local_by, returned, some_missing, taken_behind_targets, values_assigned, with_last_nil, with_nil, without_nil, words_assigned, words_targets}
use Rattle.reads_back.specs.Cores.{ends_open}
use Rattle.reads_back.proofs.ActsFormed.{value_of_target, written_as_value}
use Rattle.reads_back.proofs.FunctionsLeft.{each_by_operand, each_by_target, each_by_targets, each_by_values, left_there}
use Rattle.reads_back.proofs.HeadValues.{IsHeaded, counted_list, head_wording, headed_by}
use Rattle.reads_back.proofs.NoComparisons.{key_none, operand_none, value_none, values_none}
use Rattle.reads_back.proofs.Paths.{IsNamed, function_as_holds, named_or_holds}
use Rattle.reads_back.proofs.PlainValues.{ArePlainLeft, NoComparison, NoComparisonOperand, NoComparisons, joined_condition, operand_plain, values_plain, word_plain}
use Rattle.reads_back.proofs.TestedAs.{IsTested, IsTestedBy, IsValueTested, comparison_by, condition_word, is_turned, word_op}
use Rattle.reads_back.proofs.Tests.{both_hold, first_of_both, not_so, second_of_both}

-- ---- no operator in what is written is a comparison

abbrev TargetNone : TargetValue → Type 0
TargetNone (index_target on key) = NoComparison on × NoComparisonOperand key
TargetNone t = Unit {0}

abbrev TargetsNone : List TargetValue → Type 0
TargetsNone [] = Unit {0}
TargetsNone (t ∷ ts) = TargetNone t × TargetsNone ts

abbrev LastNone : Option OperandValue → Type 0
LastNone None = Unit {0}
LastNone (Some o) = NoComparisonOperand o

abbrev ActNone : Acted → Type 0
ActNone (called v) = NoComparison v
ActNone (assigned ts vs all last) = TargetsNone ts × NoComparisons vs × LastNone last
ActNone (declared names vs all) = NoComparisons vs
ActNone (declared_function text number) = Unit {0}
ActNone (returned vs all) = NoComparisons vs

-- ---- lists of values

nil_behind_none : (vs : Values) → NoComparisons vs → NoComparisons (and_last_value vs nil_value)
nil_behind_none no_values none = (tt, tt)
nil_behind_none (and_value v rest) none = (none.0, nil_behind_none rest none.1)

before_none : (vs : Values) → NoComparisons vs → NoComparisons (before_last (split_last vs))
before_none no_values none = tt
before_none (and_value v no_values) none = tt
before_none (and_value v (and_value w rest)) none = by (split_last (and_value w rest)) (before_none (and_value w rest) none.1)
  where
    by : (last : Option (Values × Value)) → NoComparisons (before_last last) → NoComparisons (before_last (option_map (λ p. (and_value v p.0, p.1)) last))
    by None before = tt
    by (Some p) before = (none.0, before)

with_nil_none : (missing_one : Bool) (vs : Values) → NoComparisons vs → NoComparisons (with_nil missing_one vs)
with_nil_none true vs none = nil_behind_none vs none
with_nil_none false vs none = none

without_nil_none : (left_out : Bool) (vs : Values) → NoComparisons vs → NoComparisons (without_nil left_out vs).values
without_nil_none true vs none = before_none vs none
without_nil_none false vs none = none

filled_none : (missing_some : Bool) (count : ℕ) (missing_one : Bool) (vs : Values) → NoComparisons vs → NoComparisons (filled missing_some count missing_one vs).values
filled_none true count missing_one vs none = none
filled_none false count missing_one vs none = let all = with_nil missing_one vs in without_nil_none ((value_count all == count) && ends_with_nil all) all (with_nil_none missing_one vs none)

declared_none : (count : ℕ) (is_open : Bool) (from vs : Values) (all : Bool) → declared_values count is_open from ≡ record { values = vs; all = all } → NoComparisons from → NoComparisons vs
declared_none count is_open from vs all is none =
    subst (λ (list : Listed). NoComparisons list.values) is (filled_none (not is_open && nat_lt (suc (value_count from)) count) count (not is_open && (suc (value_count from) == count)) from none)

abbrev AssignedNone : Assigned → Type 0
AssignedNone to = NoComparisons to.values × LastNone to.last

last_nil_none : (t : Option TargetValue) (vs : Values) → NoComparisons vs → AssignedNone (with_last_nil t vs)
last_nil_none None vs none = (nil_behind_none vs none, tt)
last_nil_none (Some (local_target r)) vs none = (none, tt)
last_nil_none (Some (upvalue_target slot)) vs none = (nil_behind_none vs none, tt)
last_nil_none (Some (global_target number)) vs none = (nil_behind_none vs none, tt)
last_nil_none (Some (index_target on key)) vs none = (none, tt)

missing_none : (fewer one : Bool) (t : Option TargetValue) (vs : Values) → NoComparisons vs → AssignedNone (if fewer then some_missing one t vs else record { values = vs; all = true; last = None })
missing_none true true t vs none = last_nil_none t vs none
missing_none true false t vs none = (none, tt)
missing_none false one t vs none = (none, tt)

assigned_values_none : (count : ℕ) (t : Option TargetValue) (is_open : Bool) (from : Values) (to : Assigned) → values_assigned count t is_open from ≡ to → NoComparisons from → AssignedNone to
assigned_values_none count t is_open from to is none = subst AssignedNone is (missing_none (not is_open && nat_lt (value_count from) count) (suc (value_count from) == count) t from none)

headed_none : (missing_some missing_one : Bool) (vs : Values) → NoComparisons vs → NoComparisons (headed_by missing_some missing_one vs).values
headed_none true missing_one vs none = none
headed_none false missing_one vs none = with_nil_none missing_one vs none

-- ---- acts

module _ (g : Fn) (active : List Active) where
  variable_target_none : (text : Text) (w : Where) (t : TargetValue) → IsVariableTarget g text w t → TargetNone t
  variable_target_none text (in_register r) t is = subst TargetNone (sym is) tt
  variable_target_none text (in_upvalue slot) t is = subst TargetNone (sym is) tt
  variable_target_none text in_globals t is = subst TargetNone (sym is.2) tt

  target_none : (e : Expression) (before behind : ℕ) (t : TargetValue) → IsTarget g active e before behind t → TargetNone t
  target_none (name_expression line text) before behind t is = variable_target_none text is.1 t is.3
  target_none (index_expression line on key) before behind (index_target o k) is = (value_none g active on before is.0 o is.1, operand_none g active key is.0 behind k is.2)
  target_none (field_expression line on text) before behind (index_target o k) is = (value_none g active on before is.0 o is.1, key_none g active text is.0 behind k is.2)
  target_none e before behind t is = absurd (assumption is)

  targets_none : (es : Expressions) (before behind : ℕ) (ts : List TargetValue) → AreTargets g active es before behind ts → TargetsNone ts
  targets_none no_expressions before behind [] is = tt
  targets_none no_expressions before behind (t ∷ ts) is = absurd is
  targets_none (syntax.expression e es) before behind [] is = absurd is
  targets_none (syntax.expression e es) before behind (t ∷ ts) is = (target_none e before is.0 t is.1, targets_none es is.0 behind ts is.2)

  ended_none : (es : Expressions) (o : OperandValue) (before behind : ℕ) (vs : Values) → EndWithOperand g active es o before behind vs → NoComparisons vs × NoComparisonOperand o
  ended_none no_expressions o before behind vs is = absurd is
  ended_none (syntax.expression e no_expressions) o before behind vs is = (subst NoComparisons (sym is.0) tt, operand_none g active e before behind o is.1)
  ended_none (syntax.expression e (syntax.expression d es)) o before behind vs (mid, is) =
      let rest = ended_none (syntax.expression d es) o mid behind is.1 is.3 in
      (subst NoComparisons (sym is.4) (value_none g active e before mid is.0 is.2, rest.0), rest.1)

  assigned_none : (es : Expressions) (ts : List TargetValue) (before behind : ℕ) (to : Assigned) → AreWithOperand g active ts es before behind to ⊎ AreValues g active ts es before behind to → AssignedNone to
  assigned_none es ts before behind to (inl is) = let both = ended_none es is.2 before behind to.values is.3 in (both.0, subst LastNone (sym is.5) both.1)
  assigned_none es ts before behind to (inr is) = assigned_values_none (length ts) (last_target ts) (ends_open es) is.0 to is.3 (values_none g active es before behind is.0 is.1)

  pub act_none : (s : Statement) (before behind : ℕ) (acted : Acted) → IsActed g active s before behind acted → ActNone acted
  act_none (call_statement e) before behind (called v) is = value_none g active e before behind v is
  act_none (assignment targets es) before behind (assigned ts vs all last) is =
      let both = assigned_none es ts is.0 behind (record { values = vs; all = all; last = last }) is.2 in (targets_none targets before is.0 ts is.1, both.0, both.1)
  act_none (local_statement names es) before behind (declared others vs all) is = declared_none (length names) (ends_open es) is.1 vs all is.3 (values_none g active es before behind is.1 is.2)
  act_none (local_function text body) before behind (declared others vs all) is = subst NoComparisons (sym is.4.2) (tt, tt)
  act_none (local_function text body) before behind (declared_function name number) is = tt
  act_none (return_statement es) before behind (returned vs all) is = values_none g active es before behind vs is.0
  act_none s before behind acted is = absurd is

  pub head_none : (numeric : Bool) (es : Expressions) (before behind : ℕ) (headed : Listed) → IsHeaded g active numeric es before behind headed → NoComparisons headed.values
  head_none true es before behind headed is = values_none g active (counted_list es) before behind headed.values is.0
  head_none false es before behind headed is =
      subst (λ (list : Listed). NoComparisons list.values) is.2
      (headed_none (not (ends_open es) && nat_lt (suc (value_count is.0)) 3) (not (ends_open es) && (suc (value_count is.0) == 3)) is.0 (values_none g active es before behind is.0 is.1))

-- ---- what is written of them

without_plain : (es : Expressions) → plain_values es ≡ true → plain_values (without_step_one es) ≡ true
without_plain no_expressions plain = refl
without_plain (syntax.expression e no_expressions) plain = left_out (is_one e)
  where
    left_out : (one : Bool) → plain_values (if one then no_expressions else syntax.expression e no_expressions) ≡ true
    left_out true = refl
    left_out false = plain
without_plain (syntax.expression e (syntax.expression d es)) plain = both_hold _ _ (first_of_both _ _ plain) (without_plain (syntax.expression d es) (second_of_both (plainness e).value _ plain))

end_plain : (es : Expressions) (e : Expression) → plain_values es ≡ true → (plainness e).value ≡ true → plain_values (join_expressions es (syntax.expression e no_expressions)) ≡ true
end_plain no_expressions e first last = both_hold _ _ last refl
end_plain (syntax.expression d es) e first last = both_hold _ _ (first_of_both _ _ first) (end_plain es e (second_of_both (plainness d).value _ first) last)

body_without_self : (body : FunctionBody) → plain_body body ≡ true → plain_body (without_self body) ≡ true
body_without_self (function_body params vararg block first last) plain = plain

-- a statement that is one step, and plain
abbrev pub IsPlainStep : Statement → Type 0
IsPlainStep s = IsOneStep s × (plain_statement s ≡ true)

function_as_plain : (path : List Text) (body : FunctionBody) → plain_body body ≡ true → IsPlainStep (function_as path body)
function_as_plain path body plain = function_as_holds IsPlainStep path body (tt, plain) (λ long takes. (tt, body_without_self body plain))

local_by_plain : (text : Text) (found : Option Inner) → ((one : Inner) → found ≡ Some one → plain_body one.body ≡ true) → IsPlainStep (local_by text found)
local_by_plain text None plain = (tt, refl)
local_by_plain text (Some found) plain = (tt, plain found refl)

value_of_none : (t : TargetValue) → TargetNone t → NoComparison (value_of_target t)
value_of_none (local_target r) none = tt
value_of_none (upvalue_target u) none = tt
value_of_none (global_target k) none = tt
value_of_none (index_target on key) none = (none.0, (none.1, tt))

module _ (at : Place) where
  targets_plain : (ts : List TargetValue) (n : ℕ) (fs : List (Option Inner)) → ArePlainLeft fs → TargetsNone ts → plain_values (words_targets at n fs ts).words ≡ true
  targets_plain [] n fs left none = refl
  targets_plain (t ∷ ts) n fs left none =
      both_hold _ _ (ap (λ (w : Wording). (plainness w.words).value) (written_as_value at n fs t) ∙ word_plain at (value_of_target t) n fs left (value_of_none t none.0))
      (targets_plain ts (taken_behind_target t n) (left_by_target t fs) (each_by_target _ t fs left) none.1)

  assigned_words_plain : (vs : Values) (all : Bool) (last : Option OperandValue) (n : ℕ) (fs : List (Option Inner)) → ArePlainLeft fs → NoComparisons vs → LastNone last → plain_values (words_assigned at n fs vs all last).words ≡ true
  assigned_words_plain vs all None n fs left none last_none = values_plain at vs all n fs left none
  assigned_words_plain vs all (Some o) n fs left none last_none =
      end_plain (word_values at n fs vs all).words (word_operand at (taken_behind_values vs n) (left_by_values vs fs) o).words (values_plain at vs all n fs left none)
      (operand_plain at o (taken_behind_values vs n) (left_by_values vs fs) (each_by_values _ vs fs left) last_none)

  pub act_plain : (acted : Acted) (n : ℕ) (fs : List (Option Inner)) → ArePlainLeft fs → ActNone acted → IsPlainStep (act_statement at n fs acted)
  act_plain (called v) n fs left none = (tt, word_plain at v n fs left none)
  act_plain (assigned ts vs all last) n fs left none =
      let named : (path : List Text) (found : Inner) → IsNamed at fs ts vs last path found → IsPlainStep (function_as path found.body) =
      λ path found named. function_as_plain path found.body (left_there (λ number found. plain_body found.body ≡ true) named.number fs found left named.there) in
      named_or_holds (λ s levels. IsPlainStep s) at fs ts vs last (assigned_statement at n fs ts vs all last) (assigned_levels at n fs ts vs all last)
      (tt, both_hold _ _ (targets_plain ts n fs left none.0) (assigned_words_plain vs all last (taken_behind_targets ts n) (left_by_targets ts fs) (each_by_targets _ ts fs left) none.1 none.2)) named
  act_plain (declared names vs all) n fs left none = (tt, values_plain at vs all n fs left none)
  act_plain (declared_function text number) n fs left none = local_by_plain text (function_left fs number) (λ found there. left_there (λ number found. plain_body found.body ≡ true) number fs found left there)
  act_plain (returned vs all) n fs left none = (tt, values_plain at vs all n fs left none)

  pub head_plain : (numeric : Bool) (headed : Listed) (n : ℕ) (fs : List (Option Inner)) → ArePlainLeft fs → NoComparisons headed.values → plain_values (head_wording numeric at n fs headed).words ≡ true
  head_plain true headed n fs left none = without_plain (word_values at n fs headed.values headed.all).words (values_plain at headed.values headed.all n fs left none)
  head_plain false headed n fs left none = values_plain at headed.values headed.all n fs left none

-- ---- tests

abbrev TestNone : TestedValue → Type 0
TestNone (tested_value v) = NoComparison v
TestNone (tested_comparison c) = NoComparisonOperand c.left × NoComparisonOperand c.right

compared_none : (turned : Bool) (op : BinaryOp) (x y : ℕ) (first second : OperandValue) → NoComparisonOperand first → NoComparisonOperand second → TestNone (tested_comparison (comparison_by turned op x y first second))
compared_none true op x y first second one other = (other, one)
compared_none false op x y first second one other = (one, other)

module _ (g : Fn) (active : List Active) (before behind : ℕ) (tested : TestedValue) where
  tested_value_none : (e : Expression) → IsValueTested g active e before behind tested → TestNone tested
  tested_value_none e is = subst TestNone (sym is.2) (value_none g active e before behind is.0 is.1)

  tested_by_none : (compares : Bool) (op : BinaryOp) (l r e : Expression) → IsTestedBy compares g active op l r e before behind tested → TestNone tested
  tested_by_none true op l r e (both, same) =
      subst TestNone (sym same)
      (compared_none (is_turned op) (word_op op) both.x both.y both.first both.second (operand_none g active l before both.mid both.first both.is_first) (operand_none g active r both.mid behind both.second both.is_second))
  tested_by_none false op l r e is = tested_value_none e is

  pub test_none : (e : Expression) → IsTested g active e before behind tested → TestNone tested
  test_none (binary_expression line op l r) is = tested_by_none (is_comparison op) op l r (binary_expression line op l r) is
  test_none e is = tested_value_none e is

-- what is plain as a value is tested as a whole
operator_tested : (compares parts : Bool) → (plain_comparison compares parts).value ≡ true → (plain_comparison compares parts).condition ≡ true
operator_tested true parts plain = not_so plain
operator_tested false parts plain = plain

value_tested : (e : Expression) → (plainness e).value ≡ true → renaming.IsTested e
value_tested (binary_expression line op l r) plain = operator_tested (is_comparison op) ((plainness l).value && (plainness r).value) plain
value_tested e plain = plain

module _ (at : Place) (n : ℕ) (fs : List (Option Inner)) (left : ArePlainLeft fs) where
  both_plain : (op : BinaryOp) (first second : OperandValue) → NoComparisonOperand first → NoComparisonOperand second → renaming.IsTested (word_both at n fs op first second).words
  both_plain op first second one other =
      joined_condition op (word_operand at n fs first) (word_operand at (taken_behind_operand first n) (left_by_operand first fs) second) (operand_plain at first n fs left one)
      (operand_plain at second (taken_behind_operand first n) (left_by_operand first fs) (each_by_operand _ first fs left) other)

  pub condition_plain : (tested : TestedValue) → TestNone tested → renaming.IsTested (condition_word at n fs tested).words
  condition_plain (tested_value v) none = value_tested (word at n fs v).words (word_plain at v n fs left none)
  condition_plain (tested_comparison c) none = by (is_swapped (length at.entries) n c)
    where
      by : (swapped : Bool) → renaming.IsTested (if swapped then word_both at n fs (mirrored c.op) c.right c.left else word_both at n fs c.op c.left c.right).words
      by true = both_plain (mirrored c.op) c.right c.left none.1 none.0
      by false = both_plain c.op c.left c.right none.0 none.1
