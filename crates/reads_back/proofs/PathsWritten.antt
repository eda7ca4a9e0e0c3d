-- A path of any length is written with the same code, and the variable that it begins with has a name, though a value with more than 200 names behind it is not written as an expression.
use Rattle.std.proofs.Common.{◌≡◌, ℕ, nat_lt, max, true, List, Option, Some, is_some, refl, sym, subst}
use Rattle.std.specs.Prelude.{not}
use Rattle.lua_num.specs.Bytes.{Text}
use Rattle.lua_tree.specs.Syntax.{Expression, name_expression, field_expression}
use Rattle.core_expr.specs.Making.{depth_of, depth_of_operand, made_index, made_over}
use Rattle.core_expr.specs.Places.{Place, place, variable_name}
use Rattle.core_expr.specs.Targets.{TargetValue, can_have_path, global_target, has_field_path, index_target, is_long_path, local_target, upvalue_target}
use Rattle.core_expr.specs.Values.{Value, global_value, index_value, local_value, upvalue_value, OperandValue, and_operand, no_operands, Inner}
use Rattle.recover_expr.specs.Situation.{Function}
use Rattle.scheme.specs.Making.{Maker, Where, in_globals, in_register, in_upvalue}
use Rattle.scheme.specs.declared.making.Active.{Active}
use Rattle.scheme_stands.specs.Words.{Fn, Means}
use Rattle.lua_tree.specs.Names.{is_name as is_good_name}
use Rattle.reads_back.specs.Acted.{IsActTarget, IsTarget, IsVariableTarget, is_path}
use Rattle.reads_back.specs.Cores.{HasCore, IsCore, IsVariable}
use Rattle.reads_back.proofs.IndexSame.{field_rewritten_with, text_key}
use Rattle.reads_back.proofs.LeavesSame.{name_rewritten, variable_written}
use Rattle.reads_back.proofs.OperandsSame.{key_rewritten}
use Rattle.reads_back.proofs.PassedMentions.{mentions_passed}
use Rattle.reads_back.proofs.Rewriting.{IsMadeBy, RewrittenWith}
use Rattle.reads_back.proofs.TargetsSame.{TargetSame, field_same, name_can, name_same}
use Rattle.reads_back.proofs.Tests.{first_of_both, given_is, not_so, or_second}

-- whether it can be written may be left open
left_open : {f : Function} {g : Fn} {active : List Active} {listed : List ℕ} {z : Maker} {lefts : ℕ → List (Option Inner)} {before behind : ℕ} {e : Expression} {v : Value} {Can : Type 0} →
    RewrittenWith f g active listed z lefts before behind Can e v → RewrittenWith f g active listed z lefts before behind (Unit {0}) e v
left_open one = record {
  can = tt;
  leaves = one.leaves;
  makes = one.makes;
  named = one.named;
  folded = one.folded;
  several = one.several;
  gives = one.gives;
  few = one.few;
  low = one.low;
  keys = one.keys;
  as_local = one.as_local;
  to_reg = one.to_reg;
  taken = one.taken;
  multi = one.multi;
  multi_taken = one.multi_taken;
}

-- ---- the code of a path

module _ {f : Function} {g : Fn} {active : List Active} {listed : List ℕ} {z : Maker} (lefts : ℕ → List (Option Inner)) (made : IsMadeBy f g active listed z) where
  path_rewritten : (e : Expression) (before behind : ℕ) (v : Value) → is_path e ≡ true → HasCore e → IsCore g active e before behind v → RewrittenWith f g active listed z lefts before behind (Unit {0}) e v
  path_rewritten (name_expression line text) before behind v path has (same, is) =
      subst (λ (behind : ℕ). RewrittenWith f g active listed z lefts before behind (Unit {0}) (name_expression line text) v) (sym same) (left_open (name_rewritten made line text v has is))
  path_rewritten (field_expression line on text) before behind v path has (mid, (o, key, is, is_key, made_of)) =
      field_rewritten_with tt line on text o key v (mentions_passed on has) (path_rewritten on before mid o (first_of_both _ _ path) has is) (text_key 1 text key (key_rewritten lefts made 1 text mid behind key is_key)) made_of
  path_rewritten e before behind v path has is = not_so path

  -- as a target
  pub path_same : (target : Expression) (before behind : ℕ) (t : TargetValue) → is_path target ≡ true → IsActTarget target → IsTarget g active target before behind t → TargetSame f g active listed z lefts before behind target t
  path_same (name_expression line text) before behind t path good (as_many, w, means, is) =
      subst (λ (behind : ℕ). TargetSame f g active listed z lefts before behind (name_expression line text) t) (sym as_many) (name_same made lefts before line text w t good means is)
  path_same (field_expression line on text) before behind (index_target x k) path has (mid, is, is_key) = field_same lefts made line on text before mid behind x k has (path_rewritten on before mid x (first_of_both _ _ path) has is) is_key
  path_same (field_expression line on text) before behind t path has is = absurd is
  path_same target before behind t path has is = not_so path

-- ---- the variable that it begins with

-- a variable, or one with keys behind it, where the variable has a name
abbrev BeginsNamed : Place → Value → Type 0
BeginsNamed at (index_value on keys depth) = is_some (variable_name at on) ≡ true
BeginsNamed at v = is_some (variable_name at v) ≡ true

alone_named : (at : Place) (on : Value) (key : OperandValue) (v : Value) (deep : ℕ) → is_some (variable_name at on) ≡ true → made_over deep (λ d. index_value on (and_operand key no_operands) d) ≡ Some v → BeginsNamed at v
alone_named at on key v deep named made = subst (BeginsNamed at) (given_is (nat_lt deep 400) _ v made) named

index_named : (at : Place) (on : Value) (key : OperandValue) (v : Value) → BeginsNamed at on → made_index on key ≡ Some v → BeginsNamed at v
index_named at (index_value on keys depth) key v named made = subst (BeginsNamed at) (given_is (nat_lt (depth_of_operand key) 400) _ v made) named
index_named at on key v named made = alone_named at on key v (max (depth_of on) (depth_of_operand key)) named made

has_path : (at : Place) (on : Value) (key : OperandValue) → BeginsNamed at on → has_field_path at on key ≡ true
has_path at (index_value on keys depth) key named = or_second (not (is_long_path at on keys key)) _ named
has_path at on key named = or_second (not (is_long_path at on no_operands key)) _ named

module _ {f : Function} {g : Fn} {active : List Active} {listed : List ℕ} {z : Maker} (lefts : ℕ → List (Option Inner)) (made : IsMadeBy f g active listed z) where
  abbrev at : Place
  at = place f.of listed f.short

  variable_begins : (text : Text) (w : Where) (v : Value) → is_good_name text ≡ true → Means g.law active text w → IsVariable g text w v → BeginsNamed at v
  variable_begins text (in_register r) v good means is =
      let written = variable_written made (lefts 0) text (in_register r) (local_value r) good (made.all.listed_as text (in_register r) means) refl in
      subst (BeginsNamed at) (sym is) written.can
  variable_begins text (in_upvalue slot) v good means is =
      let written = variable_written made (lefts 0) text (in_upvalue slot) (upvalue_value slot) good (made.all.listed_as text (in_upvalue slot) means) refl in
      subst (BeginsNamed at) (sym is) written.can
  variable_begins text in_globals v good means (number, has, is) =
      let written = variable_written made (lefts 0) text in_globals (global_value number) good tt (number, has, refl) in
      subst (BeginsNamed at) (sym is) written.can

  path_begins : (e : Expression) (before behind : ℕ) (v : Value) → is_path e ≡ true → IsCore g active e before behind v → BeginsNamed at v
  path_begins (name_expression line text) before behind v path (same, (w, means, is)) = variable_begins text w v path means is
  path_begins (field_expression line on text) before behind v path (mid, (o, key, is, is_key, made_of)) = index_named at o key v (path_begins on before mid o (first_of_both _ _ path) is) made_of
  path_begins e before behind v path is = not_so path

  target_begins : (text : Text) (w : Where) (t : TargetValue) → is_good_name text ≡ true → Means g.law active text w → IsVariableTarget g text w t → can_have_path at t ≡ true
  target_begins text (in_register r) t good means is = subst (λ (t : TargetValue). can_have_path at t ≡ true) (sym is) (name_can lefts made text (in_register r) (local_target r) (lefts 0) good means refl)
  target_begins text (in_upvalue slot) t good means is = subst (λ (t : TargetValue). can_have_path at t ≡ true) (sym is) (name_can lefts made text (in_upvalue slot) (upvalue_target slot) (lefts 0) good means refl)
  target_begins text in_globals t good means (number, has, is) =
      subst (λ (t : TargetValue). can_have_path at t ≡ true) (sym is) (name_can lefts made text in_globals (global_target number) (lefts 0) good means (number, has, refl))

  -- so it has a path
  pub path_can_name : (target : Expression) (before behind : ℕ) (t : TargetValue) → is_path target ≡ true → IsTarget g active target before behind t → can_have_path at t ≡ true
  path_can_name (name_expression line text) before behind t path (as_many, w, means, is) = target_begins text w t path means is
  path_can_name (field_expression line on text) before behind (index_target x k) path (mid, is, is_key) = has_path at x k (path_begins on before mid x (first_of_both _ _ path) is)
  path_can_name (field_expression line on text) before behind t path is = absurd is
  path_can_name target before behind t path is = not_so path
