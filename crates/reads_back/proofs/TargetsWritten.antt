-- What is written of the targets of an assignment has the same code, where that holds of their parts, or where they are a path that a function goes to.
use Rattle.std.proofs.Common.{◌≡◌, ℕ, ◌⊎◌, true, List, [], ◌∷◌, Option, refl, sym, ap, ◌∙◌, subst, inl, inr}
use Rattle.lua_tree.specs.Syntax as syntax
use Rattle.lua_tree.specs.Syntax.{Expression, Expressions, no_expressions, name_expression, index_expression, field_expression}
use Rattle.core_expr.specs.Places.{Place, place}
use Rattle.core_expr.specs.Targets.{TargetValue, can_write_target, index_target}
use Rattle.core_expr.specs.Values.{Value, Inner}
use Rattle.recover_expr.specs.Situation.{Function}
use Rattle.scheme.specs.Making.{Maker}
use Rattle.scheme.specs.declared.making.Active.{Active}
use Rattle.scheme_stands.specs.Words.{Fn}
use Rattle.reads_back.specs.Acted.{AreActTargets, AreTargets, IsActTarget, IsTarget, can_write_targets, is_path}
use Rattle.reads_back.specs.Cores.{IsCore}
use Rattle.reads_back.proofs.LeanTargets.{IsLean}
use Rattle.reads_back.proofs.PathsWritten.{path_can_name, path_same}
use Rattle.reads_back.proofs.Rewriting.{IsMadeBy, Rewritten}
use Rattle.reads_back.proofs.Said.{can_name}
use Rattle.reads_back.proofs.TargetsSame.{TargetSame, TargetsSame, field_can, field_same, index_can, index_same, more_same, name_can, name_same, none_same}
use Rattle.reads_back.proofs.Tests.{both_hold}

module _ (f : Function) (g : Fn) (active : List Active) (listed : List ℕ) (z : Maker) (lefts : ℕ → List (Option Inner)) where
  -- each value of an expression is written with the same code
  abbrev pub AreWritten : Expression → Type 0
  AreWritten e = (before behind : ℕ) (v : Value) → IsCore g active e before behind v → Rewritten f g active listed z lefts before behind e v

  -- those of the parts of a target
  abbrev pub TargetWritten : Expression → Type 0
  TargetWritten (index_expression line on key) = AreWritten on × AreWritten key
  TargetWritten (field_expression line on text) = AreWritten on
  TargetWritten target = Unit {0}

  abbrev pub TargetsWritten : Expressions → Type 0
  TargetsWritten no_expressions = Unit {0}
  TargetsWritten (syntax.expression target targets) = TargetWritten target × TargetsWritten targets

module _ {f : Function} {g : Fn} {active : List Active} {listed : List ℕ} {z : Maker} (lefts : ℕ → List (Option Inner)) (made : IsMadeBy f g active listed z) where
  abbrev at : Place
  at = place f.of listed f.short

  target_same : (target : Expression) (before behind : ℕ) (t : TargetValue) → IsActTarget target → TargetWritten f g active listed z lefts target → IsTarget g active target before behind t → TargetSame f g active listed z lefts before behind target t
  target_same (name_expression line text) before behind t good written (as_many, w, means, is) =
      subst (λ (behind : ℕ). TargetSame f g active listed z lefts before behind (name_expression line text) t) (sym as_many) (name_same made lefts before line text w t good means is)
  target_same (index_expression line on key) before behind (index_target x k) has written (mid, is, is_key) = index_same lefts made line on key before mid behind x k has.0 has.1 (written.0 before mid x is) (written.1 mid behind) is_key
  target_same (field_expression line on text) before behind (index_target x k) has written (mid, is, is_key) = field_same lefts made line on text before mid behind x k has (written before mid x is) is_key
  target_same target before behind t has written is = absurd is

  targets_same : (targets : Expressions) (before behind : ℕ) (ts : List TargetValue) → AreActTargets targets → TargetsWritten f g active listed z lefts targets → AreTargets g active targets before behind ts →
      TargetsSame f g active listed z lefts before behind targets ts
  targets_same no_expressions before behind [] has written are = none_same are
  targets_same (syntax.expression target targets) before behind (t ∷ ts) has written (mid, is, are) =
      more_same target targets t ts (target_same target before mid t has.0 written.0 is) (targets_same targets mid behind ts has.1 written.1 are)
  targets_same targets before behind ts has written are = absurd are

  -- ---- they can be written

  target_can : (target : Expression) (before behind : ℕ) (t : TargetValue) → IsActTarget target → TargetWritten f g active listed z lefts target → IsTarget g active target before behind t → can_write_target at (lefts before) t ≡ true
  target_can (name_expression line text) before behind t good written (as_many, w, means, is) = name_can lefts made text w t (lefts before) good means is
  target_can (index_expression line on key) before behind (index_target x k) has written (mid, is, is_key) = index_can lefts made on key before mid behind x k has.1 (written.0 before mid x is) (written.1 mid behind) is_key
  target_can (field_expression line on text) before behind (index_target x k) has written (mid, is, is_key) = field_can lefts made on text before mid behind x k (written before mid x is) is_key
  target_can target before behind t has written is = absurd is

  pub targets_can : (targets : Expressions) (before behind : ℕ) (ts : List TargetValue) → AreActTargets targets → TargetsWritten f g active listed z lefts targets → AreTargets g active targets before behind ts →
      can_write_targets at (lefts before) ts ≡ true
  targets_can no_expressions before behind [] has written are = refl
  targets_can (syntax.expression target targets) before behind (t ∷ ts) has written (mid, is, are) =
      let one = target_same target before mid t has.0 written.0 is in
      both_hold _ _ (target_can target before mid t has.0 written.0 is) (ap (λ fs. can_write_targets at fs ts) one.leaves ∙ targets_can targets mid behind ts has.1 written.1 are)
  targets_can targets before behind ts has written are = absurd are

  -- ---- a path that a function goes to

  one_same : (target : Expression) (before behind : ℕ) (ts : List TargetValue) → is_path target ≡ true → AreActTargets (syntax.expression target no_expressions) → AreTargets g active (syntax.expression target no_expressions) before behind ts →
      TargetsSame f g active listed z lefts before behind (syntax.expression target no_expressions) ts
  one_same target before behind (t ∷ []) path has (mid, is, same) = more_same target no_expressions t [] (path_same lefts made target before mid t path has.0 is) (none_same same)
  one_same target before behind [] path has are = absurd are
  one_same target before behind (t ∷ u ∷ ts) path has are = absurd are.2

  lean_same : (targets es : Expressions) (before behind : ℕ) (ts : List TargetValue) → IsLean targets es → AreActTargets targets → AreTargets g active targets before behind ts → TargetsSame f g active listed z lefts before behind targets ts
  lean_same targets es before behind ts lean =
      subst (λ (targets : Expressions). AreActTargets targets → AreTargets g active targets before behind ts → TargetsSame f g active listed z lefts before behind targets ts) (sym lean.one) (one_same lean.target before behind ts lean.path)

  one_can_name : (target : Expression) (before behind : ℕ) (ts : List TargetValue) → is_path target ≡ true → AreTargets g active (syntax.expression target no_expressions) before behind ts → can_name at ts ≡ true
  one_can_name target before behind (t ∷ []) path (mid, is, same) = path_can_name lefts made target before mid t path is
  one_can_name target before behind [] path are = absurd are
  one_can_name target before behind (t ∷ u ∷ ts) path are = absurd are.2

  pub lean_can_name : (targets es : Expressions) (before behind : ℕ) (ts : List TargetValue) → IsLean targets es → AreTargets g active targets before behind ts → can_name at ts ≡ true
  lean_can_name targets es before behind ts lean =
      subst (λ (targets : Expressions). AreTargets g active targets before behind ts → can_name at ts ≡ true) (sym lean.one) (one_can_name lean.target before behind ts lean.path)

  -- either
  pub same_targets : (targets es : Expressions) (before behind : ℕ) (ts : List TargetValue) → IsLean targets es ⊎ TargetsWritten f g active listed z lefts targets → AreActTargets targets → AreTargets g active targets before behind ts →
      TargetsSame f g active listed z lefts before behind targets ts
  same_targets targets es before behind ts (inl lean) has are = lean_same targets es before behind ts lean has are
  same_targets targets es before behind ts (inr written) has are = targets_same targets before behind ts has written are
