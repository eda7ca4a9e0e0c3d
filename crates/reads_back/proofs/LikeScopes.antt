-- A step declares listed locals, one after the other, and leaves the others as they are but for which of them are captured.
use Rattle.std.proofs.Common.{◌≡◌, ℕ, zero, suc, Bool, true, false, List, [], ◌∷◌, ◌++◌, length, map, Option, Some, None, refl, sym, ap, ap₂, ◌∙◌, subst, ◌-◌}
use Rattle.std.proofs.lemmas.List.{length-map, map-append}
use Rattle.std.proofs.lemmas.Option.{same_Some}
use Rattle.std.specs.Prelude.{slice_get, slice_set}
use Rattle.recover_expr.specs.Declaring.{and_captured}
use Rattle.recover_expr.specs.Drafts.{Drafted}
use Rattle.recover_expr.specs.Locals.{Scope, capture, capture_entry, capture_some, captured_at, entered}
use Rattle.recover_expr.specs.Reading.{words_from}
use Rattle.recover_expr.specs.Situation.{Function, Situation}
use Rattle.recover_expr.specs.declared.locals.Declared.{Declared}
use Rattle.reads_back.proofs.ScopesGrow.{entered_times}
use Rattle.reads_back.proofs.ScopesRead.{capture_all, declared_of, is_local_function}
use Rattle.reads_back.proofs.StepScopes.{captured_by_words, step_captures}

abbrev pub uncaptured : Declared → Declared
uncaptured one = record one { captured = false }

-- two scopes but for which of the declared locals are captured
pub record LikeScope (one two : Scope) : Type 0 where
  pub active : two.active ≡ one.active
  pub declared : map uncaptured two.declared ≡ map uncaptured one.declared

like_same : (scope : Scope) → LikeScope scope scope
like_same scope = record { active = refl; declared = refl }

like_then : {one two three : Scope} → LikeScope one two → LikeScope two three → LikeScope one three
like_then first second = record { active = second.active ∙ first.active; declared = second.declared ∙ first.declared }

-- ---- captures

set_uncaptured : (declared : List Declared) (entry : ℕ) (one : Declared) → slice_get declared entry ≡ Some one → map uncaptured (slice_set declared entry (record one { captured = true })) ≡ map uncaptured declared
set_uncaptured [] entry one there = refl
set_uncaptured (first ∷ declared) zero one there = ap (λ (one : Declared). uncaptured one ∷ map uncaptured declared) (sym (same_Some first one there))
set_uncaptured (first ∷ declared) (suc entry) one there = ap (λ rest. uncaptured first ∷ rest) (set_uncaptured declared entry one there)

like_entry : (entry : ℕ) (scope : Scope) → LikeScope scope (capture_entry entry scope)
like_entry entry scope = record { active = refl; declared = by (slice_get scope.declared entry) refl }
  where
    by : (there : Option Declared) → slice_get scope.declared entry ≡ there → map uncaptured (captured_at entry scope.declared there) ≡ map uncaptured scope.declared
    by None is = refl
    by (Some one) is = set_uncaptured scope.declared entry one is

like_capture : (register : ℕ) (scope : Scope) → LikeScope scope (capture register scope)
like_capture register scope = by (slice_get scope.active register)
  where
    by : (entry : Option ℕ) → LikeScope scope (capture_some entry scope)
    by None = like_same scope
    by (Some entry) = like_entry entry scope

like_all : (registers : List ℕ) (scope : Scope) → LikeScope scope (capture_all registers scope)
like_all [] scope = like_same scope
like_all (register ∷ registers) scope = like_then (like_capture register scope) (like_all registers (capture register scope))

like_captured : (first : ℕ) (itself : Bool) (scope : Scope) → LikeScope scope (and_captured first itself scope)
like_captured first true scope = like_entry first scope
like_captured first false scope = like_same scope

-- ---- locals that are declared

pub as_many_like : {one two : Scope} → LikeScope one two → length two.declared ≡ length one.declared
as_many_like {one} {two} like = sym (length-map two.declared uncaptured) ∙ ap length like.declared ∙ length-map one.declared uncaptured

like_entered : {one two : Scope} (step : Option ℕ) → LikeScope one two → LikeScope (entered step one) (entered step two)
like_entered {one} {two} step like =
    let next : List ℕ → Declared = λ active. record { outer = slice_get active (length active - 1); register = length active; step = step; captured = false } in
    record {
      active = ap₂ (λ (active : List ℕ) (count : ℕ). active ++ count ∷ []) like.active (as_many_like like);
      declared =
          map-append uncaptured two.declared (next two.active ∷ [])
          ∙ ap₂ (λ (declared : List Declared) (active : List ℕ). declared ++ next active ∷ []) like.declared like.active
          ∙ sym (map-append uncaptured one.declared (next one.active ∷ []));
    }

like_times : (count : ℕ) {one two : Scope} (step : Option ℕ) → LikeScope one two → LikeScope (entered_times count step one) (entered_times count step two)
like_times zero step like = like
like_times (suc count) step like = like_times count step (like_entered step like)

-- ---- the step

-- a step declares so many locals, one after the other, and the others stay but for which are captured
pub step_scope : (f : Function) (count pc : ℕ) (s : Situation) (draft : Drafted) (behind : Situation) → words_from f count pc s ≡ Some (draft, behind) →
    (declared : ℕ) × LikeScope (entered_times declared (Some s.step) s.scope) behind.scope × (draft.base ≡ s.base) × (draft.innermost ≡ s.inside) × (draft.pc ≡ s.pc)
step_scope f count pc s draft behind is =
    let registers = captured_by_words f count pc s in
    let ends = step_captures f count pc s draft behind is in
    let declared = declared_of draft.kind in
    let like = like_then (like_times declared (Some s.step) (like_all registers s.scope)) (like_captured (length s.scope.declared) (is_local_function draft.part) (entered_times declared (Some s.step) (capture_all registers s.scope))) in
    (declared, subst (λ (scope : Scope). LikeScope (entered_times declared (Some s.step) s.scope) scope) (sym ends.scope) like, ends.of_step.base, ends.of_step.innermost, ends.of_step.pc)
