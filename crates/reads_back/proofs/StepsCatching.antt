-- At each step of a function so much is known of its locals that its words capture what its marks do.
use Rattle.std.proofs.Common.{◌≡◌, ◌<◌, ◌≤◌, ◌⊎◌, inl, inr, ℕ, zero, suc, ◌+◌, Bool, true, List, [], ◌∷◌, ◌++◌, length, refl, sym, ap, ◌∙◌, subst, arith}
use Rattle.std.proofs.lemmas.Option.{none-some, same_Some}
use Rattle.std.specs.Prelude.{Option, Some, slice_get}
use Rattle.lua_num.specs.Bytes.{Text}
use Rattle.lua_tree.specs.Outline as outline
use Rattle.lua_tree.specs.Outline.{Binding, Mark, Place, Scope, innermost, statements_part}
use Rattle.lua_tree.specs.Resolved.{declarations_in}
use Rattle.lua_tree.specs.Syntax.{FunctionBody, Statements, local_function}
use Rattle.lua_tree.specs.WellFormed.{formed_statements}
use Rattle.core_expr.specs.Values.{Inner}
use Rattle.recover_expr.specs.Drafts.{Part, statement_part}
use Rattle.recover_expr.specs.Placing.{Steps}
use Rattle.recover_expr.specs.Situation.{Function}
use Rattle.recover_expr.specs.declared.steps.StepKind.{StepKind}
use Rattle.scheme.specs.Making.{Ahead, Maker}
use Rattle.scheme.specs.declared.making.Active.{Active}
use Rattle.scheme.specs.declared.making.Local.{Local}
use Rattle.scheme_stands.specs.Places.{Between, ScopeAt, ahead_at, ahead_by, StandsApart, Mentions}
use Rattle.scheme_stands.specs.Words.{Fn}
use Rattle.scheme_stands.proofs.Entering.{behind_name}
use Rattle.same_flow.specs.SameFlow.{begun_of}
use Rattle.same_flow.proofs.Walks.{state_of}
use Rattle.reads_back.proofs.ActiveCaptured.{AllHome, distinct_active, only_own_before}
use Rattle.reads_back.proofs.CapturedFlow.{StepComes}
use Rattle.reads_back.proofs.CapturedMarks.{OnlyOwn, opened_captures}
use Rattle.reads_back.proofs.CapturedSteps.{KindCatching}
use Rattle.reads_back.proofs.CapturedStretches.{Catching, Distinct, by_place, unmentioned_at}
use Rattle.reads_back.proofs.FlowThere.{IsFlowFunction, StepIs, before_at, made_at}
use Rattle.reads_back.proofs.FunctionLocals.{number_at, sound_to, stand_before, stand_to}
use Rattle.reads_back.proofs.LocalsBrought.{either_part}
use Rattle.reads_back.proofs.NamesCome.{names_mean}
use Rattle.reads_back.proofs.StatementsMeant.{own_active}
use Rattle.reads_back.proofs.StepsHere.{all_at, rest_at, scope_before, step_here}
use Rattle.reads_back.proofs.StepsKnown.{state_before}
use Rattle.reads_back.proofs.WordsRead.{IsFunction}
use Rattle.reads_back.proofs.StepsApart.{IsOutside, steps_apart}

-- ---- at a place

-- active locals are declared before it, and no other function has them in scope
abbrev KnownLocals : Place → List Active → Type 0
KnownLocals base active = (register : ℕ) (one : Active) (d : ℕ) → slice_get active register ≡ Some one → one.local.declaration ≡ Some d → (d < base.declarations) × OnlyOwn base d

catching_at : {f : Function} {g : Fn} (all : List Mark) (base : Place) (active : List Active) → IsFunction f g → Distinct active → KnownLocals base active → Catching f g (by_place all) base active
catching_at all base active is_function distinct known = record {
  is_function = is_function;
  distinct = distinct;
  unmentioned = unmentioned_at (by_place all) base active (λ text binding register one means there declared. (known register one binding.declaration there declared).1 text binding means refl);
  opened = λ body method free r p q place rest at fine register declaration one there declared.
      let is = known register one declaration there declared in
      let below = is.0 in
      let later = fine.later in
      let own : OnlyOwn place declaration = λ name b means same. is.1 name b (ap (λ (scope : Scope). scope name) (sym fine.scope) ∙ means) same ∙ ap innermost (sym fine.around) in
      sym (opened_captures all method body place rest p fine.here declaration (omega (arith, below, later)) own);
}

-- ---- behind the name of a local function

module _ (text : Text) (place : Place) (scope : ScopeAt place) (active after : List Active) (own : Active) (is_after : after ≡ active ++ own ∷ []) (number : own.local.declaration ≡ Some place.declarations)
    (distinct : Distinct active) (known : KnownLocals place active) where
  -- one of those before it, or itself
  abbrev Either : (register : ℕ) → Active → Type 0
  Either register one = ((register < length active) × (slice_get active register ≡ Some one)) ⊎ ((register ≡ length active) × (own ≡ one))

  either : (register : ℕ) (one : Active) → slice_get after register ≡ Some one → Either register one
  either register one there = by (either_part active (own ∷ []) register one (ap (λ (active : List Active). slice_get active register) (sym is_after) ∙ there))
    where
      last : (i : ℕ) → register ≡ length active + i → slice_get (own ∷ []) i ≡ Some one → Either register one
      last zero is there = inr (omega (arith, is), same_Some own one there)
      last (suc i) is there = absurd (none-some one there)

      by : ((register < length active) × (slice_get active register ≡ Some one)) ⊎ ((i : ℕ) × (register ≡ length active + i) × (slice_get (own ∷ []) i ≡ Some one)) → Either register one
      by (inl old) = inl old
      by (inr new) = last new.0 new.1 new.2

  own_number : (one : Active) (d : ℕ) → own ≡ one → one.local.declaration ≡ Some d → place.declarations ≡ d
  own_number one d same declared = same_Some place.declarations d (sym number ∙ ap (λ (one : Active). one.local.declaration) same ∙ declared)

  distinct_behind : Distinct after
  distinct_behind i j x y d first second x_is y_is = by (either i x first) (either j y second)
    where
      by : Either i x → Either j y → i ≡ j
      by (inl old) (inl other) = distinct i j x y d old.1 other.1 x_is y_is
      by (inl old) (inr new) = let below = (known i x d old.1 x_is).0 in let same = own_number y d new.1 y_is in absurd (omega (arith, below, same))
      by (inr new) (inl old) = let below = (known j y d old.1 y_is).0 in let same = own_number x d new.1 x_is in absurd (omega (arith, below, same))
      by (inr new) (inr other) = let a = new.0 in let b = other.0 in omega (arith, a, b)

  known_behind : KnownLocals (behind_name 1 text place) after
  known_behind register one d there declared = by (either register one there)
    where
      Means : Text → Binding → Type 0
      Means name b = (place.scope name ≡ Some b) ⊎ ((i : ℕ) × (i < length (text ∷ [])) × (b.declaration ≡ place.declarations + i) × (b.home ≡ innermost place.around))

      only : ((name : Text) (b : Binding) → place.scope name ≡ Some b → b.declaration ≡ d → b.home ≡ innermost place.around) → OnlyOwn (behind_name 1 text place) d
      only before name b means same = choose (names_mean (text ∷ []) place.declarations (innermost place.around) place.scope name b means)
        where
          choose : Means name b → b.home ≡ innermost place.around
          choose (inl old) = before name b old same
          choose (inr new) = new.3

      by : Either register one → (d < place.declarations + length (text ∷ [])) × OnlyOwn (behind_name 1 text place) d
      by (inl old) =
          let is = known register one d old.1 declared in
          let below = is.0 in
          (omega (arith, below), only is.1)
      by (inr new) =
          let same = own_number one d new.1 declared in
          (omega (arith, same), only (λ name b means equal. let below = scope.declared name b means in absurd (omega (arith, below, equal, same))))

-- ---- along the steps of a function

module _ {f : Function} {g : Fn} {z : Maker} {lefts : ℕ → List (Option Inner)} {parts : ℕ → outline.Part} {code : Steps} {params names : List Text} {ahead : Ahead} {block : Statements} (of : IsFlowFunction f g z lefts parts code params names ahead block)
    (all : List Mark) (place : Place) (rest : List Mark) (between : Between all (statements_part block) place rest) (scope : ScopeAt place) (formed : formed_statements block ≡ true)
    (begun : (begun_of params names ahead).ahead ≡ ahead_at all place ((statements_part block place).marks ++ rest))
    (declarations functions : ℕ) (marks : List Mark) (ahead_is : ahead ≡ ahead_by all declarations functions marks) (counted : (statements_part block place).next.declarations ≤ declarations_in all)
    (start : AllHome declarations (innermost place.around) place.scope) (apart : StandsApart all (statements_part block) place rest) (outside : Mentions (IsOutside place.declarations (statements_part block place).next.declarations) rest) where
  abbrev place_at : ℕ → Place
  place_at at = (state_before code (state_of place []) at).place

  distinct_at : (at : ℕ) → at ≤ length code.steps → Distinct (before_at of at).active
  distinct_at at most i j x y d first second x_is y_is = distinct_active of formed all place rest begun declarations functions marks ahead_is counted at most i j x y d first second x_is y_is

  known_at : (at : ℕ) → at ≤ length code.steps → KnownLocals (place_at at) (before_at of at).active
  known_at at most register one d there declared = (
    (sound_to of formed all place rest begun declarations functions marks ahead_is counted at most).high_of one.listed one.local d (stand_before of at (stand_to of at most) register one there) declared,
    only_own_before of formed all place rest begun declarations functions marks ahead_is counted start at most register one d there declared,
  )

  own_catching : (every : List Mark) {at : ℕ} {end : ℕ} {captured : Bool} {text : Text} {body : FunctionBody} → StepIs of at (StepKind.Declaration end captured) (statement_part (local_function text body)) →
      Catching f g (by_place every) (behind_name 1 text (place_at at)) (made_at of at (StepKind.Declaration end captured) (statement_part (local_function text body))).active
  own_catching every {at} {end} {captured} {text} {body} is =
      let less = is.within in
      let most : at ≤ length code.steps = omega (arith, less) in
      let made = made_at of at (StepKind.Declaration end captured) (statement_part (local_function text body)) in
      let own = own_active body is.stands in
      let scoped = scope_before of all place rest between scope at most in
      let number : own.local.local.declaration ≡ Some (place_at at).declarations = ap (λ (local : Local). local.declaration) own.is_local ∙ ap Some (number_at of formed all place rest begun at most) in
      catching_at every (behind_name 1 text (place_at at)) made.active of.made.is_function
      (distinct_behind text (place_at at) scoped (before_at of at).active made.active own.local own.is_after number (distinct_at at most) (known_at at most))
      (known_behind text (place_at at) scoped (before_at of at).active made.active own.local own.is_after number (distinct_at at most) (known_at at most))

  kind_catching : (every : List Mark) {at : ℕ} (kind : StepKind) (part : Part) → StepIs of at kind part → KindCatching f g (by_place every) (place_at at) kind part (before_at of at).active (made_at of at kind part).active
  kind_catching every {at} kind part is =
      let less = is.within in
      let most : at ≤ length code.steps = omega (arith, less) in
      record {
        here = catching_at every (place_at at) (before_at of at).active of.made.is_function (distinct_at at most) (known_at at most);
        own = λ end captured text body kind_is part_is. own kind part is end captured text body kind_is part_is;
      }
    where
      own : (kind : StepKind) (part : Part) → StepIs of at kind part → (end : ℕ) (captured : Bool) (text : Text) (body : FunctionBody) → kind ≡ StepKind.Declaration end captured → part ≡ statement_part (local_function text body) →
          Catching f g (by_place every) (behind_name 1 text (place_at at)) (made_at of at kind part).active
      own kind part is end captured text body kind_is part_is =
          subst (λ (kind : StepKind). StepIs of at kind part → Catching f g (by_place every) (behind_name 1 text (place_at at)) (made_at of at kind part).active) (sym kind_is)
          (subst (λ (part : Part). StepIs of at (StepKind.Declaration end captured) part → Catching f g (by_place every) (behind_name 1 text (place_at at)) (made_at of at (StepKind.Declaration end captured) part).active) (sym part_is)
          (own_catching every)) is

  -- At each step its marks come next, and so much is known there.
  pub comes_at : (at : ℕ) (kind : StepKind) (part : Part) → StepIs of at kind part → StepComes of place at kind part
  comes_at at kind part is =
      let every = all_at of all place rest between scope at kind part in
      record {
        all = by_place every;
        rest = rest_at of all place rest between scope at;
        here = step_here of all place rest between scope formed begun is (steps_apart of all place rest between scope apart outside is);
        catching = kind_catching every kind part is;
      }
