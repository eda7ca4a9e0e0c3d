-- The breaks that name a declaration.
use Rattle.std.proofs.Common.{◌≡◌, refl, sym, ap, ◌∙◌, ⊎_elim, ℕ, zero, suc, ◌+◌, ◌<◌, ◌≤◌, Bool, true, false, ◌&&◌, ◌||◌, ◌==◌, nat_le, nat_lt, List, [], ◌∷◌, ◌++◌, length, slice_get, Option, None, Some, arith, if◌then◌else◌, add-one, option_map}
use Rattle.std.specs.Prelude.{option_and_then, unwrap_or}
use Rattle.std.specs.List.{list_any}
use Rattle.std.proofs.lemmas.Bool.Decides.{leb_tells, nat_tests}
use Rattle.std.proofs.lemmas.Option.{slice_get_past}
use Rattle.recover_expr.specs.declared.steps.Step.{Step}
use Rattle.recover_expr.specs.declared.steps.StepKind.{StepKind}
use Rattle.recover_flow.specs.declared.regions.BodyAt.{BodyAt}
use Rattle.recover_flow.specs.declared.regions.Exit.{Exit}
use Rattle.recover_flow.specs.declared.tables.Span.{Span}
use Rattle.recover_flow.specs.Asked.{any_between, break_exit, closing_exit, exit_behind, is_closed, is_other, is_this, kind_at}
use Rattle.recover_flow.specs.Cutting.{is_of_other}
use Rattle.recover_flow.specs.Tabled.{NoneFrom, all_spans, at_place, break_noted, declared_of, exit_of, span_of, spans_where}
use Rattle.recover_flow.proofs.Numbers.{between_past}
use Rattle.recover_flow.proofs.Rows.{held_at, held_more, held_past}

-- ---- one more step

if_and : (a b : Bool) (x : Option Exit) → (if a && b then x else None) ≡ (if a then (if b then x else None) else None)
if_and true b x = refl
if_and false b x = refl

closing_is : (steps : List Step) (declaration close base : ℕ) (kind : StepKind) → closing_exit steps declaration close base kind ≡ (if is_this (declared_of kind) declaration then exit_of steps close base kind else None)
closing_is steps declaration close base StepKind.Act = refl
closing_is steps declaration close base StepKind.Return = refl
closing_is steps declaration close base (StepKind.Declaration end captured) = refl
closing_is steps declaration close base (StepKind.Test when target negated) = refl
closing_is steps declaration close base (StepKind.Jump target) = refl
closing_is steps declaration close base (StepKind.Close from None) = refl
closing_is steps declaration close base (StepKind.Close from (Some declared)) = if_and (declared == declaration) (nat_lt from base) (exit_behind close from (kind_at steps (close + 1)))
closing_is steps declaration close base (StepKind.Head numeric foot end variables_end captured) = refl
closing_is steps declaration close base (StepKind.Foot numeric target) = refl

break_is : (steps : List Step) (declaration n : ℕ) (step : Step) → slice_get steps n ≡ Some step → break_exit steps declaration n ≡ (if is_this (declared_of step.kind) declaration then exit_of steps n step.base step.kind else None)
break_is steps declaration n step is = ap (option_and_then (λ (s : Step). closing_exit steps declaration n s.base s.kind)) is ∙ closing_is steps declaration n step.base step.kind

pub span_more : (steps : List Step) (n : ℕ) (step : Step) → slice_get steps n ≡ Some step → (place : ℕ) →
    option_map (break_noted (declared_of step.kind) n (exit_of steps n step.base step.kind) place) (at_place steps (λ at. spans_where steps at n) place) ≡ at_place steps (λ at. spans_where steps at (n + 1)) place
span_more steps n step is = held_more steps (λ at. spans_where steps at n) (λ at. spans_where steps at (n + 1)) (break_noted (declared_of step.kind) n (exit_of steps n step.base step.kind))
    (λ at.
    ap (λ xs. spans_where steps at n ++ xs) (cases (is_this (declared_of step.kind) at) (exit_of steps n step.base step.kind) ∙ ap (span_of n) (sym (break_is steps at n step is)))
    ∙ ap (spans_where steps at) (sym (add-one n)))
  where
    cases : (b : Bool) (exit : Option Exit) → (if b then span_of n exit else []) ≡ span_of n (if b then exit else None)
    cases true exit = refl
    cases false exit = refl

pub spans_next : (steps : List Step) (n : ℕ) (step : Step) (old new : List (List Span)) → n < length steps → slice_get steps n ≡ Some step → ((place : ℕ) → slice_get old place ≡ at_place steps (λ at. spans_where steps at n) place)
    → ((place : ℕ) → slice_get new place ≡ option_map (break_noted (declared_of step.kind) n (exit_of steps n step.base step.kind) place) (slice_get old place))
    → (place : ℕ) → slice_get new place ≡ at_place steps (λ at. spans_where steps at (n + 1)) place
spans_next steps n step old new fits is was more place =
    more place ∙ ap (option_map (break_noted (declared_of step.kind) n (exit_of steps n step.base step.kind) place)) (was place) ∙ span_more steps n step is place

-- ---- whether one is of another loop

any_joined : (test : Span → Bool) (xs ys : List Span) → list_any test (xs ++ ys) ≡ (list_any test ys || list_any test xs)
any_joined test [] ys = or_false (list_any test ys)
  where
    or_false : (b : Bool) → b ≡ (b || false)
    or_false true = refl
    or_false false = refl
any_joined test (x ∷ xs) ys = ap (λ b. test x || b) (any_joined test xs ys) ∙ swapped (test x) (list_any test ys) (list_any test xs)
  where
    swapped : (a b c : Bool) → (a || (b || c)) ≡ (b || (a || c))
    swapped true true c = refl
    swapped true false c = refl
    swapped false b c = refl

none_other : (steps : List Step) (at : BodyAt) (declaration : ℕ) → NoneFrom (λ close. is_other at.exit (break_exit steps declaration close)) (length steps)
none_other steps at declaration n past =
    ap (λ o. is_other at.exit (option_and_then (λ (step : Step). closing_exit steps declaration n step.base step.kind) o)) (slice_get_past steps n past) ∙ no_exit at.exit
  where
    no_exit : (exit : Option Exit) → is_other exit None ≡ false
    no_exit None = refl
    no_exit (Some exit) = refl

one_other : (at : BodyAt) (n : ℕ) (exit : Option Exit) → n < at.to → list_any (is_of_other at) (span_of n exit) ≡ (true && is_other at.exit exit)
one_other at n None within = no_exit at.exit
  where
    no_exit : (exit : Option Exit) → false ≡ (true && is_other exit None)
    no_exit None = refl
    no_exit (Some exit) = refl
one_other at n (Some exit) within =
    ap (λ b. (b && is_other at.exit (Some exit)) || false) (inside n at.to within) ∙ or_false (is_other at.exit (Some exit))
  where
    inside : (m to : ℕ) → m < to → nat_lt m to ≡ true
    inside m to less = grind (arith, nat_tests)

    or_false : (b : Bool) → ((true && b) || false) ≡ (true && b)
    or_false true = refl
    or_false false = refl

one_past : (at : BodyAt) (n : ℕ) (exit : Option Exit) → at.to ≤ n → list_any (is_of_other at) (span_of n exit) ≡ false
one_past at n None past = refl
one_past at n (Some exit) past = ap (λ b. (b && is_other at.exit (Some exit)) || false) (outside n at.to past)
  where
    outside : (m to : ℕ) → to ≤ m → nat_lt m to ≡ false
    outside m to less = grind (arith, nat_tests)

module _ (steps : List Step) (at : BodyAt) (declaration : ℕ) where
  abbrev others : ℕ → Bool
  others close = is_other at.exit (break_exit steps declaration close)

  from_zero : (n : ℕ) → nat_le 0 n ≡ true
  from_zero n = grind (arith, nat_tests)

  all_within : (count : ℕ) → count ≤ at.to → list_any (is_of_other at) (spans_where steps declaration count) ≡ any_between others 0 count
  all_within zero within = refl
  all_within (suc n) within =
      any_joined (is_of_other at) (spans_where steps declaration n) (span_of n (break_exit steps declaration n))
      ∙ ap (λ b. b || list_any (is_of_other at) (spans_where steps declaration n)) (one_other at n (break_exit steps declaration n) (omega arith) ∙ ap (λ b. b && others n) (sym (from_zero n)))
      ∙ ap (λ b. (nat_le 0 n && others n) || b) (all_within n (omega arith))

  some_within : (count : ℕ) → at.to ≤ count → list_any (is_of_other at) (spans_where steps declaration count) ≡ any_between others 0 at.to
  some_within zero past = let same : at.to ≡ 0 = omega arith in ap (any_between others 0) (sym same)
  some_within (suc n) past = ⊎_elim
      (λ h.
      any_joined (is_of_other at) (spans_where steps declaration n) (span_of n (break_exit steps declaration n))
      ∙ ap (λ b. b || list_any (is_of_other at) (spans_where steps declaration n)) (one_past at n (break_exit steps declaration n) h.1)
      ∙ some_within n h.1)
      (λ h. let same : suc n ≡ at.to = omega (arith, h.1) in all_within (suc n) (omega (arith, same)) ∙ ap (any_between others 0) same)
      (leb_tells at.to n)

  pub closed_is : list_any (is_of_other at) (unwrap_or (at_place steps (all_spans steps) declaration) []) ≡ is_closed steps at declaration
  closed_is = ⊎_elim
      (λ h.
      ap (λ o. list_any (is_of_other at) (unwrap_or o [])) (held_at steps (all_spans steps) declaration h.1)
      ∙ ⊎_elim
      (λ g. some_within (length steps) g.1)
      (λ g. all_within (length steps) (omega (arith, g.1)) ∙ sym (between_past others 0 (length steps) at.to (none_other steps at declaration) (omega (arith, g.1))))
      (leb_tells at.to (length steps))
      ∙ ap (λ b. b && any_between others 0 at.to) (sym h.0))
      (λ h.
      ap (λ o. list_any (is_of_other at) (unwrap_or o [])) (held_past steps (all_spans steps) declaration h.1)
      ∙ ap (λ b. b && any_between others 0 at.to) (sym h.0))
      (leb_tells declaration (length steps))
