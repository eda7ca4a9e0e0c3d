-- Numbers that pass a test, side by side.
use Rattle.std.proofs.Common.{◌≡◌, refl, sym, ap, ◌∙◌, ⊎_elim, ℕ, zero, suc, ◌+◌, ◌-◌, ◌<◌, ◌≤◌, max, min, Bool, true, false, List, [], ◌∷◌, ◌++◌, length, reverse, get_or, slice_get, Some, arith, add-one, option_map, if◌then◌else◌}
use Rattle.std.specs.Prelude.{unwrap_or}
use Rattle.std.proofs.lemmas.Bool.Decides.{leb_tells}
use Rattle.recover_flow.specs.Asked.{kind_at, run_before, run_behind}
use Rattle.std.proofs.lemmas.List.{length_push, reverse-append}
use Rattle.std.proofs.lemmas.Option.{slice_get-get_or, slice_get_past}
use Rattle.recover_expr.specs.declared.steps.Step.{Step}
use Rattle.recover_flow.specs.declared.tables.Run.{Run}
use Rattle.recover_flow.specs.declared.tables.Runs.{Runs}
use Rattle.recover_flow.specs.Tabled.{AreRuns, NoneFrom, at_place, ends_from, is_run, run_end, run_start, starts_to}
use Rattle.recover_flow.proofs.Numbers.{at_true, at_false, by_test, get_before, get_pushed}
use Rattle.recover_flow.proofs.Rows.{held_at, held_past}

-- ---- before a place

pub start_within : (holds : ℕ → Bool) (place : ℕ) → run_start holds place ≤ place
start_within holds zero = omega arith
start_within holds (suc n) = by_test (holds n)
    (λ passes. omega (arith, at_true (holds n) (run_start holds n) (suc n) passes, start_within holds n))
    (λ fails. omega (arith, at_false (holds n) (run_start holds n) (suc n) fails))

pub run_before_is : (holds : ℕ → Bool) (to most : ℕ) → run_before holds to most ≡ min most (to - run_start holds to)
run_before_is holds zero zero = omega arith
run_before_is holds zero (suc most) = omega arith
run_before_is holds (suc n) zero = omega arith
run_before_is holds (suc n) (suc most) = by_test (holds n)
    (λ passes. at_true (holds n) (suc (run_before holds n most)) 0 passes ∙ omega (arith, run_before_is holds n most, start_within holds n, at_true (holds n) (run_start holds n) (suc n) passes))
    (λ fails. at_false (holds n) (suc (run_before holds n most)) 0 fails ∙ omega (arith, at_false (holds n) (run_start holds n) (suc n) fails))

pub none_runs_before : (holds : ℕ → Bool) (count to most : ℕ) → NoneFrom holds count → count < to → run_before holds to most ≡ 0
none_runs_before holds count zero most none past = absurd (omega arith)
none_runs_before holds count (suc n) zero none past = refl
none_runs_before holds count (suc n) (suc most) none past = at_false (holds n) (suc (run_before holds n most)) 0 (none n (omega arith))

-- ---- behind a place

pub run_end_is : (holds : ℕ → Bool) (place most : ℕ) → run_end holds place most ≡ place + run_behind holds place most
run_end_is holds place zero = omega arith
run_end_is holds place (suc n) = by_test (holds place)
    (λ passes. at_true (holds place) (run_end holds (place + 1) n) place passes ∙ omega (arith, run_end_is holds (place + 1) n, at_true (holds place) (suc (run_behind holds (place + 1) n)) 0 passes))
    (λ fails. at_false (holds place) (run_end holds (place + 1) n) place fails ∙ omega (arith, at_false (holds place) (suc (run_behind holds (place + 1) n)) 0 fails))

none_stands : (holds : ℕ → Bool) (place most : ℕ) → holds place ≡ false → run_behind holds place most ≡ 0
none_stands holds place zero fails = refl
none_stands holds place (suc n) fails = at_false (holds place) (suc (run_behind holds (place + 1) n)) 0 fails

pub none_runs_behind : (holds : ℕ → Bool) (count place most : ℕ) → NoneFrom holds count → count ≤ place → run_behind holds place most ≡ 0
none_runs_behind holds count place most none past = none_stands holds place most (none place past)

one_stands : (holds : ℕ → Bool) (place most : ℕ) → 0 < most → holds place ≡ true → run_behind holds place most ≡ suc (run_behind holds (place + 1) (most - 1))
one_stands holds place zero some passes = absurd (omega arith)
one_stands holds place (suc n) some passes =
    let same : n ≡ suc n - 1 = omega arith in
    at_true (holds place) (suc (run_behind holds (place + 1) n)) 0 passes ∙ ap (λ k. suc (run_behind holds (place + 1) k)) same

pub run_behind_is : (holds : ℕ → Bool) (count place most : ℕ) → NoneFrom holds count → run_behind holds place most ≡ min most (run_behind holds place (count - place))
run_behind_is holds count place zero none = omega arith
run_behind_is holds count place (suc most) none = by_test (holds place)
    (λ passes. ⊎_elim
    (λ h. absurd (contradicts passes (none place h.1)))
    (λ h.
    let rest = run_behind_is holds count (place + 1) most none in
    let fewer : count - place - 1 ≡ count - (place + 1) = omega arith in
    let first = one_stands holds place (count - place) (omega (arith, h.1)) passes ∙ ap (λ k. suc (run_behind holds (place + 1) k)) fewer in
    at_true (holds place) (suc (run_behind holds (place + 1) most)) 0 passes ∙ omega (arith, rest, first))
    (leb_tells count place))
    (λ fails. none_stands holds place (suc most) fails ∙ omega (arith, none_stands holds place (count - place) fails))
  where
    contradicts : {b : Bool} → b ≡ true → b ≡ false → ⊥
    contradicts passes fails = cc

-- ---- tables of them

pub before_is : (steps : List Step) (holds : ℕ → Bool) (runs : Runs) (from to start : ℕ) → AreRuns steps holds runs → NoneFrom holds (length steps) → start ≡ unwrap_or (slice_get runs.starts.items to) to
    → min (to - max start from) 100 ≡ run_before holds to (min 100 (to - from))
before_is steps holds runs from to start are none is = ⊎_elim
    (λ h.
    let begins = is ∙ ap (λ o. unwrap_or o to) (are.starts to ∙ held_at steps (run_start holds) to h.1) in
    omega (arith, begins, run_before_is holds to (min 100 (to - from))))
    (λ h.
    let begins = is ∙ ap (λ o. unwrap_or o to) (are.starts to ∙ held_past steps (run_start holds) to h.1) in
    omega (arith, begins, none_runs_before holds (length steps) to (min 100 (to - from)) none h.1))
    (leb_tells to (length steps))

pub behind_is : (steps : List Step) (holds : ℕ → Bool) (runs : Runs) (from to end : ℕ) → AreRuns steps holds runs → NoneFrom holds (length steps) → end ≡ unwrap_or (slice_get runs.ends.items from) from
    → min (min end to - from) 100 ≡ run_behind holds from (min 100 (to - from))
behind_is steps holds runs from to end are none is =
    let held = λ (at : ℕ). run_end holds at (length steps - at) in
    ⊎_elim
    (λ h.
    let ends = is ∙ ap (λ o. unwrap_or o from) (are.ends from ∙ held_at steps held from h.1) ∙ run_end_is holds from (length steps - from) in
    omega (arith, ends, run_behind_is holds (length steps) from (min 100 (to - from)) none))
    (λ h.
    let ends = is ∙ ap (λ o. unwrap_or o from) (are.ends from ∙ held_past steps held from h.1) in
    omega (arith, ends, none_runs_behind holds (length steps) from (min 100 (to - from)) none (omega (arith, h.1))))
    (leb_tells from (length steps))

length_starts : (holds : ℕ → Bool) (count : ℕ) → length (starts_to holds count) ≡ suc count
length_starts holds zero = refl
length_starts holds (suc n) = length_push (starts_to holds n) (run_start holds (suc n)) ∙ omega (arith, length_starts holds n)

start_there : (holds : ℕ → Bool) (count place : ℕ) → place ≤ count → slice_get (starts_to holds count) place ≡ Some (run_start holds place)
start_there holds zero place within = let same : place ≡ 0 = omega arith in ap (slice_get (0 ∷ [])) same ∙ ap (λ n. Some (run_start holds n)) (sym same)
start_there holds (suc n) place within = ⊎_elim
    (λ h. get_before (starts_to holds n) (run_start holds (suc n)) place (omega (arith, h.1, length_starts holds n)) ∙ start_there holds n place h.1)
    (λ h.
    let same : suc n ≡ place = omega (arith, h.1) in
    ap (slice_get (starts_to holds (suc n))) (sym same ∙ sym (length_starts holds n)) ∙ get_pushed (starts_to holds n) (run_start holds (suc n)) ∙ ap (λ k. Some (run_start holds k)) same)
    (leb_tells place n)

pub starts_are : (steps : List Step) (holds : ℕ → Bool) (place : ℕ) → slice_get (starts_to holds (length steps)) place ≡ at_place steps (run_start holds) place
starts_are steps holds place = ⊎_elim
    (λ h. start_there holds (length steps) place h.1 ∙ sym (held_at steps (run_start holds) place h.1))
    (λ h. slice_get_past (starts_to holds (length steps)) place (omega (arith, h.1, length_starts holds (length steps))) ∙ sym (held_past steps (run_start holds) place h.1))
    (leb_tells place (length steps))

end_there : (holds : ℕ → Bool) (place most k at left : ℕ) → k ≤ most → at ≡ place + k → left ≡ most - k → slice_get (ends_from holds place most) k ≡ Some (run_end holds at left)
end_there holds place zero zero at left within is less = ap (λ n. Some n) (omega arith) ∙ ap (λ n. Some (run_end holds at n)) (sym less)
end_there holds place zero (suc k) at left within is less = absurd (omega arith)
end_there holds place (suc n) zero at left within is less =
    let here : place ≡ at = omega arith in
    let whole : suc n ≡ left = omega arith in
    ap (λ p. Some (run_end holds p (suc n))) here ∙ ap (λ m. Some (run_end holds at m)) whole
end_there holds place (suc n) (suc k) at left within is less = end_there holds (place + 1) n k at left (omega arith) (omega arith) (omega arith)

length_ends : (holds : ℕ → Bool) (place most : ℕ) → length (ends_from holds place most) ≡ suc most
length_ends holds place zero = refl
length_ends holds place (suc n) = ap suc (length_ends holds (place + 1) n)

pub ends_are : (steps : List Step) (holds : ℕ → Bool) (place : ℕ) → slice_get (ends_from holds 0 (length steps)) place ≡ at_place steps (λ at. run_end holds at (length steps - at)) place
ends_are steps holds place = ⊎_elim
    (λ h. end_there holds 0 (length steps) place place (length steps - place) h.1 (omega arith) refl ∙ sym (held_at steps (λ at. run_end holds at (length steps - at)) place h.1))
    (λ h. slice_get_past (ends_from holds 0 (length steps)) place (omega (arith, h.1, length_ends holds 0 (length steps))) ∙ sym (held_past steps (λ at. run_end holds at (length steps - at)) place h.1))
    (leb_tells place (length steps))

-- ---- one more place

kind_there : (steps : List Step) (n : ℕ) (other : Step) → n < length steps → kind_at steps n ≡ Some (get_or steps n other).kind
kind_there steps n other fits = ap (option_map (λ (step : Step). step.kind)) (slice_get-get_or steps n other fits)

module _ (steps : List Step) (run : Run) where
  abbrev pub runs : ℕ → Bool
  runs place = is_run run (kind_at steps place)

  pub start_next : (n start next : ℕ) (other : Step) → n < length steps → start ≡ run_start runs n → next ≡ (if is_run run (Some (get_or steps n other).kind) then start else n + 1) → next ≡ run_start runs (n + 1)
  start_next n start next other fits was is =
      is ∙ ap (λ k. if is_run run k then start else n + 1) (sym (kind_there steps n other fits))
      ∙ ap (λ s. if runs n then s else n + 1) was ∙ ap (λ m. if runs n then run_start runs n else m) (add-one n) ∙ ap (run_start runs) (sym (add-one n))

  pub starts_next : (n next : ℕ) (all : List ℕ) → all ≡ starts_to runs n → next ≡ run_start runs (n + 1) → all ++ next ∷ [] ≡ starts_to runs (n + 1)
  starts_next n next all were is =
      ap (λ xs. xs ++ next ∷ []) were ∙ ap (λ s. starts_to runs n ++ s ∷ []) (is ∙ ap (run_start runs) (add-one n)) ∙ ap (starts_to runs) (sym (add-one n))

  pub end_next : (n end next : ℕ) (other : Step) → 0 < n → n ≤ length steps → end ≡ run_end runs n (length steps - n) → next ≡ (if is_run run (Some (get_or steps (n - 1) other).kind) then end else n - 1)
      → next ≡ run_end runs (n - 1) (length steps - (n - 1))
  end_next n end next other some within was is =
      let left : length steps - (n - 1) ≡ suc (length steps - n) = omega arith in
      let here : n ≡ n - 1 + 1 = omega arith in
      is ∙ ap (λ k. if is_run run k then end else n - 1) (sym (kind_there steps (n - 1) other (omega arith)))
      ∙ ap (λ e. if runs (n - 1) then e else n - 1) (was ∙ ap (λ m. run_end runs m (length steps - n)) here)
      ∙ ap (run_end runs (n - 1)) (sym left)

  pub ends_next : (n next : ℕ) (all : List ℕ) → 0 < n → n ≤ length steps → reverse all ≡ ends_from runs n (length steps - n) → next ≡ run_end runs (n - 1) (length steps - (n - 1))
      → reverse (all ++ next ∷ []) ≡ ends_from runs (n - 1) (length steps - (n - 1))
  ends_next n next all some within were is =
      let left : length steps - (n - 1) ≡ suc (length steps - n) = omega arith in
      let here : n ≡ n - 1 + 1 = omega arith in
      reverse-append all (next ∷ []) ∙ ap (λ xs. next ∷ xs) (were ∙ ap (λ m. ends_from runs m (length steps - n)) here)
      ∙ ap (λ e. e ∷ ends_from runs (n - 1 + 1) (length steps - n)) (is ∙ ap (run_end runs (n - 1)) left) ∙ ap (ends_from runs (n - 1)) (sym left)
