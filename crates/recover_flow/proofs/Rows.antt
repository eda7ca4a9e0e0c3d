-- Tables by the numbers of steps: how they are made, and what stands in them.
use Rattle.std.proofs.Common.{◌≡◌, refl, sym, ap, subst, ◌∙◌, ⊎_elim, ℕ, zero, suc, ◌+◌, ◌<◌, ◌≤◌, ◌≢◌, Bool, true, false, ◌&&◌, ◌==◌, nat_le, nat_lt, List, [], ◌∷◌, ◌++◌, length, map, replicate, get_or, slice_get, slice_set, Option, None, Some, arith, if◌then◌else◌, append-nil, option_map}
use Rattle.std.specs.Prelude.{option_and_then, unwrap_or}
use Rattle.std.proofs.lemmas.Bool.Decides.{leb_tells, eqb_tells, nat_tests}
use Rattle.std.proofs.lemmas.Option.{slice_get_past}
use Rattle.recover_expr.specs.declared.steps.Step.{Step}
use Rattle.recover_flow.specs.Asked.{any_between, ends_captured, ends_there, goes_ahead, goes_back, is_reached, is_test, is_this, is_unit, jump_of, kind_at, target_at, target_of}
use Rattle.recover_flow.specs.Tabled.{AreAll, NoneFrom, all_ahead, all_back, at_place, held_there, is_from, last_captured, last_ending, noted}
use Rattle.recover_flow.proofs.Numbers.{at_true, at_false, between_last, none_passes}

-- ---- past the last step

pub no_kind : (steps : List Step) (n : ℕ) → length steps ≤ n → kind_at steps n ≡ None
no_kind steps n past = ap (option_map (λ (step : Step). step.kind)) (slice_get_past steps n past)

pub no_tests : (steps : List Step) → NoneFrom (λ n. is_test (kind_at steps n)) (length steps)
no_tests steps n past = ap is_test (no_kind steps n past)

pub no_units : (steps : List Step) → NoneFrom (λ n. is_unit (kind_at steps n)) (length steps)
no_units steps n past = ap is_unit (no_kind steps n past)

and_false : (b : Bool) → (b && false) ≡ false
and_false true = refl
and_false false = refl

none_back : (steps : List Step) (place n : ℕ) → length steps ≤ n → goes_back steps place n ≡ false
none_back steps place n past = ap (λ k. nat_le place n && is_this (option_and_then target_of k) place) (no_kind steps n past) ∙ and_false (nat_le place n)

none_ahead : (steps : List Step) (place n : ℕ) → length steps ≤ n → goes_ahead steps place n ≡ false
none_ahead steps place n past = ap (λ k. nat_lt n place && is_this (option_and_then jump_of k) place) (no_kind steps n past) ∙ and_false (nat_lt n place)

none_back_there : (steps : List Step) (place n : ℕ) → length steps < place → goes_back steps place n ≡ false
none_back_there steps place n past = ⊎_elim
    (λ h. none_back steps place n (omega (arith, h.1)))
    (λ h. ap (λ b. b && is_this (target_at steps n) place) h.0)
    (leb_tells place n)

-- ---- what stands in a table

module _ {X : Type 0} (steps : List Step) (held : ℕ → X) where
  pub held_at : (place : ℕ) → place ≤ length steps → at_place steps held place ≡ Some (held place)
  held_at place within = ⊎_elim
      (λ h. at_true (nat_le place (length steps)) (Some (held place)) None h.0)
      (λ h. absurd (omega (arith, h.1)))
      (leb_tells place (length steps))

  pub held_past : (place : ℕ) → length steps < place → at_place steps held place ≡ None
  held_past place past = ⊎_elim
      (λ h. absurd (omega (arith, h.1)))
      (λ h. at_false (nat_le place (length steps)) (Some (held place)) None h.0)
      (leb_tells place (length steps))

pub back_all : (steps : List Step) (place : ℕ) → AreAll (unwrap_or (at_place steps (all_back steps) place) []) (goes_back steps place)
back_all steps place = ⊎_elim
    (λ h. record {
      count = length steps;
      none = λ n past. none_back steps place n past;
      are = ap (λ o. unwrap_or o []) (held_at steps (all_back steps) place h.1);
    })
    (λ h. record {
      count = 0;
      none = λ n past. none_back_there steps place n h.1;
      are = ap (λ o. unwrap_or o []) (held_past steps (all_back steps) place h.1);
    })
    (leb_tells place (length steps))

nothing_between : (from to : ℕ) → any_between (λ n. false) from to ≡ false
nothing_between from zero = refl
nothing_between from (suc n) = none_passes (λ n. false) from n refl ∙ nothing_between from n

pub reached_is : (steps : List Step) (place from to : ℕ) (numbers : List ℕ) (result : Bool) → numbers ≡ unwrap_or (at_place steps (all_ahead steps) place) []
    → ((holds : ℕ → Bool) → AreAll numbers holds → result ≡ any_between holds from to) → result ≡ is_reached steps place from to
reached_is steps place from to numbers result are answers = ⊎_elim
    (λ h.
    let all : AreAll numbers (goes_ahead steps place) = record {
      count = length steps;
      none = λ n past. none_ahead steps place n past;
      are = are ∙ ap (λ o. unwrap_or o []) (held_at steps (all_ahead steps) place h.1);
    } in
    answers (goes_ahead steps place) all ∙ ap (λ b. b && any_between (goes_ahead steps place) from to) (sym h.0))
    (λ h.
    let all : AreAll numbers (λ n. false) = record {
      count = 0;
      none = λ n past. refl;
      are = are ∙ ap (λ o. unwrap_or o []) (held_past steps (all_ahead steps) place h.1);
    } in
    answers (λ n. false) all ∙ nothing_between from to ∙ ap (λ b. b && any_between (goes_ahead steps place) from to) (sym h.0))
    (leb_tells place (length steps))

pub captured_is : (steps : List Step) (end from : ℕ) → is_from from (last_captured steps end) ≡ ends_captured steps end from
captured_is steps end from =
    let holds = λ (n : ℕ). ends_there end (kind_at steps n) in
    ⊎_elim
    (λ h. ap (λ o. is_from from (held_there o)) (held_at steps (last_ending steps) end h.1) ∙ sym (between_last holds from (length steps)) ∙ ap (λ b. b && any_between holds from (length steps)) (sym h.0))
    (λ h. ap (λ o. is_from from (held_there o)) (held_past steps (last_ending steps) end h.1) ∙ ap (λ b. b && any_between holds from (length steps)) (sym h.0))
    (leb_tells end (length steps))

-- ---- empty ones

get_replicate : {X : Type 0} (x : X) (count n : ℕ) → slice_get (replicate count x) n ≡ (if nat_lt n count then Some x else None)
get_replicate x zero n = sym (at_false (nat_lt n 0) (Some x) None (grind (arith, nat_tests)))
get_replicate x (suc count) zero = sym (at_true (nat_lt 0 (suc count)) (Some x) None (grind (arith, nat_tests)))
get_replicate x (suc count) (suc n) = get_replicate x count n ∙ ap (λ b. if b then Some x else None) (grind (arith, nat_tests))

pub none_noted : {X : Type 0} (steps : List Step) (x : X) (place : ℕ) → slice_get (replicate (length steps + 1) x) place ≡ at_place steps (λ at. x) place
none_noted steps x place = get_replicate x (length steps + 1) place ∙ ap (λ b. if b then Some x else None) (grind (arith, nat_tests))

-- ---- one more is noted

set_there : {X : Type 0} (xs : List X) (n : ℕ) (x : X) → n < length xs → slice_get (slice_set xs n x) n ≡ Some x
set_there [] n x fits = absurd (omega arith)
set_there (y ∷ xs) zero x fits = refl
set_there (y ∷ xs) (suc n) x fits = set_there xs n x (omega arith)

set_elsewhere : {X : Type 0} (xs : List X) (n k : ℕ) (x : X) → n ≢ k → slice_get (slice_set xs n x) k ≡ slice_get xs k
set_elsewhere [] n k x other = refl
set_elsewhere (y ∷ xs) zero zero x other = absurd (other refl)
set_elsewhere (y ∷ xs) zero (suc k) x other = refl
set_elsewhere (y ∷ xs) (suc n) zero x other = refl
set_elsewhere (y ∷ xs) (suc n) (suc k) x other = set_elsewhere xs n k x (λ same. other (ap suc same))

set_get : {X : Type 0} (xs : List X) (n k : ℕ) (x : X) → n < length xs → slice_get (slice_set xs n x) k ≡ (if n == k then Some x else slice_get xs k)
set_get xs n k x fits = ⊎_elim
    (λ h. ap (slice_get (slice_set xs n x)) (sym h.1) ∙ set_there xs n x fits ∙ sym (at_true (n == k) (Some x) (slice_get xs k) h.0))
    (λ h. set_elsewhere xs n k x h.1 ∙ sym (at_false (n == k) (Some x) (slice_get xs k) h.0))
    (eqb_tells n k)

map_set : {V Y : Type 0} (f : V → Y) (xs : List V) (n : ℕ) (x : V) → map f (slice_set xs n x) ≡ slice_set (map f xs) n (f x)
map_set f [] n x = refl
map_set f (y ∷ xs) zero x = refl
map_set f (y ∷ xs) (suc n) x = ap (λ ys. f y ∷ ys) (map_set f xs n x)

get_there : {V Y : Type 0} (f : V → Y) (xs : List V) (n : ℕ) (x : V) → n < length xs → x ≡ get_or xs n x → slice_get (map f xs) n ≡ Some (f x)
get_there f [] n x fits is = absurd (omega arith)
get_there f (y ∷ xs) zero x fits is = ap (λ z. Some (f z)) (sym is)
get_there f (y ∷ xs) (suc n) x fits is = get_there f xs n x (omega arith) is

length_map : {V Y : Type 0} (f : V → Y) (xs : List V) → length (map f xs) ≡ length xs
length_map f [] = refl
length_map f (x ∷ xs) = ap suc (length_map f xs)

module _ {X : Type 0} (item : X) where
  noted_where : (place at : ℕ) (row : List X) (old : Option (List X)) → (place ≡ at → old ≡ Some row) → (if place == at then Some (row ++ item ∷ []) else old) ≡ option_map (noted (Some place) item at) old
  noted_where place at row old same = ⊎_elim
      (λ h.
      at_true (place == at) (Some (row ++ item ∷ [])) old h.0
      ∙ ap (λ b. Some (row ++ (if b then item ∷ [] else []))) (sym h.0)
      ∙ ap (option_map (noted (Some place) item at)) (sym (same h.1)))
      (λ h. at_false (place == at) (Some (row ++ item ∷ [])) old h.0 ∙ unnoted old h.0)
      (eqb_tells place at)
    where
      unnoted : (o : Option (List X)) → (place == at) ≡ false → o ≡ option_map (noted (Some place) item at) o
      unnoted None other = refl
      unnoted (Some row) other = ap Some (sym (append-nil row) ∙ ap (λ b. row ++ (if b then item ∷ [] else [])) (sym other))

  -- a row is longer
  pub row_noted : {V : Type 0} (items : V → List X) (rows : List V) (to : Option ℕ) (place : ℕ) (old new : V) → to ≡ Some place → place < length rows → old ≡ get_or rows place old → items new ≡ items old ++ item ∷ []
      → (at : ℕ) → slice_get (map items (slice_set rows place new)) at ≡ option_map (noted to item at) (slice_get (map items rows) at)
  row_noted items rows to place old new there fits was is at =
      ap (λ xs. slice_get xs at) (map_set items rows place new)
      ∙ set_get (map items rows) place at (items new) (omega (arith, length_map items rows))
      ∙ ap (λ xs. if place == at then Some xs else slice_get (map items rows) at) is
      ∙ noted_where place at (items old) (slice_get (map items rows) at) (λ same. subst (λ n. slice_get (map items rows) n ≡ Some (items old)) same (get_there items rows place old fits was))
      ∙ ap (λ o. option_map (noted o item at) (slice_get (map items rows) at)) (sym there)

  -- there is no such row
  pub row_missing : {V : Type 0} (items : V → List X) (rows : List V) (to : Option ℕ) (place : ℕ) → to ≡ Some place → length rows ≤ place → (at : ℕ) → slice_get (map items rows) at ≡ option_map (noted to item at) (slice_get (map items rows) at)
  row_missing items rows to place there past at = ⊎_elim
      (λ h.
      let none = slice_get_past (map items rows) at (omega (arith, length_map items rows, h.1)) in
      none ∙ ap (option_map (noted (Some place) item at)) (sym none))
      (λ h. sym (at_false (place == at) (Some ([] ++ item ∷ [])) (slice_get (map items rows) at) h.0) ∙ noted_where place at [] (slice_get (map items rows) at) (λ same. absurd (h.1 same)))
      (eqb_tells place at)
      ∙ ap (λ o. option_map (noted o item at) (slice_get (map items rows) at)) (sym there)

-- ---- what is noted of one more step

-- what stood in a table of the steps below one stands there with it
module _ {X : Type 0} (steps : List Step) (old new : ℕ → X) (change : (place : ℕ) → X → X) where
  pub held_more : ((place : ℕ) → change place (old place) ≡ new place) → (place : ℕ) → option_map (change place) (at_place steps old place) ≡ at_place steps new place
  held_more more place = cases (nat_le place (length steps))
    where
      cases : (b : Bool) → option_map (change place) (if b then Some (old place) else None) ≡ (if b then Some (new place) else None)
      cases true = ap Some (more place)
      cases false = refl
