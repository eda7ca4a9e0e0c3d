-- A further arm that no test guards: the search lists no tests there, and finds the jump behind its block.
use Rattle.std.proofs.Common.{◌≡◌, ◌∙◌, ◌≤◌, ◌<◌, ◌+◌, ◌-◌, ◌⊎◌, inl, inr, refl, sym, ap, subst, ℕ, zero, suc, max, min, Bool, true, false, List, [], ◌∷◌, ◌++◌, reverse, Option, None, Some, arith}
use Rattle.std.specs.Prelude.{◌==◌, ◌&&◌, nat_le, nat_lt, option_map, option_and_then, option_to_list, if◌then◌else◌}
use Rattle.std.proofs.lemmas.Bool.{and_parts, false≢true}
use Rattle.std.proofs.lemmas.List.{reverse-append}
use Rattle.std.proofs.lemmas.Option.{none-some, same_Some}
use Rattle.recover_expr.specs.declared.steps.Step.{Step}
use Rattle.recover_expr.specs.declared.steps.StepKind.{StepKind}
use Rattle.recover_flow.specs.Arms.{for_target, goes_within, is_wanted, last_begin, nothing_seen, seen_with, tested_ways, tests_at, tests_from, tests_there, tests_to, way_before, way_last, ways_behind, with_target}
use Rattle.recover_flow.specs.Asked.{is_test, is_this, jump_of, jumps_to, kind_at, lengths_after, run_behind, target_at, target_of}
use Rattle.recover_flow.specs.declared.branches.Seen.{Seen}
use Rattle.recover_flow.specs.declared.branches.Targets.{Targets}
use Rattle.recover_flow.specs.declared.branches.Tests.{Tests}
use Rattle.recover_flow.specs.declared.branches.Way.{Way}
use Rattle.recover_flow.specs.declared.regions.BranchesAt.{BranchesAt}
use Rattle.recover_flow.specs.declared.regions.Exit.{Exit}
use Rattle.recover_flow.specs.declared.regions.Piece.{Piece}
use Rattle.recover_flow.proofs.FlowParts.{target_is}
use Rattle.recover_flow.proofs.FormsLie.{below, same_numbers}
use Rattle.recover_flow.proofs.LogicCut.{Hits, Never}
use Rattle.recover_flow.proofs.LyingParts.{FollowOn}
use Rattle.recover_flow.proofs.PartsInside.{AllIn, BreaksAt, In, Owns, kind_there, order}
use Rattle.recover_flow.proofs.StepsFound.{if_false, if_true}

-- so many side by side end before one that fails
run_stops : (holds : ℕ → Bool) (most from last : ℕ) → from ≤ last → holds last ≡ false → from + run_behind holds from most ≤ last
run_stops holds zero from last low none = omega (arith, low)
run_stops holds (suc most) from last low none = by (order from last) (holds from) refl (λ past. run_stops holds most (from + 1) last (omega (arith, past)) none)
  where
    by : (from < last) ⊎ (last ≤ from) → (b : Bool) → holds from ≡ b → (from < last → from + 1 + run_behind holds (from + 1) most ≤ last) → from + run_behind holds from (suc most) ≤ last
    by (inl past) true is rest = let less = rest past in subst (λ n. from + n ≤ last) (sym (if_true (holds from) (suc (run_behind holds (from + 1) most)) 0 is)) (omega (arith, less))
    by at false is rest = subst (λ n. from + n ≤ last) (sym (if_false (holds from) (suc (run_behind holds (from + 1) most)) 0 is)) (omega (arith, low))
    by (inr here) true is rest = let same : last ≡ from = omega (arith, here, low) in absurd (false≢true (sym none ∙ ap holds same ∙ is))

run_holds : (holds : ℕ → Bool) (most from : ℕ) → (n : ℕ) → from ≤ n → n < from + run_behind holds from most → holds n ≡ true
run_holds holds zero from n low high = absurd (omega (arith, low, high))
run_holds holds (suc most) from n low high = by (holds from) refl (order from n) (λ past less. run_holds holds most (from + 1) n past less)
  where
    by : (b : Bool) → holds from ≡ b → (from < n) ⊎ (n ≤ from) → (from + 1 ≤ n → n < from + 1 + run_behind holds (from + 1) most → holds n ≡ true) → holds n ≡ true
    by false is at rest = let more = subst (λ k. n < from + k) (if_false (holds from) (suc (run_behind holds (from + 1) most)) 0 is) high in absurd (omega (arith, more, low))
    by true is (inr here) rest = let same : from ≡ n = omega (arith, here, low) in subst (λ k. holds k ≡ true) same is
    by true is (inl past) rest = let more = subst (λ k. n < from + k) (if_true (holds from) (suc (run_behind holds (from + 1) most)) 0 is) high in rest (omega (arith, past)) (omega (arith, more))

-- tests that end within a part and go to no place behind it
abbrev pub AllStay : (from last : ℕ) → List Tests → Type 0
AllStay from last [] = Unit {0}
AllStay from last (one ∷ tests) = (from ≤ one.end) × (one.end ≤ last) × (one.target ≤ last) × AllStay from last tests

stay_joined : (from last : ℕ) (xs ys : List Tests) → AllStay from last xs → AllStay from last ys → AllStay from last (xs ++ ys)
stay_joined from last [] ys one two = two
stay_joined from last (x ∷ xs) ys one two = (one.0, one.1, one.2, stay_joined from last xs ys one.3 two)

stay_reversed : (from last : ℕ) (xs : List Tests) → AllStay from last xs → AllStay from last (reverse xs)
stay_reversed from last [] all = tt
stay_reversed from last (x ∷ xs) all = subst (AllStay from last) (sym (reverse-append (x ∷ []) xs)) (stay_joined from last (reverse xs) (x ∷ []) (stay_reversed from last xs all.3) (all.0, all.1, all.2, tt))

with_low : (goes last : ℕ) (targets : Targets) → goes ≤ last → targets.furthest ≤ last → (with_target goes targets).furthest ≤ last
with_low goes last targets low high = by (nat_lt targets.furthest goes) (nat_lt goes targets.furthest)
  where
    by : (b c : Bool)
        → (if b then record { furthest = goes; second = targets.furthest } else if c then record { furthest = targets.furthest; second = max targets.second goes } else targets).furthest ≤ last
    by true c = low
    by false true = high
    by false false = high

jump_target : (kind : Option StepKind) (target : ℕ) → is_this (option_and_then jump_of kind) target ≡ true → option_and_then target_of kind ≡ Some target
jump_target None target is = absurd (false≢true is)
jump_target (Some StepKind.Act) target is = absurd (false≢true is)
jump_target (Some StepKind.Return) target is = absurd (false≢true is)
jump_target (Some (StepKind.Declaration end captured)) target is = absurd (false≢true is)
jump_target (Some (StepKind.Test when to negated)) target is = absurd (false≢true is)
jump_target (Some (StepKind.Jump to)) target is = ap Some (same_numbers to target is)
jump_target (Some (StepKind.Close from declared)) target is = absurd (false≢true is)
jump_target (Some (StepKind.Head numeric foot end variables_end captured)) target is = absurd (false≢true is)
jump_target (Some (StepKind.Foot numeric to)) target is = absurd (false≢true is)

module _ (steps : List Step) where
  pub no_jump : (from last target : ℕ) → Never steps from last target → (place : ℕ) → from ≤ place → place < last → jumps_to steps place target ≡ true → ⊥
  no_jump from last target never place least most is = never place least most (jump_target (kind_at steps place) target is)

  -- the test of a part that lies inside goes to no place behind it
  pub test_stays : (owns : Owns) (exit : Option Exit) (first from last : ℕ) → AllIn steps owns exit first last from last from last → (place goes : ℕ) → from ≤ place → place < last
      → is_test (kind_at steps place) ≡ true → target_at steps place ≡ Some goes → goes ≤ last
  test_stays owns exit first from last inside place goes least most test there =
      let found = target_is steps place goes there in
      by found.0.base found.0.kind (ap is_test (sym (kind_there steps place found.0 found.1)) ∙ test) found.2 (inside place found.0 least most found.1)
    where
      by : (base : ℕ) (kind : StepKind) → is_test (Some kind) ≡ true → target_of kind ≡ Some goes → In steps owns exit first last from last place base kind → goes ≤ last
      by base (StepKind.Test when target negated) test is within = let same = same_Some target goes is in let less = within.1 in omega (arith, same, less)
      by base StepKind.Act test is within = absurd (false≢true test)
      by base StepKind.Return test is within = absurd (false≢true test)
      by base (StepKind.Declaration end captured) test is within = absurd (false≢true test)
      by base (StepKind.Jump target) test is within = absurd (false≢true test)
      by base (StepKind.Close close declared) test is within = absurd (false≢true test)
      by base (StepKind.Head numeric foot end variables_end captured) test is within = absurd (false≢true test)
      by base (StepKind.Foot numeric target) test is within = absurd (false≢true test)

  -- a step of such a part that goes behind it is a break
  pub hit_breaks : (owns : Owns) (exit : Option Exit) (first from last target : ℕ) → AllIn steps owns exit first last from last from last → last < target → Hits steps from last target
      → (e : Exit) × (exit ≡ Some e) × (e.place ≡ target)
  hit_breaks owns exit first from last target inside past hit =
      let found = target_is steps hit.place target hit.there in
      by found.0.base found.0.kind found.2 (inside hit.place found.0 hit.least hit.most found.1)
    where
      of_exit : (exit : Option Exit) (to : ℕ) → to ≡ target → BreaksAt steps exit from last hit.place to → (e : Exit) × (exit ≡ Some e) × (e.place ≡ target)
      of_exit None to same breaks = absurd breaks
      of_exit (Some e) to same breaks = (e, refl, sym breaks.0 ∙ same)

      by : (base : ℕ) (kind : StepKind) → target_of kind ≡ Some target → In steps owns exit first last from last hit.place base kind → (e : Exit) × (exit ≡ Some e) × (e.place ≡ target)
      by base (StepKind.Test when to negated) is within = let same = same_Some to target is in let less = within.1 in absurd (omega (arith, same, less, past))
      by base StepKind.Act is within = absurd (none-some target is)
      by base StepKind.Return is within = absurd (none-some target is)
      by base (StepKind.Declaration end captured) is within = absurd (none-some target is)
      by base (StepKind.Jump to) is within = leave (same_Some to target is) within.1
        where
          leave : to ≡ target → (to ≤ last) ⊎ BreaksAt steps exit from last hit.place to → (e : Exit) × (exit ≡ Some e) × (e.place ≡ target)
          leave same (inl less) = absurd (omega (arith, same, less, past))
          leave same (inr breaks) = of_exit exit to same breaks
      by base (StepKind.Close close declared) is within = absurd (none-some target is)
      by base (StepKind.Head numeric foot end variables_end captured) is within = absurd (none-some target is)
      by base (StepKind.Foot numeric to) is within = absurd (none-some target is)

  -- a step of a part goes to a place, or none does
  pub hit_or_never : (count from target : ℕ) → Hits steps from (from + count) target ⊎ Never steps from (from + count) target
  hit_or_never zero from target = inr (λ place least most there. absurd (omega (arith, least, most)))
  hit_or_never (suc count) from target = by (hit_or_never count from target) (target_at steps (from + count)) refl
    where
      later : Never steps from (from + count) target → (target_at steps (from + count) ≡ Some target → ⊥) → Never steps from (from + suc count) target
      later never last place least most there = at (order place (from + count))
        where
          at : (place < from + count) ⊎ (from + count ≤ place) → ⊥
          at (inl inside) = never place least inside there
          at (inr here) = let same : place ≡ from + count = omega (arith, here, most) in last (subst (λ n. target_at steps n ≡ Some target) same there)

      by : Hits steps from (from + count) target ⊎ Never steps from (from + count) target → (found : Option ℕ) → target_at steps (from + count) ≡ found
          → Hits steps from (from + suc count) target ⊎ Never steps from (from + suc count) target
      by (inl hit) found is = let most = hit.most in inl (record { place = hit.place; least = hit.least; most = omega (arith, most); there = hit.there })
      by (inr never) None is = inr (later never (λ there. none-some target (sym is ∙ there)))
      by (inr never) (Some goes) is = at (order goes target) (order target goes)
        where
          at : (goes < target) ⊎ (target ≤ goes) → (target < goes) ⊎ (goes ≤ target) → Hits steps from (from + suc count) target ⊎ Never steps from (from + suc count) target
          at (inl less) two = inr (later never (λ there. let same = same_Some goes target (sym is ∙ there) in omega (arith, same, less)))
          at (inr more) (inl past) = inr (later never (λ there. let same = same_Some goes target (sym is ∙ there) in omega (arith, same, past)))
          at (inr more) (inr less) = let same : goes ≡ target = omega (arith, more, less) in inl (record { place = from + count; least = omega arith; most = omega arith; there = is ∙ ap Some same })

  -- where the steps of a part go to no place behind it
  module _ (to begin last : ℕ) (stays : (place goes : ℕ) → begin ≤ place → place < last → is_test (kind_at steps place) ≡ true → target_at steps place ≡ Some goes → goes ≤ last) where
    tests_stay : (count place : ℕ) (seen : Seen) → begin ≤ place → place + count ≤ last → ((n : ℕ) → place ≤ n → n < place + count → is_test (kind_at steps n) ≡ true)
        → seen.targets.furthest ≤ last → AllStay begin last (tests_from steps to false seen place count)
    tests_stay zero place seen low high each far = tt
    tests_stay (suc count) place seen low high each far =
        by (target_at steps place) refl (λ goes there. tests_stay count (place + 1) (seen_with steps place goes seen) (omega (arith, low)) (omega (arith, high)) (λ n least most. each n (omega (arith, least)) (omega (arith, most))) (with_low goes last seen.targets (stays place goes low (omega (arith, high)) here there) far))
      where
        here : is_test (kind_at steps place) ≡ true
        here = each place (omega arith) (omega arith)

        others : ℕ → List Tests
        others target = option_to_list (tests_there false (place + 1) (seen_with steps place target seen)) ++ tests_from steps to false (seen_with steps place target seen) (place + 1) count

        first : (goes : ℕ) → (with_target goes seen.targets).furthest ≤ last → AllStay begin last (option_to_list (tests_there false (place + 1) (seen_with steps place goes seen)))
        first goes less = at (is_wanted false (seen_with steps place goes seen).has_bare) (nat_le (with_target goes seen.targets).second (place + 1))
          where
            at : (b c : Bool)
                → AllStay begin last (option_to_list (if b then option_map (tests_to (place + 1)) (if c then Some (max (with_target goes seen.targets).furthest (place + 1)) else None) else None))
            at true true = (omega (arith, low), omega (arith, high), omega (arith, less, high), tt)
            at true false = tt
            at false c = tt

        by : (found : Option ℕ) → target_at steps place ≡ found
            → ((goes : ℕ) → target_at steps place ≡ Some goes → AllStay begin last (tests_from steps to false (seen_with steps place goes seen) (place + 1) count))
            → AllStay begin last (tests_from steps to false seen place (suc count))
        by None is rest = subst (λ o. AllStay begin last (for_target (option_and_then (goes_within place to) o) others)) (sym is) tt
        by (Some goes) is rest = subst (λ o. AllStay begin last (for_target (option_and_then (goes_within place to) o) others)) (sym is) (at (nat_lt place goes && nat_le goes to))
          where
            at : (b : Bool) → AllStay begin last (for_target (if b then Some goes else None) others)
            at true = stay_joined begin last (option_to_list (tests_there false (place + 1) (seen_with steps place goes seen))) (tests_from steps to false (seen_with steps place goes seen) (place + 1) count)
                (first goes (with_low goes last seen.targets (stays place goes low (omega (arith, high)) here is) far)) (rest goes is)
            at false = tt

    no_ways : (at : BranchesAt) → at.to ≡ to → last < to → ((place : ℕ) → begin ≤ place → place < last → jumps_to steps place to ≡ true → ⊥) → (tests : List Tests) → AllStay begin last tests
        → ways_behind steps at tests ≡ []
    no_ways at is high none [] all = refl
    no_ways at is high none (one ∷ tests) all = ap (λ o. (option_to_list o ++ option_to_list (way_last at one)) ++ ways_behind steps at tests) before ∙ ap (λ o. option_to_list o ++ ways_behind steps at tests) ends ∙ no_ways at is high none tests all.3
      where
        before : way_before steps at one ≡ None
        before = by (nat_lt one.end one.target && jumps_to steps (one.target - 1) at.to) refl
          where
            by : (b : Bool) → (nat_lt one.end one.target && jumps_to steps (one.target - 1) at.to) ≡ b
                → ◌≡◌ {A = Option Way} (if b then Some (record { tests_end = Some one.end; block_end = one.target - 1; next = Some one.target }) else None) None
            by false eq = refl
            by true eq =
                let parts = and_parts (nat_lt one.end one.target) (jumps_to steps (one.target - 1) at.to) eq in
                let less = below one.end one.target parts.0 in
                let a = all.0 in
                let b = all.2 in
                absurd (none (one.target - 1) (omega (arith, less, a)) (omega (arith, less, b)) (subst (λ n. jumps_to steps (one.target - 1) n ≡ true) is parts.1))

        ends : way_last at one ≡ None
        ends = by (one.target == at.to) refl
          where
            by : (b : Bool) → (one.target == at.to) ≡ b → ◌≡◌ {A = Option Way} (if b then Some (record { tests_end = Some one.end; block_end = at.to; next = None }) else None) None
            by false eq = refl
            by true eq = let same = same_numbers one.target at.to eq in let b = all.2 in absurd (omega (arith, same, b, is, high))

    -- so no way of an arm that begins there has tests
    pub none_tested : (at : BranchesAt) → at.to ≡ to → begin ≤ last → last < to → is_test (kind_at steps last) ≡ false
        → ((place : ℕ) → begin ≤ place → place < last → jumps_to steps place to ≡ true → ⊥) → tested_ways steps at begin false ≡ []
    none_tested at is low high ends none =
        let stop = run_stops (λ place. is_test (kind_at steps place)) (min 100 (to - begin)) begin last low ends in
        subst (λ n. ways_behind steps at (tests_at steps begin n false) ≡ []) (sym is)
        (no_ways at is high none (tests_at steps begin to false)
        (stay_reversed begin last (tests_from steps to false nothing_seen begin (lengths_after steps begin to).tests) (tests_stay (lengths_after steps begin to).tests begin nothing_seen (omega arith) stop (run_holds (λ place. is_test (kind_at steps place)) (min 100 (to - begin)) begin) (omega arith))))

  -- ---- where the last block begins

  pub last_begin_is : (those others : List Piece) (from last to : ℕ) (before : Option ℕ) → FollowOn those from last → FollowOn others last to → last < to → jumps_to steps last to ≡ true
      → ((place : ℕ) → from ≤ place → place < last → jumps_to steps place to ≡ true → ⊥) → last_begin steps to before (those ++ others) ≡ Some last
  last_begin_is [] [] from last to before one two some jump none = absurd (omega (arith, two, some))
  last_begin_is [] (piece ∷ others) from last to before one two some jump none = if_true (jumps_to steps piece.from to) _ _ (ap (λ n. jumps_to steps n to) two.0 ∙ jump) ∙ ap Some two.0
  last_begin_is (piece ∷ those) others from last to before one two some jump none =
      if_false (jumps_to steps piece.from to) _ _ (by (jumps_to steps piece.from to) refl)
      ∙ last_begin_is those others piece.to last to (Some piece.from) one.3 two some jump (λ place least most is. none place (let a = one.1 in omega (arith, a, least)) most is)
    where
      by : (b : Bool) → jumps_to steps piece.from to ≡ b → jumps_to steps piece.from to ≡ false
      by false is = is
      by true is = let a = one.0 in let b = one.1 in let c = one.2 in absurd (none piece.from (omega (arith, a)) (omega (arith, a, b, c)) is)
