-- What serves an `if`: the tests of a condition are among those that the search lists, and an arm may begin wherever an arm before it leads.
use Rattle.std.proofs.Common.{◌≡◌, ◌∙◌, ◌≤◌, ◌<◌, ◌+◌, ◌-◌, ◌⊎◌, inl, inr, refl, sym, ap, subst, ℕ, zero, suc, max, min, Bool, true, false, List, [], ◌∷◌, ◌++◌, reverse, Option, None, Some, arith}
use Rattle.std.specs.Prelude.{◌==◌, ◌&&◌, ◌||◌, not, nat_le, nat_lt, option_map, option_and_then, option_to_list, if◌then◌else◌}
use Rattle.std.specs.Bool.{beq}
use Rattle.std.proofs.lemmas.Bool.{false≢true}
use Rattle.std.proofs.lemmas.List.{reverse-append}
use Rattle.std.proofs.lemmas.Option.{none-some, same_Some}
use Rattle.recover_expr.specs.declared.steps.Step.{Step}
use Rattle.recover_expr.specs.declared.steps.StepKind.{StepKind}
use Rattle.recover_flow.specs.Arms.{arm_starts, first_ways, for_target, further_ways, goes_within, is_next, is_wanted, nothing_seen, seen_with, starts_behind, tests_at, tests_from, tests_there, tests_to, with_target, way_before, way_last, ways_behind}
use Rattle.recover_flow.specs.Asked.{is_test, is_this, is_unit, jump_of, jumps_to, kind_at, lengths_after, target_at, target_of}
use Rattle.recover_flow.specs.Logic.{Logic, LogicLies, test_logic, literal_logic, not_logic, and_logic, or_logic}
use Rattle.recover_flow.specs.Lying.{LiteralLies}
use Rattle.recover_flow.specs.Standing.{IsAmongWays, IsStart, IsWay}
use Rattle.recover_flow.specs.declared.branches.Seen.{Seen}
use Rattle.recover_flow.specs.declared.branches.Targets.{Targets}
use Rattle.recover_flow.specs.declared.branches.Tests.{Tests}
use Rattle.recover_flow.specs.declared.branches.Way.{Way}
use Rattle.recover_flow.specs.declared.regions.BranchesAt.{BranchesAt}
use Rattle.recover_flow.proofs.LogicCut.{Hits, test_hit}
use Rattle.recover_flow.proofs.LoopsFound.{logic_units, run_least}
use Rattle.recover_flow.proofs.PartsInside.{order}
use Rattle.recover_flow.proofs.StepsFound.{both_true, if_false, if_true, le_is, lt_fails, lt_is, same_is}

-- ---- one of a list

abbrev pub Among : {X : Type 0} → List X → X → Type 0
Among [] x = ⊥
Among (y ∷ ys) x = (y ≡ x) ⊎ Among ys x

pub among_left : {X : Type 0} (xs ys : List X) (x : X) → Among xs x → Among (xs ++ ys) x
among_left [] ys x among = absurd among
among_left (y ∷ xs) ys x (inl here) = inl here
among_left (y ∷ xs) ys x (inr later) = inr (among_left xs ys x later)

pub among_right : {X : Type 0} (xs ys : List X) (x : X) → Among ys x → Among (xs ++ ys) x
among_right [] ys x among = among
among_right (y ∷ xs) ys x among = inr (among_right xs ys x among)

among_reversed : {X : Type 0} (xs : List X) (x : X) → Among xs x → Among (reverse xs) x
among_reversed [] x among = absurd among
among_reversed (y ∷ xs) x among = subst (λ l. Among l x) (sym (reverse-append (y ∷ []) xs)) (by among (λ later. among_reversed xs x later))
  where
    by : (y ≡ x) ⊎ Among xs x → (Among xs x → Among (reverse xs) x) → Among (reverse xs ++ (y ∷ [])) x
    by (inl here) rest = among_right (reverse xs) (y ∷ []) x (inl here)
    by (inr later) rest = among_left (reverse xs) (y ∷ []) x (rest later)

pub among_option : {X : Type 0} (found : Option X) (x : X) → found ≡ Some x → Among (option_to_list found) x
among_option None x is = absurd (none-some x is)
among_option (Some y) x is = inl (same_Some y x is)

pub ways_among : (ways : List Way) (way : Way) → Among ways way → IsAmongWays ways way
ways_among [] way among = absurd among
ways_among (first ∷ ways) way (inl here) = inl here
ways_among (first ∷ ways) way (inr later) = inr (ways_among ways way later)

-- ---- where the tests of a condition go

-- not past a place but to one target
pub record Fine (start target : ℕ) (targets : Targets) : Type 0 where
  pub second : targets.second ≤ start
  pub low : targets.furthest ≤ target
  pub past : (targets.furthest ≤ start) ⊎ (targets.furthest ≡ target)

abbrev Goes : (start target goes : ℕ) → (before behind : Targets) → Type 0
Goes start target goes before behind = Fine start target behind × (goes ≤ behind.furthest) × (before.furthest ≤ behind.furthest)

fine_with : (start target goes : ℕ) (targets : Targets) → start ≤ target → Fine start target targets → (goes ≡ target) ⊎ (goes ≤ start) → Goes start target goes targets (with_target goes targets)
fine_with start target goes targets low fine to = by (order targets.furthest goes)
  where
    second : targets.second ≤ start
    second = fine.second

    furthest : targets.furthest ≤ target
    furthest = fine.low

    goes_low : (goes ≡ target) ⊎ (goes ≤ start) → goes ≤ target
    goes_low (inl same) = omega (arith, same)
    goes_low (inr less) = omega (arith, less, low)

    not_past : (targets.furthest ≤ start) ⊎ (targets.furthest ≡ target) → targets.furthest < goes → targets.furthest ≤ start
    not_past (inl is) past = is
    not_past (inr is) past = let less = goes_low to in absurd (omega (arith, is, past, less))

    new_past : (goes ≡ target) ⊎ (goes ≤ start) → (goes ≤ start) ⊎ (goes ≡ target)
    new_past (inl same) = inr same
    new_past (inr less) = inl less

    new_second : (goes ≡ target) ⊎ (goes ≤ start) → (targets.furthest ≤ start) ⊎ (targets.furthest ≡ target) → goes < targets.furthest → goes ≤ start
    new_second (inr less) past ahead = less
    new_second (inl same) (inl less) ahead = omega (arith, less, ahead)
    new_second (inl same) (inr is) ahead = absurd (omega (arith, same, is, ahead))

    by : (targets.furthest < goes) ⊎ (goes ≤ targets.furthest) → Goes start target goes targets (with_target goes targets)
    by (inl past) =
        subst (Goes start target goes targets) (sym (if_true (nat_lt targets.furthest goes) _ _ (lt_is targets.furthest goes past)))
        (record { second = not_past fine.past past; low = goes_low to; past = new_past to }, omega arith, omega (arith, past))
    by (inr not_past) = subst (Goes start target goes targets) (sym (if_false (nat_lt targets.furthest goes) _ _ (lt_fails targets.furthest goes not_past))) (at (order goes targets.furthest))
      where
        at : (goes < targets.furthest) ⊎ (targets.furthest ≤ goes)
            → Goes start target goes targets (if nat_lt goes targets.furthest then record { furthest = targets.furthest; second = max targets.second goes } else targets)
        at (inl ahead) =
            let less = new_second to fine.past ahead in
            subst (Goes start target goes targets) (sym (if_true (nat_lt goes targets.furthest) _ _ (lt_is goes targets.furthest ahead)))
            (record { second = omega (arith, second, less); low = furthest; past = fine.past }, omega (arith, ahead), omega arith)
        at (inr same) = subst (Goes start target goes targets) (sym (if_false (nat_lt goes targets.furthest) _ _ (lt_fails goes targets.furthest same))) (fine, omega (arith, not_past), omega arith)

module _ (steps : List Step) where
  -- each step goes to the target, or ahead within
  abbrev GoesAt : (target to place : ℕ) → Type 0
  GoesAt target to place = (goes : ℕ) × (target_at steps place ≡ Some goes) × ((goes ≡ target) ⊎ ((place < goes) × (goes ≤ to)))

  literal_goes : (jumps : Bool) (from to target : ℕ) → LiteralLies steps jumps from to target → (n : ℕ) → from ≤ n → n < to → GoesAt target to n
  literal_goes true from to target lies n low high = let same : from ≡ n = omega (arith, low, high, lies.1) in (target, subst (λ m. target_at steps m ≡ Some target) same (ap (option_and_then target_of) lies.0), inl refl)
  literal_goes false from to target lies n low high = absurd (omega (arith, low, high, lies))

  goes_early : (ends : Bool) (target mid to place : ℕ) → mid ≤ to → place < mid → GoesAt (if ends then to else target) mid place → GoesAt target to place
  goes_early ends target mid to place low within (goes, there, inr ahead) = (goes, there, inr (ahead.0, omega (arith, ahead.1, low)))
  goes_early true target mid to place low within (goes, there, inl same) = (goes, there, inr (omega (arith, same, within, low), omega (arith, same)))
  goes_early false target mid to place low within (goes, there, inl same) = (goes, there, inl same)

  goes_late : (ends : Bool) (target mid to place : ℕ) → mid ≤ to → place < mid → GoesAt (if ends then target else to) mid place → GoesAt target to place
  goes_late ends target mid to place low within (goes, there, inr ahead) = (goes, there, inr (ahead.0, omega (arith, ahead.1, low)))
  goes_late false target mid to place low within (goes, there, inl same) = (goes, there, inr (omega (arith, same, within, low), omega (arith, same)))
  goes_late true target mid to place low within (goes, there, inl same) = (goes, there, inl same)

  pub logic_goes : (logic : Logic) (sense : Bool) (target from to : ℕ) → LogicLies steps logic sense target from to → (n : ℕ) → from ≤ n → n < to → GoesAt target to n
  logic_goes (test_logic step negated) sense target from to lies n low high =
      let same : from ≡ n = omega (arith, low, high, lies.1) in (target, subst (λ m. target_at steps m ≡ Some target) same (test_hit steps negated sense target from (kind_at steps from) refl lies.2), inl refl)
  logic_goes (literal_logic truth) sense target from to lies n low high = literal_goes (beq truth sense) from to target lies n low high
  logic_goes (not_logic inner) sense target from to lies n low high = logic_goes inner (not sense) target from to lies n low high
  logic_goes (and_logic left right) sense target from to (mid, begins, ends, one, two) n low high =
      by (order n mid) (λ h. logic_goes left false (if sense then to else target) from mid one n low h) (λ h. logic_goes right sense target mid to two n h high)
    where
      by : (n < mid) ⊎ (mid ≤ n) → (n < mid → GoesAt (if sense then to else target) mid n) → (mid ≤ n → GoesAt target to n) → GoesAt target to n
      by (inl before) first second = goes_early sense target mid to n ends before (first before)
      by (inr behind) first second = second behind
  logic_goes (or_logic left right) sense target from to (mid, begins, ends, one, two) n low high =
      by (order n mid) (λ h. logic_goes left true (if sense then target else to) from mid one n low h) (λ h. logic_goes right sense target mid to two n h high)
    where
      by : (n < mid) ⊎ (mid ≤ n) → (n < mid → GoesAt (if sense then target else to) mid n) → (mid ≤ n → GoesAt target to n) → GoesAt target to n
      by (inl before) first second = goes_late sense target mid to n ends before (first before)
      by (inr behind) first second = second behind

  -- ---- the tests of a condition are listed

  test_of : (kind : Option StepKind) (goes : ℕ) → option_and_then target_of kind ≡ Some goes → is_this (option_and_then jump_of kind) goes ≡ false → is_test kind ≡ true
  test_of None goes there bare = absurd (none-some goes there)
  test_of (Some StepKind.Act) goes there bare = absurd (none-some goes there)
  test_of (Some StepKind.Return) goes there bare = absurd (none-some goes there)
  test_of (Some (StepKind.Declaration end captured)) goes there bare = absurd (none-some goes there)
  test_of (Some (StepKind.Test when target negated)) goes there bare = refl
  test_of (Some (StepKind.Jump target)) goes there bare = absurd (false≢true (sym bare ∙ (ap (λ n. n == goes) (same_Some target goes there) ∙ same_is goes)))
  test_of (Some (StepKind.Close from declared)) goes there bare = absurd (none-some goes there)
  test_of (Some (StepKind.Head numeric foot end variables_end captured)) goes there bare = absurd (none-some goes there)
  test_of (Some (StepKind.Foot numeric target)) goes there bare = absurd (none-some goes there)

  wanted_self : (b : Bool) → is_wanted b b ≡ true
  wanted_self true = refl
  wanted_self false = refl

  neither : (a b : Bool) → (a || b) ≡ false → (a ≡ false) × (b ≡ false)
  neither true b is = absurd (false≢true (sym is))
  neither false b is = (refl, is)

  module _ (to target start : ℕ) (begins : start ≤ target) (stops : target ≤ to) where
    -- from a place on, with what was seen before
    abbrev Listed : (place least : ℕ) → Seen → Type 0
    Listed place least seen =
        (bare : Bool) × ((count : ℕ) → least ≤ count → Among (tests_from steps to bare seen place count) (tests_to start target))
        × (bare ≡ false → (seen.has_bare ≡ false) × ((m : ℕ) → place ≤ m → m < start → is_test (kind_at steps m) ≡ true))

    abbrev Behind : (n place : ℕ) → Type 0
    Behind n place = (k : ℕ) → n ≡ suc k → (next : Seen) → Fine start target next.targets → (target ≤ next.targets.furthest) ⊎ (Hits steps (place + 1) start target ⊎ (target ≡ start)) → Listed (place + 1) n next

    one_listed : (n place : ℕ) (seen : Seen) → place + suc n ≡ start → ((m : ℕ) → place ≤ m → m < start → GoesAt target start m) → Fine start target seen.targets
        → (target ≤ seen.targets.furthest) ⊎ (Hits steps place start target ⊎ (target ≡ start))
        → Behind n place → Listed place (suc n) seen
    one_listed n place seen ends each fine hit others =
        let first = each place (omega arith) (omega (arith, ends)) in
        let more = fine_with start target first.0 seen.targets begins fine (within first.2) in
        by n ends first.0 first.1 (ahead first.2) more.0 (now first.0 first.1 more.1 more.2 hit) others
      where
        within : {goes : ℕ} → ((goes ≡ target) ⊎ ((place < goes) × (goes ≤ start))) → (goes ≡ target) ⊎ (goes ≤ start)
        within (inl same) = inl same
        within (inr low) = inr low.1

        ahead : {goes : ℕ} → ((goes ≡ target) ⊎ ((place < goes) × (goes ≤ start))) → (place < goes) × (goes ≤ to)
        ahead (inl same) = (omega (arith, same, begins, ends), omega (arith, same, stops))
        ahead (inr low) = (low.0, omega (arith, low.1, begins, stops))

        now : (goes : ℕ) → target_at steps place ≡ Some goes → goes ≤ (with_target goes seen.targets).furthest → seen.targets.furthest ≤ (with_target goes seen.targets).furthest
            → (target ≤ seen.targets.furthest) ⊎ (Hits steps place start target ⊎ (target ≡ start))
            → (target ≤ (with_target goes seen.targets).furthest) ⊎ (Hits steps (place + 1) start target ⊎ (target ≡ start))
        now goes there one two (inl before) = inl (omega (arith, before, two))
        now goes there one two (inr (inr same)) = inr (inr same)
        now goes there one two (inr (inl hit)) = at (order place hit.place)
          where
            at : (place < hit.place) ⊎ (hit.place ≤ place) → (target ≤ (with_target goes seen.targets).furthest) ⊎ (Hits steps (place + 1) start target ⊎ (target ≡ start))
            at (inl past) = inr (inl (record { place = hit.place; least = omega (arith, past); most = hit.most; there = hit.there }))
            at (inr here) =
                let least = hit.least in
                let same : hit.place ≡ place = omega (arith, here, least) in
                let goal = same_Some target goes (sym hit.there ∙ ap (target_at steps) same ∙ there) in inl (omega (arith, goal, one))

        by : (n : ℕ) → place + suc n ≡ start → (goes : ℕ) → target_at steps place ≡ Some goes → (place < goes) × (goes ≤ to) → Fine start target (with_target goes seen.targets)
            → (target ≤ (with_target goes seen.targets).furthest) ⊎ (Hits steps (place + 1) start target ⊎ (target ≡ start)) → Behind n place → Listed place (suc n) seen
        by n ends goes there ahead fine hit others = at n ends others
          where
            next : Seen
            next = seen_with steps place goes seen

            unfolds : (bare : Bool) (count : ℕ)
                → tests_from steps to bare seen place (suc count) ≡ option_to_list (tests_there bare (place + 1) (seen_with steps place goes seen)) ++ tests_from steps to bare (seen_with steps place goes seen) (place + 1) count
            unfolds bare count =
                ap (λ found. for_target found (λ target. option_to_list (tests_there bare (place + 1) (seen_with steps place target seen)) ++ tests_from steps to bare (seen_with steps place target seen) (place + 1) count))
                (ap (option_and_then (goes_within place to)) there
                ∙ if_true (nat_lt place goes && nat_le goes to) _ _ (both_true (nat_lt place goes) _ (lt_is place goes ahead.0) (le_is goes to ahead.1)))

            tested : (seen_with steps place goes seen).has_bare ≡ false → (seen.has_bare ≡ false) × (is_test (kind_at steps place) ≡ true)
            tested none = let parts = neither seen.has_bare (jumps_to steps place goes) none in (parts.0, test_of (kind_at steps place) goes there parts.1)

            at : (n : ℕ) → place + suc n ≡ start → Behind n place → Listed place (suc n) seen
            at zero ends others =
                let bare = (seen_with steps place goes seen).has_bare in
                let here : place + 1 ≡ start = omega (arith, ends) in (
                  bare,
                  (λ count some. at_count count some here),
                  (λ none. let known = tested none in (known.0, λ m low high. let same : place ≡ m = omega (arith, low, high, ends) in subst (λ k. is_test (kind_at steps k) ≡ true) same known.1)),
                )
              where
                target_now : (target ≤ (with_target goes seen.targets).furthest) ⊎ (Hits steps (place + 1) start target ⊎ (target ≡ start)) → place + 1 ≡ start
                    → max (with_target goes seen.targets).furthest (place + 1) ≡ target
                target_now (inl far) here = let low = fine.low in omega (arith, far, low, here, begins)
                target_now (inr (inl hit)) here = let least = hit.least in let most = hit.most in absurd (omega (arith, least, most, here))
                target_now (inr (inr same)) here = let low = fine.low in omega (arith, same, low, here)

                there_is : place + 1 ≡ start → tests_there (seen_with steps place goes seen).has_bare (place + 1) (seen_with steps place goes seen) ≡ Some (tests_to start target)
                there_is here =
                    let second = fine.second in
                    if_true (is_wanted (seen_with steps place goes seen).has_bare (seen_with steps place goes seen).has_bare) _ _ (wanted_self (seen_with steps place goes seen).has_bare)
                    ∙ ap (option_map (tests_to (place + 1))) (if_true (nat_le (with_target goes seen.targets).second (place + 1)) _ _ (le_is (with_target goes seen.targets).second (place + 1) (omega (arith, second, here))))
                    ∙ ap (λ n. Some (tests_to (place + 1) n)) (target_now hit here) ∙ ap (λ n. Some (tests_to n target)) here

                at_count : (count : ℕ) → 1 ≤ count → place + 1 ≡ start → Among (tests_from steps to (seen_with steps place goes seen).has_bare seen place count) (tests_to start target)
                at_count zero some here = absurd (omega (arith, some))
                at_count (suc count) some here =
                    subst (λ l. Among l (tests_to start target)) (sym (unfolds (seen_with steps place goes seen).has_bare count))
                    (among_left (option_to_list (tests_there (seen_with steps place goes seen).has_bare (place + 1) (seen_with steps place goes seen))) _ (tests_to start target)
                    (among_option (tests_there (seen_with steps place goes seen).has_bare (place + 1) (seen_with steps place goes seen)) (tests_to start target) (there_is here)))
            at (suc n) ends others =
                let rest = others n refl (seen_with steps place goes seen) fine hit in (
                  rest.0,
                  (λ count some. at_count rest.0 rest.1 count some),
                  (λ none.
                      let known = rest.2 none in
                      let first = tested known.0 in
                      (first.0, λ m low high. one_test m low high first.1 known.1)),
                )
              where
                one_test : (m : ℕ) → place ≤ m → m < start → is_test (kind_at steps place) ≡ true → ((m : ℕ) → place + 1 ≤ m → m < start → is_test (kind_at steps m) ≡ true)
                    → is_test (kind_at steps m) ≡ true
                one_test m low high first others = go (order place m)
                  where
                    go : (place < m) ⊎ (m ≤ place) → is_test (kind_at steps m) ≡ true
                    go (inl past) = others m (omega (arith, past)) high
                    go (inr here) = let same : place ≡ m = omega (arith, here, low) in subst (λ k. is_test (kind_at steps k) ≡ true) same first

                at_count : (bare : Bool) → ((count : ℕ) → suc n ≤ count → Among (tests_from steps to bare (seen_with steps place goes seen) (place + 1) count) (tests_to start target))
                    → (count : ℕ) → suc (suc n) ≤ count → Among (tests_from steps to bare seen place count) (tests_to start target)
                at_count bare rest zero some = absurd (omega (arith, some))
                at_count bare rest (suc count) some =
                    subst (λ l. Among l (tests_to start target)) (sym (unfolds bare count)) (among_right (option_to_list (tests_there bare (place + 1) (seen_with steps place goes seen))) _ (tests_to start target) (rest count (omega (arith, some))))

    listed : (n place : ℕ) (seen : Seen) → place + suc n ≡ start → ((m : ℕ) → place ≤ m → m < start → GoesAt target start m) → Fine start target seen.targets
        → (target ≤ seen.targets.furthest) ⊎ (Hits steps place start target ⊎ (target ≡ start)) → Listed place (suc n) seen
    listed zero place seen ends each fine hit = one_listed zero place seen ends each fine hit (λ k is. absurd (omega (arith, is)))
    listed (suc n) place seen ends each fine hit =
        one_listed (suc n) place seen ends each fine hit (λ k is next next_fine next_hit. listed n (place + 1) next (omega (arith, ends)) (λ m low high. each m (omega (arith, low)) high) next_fine next_hit)

    -- the tests of a condition
    pub tests_found : (logic : Logic) (from : ℕ) → from < start → LogicLies steps logic false target from start → Hits steps from start target ⊎ (target ≡ start) → start - from ≤ 100
        → (bare : Bool) × Among (tests_at steps from to bare) (tests_to start target)
    tests_found logic from some lies hit short =
        let found = listed (start - from - 1) from nothing_seen (omega (arith, some)) (λ m low high. logic_goes logic false target from start lies m low high) (record { second = omega arith; low = omega arith; past = inl (omega arith) }) (inr hit) in
        (found.0, by found.0 found.1 found.2)
      where
        by : (bare : Bool) → ((count : ℕ) → suc (start - from - 1) ≤ count → Among (tests_from steps to bare nothing_seen from count) (tests_to start target))
            → (bare ≡ false → (false ≡ false) × ((m : ℕ) → from ≤ m → m < start → is_test (kind_at steps m) ≡ true))
            → Among (tests_at steps from to bare) (tests_to start target)
        by true each none =
            let least = run_least (λ place. is_unit (kind_at steps place)) from (min 100 (to - from)) (start - from) (omega (arith, short, begins, stops, some)) (λ n low high. logic_units steps logic false target from start lies n low (omega (arith, high, some))) in
            each (lengths_after steps from to).jumps (omega (arith, least, some))
        by false each none =
            let known = none refl in
            let least = run_least (λ place. is_test (kind_at steps place)) from (min 100 (to - from)) (start - from) (omega (arith, short, begins, stops, some)) (λ n low high. known.1 n low (omega (arith, high, some))) in
            among_reversed (tests_from steps to false nothing_seen from (lengths_after steps from to).tests) (tests_to start target) (each (lengths_after steps from to).tests (omega (arith, least, some)))

  -- ---- the ways of tests

  module _ (at : BranchesAt) where
    pub way_behind : (tests : List Tests) (one : Tests) (way : Way) → Among tests one → (way_before steps at one ≡ Some way) ⊎ (way_last at one ≡ Some way) → Among (ways_behind steps at tests) way
    way_behind [] one way among is = absurd among
    way_behind (first ∷ others) one way (inr later) is = among_right (option_to_list (way_before steps at first) ++ option_to_list (way_last at first)) (ways_behind steps at others) way (way_behind others one way later is)
    way_behind (first ∷ others) one way (inl here) (inl before) =
        among_left (option_to_list (way_before steps at first) ++ option_to_list (way_last at first)) (ways_behind steps at others) way
        (among_left (option_to_list (way_before steps at first)) (option_to_list (way_last at first)) way (among_option (way_before steps at first) way (ap (way_before steps at) here ∙ before)))
    way_behind (first ∷ others) one way (inl here) (inr last) =
        among_left (option_to_list (way_before steps at first) ++ option_to_list (way_last at first)) (ways_behind steps at others) way
        (among_right (option_to_list (way_before steps at first)) (option_to_list (way_last at first)) way (among_option (way_last at first) way (ap (way_last at) here ∙ last)))

    -- ---- the places at which an arm may begin

    pub next_among : (ways : List Way) (way : Way) (place : ℕ) → Among ways way → way.next ≡ Some place → is_next ways place ≡ true
    next_among [] way place among next = absurd among
    next_among (first ∷ ways) way place (inl here) next = first_or (is_this first.next place) (is_next ways place) (ap (λ (w : Way). is_this w.next place) here ∙ ap (λ n. is_this n place) next ∙ same_is place)
      where
        first_or : (a b : Bool) → a ≡ true → (a || b) ≡ true
        first_or true b is = refl
        first_or false b is = absurd (false≢true is)
    next_among (first ∷ ways) way place (inr later) next = second_or (is_this first.next place) (is_next ways place) (next_among ways way place later next)
      where
        second_or : (a b : Bool) → b ≡ true → (a || b) ≡ true
        second_or true b is = refl
        second_or false b is = is

    next_or : (ways more : List Way) (place : ℕ) → is_next ways place ≡ true → is_next (ways ++ more) place ≡ true
    next_or [] more place is = absurd (false≢true is)
    next_or (way ∷ ways) more place is = by (is_this way.next place) is (λ h. next_or ways more place h)
      where
        by : (b : Bool) → (b || is_next ways place) ≡ true → (is_next ways place ≡ true → is_next (ways ++ more) place ≡ true) → (b || is_next (ways ++ more) place) ≡ true
        by true is rest = refl
        by false is rest = rest is

    next_more : (ways more : List Way) (place : ℕ) → is_next more place ≡ true → is_next (ways ++ more) place ≡ true
    next_more [] more place is = is
    next_more (way ∷ ways) more place is = by (is_this way.next place) (next_more ways more place is)
      where
        by : (b : Bool) → is_next (ways ++ more) place ≡ true → (b || is_next (ways ++ more) place) ≡ true
        by true rest = refl
        by false rest = rest

    -- the places from one on, where it is one of them or not
    begun : (ways : List Way) (place count : ℕ) → is_next ways place ≡ true
        → starts_behind steps at ways place (suc count) ≡ record { place = place; ways = further_ways steps at place } ∷ starts_behind steps at (ways ++ further_ways steps at place) (place + 1) count
    begun ways place count is = if_true (is_next ways place) _ _ is

    unbegun : (ways : List Way) (place count : ℕ) → is_next ways place ≡ false → starts_behind steps at ways place (suc count) ≡ starts_behind steps at ways (place + 1) count
    unbegun ways place count is = if_false (is_next ways place) _ _ is

    start_next : (count place : ℕ) (ways : List Way) (begin : ℕ) → is_next ways begin ≡ true → place ≤ begin → begin < place + count → IsStart (starts_behind steps at ways place count) begin
    start_next zero place ways begin is low high = absurd (omega (arith, low, high))
    start_next (suc count) place ways begin is low high =
        by (order place begin) (is_next ways place) refl
        (λ past. start_next count (place + 1) (ways ++ further_ways steps at place) begin (next_or ways (further_ways steps at place) begin is) (omega (arith, past)) (omega (arith, high)))
        (λ past. start_next count (place + 1) ways begin is (omega (arith, past)) (omega (arith, high)))
      where
        by : (place < begin) ⊎ (begin ≤ place) → (b : Bool) → is_next ways place ≡ b
            → (place < begin → IsStart (starts_behind steps at (ways ++ further_ways steps at place) (place + 1) count) begin)
            → (place < begin → IsStart (starts_behind steps at ways (place + 1) count) begin)
            → IsStart (starts_behind steps at ways place (suc count)) begin
        by (inl past) true here one two = subst (λ l. IsStart l begin) (sym (begun ways place count here)) (inr (one past))
        by (inl past) false here one two = subst (λ l. IsStart l begin) (sym (unbegun ways place count here)) (two past)
        by (inr now) b here one two =
            let same : place ≡ begin = omega (arith, now, low) in
            subst (λ l. IsStart l begin) (sym (begun ways place count (ap (is_next ways) same ∙ is))) (inl same)

    -- each further way of a place is one of it
    way_of_start : (count place : ℕ) (ways : List Way) (begin : ℕ) (way : Way) → IsStart (starts_behind steps at ways place count) begin → Among (further_ways steps at begin) way
        → IsWay (starts_behind steps at ways place count) begin way
    way_of_start zero place ways begin way start among = absurd start
    way_of_start (suc count) place ways begin way start among =
        by (is_next ways place) refl (λ s. way_of_start count (place + 1) (ways ++ further_ways steps at place) begin way s among) (λ s. way_of_start count (place + 1) ways begin way s among)
      where
        by : (b : Bool) → is_next ways place ≡ b
            → (IsStart (starts_behind steps at (ways ++ further_ways steps at place) (place + 1) count) begin → IsWay (starts_behind steps at (ways ++ further_ways steps at place) (place + 1) count) begin way)
            → (IsStart (starts_behind steps at ways (place + 1) count) begin → IsWay (starts_behind steps at ways (place + 1) count) begin way)
            → IsWay (starts_behind steps at ways place (suc count)) begin way
        by true here one two = subst (λ l. IsWay l begin way) (sym (begun ways place count here)) (at_start (subst (λ l. IsStart l begin) (begun ways place count here) start))
          where
            at_start : (place ≡ begin) ⊎ IsStart (starts_behind steps at (ways ++ further_ways steps at place) (place + 1) count) begin
                → ((place ≡ begin) × IsAmongWays (further_ways steps at place) way) ⊎ IsWay (starts_behind steps at (ways ++ further_ways steps at place) (place + 1) count) begin way
            at_start (inl same) = inl (same, ways_among (further_ways steps at place) way (subst (λ n. Among (further_ways steps at n) way) (sym same) among))
            at_start (inr later) = inr (one later)
        by false here one two = subst (λ l. IsWay l begin way) (sym (unbegun ways place count here)) (two (subst (λ l. IsStart l begin) (unbegun ways place count here) start))

    -- and where it leads, an arm may begin
    start_of_start : (count place : ℕ) (ways : List Way) (begin next : ℕ) (way : Way) → IsStart (starts_behind steps at ways place count) begin → Among (further_ways steps at begin) way
        → way.next ≡ Some next → begin < next → next < place + count → IsStart (starts_behind steps at ways place count) next
    start_of_start zero place ways begin next way start among is low high = absurd start
    start_of_start (suc count) place ways begin next way start among is low high =
        by (is_next ways place) refl (λ s. start_of_start count (place + 1) (ways ++ further_ways steps at place) begin next way s among is low (omega (arith, high))) (λ s. start_of_start count (place + 1) ways begin next way s among is low (omega (arith, high)))
      where
        by : (b : Bool) → is_next ways place ≡ b
            → (IsStart (starts_behind steps at (ways ++ further_ways steps at place) (place + 1) count) begin → IsStart (starts_behind steps at (ways ++ further_ways steps at place) (place + 1) count) next)
            → (IsStart (starts_behind steps at ways (place + 1) count) begin → IsStart (starts_behind steps at ways (place + 1) count) next)
            → IsStart (starts_behind steps at ways place (suc count)) next
        by true here one two = subst (λ l. IsStart l next) (sym (begun ways place count here)) (at_start (subst (λ l. IsStart l begin) (begun ways place count here) start))
          where
            at_start : (place ≡ begin) ⊎ IsStart (starts_behind steps at (ways ++ further_ways steps at place) (place + 1) count) begin
                → (place ≡ next) ⊎ IsStart (starts_behind steps at (ways ++ further_ways steps at place) (place + 1) count) next
            at_start (inl same) =
                inr (start_next count (place + 1) (ways ++ further_ways steps at place) next
                (next_more ways (further_ways steps at place) next (next_among (further_ways steps at place) way next (subst (λ n. Among (further_ways steps at n) way) (sym same) among) is)) (omega (arith, low, same)) (omega (arith, high)))
            at_start (inr later) = inr (one later)
        by false here one two = subst (λ l. IsStart l next) (sym (unbegun ways place count here)) (two (subst (λ l. IsStart l begin) (unbegun ways place count here) start))

    -- behind the first arm
    pub first_start : (way : Way) (next : ℕ) → Among (first_ways steps at) way → way.next ≡ Some next → at.from < next → next < at.to → IsStart (arm_starts steps at) next
    first_start way next among is low high = inr (start_next (at.to - (at.from + 1)) (at.from + 1) (first_ways steps at) next (next_among (first_ways steps at) way next among is) (omega (arith, low)) (omega (arith, low, high)))

    pub first_way : (way : Way) → Among (first_ways steps at) way → IsWay (arm_starts steps at) at.from way
    first_way way among = inl (refl, ways_among (first_ways steps at) way among)

    -- behind a further one
    pub further_way : (begin : ℕ) (way : Way) → at.from < begin → IsStart (arm_starts steps at) begin → Among (further_ways steps at begin) way → IsWay (arm_starts steps at) begin way
    further_way begin way low (inl same) among = absurd (omega (arith, low, same))
    further_way begin way low (inr start) among = inr (way_of_start (at.to - (at.from + 1)) (at.from + 1) (first_ways steps at) begin way start among)

    pub further_start : (begin next : ℕ) (way : Way) → at.from < begin → IsStart (arm_starts steps at) begin → Among (further_ways steps at begin) way → way.next ≡ Some next → begin < next
        → next < at.to → IsStart (arm_starts steps at) next
    further_start begin next way low (inl same) among is ahead high = absurd (omega (arith, low, same))
    further_start begin next way low (inr start) among is ahead high = inr (start_of_start (at.to - (at.from + 1)) (at.from + 1) (first_ways steps at) begin next way start among is ahead (omega (arith, low, ahead, high)))
