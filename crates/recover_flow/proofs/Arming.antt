-- What stands in an `if` from a place on: its arms are looked for from the right.
use Rattle.std.proofs.Common.{◌≡◌, ◌∙◌, ◌≤◌, ◌<◌, ◌⊎◌, inl, inr, refl, sym, ap, subst, ℕ, zero, suc, max, Bool, true, false, cond, List, [], ◌∷◌, ◌++◌, length, map, nat_lt, slice_get, Option, None, Some, arith}
use Rattle.std.specs.Prelude.{◌==◌, if◌then◌else◌, unwrap_or}
use Rattle.std.specs.HashMap.{HashMap, Updates}
use Rattle.std.proofs.lemmas.Bool.Decides.{nat_tests}
use Rattle.std.proofs.lemmas.Option.{none-some, same_Some}
use Rattle.recover_expr.specs.declared.steps.Step.{Step}
use Rattle.recover_flow.specs.Arms.{Starting, arm_starts}
use Rattle.recover_flow.specs.Asked.{block_at}
use Rattle.recover_flow.specs.Conditions.{ConditionTree, condition_of, condition_levels}
use Rattle.recover_flow.specs.Held.{Store, ArmsHeld, BodyHeld, BranchesFound, ConditionFound, NoBranches, view_store}
use Rattle.recover_flow.specs.Plans.{Plans, no_plans, ArmPlans, no_arms, last_arm, and_arm, body_levels, arm_levels, tested_levels}
use Rattle.recover_flow.specs.Searching.{AreRests, ArmAnswer, BehindAnswer, BehindFound, BlockAnswer, BlockFound, Grows, BranchesAnswer, IsRight, IsStartOf, LastAnswer, NoArm, NoBlock, NoRest, NoTest, NoWay, NoneBehind, RestAnswer, RestFound, RestKept, TestAnswer, TestFound, found_behind, rest_at}
use Rattle.recover_flow.specs.Standing.{ArmStands, ArmsBehind, ArmsFrom, BlockStands, BranchesStand, IsAmongWays, IsStart, IsTested, IsWay, way_block, way_condition}
use Rattle.recover_flow.specs.declared.branches.Way.{Way}
use Rattle.recover_flow.specs.declared.memory.Memory.{Memory}
use Rattle.recover_flow.specs.declared.plan.Found.{Found}
use Rattle.recover_flow.specs.declared.plan.Rest.{Rest}
use Rattle.recover_flow.specs.declared.regions.BranchesAt.{BranchesAt}
use Rattle.recover_flow.specs.declared.regions.ConditionAt.{ConditionAt}
use Rattle.recover_flow.specs.declared.search.ArmTest.{ArmTest}
use Rattle.recover_flow.proofs.Growing.{arms_grow, body_grows, condition_grows}
use Rattle.recover_flow.proofs.Levels.{arm_from_one, test_from_one}

-- ---- the condition of an arm

pub true_tested : (steps : List Step) (store : Store) (place : ℕ) (way : Way) (levels : ℕ) → 0 < levels → way.tests_end ≡ None → TestAnswer place way levels (Some (record { condition = None; levels = 1 })) steps store
true_tested steps store place way levels some is =
    (omega (arith, some), record { condition = None; tested = subst (λ end. IsTested steps place way end None) (sym is) refl; held = tt; levels = refl })

-- the condition that was found is the one of the way
condition_at_way : (steps : List Step) (place : ℕ) (way : Way) (to : ℕ) (at : ConditionAt) (condition : Option ConditionTree) → way.tests_end ≡ Some to → at ≡ way_condition place way to → IsTested steps place way way.tests_end condition → (found : ConditionTree) × (condition ≡ Some found) × (condition_of steps at ≡ Some found)
condition_at_way steps place way to at None is here tested = absurd (subst (λ end. IsTested steps place way end None) is tested)
condition_at_way steps place way to at (Some found) is here tested = (found, refl, ap (condition_of steps) here ∙ subst (λ end. IsTested steps place way end (Some found)) is tested)

pub tests_found : (steps : List Step) (store : Store) (place : ℕ) (way : Way) (to : ℕ) (at : ConditionAt) (levels : ℕ) (found : Found) (needed : ℕ) → way.tests_end ≡ Some to → at ≡ way_condition place way to → ConditionFound steps store at (Some found) → needed ≡ max found.levels 1 → needed ≤ levels
    → TestAnswer place way levels (Some (record { condition = Some found.number; levels = needed })) steps store
tests_found steps store place way to at levels found needed is here (condition, there, held, count) needs fits = (
  fits,
  record {
    condition = Some condition;
    tested = subst (λ end. IsTested steps place way end (Some condition)) (sym is) (ap (condition_of steps) (sym here) ∙ there);
    held = held;
    levels = needs ∙ ap (λ n. max n 1) count;
  },
)

pub no_condition : (steps : List Step) (store : Store) (place : ℕ) (way : Way) (to : ℕ) (at : ConditionAt) (levels : ℕ) → way.tests_end ≡ Some to → at ≡ way_condition place way to → ConditionFound steps store at None → TestAnswer place way levels None steps store
no_condition steps store place way to at levels is here none condition tested =
    let found = condition_at_way steps place way to at condition is here tested in
    absurd (none-some found.0 (sym none ∙ found.2))

pub tests_too_high : (steps : List Step) (store : Store) (place : ℕ) (way : Way) (to : ℕ) (at : ConditionAt) (levels : ℕ) (found : Found) (needed : ℕ) → way.tests_end ≡ Some to → at ≡ way_condition place way to → ConditionFound steps store at (Some found) → needed ≡ max found.levels 1 → levels < needed
    → TestAnswer place way levels None steps store
tests_too_high steps store place way to at levels found needed is here (known, there, held, count) needs over condition tested =
    let one = condition_at_way steps place way to at condition is here tested in
    let same : known ≡ one.0 = same_Some known one.0 (sym there ∙ one.2) in
    let levels_are : tested_levels steps condition ≡ max (condition_levels steps known) 1 = ap (tested_levels steps) one.1 ∙ ap (λ tree. tested_levels steps (Some tree)) (sym same) in
    omega (arith, over, needs, count, levels_are)

-- ---- an arm

pub no_test_no_arm : (steps : List Step) (at : BranchesAt) (place : ℕ) (way : Way) (levels : ℕ) → NoTest steps place way levels → NoArm steps at place way levels
no_test_no_arm steps at place way levels none condition body stands = omega (arith, none condition stands.0)

pub no_block_no_arm : (steps : List Step) (at : BranchesAt) (place : ℕ) (way : Way) (levels : ℕ) → NoBlock steps (way_block steps at place way) levels → NoArm steps at place way levels
no_block_no_arm steps at place way levels none condition body stands = omega (arith, none body stands.1)

-- what stands has a number of those that are there
number_below : {X : Type 0} (list : List X) (number : ℕ) (one : X) → slice_get list number ≡ Some one → number < length list
number_below [] zero one there = absurd (none-some one there)
number_below [] (suc number) one there = absurd (none-some one there)
number_below (first ∷ list) zero one there = omega arith
number_below (first ∷ list) (suc number) one there = omega (arith, number_below list number one there)

arms_below : (steps : List Step) (store : Store) (number : ℕ) (arms : ArmPlans) → ArmsHeld steps store number arms → number < length store.rests
arms_below steps store number no_arms held = number_below store.rests number Rest.Nothing held
arms_below steps store number (last_arm body) held = number_below store.rests number (Rest.Last held.0) held.1
arms_below steps store number (and_arm condition body rest) held = number_below store.rests number (Rest.Arm held.0 held.1 held.2) held.3

pub arm_found : (steps : List Step) (store after : Store) (at : BranchesAt) (place : ℕ) (way : Way) (levels : ℕ) (behind : Found) (test : ArmTest) (body found : Found)
    → IsWay (arm_starts steps at) place way → BehindFound steps store at place way.next behind → behind.levels ≤ levels → TestAnswer place way levels (Some test) steps store → BlockAnswer (way_block steps at place way) levels (Some body) steps store
    → found ≡ record { number = length store.rests; levels = max (max test.levels body.levels) behind.levels } → Grows store after → RestKept found.number (Rest.Arm test.condition body.number behind.number) steps after
    → ArmAnswer at place way levels (Some found) steps after
arm_found steps store after at place way levels behind test body found is_way is_behind fits (fits_test, is_test) (fits_body, is_body) is grows kept =
    let number = ap (λ (one : Found). one.number) is in
    let needed = ap (λ (one : Found). one.levels) is in (
      omega (arith, needed, fits, fits_test, fits_body),
      record {
        arms = and_arm is_test.condition is_body.body is_behind.arms;
        stand = (way, is_way, is_test.tested, is_body.stands, is_behind.stand);
        held = (
          test.condition,
          body.number,
          behind.number,
          kept,
          omega (arith, number, arms_below steps store behind.number is_behind.arms is_behind.held),
          condition_grows grows test.condition is_test.condition is_test.held,
          body_grows steps grows body.number is_body.body is_body.held,
          arms_grow steps grows behind.number is_behind.arms is_behind.held,
        );
        levels = omega (arith, needed, is_test.levels, is_body.levels, is_behind.levels);
      },
    )

pub last_found : (steps : List Step) (store after : Store) (at : BranchesAt) (place levels : ℕ) (body found : Found) → (place ≡ at.from → ⊥) → IsStart (arm_starts steps at) place → BlockAnswer (block_at steps place at.to at.exit) levels (Some body) steps store
    → found.levels ≡ body.levels → Grows store after → RestKept found.number (Rest.Last body.number) steps after → LastAnswer at place levels (Some found) steps after
last_found steps store after at place levels body found apart start (fits, is) needed grows kept = (
  omega (arith, needed, fits),
  record {
    arms = last_arm is.body;
    stand = (apart, start, is.stands);
    held = (body.number, kept, body_grows steps grows body.number is.body is.held);
    levels = needed ∙ is.levels;
  },
)

-- ---- what stands behind an arm

-- nothing, an `else` without statements, or what was found at a further place
pub nothing_behind : (steps : List Step) (memory : Memory) (at : BranchesAt) (levels place : ℕ) → IsRight steps memory → BehindAnswer at place None levels (Some (record { number = 0; levels = 0 })) steps (view_store memory)
nothing_behind steps memory at levels place right = (omega arith, record { arms = no_arms; stand = refl; held = right.no_rest; levels = refl })

empty_behind : (steps : List Step) (memory : Memory) (at : BranchesAt) (levels place begin : ℕ) → IsRight steps memory → begin ≡ at.to → BehindAnswer at place (Some begin) levels (Some (record { number = 1; levels = 0 })) steps (view_store memory)
empty_behind steps memory at levels place begin right there =
    (omega arith, record { arms = last_arm no_plans; stand = (begin, refl, inl (there, refl)); held = (0, right.empty_last, right.empty_body); levels = refl })

-- what stands further on, seen from the arm before it, and the other way
seen_behind : (steps : List Step) (at : BranchesAt) (place begin : ℕ) → (begin ≡ at.to → ⊥) → place < begin → (arms : ArmPlans) → ArmsFrom steps at begin arms → ArmsBehind steps at place (Some begin) arms
seen_behind steps at place begin apart past no_arms stand = absurd stand
seen_behind steps at place begin apart past (last_arm body) (first, start, stands) = (begin, refl, inr (apart, past, start, stands))
seen_behind steps at place begin apart past (and_arm condition body rest) (way, is_way, tested, stands, behind) = (begin, way, refl, apart, past, is_way, tested, stands, behind)

seen_from : (steps : List Step) (at : BranchesAt) (place begin : ℕ) → at.from ≤ place → (begin ≡ at.to → ⊥) → (arms : ArmPlans) → ArmsBehind steps at place (Some begin) arms → ArmsFrom steps at begin arms
seen_from steps at place begin within apart no_arms behind = absurd (none-some begin (sym behind))
seen_from steps at place begin within apart (last_arm body) (other, same, inl (there, empty)) = absurd (apart (same_Some begin other same ∙ there))
seen_from steps at place begin within apart (last_arm body) (other, same, inr (other_apart, beyond, start, stands)) =
    subst (λ b. ArmsFrom steps at b (last_arm body)) (sym (same_Some begin other same)) (not_first, start, stands)
  where
    not_first : other ≡ at.from → ⊥
    not_first first = omega (arith, first, beyond, within)
seen_from steps at place begin within apart (and_arm condition body rest) (other, way, same, other_apart, beyond, is_way, tested, stands, behind) =
    subst (λ b. ArmsFrom steps at b (and_arm condition body rest)) (sym (same_Some begin other same)) (way, is_way, tested, stands, behind)

-- it is further on
beyond : (steps : List Step) (at : BranchesAt) (place begin : ℕ) → (begin ≡ at.to → ⊥) → (arms : ArmPlans) → ArmsBehind steps at place (Some begin) arms → place < begin
beyond steps at place begin apart no_arms behind = absurd (none-some begin (sym behind))
beyond steps at place begin apart (last_arm body) (other, same, inl (there, empty)) = absurd (apart (same_Some begin other same ∙ there))
beyond steps at place begin apart (last_arm body) (other, same, inr (other_apart, past, start, stands)) = omega (arith, past, same_Some begin other same)
beyond steps at place begin apart (and_arm condition body rest) (other, way, same, other_apart, past, is_way, tested, stands, behind) = omega (arith, past, same_Some begin other same)

further_behind : (steps : List Step) (store : Store) (at : BranchesAt) (levels place begin : ℕ) → at.from ≤ place → (begin ≡ at.to → ⊥) → place < begin → (answer : Option Found) → RestAnswer at begin levels answer steps store → BehindAnswer at place (Some begin) levels answer steps store
further_behind steps store at levels place begin within apart past None none = λ arms behind. none arms (seen_from steps at place begin within apart arms behind)
further_behind steps store at levels place begin within apart past (Some found) (fits, is) = (fits, record { arms = is.arms; stand = seen_behind steps at place begin apart past is.arms is.stand; held = is.held; levels = is.levels })

-- nothing, an `else` without statements, or what was found at a further place
pub behind_answer : (steps : List Step) (memory : Memory) (at : BranchesAt) (levels place : ℕ) (found : ℕ → Option Found) (next : Option ℕ) → at.from ≤ place → IsRight steps memory → AreRests steps (view_store memory) at levels place found
    → BehindAnswer at place next levels (found_behind found next at.to) steps (view_store memory)
behind_answer steps memory at levels place found None within right rests = nothing_behind steps memory at levels place right
behind_answer steps memory at levels place found (Some begin) within right rests = by (begin == at.to) refl (nat_lt place begin) refl
  where
    by : (last : Bool) → (begin == at.to) ≡ last → (past : Bool) → nat_lt place begin ≡ past → BehindAnswer at place (Some begin) levels (if last then Some (record { number = 1; levels = 0 }) else found begin) steps (view_store memory)
    by true there past e = empty_behind steps memory at levels place begin right (grind (arith, nat_tests))
    by false there true e = further_behind steps (view_store memory) at levels place begin within apart (grind (arith, nat_tests)) (found begin) (rests.behind begin (grind (arith, nat_tests)))
      where
        apart : begin ≡ at.to → ⊥
        apart same = grind (arith, nat_tests)
    by false there false e = subst (λ answer. BehindAnswer at place (Some begin) levels answer steps (view_store memory)) (sym (rests.before begin (grind (arith, nat_tests)))) none
      where
        apart : begin ≡ at.to → ⊥
        apart same = grind (arith, nat_tests)

        none : (arms : ArmPlans) → ArmsBehind steps at place (Some begin) arms → levels < arm_levels steps arms
        none arms behind = absurd (not_past (beyond steps at place begin apart arms behind))
          where
            not_past : place < begin → ⊥
            not_past past = grind (arith, nat_tests)

-- ---- the ways at a place

pub nothing_behind_way : (steps : List Step) (at : BranchesAt) (place levels : ℕ) (way : Way) → NoneBehind steps at place way.next levels → NoWay steps at place levels way
nothing_behind_way steps at place levels way none condition body behind stands is_behind = omega (arith, none behind is_behind)

pub no_arm_in_way : (steps : List Step) (at : BranchesAt) (place levels : ℕ) (way : Way) → NoArm steps at place way levels → NoWay steps at place levels way
no_arm_in_way steps at place levels way none condition body behind stands is_behind = omega (arith, none condition body stands)

-- a way of a list has a number in it
way_number : (ways : List Way) (way : Way) → IsAmongWays ways way → (n : ℕ) × (slice_get ways n ≡ Some way)
way_number [] way among = absurd among
way_number (first ∷ ways) way (inl same) = (0, ap (λ one. Some one) same)
way_number (first ∷ ways) way (inr among) = let later = way_number ways way among in (suc later.0, later.1)

pub numbered_way : (ways : List Way) (n : ℕ) (way : Way) → slice_get ways n ≡ Some way → IsAmongWays ways way
numbered_way [] zero way there = absurd (none-some way there)
numbered_way [] (suc n) way there = absurd (none-some way there)
numbered_way (first ∷ ways) zero way there = inl (same_Some first way there)
numbered_way (first ∷ ways) (suc n) way there = inr (numbered_way ways n way there)

-- where all ways were tried, an `else` is left, where that is not the first place
arms_tried : (steps : List Step) (at : BranchesAt) (place levels : ℕ) (ways : List Way) → IsStartOf steps at place ways → ((n : ℕ) (way : Way) → slice_get ways n ≡ Some way → NoWay steps at place levels way) → (condition : Option ConditionTree) (body : Plans) (rest : ArmPlans)
    → ArmsFrom steps at place (and_arm condition body rest) → levels < arm_levels steps (and_arm condition body rest)
arms_tried steps at place levels ways start tried condition body rest (way, is_way, tested, stands, behind) =
    let number = way_number ways way (start.all way is_way) in
    tried number.0 way number.1 condition body rest (tested, stands) behind

pub no_rest_first : (steps : List Step) (at : BranchesAt) (place levels : ℕ) (ways : List Way) → IsStartOf steps at place ways → ((n : ℕ) (way : Way) → slice_get ways n ≡ Some way → NoWay steps at place levels way) → place ≡ at.from → NoRest steps at place levels
no_rest_first steps at place levels ways start tried first no_arms stand = absurd stand
no_rest_first steps at place levels ways start tried first (last_arm body) (apart, is_start, stands) = absurd (apart first)
no_rest_first steps at place levels ways start tried first (and_arm condition body rest) stand = arms_tried steps at place levels ways start tried condition body rest stand

pub no_rest_further : (steps : List Step) (at : BranchesAt) (place levels : ℕ) (ways : List Way) → IsStartOf steps at place ways → ((n : ℕ) (way : Way) → slice_get ways n ≡ Some way → NoWay steps at place levels way) → NoBlock steps (block_at steps place at.to at.exit) levels
    → NoRest steps at place levels
no_rest_further steps at place levels ways start tried none no_arms stand = absurd stand
no_rest_further steps at place levels ways start tried none (last_arm body) (apart, is_start, stands) = none body stands
no_rest_further steps at place levels ways start tried none (and_arm condition body rest) stand = arms_tried steps at place levels ways start tried condition body rest stand
