-- Conditions and ways one behind the other, and the places that are reached.
use Rattle.std.proofs.Common.{◌≡◌, ◌∙◌, refl, sym, ap, subst, ℕ, suc, ◌+◌, ◌-◌, ◌<◌, ◌≢◌, Bool, true, false, List, [], ◌∷◌, ◌++◌, length, get_or, set, Option, Some, None, arith, append_assoc}
use Rattle.std.specs.Prelude.{◌==◌, ◌||◌, nat_le, nat_lt, option_and_then, option_to_list, replicate, if◌then◌else◌}
use Rattle.std.proofs.lemmas.Bool.Decides.{nat_tests}
use Rattle.std.proofs.lemmas.List.{get_or-set_other, get_or-replicate, length-replicate, length-set}
use Rattle.std.proofs.lemmas.Grind.{get_or-set_at}
use Rattle.std.proofs.lemmas.List.Folds.{list_any-append}
use Rattle.std.proofs.Math.Bool.{or-false, or-true}
use Rattle.recover_expr.specs.declared.steps.Step.{Step}
use Rattle.recover_flow.specs.Arms.{Starting, arm_starts, first_ways, for_target, is_next, noted, number_behind, seen_with, starts_behind, further_ways, target_ahead, tests_from, tests_there, with_next}
use Rattle.recover_flow.specs.Asked.{is_this}
use Rattle.recover_flow.specs.declared.branches.Seen.{Seen}
use Rattle.recover_flow.specs.declared.branches.Tests.{Tests}
use Rattle.recover_flow.specs.declared.branches.Way.{Way}
use Rattle.recover_flow.specs.declared.regions.BranchesAt.{BranchesAt}

-- ---- conditions

tests_at_place : (steps : List Step) (to : ℕ) (bare : Bool) (seen : Seen) (place left : ℕ) (target : Option ℕ) → target ≡ target_ahead steps to place →
    tests_from steps to bare seen place (suc left) ≡ for_target target (λ goes. option_to_list (tests_there bare (place + 1) (seen_with steps place goes seen)) ++ tests_from steps to bare (seen_with steps place goes seen) (place + 1) left)
tests_at_place steps to bare seen place left target is =
    ap (λ t. for_target t (λ goes. option_to_list (tests_there bare (place + 1) (seen_with steps place goes seen)) ++ tests_from steps to bare (seen_with steps place goes seen) (place + 1) left)) (sym is)

-- behind those that were found stand those of the places that are left
pub tests_turn : (steps : List Step) (to : ℕ) (bare : Bool) (seen now : Seen) (place count counter target : ℕ) (before after : List Tests) (found : Option Tests) → counter < count → Some target ≡ target_ahead steps to place →
    now ≡ seen_with steps place target seen → found ≡ tests_there bare (place + 1) now → after ≡ before ++ option_to_list found → {whole : List Tests} →
    before ++ tests_from steps to bare seen place (count - counter) ≡ whole → after ++ tests_from steps to bare now (place + 1) (count - (counter + 1)) ≡ whole
tests_turn steps to bare seen now place count counter target before after found more goes now_is found_is after_is left =
    let fewer : count - counter ≡ suc (count - (counter + 1)) = omega arith in
    let rest : List Tests = tests_from steps to bare now (place + 1) (count - (counter + 1)) in
    ap (λ those. those ++ rest) after_is
    ∙ append_assoc before (option_to_list found) rest
    ∙ ap (λ one. before ++ (option_to_list one ++ rest)) found_is
    ∙ ap (λ s. before ++ (option_to_list (tests_there bare (place + 1) s) ++ tests_from steps to bare s (place + 1) (count - (counter + 1)))) now_is
    ∙ ap (λ those. before ++ those) (sym (tests_at_place steps to bare seen place (count - (counter + 1)) (Some target) goes))
    ∙ ap (λ n. before ++ tests_from steps to bare seen place n) (sym fewer)
    ∙ left

append_none : {X : Type 0} (those : List X) → those ++ [] ≡ those
append_none [] = refl
append_none (one ∷ those) = ap (λ rest. one ∷ rest) (append_none those)

pub tests_stop : (steps : List Step) (to : ℕ) (bare : Bool) (seen : Seen) (place count counter : ℕ) (before : List Tests) → counter < count → None ≡ target_ahead steps to place → {whole : List Tests} →
    before ++ tests_from steps to bare seen place (count - counter) ≡ whole → before ≡ whole
tests_stop steps to bare seen place count counter before more goes left =
    let fewer : count - counter ≡ suc (count - (counter + 1)) = omega arith in
    sym (append_none before)
    ∙ ap (λ those. before ++ those) (sym (tests_at_place steps to bare seen place (count - (counter + 1)) None goes))
    ∙ ap (λ n. before ++ tests_from steps to bare seen place n) (sym fewer)
    ∙ left

-- ---- the places that are reached

abbrev pub all_ways : List Starting → List Way
all_ways [] = []
all_ways (start ∷ starts) = start.ways ++ all_ways starts

-- a place is noted where one of these ways has the next arm there
abbrev pub AreReached : (from : ℕ) → List Way → List Bool → Type 0
AreReached from ways reached = (n : ℕ) → n < length reached → get_or reached n false ≡ is_next ways (from + n)

pub none_reached : (from count : ℕ) → AreReached from [] (replicate count false)
none_reached from count = λ n below. get_or-replicate count n false false (grind (arith, length-replicate))

set_same : (reached : List Bool) (number n : ℕ) → n < length reached → (number == n) ≡ true → get_or (set reached number true) n false ≡ (get_or reached n false || (number == n))
set_same reached number n below same =
    let is : n ≡ number = grind (arith, nat_tests) in
    let within : number < length reached = omega arith in
    get_or-set_at reached number n true false is within ∙ sym (ap (λ b. get_or reached n false || b) same ∙ or-true (get_or reached n false))

set_other : (reached : List Bool) (number n : ℕ) → (number == n) ≡ false → get_or (set reached number true) n false ≡ (get_or reached n false || (number == n))
set_other reached number n other =
    let differs : n ≢ number = grind (arith, nat_tests) in
    get_or-set_other reached number n true false differs ∙ sym (ap (λ b. get_or reached n false || b) other ∙ or-false (get_or reached n false))

set_either : (reached : List Bool) (number n : ℕ) → n < length reached → (same : Bool) → (number == n) ≡ same → get_or (set reached number true) n false ≡ (get_or reached n false || (number == n))
set_either reached number n below true same = set_same reached number n below same
set_either reached number n below false other = set_other reached number n other

noted_within : (reached : List Bool) (number n : ℕ) → n < length reached → (within : Bool) → nat_lt number (length reached) ≡ within →
    get_or (if within then set reached number true else reached) n false ≡ (get_or reached n false || (number == n))
noted_within reached number n below true within = set_either reached number n below (number == n) refl
noted_within reached number n below false past =
    let other : (number == n) ≡ false = grind (arith, nat_tests) in
    sym (ap (λ b. get_or reached n false || b) other ∙ or-false (get_or reached n false))

noted_behind : (from : ℕ) (reached : List Bool) (next n : ℕ) → n < length reached → (behind : Bool) → nat_le from next ≡ behind →
    get_or (noted reached (if behind then Some (next - from) else None)) n false ≡ (get_or reached n false || (next == (from + n)))
noted_behind from reached next n below true behind =
    let same : ((next - from) == n) ≡ (next == (from + n)) = grind (arith, nat_tests) in
    noted_within reached (next - from) n below (nat_lt (next - from) (length reached)) refl ∙ ap (λ b. get_or reached n false || b) same
noted_behind from reached next n below false before =
    let other : (next == (from + n)) ≡ false = grind (arith, nat_tests) in
    sym (ap (λ b. get_or reached n false || b) other ∙ or-false (get_or reached n false))

noted_one : (from : ℕ) (reached : List Bool) (next : Option ℕ) (n : ℕ) → n < length reached → get_or (noted reached (option_and_then (number_behind from) next)) n false ≡ (get_or reached n false || is_this next (from + n))
noted_one from reached None n below = sym (or-false (get_or reached n false))
noted_one from reached (Some next) n below = noted_behind from reached next n below (nat_le from next) refl

same_length : (reached : List Bool) (number : ℕ) (within : Bool) → length (if within then set reached number true else reached) ≡ length reached
same_length reached number true = length-set reached number true
same_length reached number false = refl

noted_length : (reached : List Bool) (number : Option ℕ) → length (noted reached number) ≡ length reached
noted_length reached None = refl
noted_length reached (Some number) = same_length reached number (nat_lt number (length reached))

pub next_length : (from : ℕ) (ways : List Way) (reached : List Bool) → length (with_next from ways reached) ≡ length reached
next_length from [] reached = refl
next_length from (way ∷ ways) reached = next_length from ways (noted reached (option_and_then (number_behind from) way.next)) ∙ noted_length reached (option_and_then (number_behind from) way.next)

is_next_more : (before : List Way) (way : Way) (place : ℕ) → is_next (before ++ way ∷ []) place ≡ (is_next before place || is_this way.next place)
is_next_more before way place = list_any-append (λ (one : Way). is_this one.next place) before (way ∷ []) ∙ ap (λ b. is_next before place || b) (or-false (is_this way.next place))

-- those behind more arms are noted
pub next_reached : (from : ℕ) (before ways : List Way) (reached : List Bool) → AreReached from before reached → AreReached from (before ++ ways) (with_next from ways reached)
next_reached from before [] reached are = λ n below. are n below ∙ ap (λ those. is_next those (from + n)) (sym (append_none before))
next_reached from before (way ∷ ways) reached are =
    let now : List Bool = noted reached (option_and_then (number_behind from) way.next) in
    let first : AreReached from (before ++ way ∷ []) now = λ n below.
    noted_one from reached way.next n (rw (sym (noted_length reached (option_and_then (number_behind from) way.next))) below)
    ∙ ap (λ b. b || is_this way.next (from + n)) (are n (rw (sym (noted_length reached (option_and_then (number_behind from) way.next))) below))
    ∙ sym (is_next_more before way (from + n)) in
    λ n below. next_reached from (before ++ way ∷ []) ways now first n below ∙ ap (λ those. is_next those (from + n)) (append_assoc before (way ∷ []) ways)

-- ---- the places at which an arm may begin

pub all_ways_more : (starts : List Starting) (start : Starting) → all_ways (starts ++ start ∷ []) ≡ all_ways starts ++ start.ways
all_ways_more [] start = append_none start.ways
all_ways_more (first ∷ starts) start = ap (λ those. first.ways ++ those) (all_ways_more starts start) ∙ sym (append_assoc first.ways (all_ways starts) start.ways)

starts_at_place : (steps : List Step) (at : BranchesAt) (ways : List Way) (place left : ℕ) (found : Bool) → is_next ways place ≡ found →
    starts_behind steps at ways place (suc left)
    ≡ (if found then record { place = place; ways = further_ways steps at place } ∷ starts_behind steps at (ways ++ further_ways steps at place) (place + 1) left else starts_behind steps at ways (place + 1) left)
starts_at_place steps at ways place left found is =
    ap (λ b. if b then record { place = place; ways = further_ways steps at place } ∷ starts_behind steps at (ways ++ further_ways steps at place) (place + 1) left else starts_behind steps at ways (place + 1) left) is

-- a place that is not reached
pub starts_over : (steps : List Step) (at : BranchesAt) (number count : ℕ) (starts : List Starting) (reached : List Bool) → number < count → length reached ≡ count → AreReached at.from (all_ways starts) reached →
    get_or reached number false ≡ false → {whole : List Starting} →
    starts ++ starts_behind steps at (all_ways starts) (at.from + number) (count - number) ≡ whole → starts ++ starts_behind steps at (all_ways starts) (at.from + (number + 1)) (count - (number + 1)) ≡ whole
starts_over steps at number count starts reached more many are none left =
    let fewer : count - number ≡ suc (count - (number + 1)) = omega arith in
    let below : number < length reached = omega arith in
    let place : at.from + (number + 1) ≡ at.from + number + 1 = omega arith in
    ap (λ p. starts ++ starts_behind steps at (all_ways starts) p (count - (number + 1))) place
    ∙ ap (λ those. starts ++ those) (sym (starts_at_place steps at (all_ways starts) (at.from + number) (count - (number + 1)) false (sym (are number below) ∙ none)))
    ∙ ap (λ n. starts ++ starts_behind steps at (all_ways starts) (at.from + number) n) (sym fewer)
    ∙ left

-- one that is
pub starts_turn : (steps : List Step) (at : BranchesAt) (number count : ℕ) (starts after : List Starting) (reached : List Bool) (ways : List Way) → number < count → length reached ≡ count → AreReached at.from (all_ways starts) reached →
    get_or reached number false ≡ true → ways ≡ further_ways steps at (at.from + number) → after ≡ starts ++ record { place = at.from + number; ways = ways } ∷ [] → {whole : List Starting} →
    starts ++ starts_behind steps at (all_ways starts) (at.from + number) (count - number) ≡ whole → after ++ starts_behind steps at (all_ways after) (at.from + (number + 1)) (count - (number + 1)) ≡ whole
starts_turn steps at number count starts after reached ways more many are there ways_are after_is left =
    let fewer : count - number ≡ suc (count - (number + 1)) = omega arith in
    let below : number < length reached = omega arith in
    let place : at.from + (number + 1) ≡ at.from + number + 1 = omega arith in
    let found : Starting = record { place = at.from + number; ways = ways } in
    ap (λ those. those ++ starts_behind steps at (all_ways those) (at.from + (number + 1)) (count - (number + 1))) after_is
    ∙ ap (λ p. (starts ++ found ∷ []) ++ starts_behind steps at (all_ways (starts ++ found ∷ [])) p (count - (number + 1))) place
    ∙ append_assoc starts (found ∷ []) (starts_behind steps at (all_ways (starts ++ found ∷ [])) (at.from + number + 1) (count - (number + 1)))
    ∙ ap (λ all. starts ++ (found ∷ starts_behind steps at all (at.from + number + 1) (count - (number + 1)))) (all_ways_more starts found)
    ∙ ap (λ those. starts ++ (record { place = at.from + number; ways = those } ∷ starts_behind steps at (all_ways starts ++ those) (at.from + number + 1) (count - (number + 1)))) ways_are
    ∙ ap (λ those. starts ++ those) (sym (starts_at_place steps at (all_ways starts) (at.from + number) (count - (number + 1)) true (sym (are number below) ∙ there)))
    ∙ ap (λ n. starts ++ starts_behind steps at (all_ways starts) (at.from + number) n) (sym fewer)
    ∙ left

-- behind one that is, its ways are reached too
pub reached_turn : (from : ℕ) (starts after : List Starting) (start : Starting) (reached now : List Bool) → after ≡ starts ++ start ∷ [] → now ≡ with_next from start.ways reached → AreReached from (all_ways starts) reached → AreReached from (all_ways after) now
reached_turn from starts after start reached now after_is now_is are =
    let first : AreReached from (all_ways starts ++ start.ways) (with_next from start.ways reached) = next_reached from (all_ways starts) start.ways reached are in
    let same : all_ways starts ++ start.ways ≡ all_ways after = sym (ap all_ways after_is ∙ all_ways_more starts start) in
    let P : List Way → Type 0 = λ ways. AreReached from ways (with_next from start.ways reached) in
    let Q : List Bool → Type 0 = λ bits. AreReached from (all_ways after) bits in
    subst Q (sym now_is) (subst P same first)

pub many_turn : (from count : ℕ) (ways : List Way) (reached now : List Bool) → now ≡ with_next from ways reached → length reached ≡ count → length now ≡ count
many_turn from count ways reached now now_is many = ap length now_is ∙ next_length from ways reached ∙ many

-- ---- the first place

pub none_many : (count : ℕ) (fresh : List Bool) → fresh ≡ replicate count false → length fresh ≡ count
none_many count fresh fresh_is = ap length fresh_is ∙ length-replicate count false

pub reached_first : (from count : ℕ) (after : List Starting) (start : Starting) (fresh now : List Bool) → fresh ≡ replicate count false → after ≡ [] ++ start ∷ [] → now ≡ with_next from start.ways fresh → AreReached from (all_ways after) now
reached_first from count after start fresh now fresh_is after_is now_is =
    let P : List Bool → Type 0 = λ bits. AreReached from [] bits in
    reached_turn from [] after start fresh now after_is now_is (subst P (sym fresh_is) (none_reached from count))

pub starts_first : (steps : List Step) (at : BranchesAt) (count : ℕ) (after : List Starting) (ways : List Way) → count ≡ at.to - at.from → after ≡ [] ++ record { place = at.from; ways = ways } ∷ [] → ways ≡ first_ways steps at →
    after ++ starts_behind steps at (all_ways after) (at.from + 1) (count - 1) ≡ arm_starts steps at
starts_first steps at count after ways count_is after_is ways_are =
    let fewer : count - 1 ≡ at.to - (at.from + 1) = omega arith in
    let whole : List Way → List Starting = λ those. record { place = at.from; ways = those } ∷ starts_behind steps at those (at.from + 1) (at.to - (at.from + 1)) in
    ap (λ those. those ++ starts_behind steps at (all_ways those) (at.from + 1) (count - 1)) after_is
    ∙ ap (λ n. record { place = at.from; ways = ways } ∷ starts_behind steps at (ways ++ []) (at.from + 1) n) fewer
    ∙ ap (λ those. record { place = at.from; ways = ways } ∷ starts_behind steps at those (at.from + 1) (at.to - (at.from + 1))) (append_none ways)
    ∙ ap whole ways_are
