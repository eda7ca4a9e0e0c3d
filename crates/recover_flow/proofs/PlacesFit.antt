-- The pieces of a body follow one another from its beginning to its end, and the arms of an `if` lie between its beginning and its end, each where its tests and its block have room.
use Rattle.std.proofs.Common.{◌≡◌, ◌∙◌, ◌≢◌, inl, inr, refl, sym, ap, subst, ℕ, zero, suc, ◌+◌, ◌-◌, ◌<◌, ◌≤◌, max, min, Bool, true, false, ◌&&◌, ◌==◌, nat_le, nat_lt, List, [], ◌∷◌, ◌++◌, reverse, Option, None, Some, unwrap_or, option_map, option_and_then, option_to_list, if◌then◌else◌, arith}
use Rattle.std.specs.List.{AllByRecursion}
use Rattle.std.proofs.lemmas.Bool.{and_parts, false≢true}
use Rattle.std.proofs.lemmas.Bool.Decides.{nat_tests}
use Rattle.std.proofs.lemmas.List.{reverse-append}
use Rattle.std.proofs.lemmas.Option.{none-some, option_and_then_some, same_Some}
use Rattle.recover_expr.specs.declared.steps.Step.{Step}
use Rattle.recover_expr.specs.declared.steps.StepKind.{StepKind}
use Rattle.recover_flow.specs.Arms.{Starting, arm_starts, first_true, first_ways, for_target, further_ways, goes_within, is_next, is_wanted, last_begin, last_part, longest, longest_first, nothing_seen, one_past, or_true, seen_with, starts_behind, target_ahead, tested_ways, tests_at, tests_from, tests_there, tests_to, true_way, way_before, way_last, ways_behind, with_target}
use Rattle.recover_flow.specs.Asked.{is_this, is_test, is_unit, jump_of, jumps_to, kind_at, last_back, lengths_after, plain_body, run_behind, target_at}
use Rattle.recover_flow.specs.Cutting.{begun_behind, behind_jump, behind_kind, behind_place, behind_step, breaks_out, cut_behind, ends_behind, ends_with_body, further, locals_reach, pieces_from, pieces_of, reach_to, turn_behind, turn_to, within}
use Rattle.recover_flow.specs.Lying.{Jumps}
use Rattle.recover_flow.specs.Standing.{IsAmongWays, IsWay}
use Rattle.recover_flow.specs.declared.branches.Seen.{Seen}
use Rattle.recover_flow.specs.declared.branches.Targets.{Targets}
use Rattle.recover_flow.specs.declared.branches.Tests.{Tests}
use Rattle.recover_flow.specs.declared.branches.Way.{Way}
use Rattle.recover_flow.specs.declared.cuts.Reach.{Reach}
use Rattle.recover_flow.specs.declared.regions.BodyAt.{BodyAt}
use Rattle.recover_flow.specs.declared.regions.BranchesAt.{BranchesAt}
use Rattle.recover_flow.specs.declared.regions.Exit.{Exit}
use Rattle.recover_flow.specs.declared.regions.Piece.{Piece}
use Rattle.recover_flow.proofs.LyingParts.{EndsFit, FollowOn, PiecesFollow, WaysFit}

-- ---- tests, and values that may be there

-- what holds of either value holds of the one that a test takes
by_test : {X P : Type 0} (test : Bool) (x y z : X) → (if test then x else y) ≡ z → (test ≡ true → x ≡ z → P) → (test ≡ false → y ≡ z → P) → P
by_test true x y z is passes fails = passes refl is
by_test false x y z is passes fails = fails refl is

by_map : {X Y P : Type 0} (f : X → Y) (o : Option X) (y : Y) → option_map f o ≡ Some y → ((x : X) → o ≡ Some x → f x ≡ y → P) → P
by_map f None y is found = absurd (none-some y is)
by_map f (Some x) y is found = found x refl (same_Some (f x) y is)

-- ---- how far a piece reaches

-- it begins where it did, and reaches as far as before
abbrev IsRaised : (before after : Reach) → Type 0
IsRaised before after = (after.begin ≡ before.begin) × (before.far ≤ after.far)

raised_same : (reach after : Reach) → Some reach ≡ Some after → IsRaised reach after
raised_same reach after is = subst (IsRaised reach) (same_Some reach after is) (refl, omega arith)

raised_to : (place : ℕ) (reach : Reach) → IsRaised reach (reach_to place reach)
raised_to place reach = (refl, omega arith)

raised_both : (before between after : Reach) → IsRaised before between → IsRaised between after → IsRaised before after
raised_both before between after first second = (second.0 ∙ first.0, omega (arith, first.1, second.1))

raised_behind : (last : Option ℕ) (reach : Reach) → IsRaised reach (turn_behind last reach)
raised_behind None reach = (refl, omega arith)
raised_behind (Some last) reach = (refl, omega arith)

raised_jump : (steps : List Step) (exit : Option Exit) (place target : ℕ) (reach after : Reach) → behind_jump steps exit place target reach ≡ Some after → IsRaised reach after
raised_jump steps exit place target reach after is =
    by_test (nat_le target place) _ _ (Some after) is
    (λ back now. by_test (nat_le reach.begin target) _ _ (Some after) now (λ from same. raised_same reach after same) (λ from none. absurd (none-some after none)))
    (λ ahead now.
    by_test (breaks_out steps exit place reach) _ _ (Some after) now
    (λ out same. raised_same reach after same)
    (λ stays more. subst (IsRaised reach) (same_Some (reach_to target reach) after more) (raised_to target reach)))

raised_one : (test : Bool) (reach more : Reach) → IsRaised reach more → IsRaised reach (if test then reach else more)
raised_one true reach more raised = (refl, omega arith)
raised_one false reach more raised = raised

raised_other : (test : Bool) (reach more : Reach) → IsRaised reach more → IsRaised reach (if test then more else reach)
raised_other true reach more raised = raised
raised_other false reach more raised = (refl, omega arith)

raised_kind : (steps : List Step) (at : BodyAt) (place base : ℕ) (kind : StepKind) (reach after : Reach) → behind_kind steps at place base kind reach ≡ Some after → IsRaised reach after
raised_kind steps at place base StepKind.Act reach after is = raised_same reach after is
raised_kind steps at place base StepKind.Return reach after is = raised_same reach after is
raised_kind steps at place base (StepKind.Declaration end captured) reach after is =
    subst (IsRaised reach) (same_Some _ after is) (raised_one (ends_with_body steps at place end reach) reach (reach_to (locals_reach end captured) reach) (raised_to (locals_reach end captured) reach))
raised_kind steps at place base (StepKind.Test when target negated) reach after is = raised_jump steps at.exit place target reach after is
raised_kind steps at place base (StepKind.Jump target) reach after is = raised_jump steps at.exit place target reach after is
raised_kind steps at place base (StepKind.Close from declared) reach after is =
    subst (IsRaised reach) (same_Some _ after is) (raised_other (nat_lt from base) reach (reach_to (further 2 place) reach) (raised_to (further 2 place) reach))
raised_kind steps at place base (StepKind.Head numeric foot end variables_end captured) reach after is =
    by_map (turn_to (further 1 foot)) (behind_jump steps at.exit place foot reach) after is
    (λ between jumped turned. raised_both reach between after (raised_jump steps at.exit place foot reach between jumped) (subst (IsRaised between) turned (refl, omega arith)))
raised_kind steps at place base (StepKind.Foot numeric target) reach after is = raised_jump steps at.exit place target reach after is

-- behind a place it reaches past the place, and not past the end of the body
pub record IsPast (at : BodyAt) (place : ℕ) (before after : Reach) : Type 0 where
  pub begin : after.begin ≡ before.begin
  pub past : place + 1 ≤ after.far
  pub fits : after.far ≤ at.to

past_within : (at : BodyAt) (place : ℕ) (before reach after : Reach) → reach.begin ≡ before.begin → place + 1 ≤ reach.far → within at reach ≡ Some after → IsPast at place before after
past_within at place before reach after begin past is =
    by_test (nat_le reach.far at.to) _ _ (Some after) is
    (λ fits same. subst (IsPast at place before) (same_Some reach after same) (record { begin = begin; past = past; fits = grind (arith, nat_tests) }))
    (λ over none. absurd (none-some after none))

past_step : (steps : List Step) (at : BodyAt) (place : ℕ) (before after : Reach) (step : Step) → behind_step steps at place before step ≡ Some after → IsPast at place before after
past_step steps at place before after step is =
    let first : Reach = reach_to (place + 1) before in
    let turned : Reach = turn_behind (last_back steps place at.to) first in
    option_and_then_some (within at) (behind_kind steps at place step.base step.kind turned) after is
    (λ reach kind fits.
    let behind = raised_behind (last_back steps place at.to) first in
    let raised = raised_kind steps at place step.base step.kind turned reach kind in
    past_within at place before reach after (raised.0 ∙ behind.0) (omega (arith, behind.1, raised.1)) fits)

pub past_place : (steps : List Step) (at : BodyAt) (place : ℕ) (before after : Reach) → behind_place steps at place before ≡ Some after → IsPast at place before after
past_place steps at place before after is = option_and_then_some (behind_step steps at place before) _ after is (λ step there behind. past_step steps at place before after step behind)

-- ---- pieces

-- a piece has begun at a place or before it, and goes on past it unless it begins there
record IsOn (at : BodyAt) (place : ℕ) (reach : Reach) : Type 0 where
  begun : reach.begin ≤ place
  on : place ≤ reach.far
  fits : reach.far ≤ at.to
  fresh : reach.far ≡ place → reach.begin ≡ place

on_next : (at : BodyAt) (place : ℕ) (before behind : Reach) → before.begin ≤ place → IsPast at place before behind → (ends : Bool) → ends_behind place behind ≡ ends → IsOn at (place + 1) (if ends then record behind { begin = behind.far } else behind)
on_next at place before behind begun past true ends =
    let here : behind.far ≡ place + 1 = grind (arith, nat_tests) in
    record { begun = omega (arith, here); on = past.past; fits = past.fits; fresh = λ same. here }
on_next at place before behind begun past false goes =
    let further_on : behind.far ≢ place + 1 = grind (arith, nat_tests) in
    record { begun = omega (arith, begun, past.begin); on = past.past; fits = past.fits; fresh = λ same. absurd (further_on same) }

-- a piece that is cut there begins what follows
follow_cut : (at : BodyAt) (place : ℕ) (before behind : Reach) (rest : List Piece) → before.begin ≤ place → IsPast at place before behind → (ends : Bool)
    → FollowOn rest (if ends then record behind { begin = behind.far } else behind).begin at.to → FollowOn ((if ends then record { from = behind.begin; to = behind.far } ∷ [] else []) ++ rest) before.begin at.to
follow_cut at place before behind rest begun past true others = (past.begin, omega (arith, begun, past.past), past.fits, others)
follow_cut at place before behind rest begun past false others = subst (λ begin. FollowOn rest begin at.to) past.begin others

follow_from : (steps : List Step) (at : BodyAt) (count place : ℕ) (reach : Reach) (pieces : List Piece) → IsOn at place reach → place + count ≡ at.to → pieces_from steps at count place reach ≡ Some pieces → FollowOn pieces reach.begin at.to
follow_from steps at zero place reach pieces on all is =
    let ends : at.to ≡ place = omega (arith, all) in
    let far : reach.far ≡ place = omega (arith, on.on, on.fits, ends) in
    subst (λ those. FollowOn those reach.begin at.to) (same_Some [] pieces is) (ends ∙ sym (on.fresh far))
follow_from steps at (suc count) place reach pieces on all is =
    option_and_then_some (λ behind. option_map (λ rest. cut_behind place behind ++ rest) (pieces_from steps at count (place + 1) (begun_behind place behind))) (behind_place steps at place reach) pieces is
    (λ behind there left.
    let past = past_place steps at place reach behind there in
    by_map (λ rest. cut_behind place behind ++ rest) (pieces_from steps at count (place + 1) (begun_behind place behind)) pieces left
    (λ rest others joined.
    let follow = follow_from steps at count (place + 1) (begun_behind place behind) rest (on_next at place reach behind on.begun past (ends_behind place behind) refl) (omega (arith, all)) others in
    subst (λ those. FollowOn those reach.begin at.to) joined (follow_cut at place reach behind rest on.begun past (ends_behind place behind) follow)))

pub pieces_follow : PiecesFollow
pieces_follow steps at pieces low is =
    follow_from steps at (at.to - at.from) at.from (record { begin = at.from; far = at.from; turned = 0 }) pieces (record { begun = omega arith; on = omega arith; fits = low; fresh = λ same. refl }) (omega (arith, low)) is

-- ---- the tests of a condition

-- what holds of each of a list, and of each of another, holds of each of both
module _ {X : Type 0} (holds : X → Type 0) where
  all_joined : (xs ys : List X) → AllByRecursion holds xs → AllByRecursion holds ys → AllByRecursion holds (xs ++ ys)
  all_joined [] ys first second = second
  all_joined (x ∷ xs) ys first second = (first.0, all_joined xs ys first.1 second)

  all_reversed : (xs : List X) → AllByRecursion holds xs → AllByRecursion holds (reverse xs)
  all_reversed [] all = tt
  all_reversed (x ∷ xs) all = subst (AllByRecursion holds) (sym (reverse-append (x ∷ []) xs)) (all_joined (reverse xs) (x ∷ []) (all_reversed xs all.1) (all.0, tt))

  all_one : (found : Option X) → ((x : X) → found ≡ Some x → holds x) → AllByRecursion holds (option_to_list found)
  all_one None one = tt
  all_one (Some x) one = (one x refl, tt)

run_most : (test : ℕ → Bool) (from most : ℕ) → run_behind test from most ≤ most
run_most test from zero = omega arith
run_most test from (suc n) = one (test from) (run_most test (from + 1) n)
  where
    one : (b : Bool) → run_behind test (from + 1) n ≤ n → (if b then suc (run_behind test (from + 1) n) else 0) ≤ suc n
    one true rest = omega (arith, rest)
    one false rest = omega arith

longest_fits : (steps : List Step) (from to : ℕ) (bare : Bool) → from ≤ to → from + longest bare (lengths_after steps from to) ≤ to
longest_fits steps from to true low = let most = run_most (λ place. is_unit (kind_at steps place)) from (min 100 (to - from)) in omega (arith, low, most)
longest_fits steps from to false low = let most = run_most (λ place. is_test (kind_at steps place)) from (min 100 (to - from)) in omega (arith, low, most)

-- tests that stand from a place on, and go no further than an end
record TestsFit (from to : ℕ) (tests : Tests) : Type 0 where
  begin : from ≤ tests.end
  ends : tests.end ≤ to
  goes : tests.target ≤ to

target_within : (steps : List Step) (to place target : ℕ) → target_ahead steps to place ≡ Some target → target ≤ to
target_within steps to place target is =
    option_and_then_some (goes_within place to) (target_at steps place) target is
    (λ goes there within.
    by_test (nat_lt place goes && nat_le goes to) _ _ (Some target) within
    (λ fits same.
    let before = (and_parts (nat_lt place goes) (nat_le goes to) fits).1 in
    let low : goes ≤ to = grind (arith, nat_tests) in
    omega (arith, low, same_Some goes target same))
    (λ past none. absurd (none-some target none)))

furthest_within : (to target : ℕ) (targets : Targets) → target ≤ to → targets.furthest ≤ to → (with_target target targets).furthest ≤ to
furthest_within to target targets low known = first (nat_lt targets.furthest target) (nat_lt target targets.furthest)
  where
    first : (more less : Bool) → (if more then record { furthest = target; second = targets.furthest } else if less then record { furthest = targets.furthest; second = max targets.second target } else targets).furthest ≤ to
    first true less = low
    first false true = known
    first false false = known

one_past_within : (targets : Targets) (end to target : ℕ) → end ≤ to → targets.furthest ≤ to → one_past targets end ≡ Some target → target ≤ to
one_past_within targets end to target ends known is =
    by_test (nat_le targets.second end) _ _ (Some target) is
    (λ one same. omega (arith, ends, known, same_Some (max targets.furthest end) target same))
    (λ more none. absurd (none-some target none))

there_fits : (bare : Bool) (from end to : ℕ) (seen : Seen) (tests : Tests) → from ≤ end → end ≤ to → seen.targets.furthest ≤ to → tests_there bare end seen ≡ Some tests → TestsFit from to tests
there_fits bare from end to seen tests begin ends known is =
    by_test (is_wanted bare seen.has_bare) _ _ (Some tests) is
    (λ wanted made.
    by_map (tests_to end) (one_past seen.targets end) tests made
    (λ target past same. subst (TestsFit from to) same (record { begin = begin; ends = ends; goes = one_past_within seen.targets end to target ends known past })))
    (λ other none. absurd (none-some tests none))

all_for_target : (holds : Tests → Type 0) (found : Option ℕ) (tests : ℕ → List Tests) → ((target : ℕ) → found ≡ Some target → AllByRecursion holds (tests target)) → AllByRecursion holds (for_target found tests)
all_for_target holds None tests each = tt
all_for_target holds (Some target) tests each = each target refl

from_fit : (steps : List Step) (from to : ℕ) (bare : Bool) (count place : ℕ) (seen : Seen) → from ≤ place → place + count ≤ to → seen.targets.furthest ≤ to → AllByRecursion (TestsFit from to) (tests_from steps to bare seen place count)
from_fit steps from to bare zero place seen begin ends known = tt
from_fit steps from to bare (suc count) place seen begin ends known =
    all_for_target (TestsFit from to) (target_ahead steps to place) (λ target. option_to_list (tests_there bare (place + 1) (seen_with steps place target seen)) ++ tests_from steps to bare (seen_with steps place target seen) (place + 1) count)
    (λ target goes.
    let now : Seen = seen_with steps place target seen in
    let further_known = furthest_within to target seen.targets (target_within steps to place target goes) known in
    all_joined (TestsFit from to) (option_to_list (tests_there bare (place + 1) now)) (tests_from steps to bare now (place + 1) count)
    (all_one (TestsFit from to) (tests_there bare (place + 1) now) (λ tests there. there_fits bare from (place + 1) to now tests (omega (arith, begin)) (omega (arith, ends)) further_known there))
    (from_fit steps from to bare count (place + 1) now (omega (arith, begin)) (omega (arith, ends)) further_known))

all_longest : (holds : Tests → Type 0) (bare : Bool) (tests : List Tests) → AllByRecursion holds tests → AllByRecursion holds (longest_first bare tests)
all_longest holds true tests all = all
all_longest holds false tests all = all_reversed holds tests all

tests_fit : (steps : List Step) (from to : ℕ) (bare : Bool) → from ≤ to → AllByRecursion (TestsFit from to) (tests_at steps from to bare)
tests_fit steps from to bare low =
    let count : ℕ = longest bare (lengths_after steps from to) in
    all_longest (TestsFit from to) bare (tests_from steps to bare nothing_seen from count) (from_fit steps from to bare count from nothing_seen (omega arith) (longest_fits steps from to bare low) (omega arith))

-- ---- the ways of an arm

-- an arm that begins at a place has room for its tests and its block
abbrev WayFits : List Step → BranchesAt → (place : ℕ) → Way → Type 0
WayFits steps at place way = (place ≤ unwrap_or way.tests_end place) × EndsFit steps at (unwrap_or way.tests_end place) way.block_end way.next

jump_of_kind : (kind : StepKind) (target : ℕ) → is_this (jump_of kind) target ≡ true → kind ≡ StepKind.Jump target
jump_of_kind StepKind.Act target is = absurd (false≢true is)
jump_of_kind StepKind.Return target is = absurd (false≢true is)
jump_of_kind (StepKind.Declaration end captured) target is = absurd (false≢true is)
jump_of_kind (StepKind.Test when to negated) target is = absurd (false≢true is)
jump_of_kind (StepKind.Jump to) target is = let same : to ≡ target = grind (arith, nat_tests) in ap StepKind.Jump same
jump_of_kind (StepKind.Close from declared) target is = absurd (false≢true is)
jump_of_kind (StepKind.Head numeric foot end variables_end captured) target is = absurd (false≢true is)
jump_of_kind (StepKind.Foot numeric to) target is = absurd (false≢true is)

jump_found : (found : Option StepKind) (target : ℕ) → is_this (option_and_then jump_of found) target ≡ true → found ≡ Some (StepKind.Jump target)
jump_found None target is = absurd (false≢true is)
jump_found (Some kind) target is = ap Some (jump_of_kind kind target is)

pub jump_there : (steps : List Step) (place target : ℕ) → jumps_to steps place target ≡ true → Jumps steps place target
jump_there steps place target is = jump_found (kind_at steps place) target is

before_fits : (steps : List Step) (at : BranchesAt) (place : ℕ) (tests : Tests) (way : Way) → TestsFit place at.to tests → way_before steps at tests ≡ Some way → WayFits steps at place way
before_fits steps at place tests way fit is =
    by_test (nat_lt tests.end tests.target && jumps_to steps (tests.target - 1) at.to) _ _ (Some way) is
    (λ passes made.
    let both = and_parts (nat_lt tests.end tests.target) (jumps_to steps (tests.target - 1) at.to) passes in
    let first = both.0 in
    let room : tests.end < tests.target = grind (arith, nat_tests) in
    subst (WayFits steps at place) (same_Some _ way made) (fit.begin, (omega (arith, room), omega (arith, room), fit.goes, jump_there steps (tests.target - 1) at.to both.1)))
    (λ fails none. absurd (none-some way none))

last_fits : (steps : List Step) (at : BranchesAt) (place : ℕ) (tests : Tests) (way : Way) → TestsFit place at.to tests → way_last at tests ≡ Some way → WayFits steps at place way
last_fits steps at place tests way fit is =
    by_test (tests.target == at.to) _ _ (Some way) is
    (λ passes made. subst (WayFits steps at place) (same_Some _ way made) (fit.begin, (fit.ends, refl)))
    (λ fails none. absurd (none-some way none))

behind_fit : (steps : List Step) (at : BranchesAt) (place : ℕ) (those : List Tests) → AllByRecursion (TestsFit place at.to) those → AllByRecursion (WayFits steps at place) (ways_behind steps at those)
behind_fit steps at place [] all = tt
behind_fit steps at place (tests ∷ others) all =
    let fits = WayFits steps at place in
    let before : List Way = option_to_list (way_before steps at tests) in
    let last : List Way = option_to_list (way_last at tests) in
    all_joined fits (before ++ last) (ways_behind steps at others)
    (all_joined fits before last (all_one fits (way_before steps at tests) (λ way is. before_fits steps at place tests way all.0 is)) (all_one fits (way_last at tests) (λ way is. last_fits steps at place tests way all.0 is)))
    (behind_fit steps at place others all.1)

tested_fit : (steps : List Step) (at : BranchesAt) (place : ℕ) (bare : Bool) → place ≤ at.to → AllByRecursion (WayFits steps at place) (tested_ways steps at place bare)
tested_fit steps at place bare low = behind_fit steps at place (tests_at steps place at.to bare) (tests_fit steps place at.to bare low)

true_fits : (steps : List Step) (at : BranchesAt) (place jump : ℕ) (way : Way) → place ≤ jump → jump < at.to → true_way steps at jump ≡ Some way → WayFits steps at place way
true_fits steps at place jump way begin ends is =
    by_test (jumps_to steps jump at.to) _ _ (Some way) is
    (λ passes made. subst (WayFits steps at place) (same_Some _ way made) (omega arith, (begin, omega arith, omega (arith, ends), jump_there steps jump at.to passes)))
    (λ fails none. absurd (none-some way none))

first_fit : (steps : List Step) (at : BranchesAt) → at.from < at.to → AllByRecursion (WayFits steps at at.from) (first_ways steps at)
first_fit steps at low =
    all_joined (WayFits steps at at.from) (tested_ways steps at at.from at.bare) (option_to_list (first_true steps at)) (tested_fit steps at at.from at.bare (omega (arith, low)))
    (all_one (WayFits steps at at.from) (first_true steps at)
    (λ way is.
    by_test at.bare _ _ (Some way) is
    (λ bare made. true_fits steps at at.from at.from way (omega arith) low made)
    (λ tested none. absurd (none-some way none))))

-- ---- a further arm, whose block may begin with the last piece of what is left

abbrev IsWithin : (from to : ℕ) → Option ℕ → Type 0
IsWithin from to None = Unit {0}
IsWithin from to (Some place) = (from ≤ place) × (place < to)

within_there : (from to : ℕ) (found : Option ℕ) (place : ℕ) → IsWithin from to found → found ≡ Some place → (from ≤ place) × (place < to)
within_there from to found place within is = subst (IsWithin from to) is within

begin_within : (steps : List Step) (from to mid : ℕ) (before : Option ℕ) (pieces : List Piece) → from ≤ mid → IsWithin from to before → FollowOn pieces mid to → IsWithin from to (last_begin steps to before pieces)
begin_within steps from to mid before [] low known follow = known
begin_within steps from to mid before (piece ∷ others) low known follow =
    let here : IsWithin from to (Some piece.from) = (omega (arith, low, follow.0), omega (arith, follow.0, follow.1, follow.2)) in
    one (jumps_to steps piece.from to) here (begin_within steps from to piece.to (Some piece.from) others (omega (arith, low, follow.1)) here follow.3)
  where
    one : (b : Bool) → IsWithin from to (Some piece.from) → IsWithin from to (last_begin steps to (Some piece.from) others) → IsWithin from to (if b then Some piece.from else last_begin steps to (Some piece.from) others)
    one true here rest = here
    one false here rest = rest

part_within : (steps : List Step) (at : BranchesAt) (from jump : ℕ) → from ≤ at.to → last_part steps at from ≡ Some jump → (from ≤ jump) × (jump < at.to)
part_within steps at from jump low is =
    option_and_then_some (last_begin steps at.to None) (pieces_of steps (plain_body from at.to at.exit)) jump is
    (λ pieces are last. within_there from at.to (last_begin steps at.to None pieces) jump (begin_within steps from at.to from None pieces (omega arith) tt (pieces_follow steps (plain_body from at.to at.exit) pieces low are)) last)

or_true_fit : (steps : List Step) (at : BranchesAt) (place : ℕ) (ways : List Way) → place ≤ at.to → AllByRecursion (WayFits steps at place) ways → AllByRecursion (WayFits steps at place) (or_true steps at place ways)
or_true_fit steps at place [] low all =
    all_one (WayFits steps at place) (option_and_then (true_way steps at) (last_part steps at place))
    (λ way is.
    option_and_then_some (true_way steps at) (last_part steps at place) way is
    (λ jump last made.
    let within = part_within steps at place jump low last in
    true_fits steps at place jump way within.0 within.1 made))
or_true_fit steps at place (way ∷ ways) low all = all

further_fit : (steps : List Step) (at : BranchesAt) (place : ℕ) → place ≤ at.to → AllByRecursion (WayFits steps at place) (further_ways steps at place)
further_fit steps at place low =
    all_joined (WayFits steps at place) (or_true steps at place (tested_ways steps at place false)) (tested_ways steps at place true)
    (or_true_fit steps at place (tested_ways steps at place false) low (tested_fit steps at place false low)) (tested_fit steps at place true low)

-- ---- the places of an `if`

abbrev StartFits : List Step → BranchesAt → Starting → Type 0
StartFits steps at start = (at.from ≤ start.place) × (start.place ≤ at.to) × AllByRecursion (WayFits steps at start.place) start.ways

behind_starts_fit : (steps : List Step) (at : BranchesAt) (count place : ℕ) (ways : List Way) → at.from ≤ place → place + count ≤ at.to → AllByRecursion (StartFits steps at) (starts_behind steps at ways place count)
behind_starts_fit steps at zero place ways low ends = tt
behind_starts_fit steps at (suc count) place ways low ends =
    let here : StartFits steps at (record { place = place; ways = further_ways steps at place }) = (low, omega (arith, ends), further_fit steps at place (omega (arith, ends))) in
    one (is_next ways place) here (behind_starts_fit steps at count (place + 1) (ways ++ further_ways steps at place) (omega (arith, low)) (omega (arith, ends))) (behind_starts_fit steps at count (place + 1) ways (omega (arith, low)) (omega (arith, ends)))
  where
    one : (b : Bool) → StartFits steps at (record { place = place; ways = further_ways steps at place }) → AllByRecursion (StartFits steps at) (starts_behind steps at (ways ++ further_ways steps at place) (place + 1) count)
        → AllByRecursion (StartFits steps at) (starts_behind steps at ways (place + 1) count)
        → AllByRecursion (StartFits steps at) (if b then record { place = place; ways = further_ways steps at place } ∷ starts_behind steps at (ways ++ further_ways steps at place) (place + 1) count else starts_behind steps at ways (place + 1) count)
    one true here more others = (here, more)
    one false here more others = others

arm_starts_fit : (steps : List Step) (at : BranchesAt) → at.from < at.to → AllByRecursion (StartFits steps at) (arm_starts steps at)
arm_starts_fit steps at low =
    ((omega arith, omega (arith, low), first_fit steps at low), behind_starts_fit steps at (at.to - (at.from + 1)) (at.from + 1) (first_ways steps at) (omega arith) (omega (arith, low)))

way_of : (holds : Way → Type 0) (ways : List Way) (way : Way) → AllByRecursion holds ways → IsAmongWays ways way → holds way
way_of holds [] way all among = absurd among
way_of holds (first ∷ ways) way all (inl same) = subst holds same all.0
way_of holds (first ∷ ways) way all (inr among) = way_of holds ways way all.1 among

way_of_starts : (steps : List Step) (at : BranchesAt) (starts : List Starting) (place : ℕ) (way : Way) → AllByRecursion (StartFits steps at) starts → IsWay starts place way → (at.from ≤ place) × (place ≤ at.to) × WayFits steps at place way
way_of_starts steps at [] place way all is = absurd is
way_of_starts steps at (start ∷ starts) place way all (inl here) =
    subst (λ n. (at.from ≤ n) × (n ≤ at.to) × WayFits steps at n way) here.0 (all.0.0, all.0.1, way_of (WayFits steps at start.place) start.ways way all.0.2 here.1)
way_of_starts steps at (start ∷ starts) place way all (inr others) = way_of_starts steps at starts place way all.1 others

pub ways_fit : WaysFit
ways_fit steps at place way low is = let found = way_of_starts steps at (arm_starts steps at) place way (arm_starts_fit steps at low) is in (found.0, found.1, found.2.0, found.2.1)
