-- Serves a body. The arms of an `if`: where one may begin, and how.
use Rattle.std.specs.List.{list_any}
use Rattle.std.specs.Prelude.{◌==◌, ◌&&◌, ◌||◌, ◌+◌, ◌-◌, not, ℕ, zero, suc, max, Bool, true, false, nat_le, nat_lt, List, [], ◌∷◌, ◌++◌, length, reverse, slice_set, Option, None, Some, option_map, option_and_then, option_to_list, if◌then◌else◌}
use Rattle.recover_expr.specs.declared.steps.Step.{Step}
use Rattle.recover_flow.specs.Asked.{is_this, jumps_to, target_at, lengths_after, plain_body}
use Rattle.recover_flow.specs.Cutting.{pieces_of}
use Rattle.recover_flow.specs.declared.branches.Seen.{Seen}
use Rattle.recover_flow.specs.declared.branches.Start.{Start}
use Rattle.recover_flow.specs.declared.branches.Targets.{Targets}
use Rattle.recover_flow.specs.declared.branches.Tests.{Tests}
use Rattle.recover_flow.specs.declared.branches.Way.{Way}
use Rattle.recover_flow.specs.declared.regions.BranchesAt.{BranchesAt}
use Rattle.recover_flow.specs.declared.regions.Piece.{Piece}
use Rattle.recover_flow.specs.declared.tables.Lengths.{Lengths}

-- a place at which an arm may begin, and the ways in which it may
pub record Starting : Type 0 where
  pub place : ℕ
  pub ways : List Way

abbrev pub view_start : Start → Starting
view_start start = record { place = start.place; ways = start.ways.items }

-- ---- where the tests of one condition go: not past it but to one place

abbrev pub no_targets : Targets
no_targets = record { furthest = 0; second = 0 }

-- the furthest target, and the furthest but that, with one more
abbrev pub with_target : (target : ℕ) → Targets → Targets
with_target target targets =
    if nat_lt targets.furthest target then record { furthest = target; second = targets.furthest }
    else if nat_lt target targets.furthest then record { furthest = targets.furthest; second = max targets.second target }
    else targets

-- the one target past a place, or the place where there is none
abbrev pub one_past : Targets → (place : ℕ) → Option ℕ
one_past targets place = if nat_le targets.second place then Some (max targets.furthest place) else None

-- ---- the conditions that may stand from a place on

-- of the tests so far: where they go, and whether one of them is a bare jump
abbrev pub nothing_seen : Seen
nothing_seen = record { targets = no_targets; has_bare = false }

abbrev pub seen_with : List Step → (place target : ℕ) → Seen → Seen
seen_with steps place target seen = record { targets = with_target target seen.targets; has_bare = seen.has_bare || jumps_to steps place target }

abbrev pub is_wanted : (bare has_bare : Bool) → Bool
is_wanted true has_bare = has_bare
is_wanted false has_bare = not has_bare

abbrev pub tests_to : (end : ℕ) → (target : ℕ) → Tests
tests_to end target = record { end = end; target = target }

-- the condition that ends at a place, if it is one of those that are wanted
abbrev pub tests_there : (bare : Bool) → (end : ℕ) → Seen → Option Tests
tests_there bare end seen = if is_wanted bare seen.has_bare then option_map (tests_to end) (one_past seen.targets end) else None

abbrev pub goes_within : (place to : ℕ) → (target : ℕ) → Option ℕ
goes_within place to target = if nat_lt place target && nat_le target to then Some target else None

-- where the test or the jump at a place goes, if it goes ahead and not past an end
abbrev pub target_ahead : List Step → (to place : ℕ) → Option ℕ
target_ahead steps to place = option_and_then (goes_within place to) (target_at steps place)

abbrev pub for_target : Option ℕ → (ℕ → List Tests) → List Tests
for_target None tests = []
for_target (Some target) tests = tests target

-- those that end behind one of so many places, the shortest first
abbrev pub tests_from : List Step → (to : ℕ) → (bare : Bool) → Seen → (place count : ℕ) → List Tests
tests_from steps to bare seen place zero = []
tests_from steps to bare seen place (suc count) =
    for_target (target_ahead steps to place) (λ target. option_to_list (tests_there bare (place + 1) (seen_with steps place target seen)) ++ tests_from steps to bare (seen_with steps place target seen) (place + 1) count)

abbrev pub longest : (bare : Bool) → Lengths → ℕ
longest bare lengths = if bare then lengths.jumps else lengths.tests

abbrev pub longest_first : (bare : Bool) → List Tests → List Tests
longest_first bare tests = if bare then tests else reverse tests

-- none of them goes past an end; those of tests alone, the longest first, or those with a bare jump, the shortest first
abbrev pub tests_at : List Step → (from to : ℕ) → (bare : Bool) → List Tests
tests_at steps from to bare = longest_first bare (tests_from steps to bare nothing_seen from (longest bare (lengths_after steps from to)))

-- ---- the ways in which an arm may stand

-- behind tests that go to the place of the next arm
abbrev pub way_before : List Step → BranchesAt → Tests → Option Way
way_before steps at tests =
    if nat_lt tests.end tests.target && jumps_to steps (tests.target - 1) at.to
    then Some (record { tests_end = Some tests.end; block_end = tests.target - 1; next = Some tests.target })
    else None

-- behind tests that go to the end of the `if`
abbrev pub way_last : BranchesAt → Tests → Option Way
way_last at tests = if tests.target == at.to then Some (record { tests_end = Some tests.end; block_end = at.to; next = None }) else None

abbrev pub ways_behind : List Step → BranchesAt → List Tests → List Way
ways_behind steps at [] = []
ways_behind steps at (tests ∷ others) = option_to_list (way_before steps at tests) ++ option_to_list (way_last at tests) ++ ways_behind steps at others

abbrev pub tested_ways : List Step → BranchesAt → (from : ℕ) → (bare : Bool) → List Way
tested_ways steps at from bare = ways_behind steps at (tests_at steps from at.to bare)

-- with the condition `true`, where its block ends with the jump at a place
abbrev pub true_way : List Step → BranchesAt → (jump : ℕ) → Option Way
true_way steps at jump = if jumps_to steps jump at.to then Some (record { tests_end = None; block_end = jump; next = Some (jump + 1) }) else None

-- where the first of these pieces begins that begins with a jump there, or else the last one; behind one that begins there
abbrev pub last_begin : List Step → (to : ℕ) → (before : Option ℕ) → List Piece → Option ℕ
last_begin steps to before [] = before
last_begin steps to before (piece ∷ others) = if jumps_to steps piece.from to then Some piece.from else last_begin steps to (Some piece.from) others

-- so in the block that goes on to the end of the `if`
abbrev pub last_part : List Step → BranchesAt → (from : ℕ) → Option ℕ
last_part steps at from = option_and_then (last_begin steps at.to None) (pieces_of steps (plain_body from at.to at.exit))

abbrev pub first_true : List Step → BranchesAt → Option Way
first_true steps at = if at.bare then true_way steps at at.from else None

-- of the first arm
abbrev pub first_ways : List Step → BranchesAt → List Way
first_ways steps at = tested_ways steps at at.from at.bare ++ option_to_list (first_true steps at)

-- these, or `true` where there are none
abbrev pub or_true : List Step → BranchesAt → (from : ℕ) → List Way → List Way
or_true steps at from [] = option_to_list (option_and_then (true_way steps at) (last_part steps at from))
or_true steps at from (way ∷ ways) = way ∷ ways

-- of a further arm
abbrev pub further_ways : List Step → BranchesAt → (from : ℕ) → List Way
further_ways steps at from = or_true steps at from (tested_ways steps at from false) ++ tested_ways steps at from true

-- ---- the places at which an arm may begin

-- one of these ways has the next arm there
abbrev pub is_next : List Way → (place : ℕ) → Bool
is_next ways place = list_any (λ (way : Way). is_this way.next place) ways

-- those among so many places, behind arms that may stand in these ways
abbrev pub starts_behind : List Step → BranchesAt → List Way → (place count : ℕ) → List Starting
starts_behind steps at ways place zero = []
starts_behind steps at ways place (suc count) =
    if is_next ways place
    then record { place = place; ways = further_ways steps at place } ∷ starts_behind steps at (ways ++ further_ways steps at place) (place + 1) count
    else starts_behind steps at ways (place + 1) count

-- from the left to the right
abbrev pub arm_starts : List Step → BranchesAt → List Starting
arm_starts steps at = record { place = at.from; ways = first_ways steps at } ∷ starts_behind steps at (first_ways steps at) (at.from + 1) (at.to - (at.from + 1))

-- ---- which places have one, as numbers behind the first place

abbrev pub number_behind : (from : ℕ) → (place : ℕ) → Option ℕ
number_behind from place = if nat_le from place then Some (place - from) else None

abbrev pub noted : List Bool → Option ℕ → List Bool
noted reached None = reached
noted reached (Some number) = if nat_lt number (length reached) then slice_set reached number true else reached

-- with those behind arms that may stand in these ways
abbrev pub with_next : (from : ℕ) → List Way → List Bool → List Bool
with_next from [] reached = reached
with_next from (way ∷ ways) reached = with_next from ways (noted reached (option_and_then (number_behind from) way.next))
