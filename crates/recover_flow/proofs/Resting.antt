-- The arms of an `if` from the right: what was found from which place on.
use Rattle.std.proofs.Common.{◌≡◌, ◌∙◌, ◌≤◌, ◌<◌, ◌⊎◌, inl, inr, refl, sym, ap, subst, ℕ, Bool, true, false, cond, nat_eq, nat_lt, List, [], ◌∷◌, ◌++◌, length, map, Option, None, Some, arith}
use Rattle.std.specs.Prelude.{◌==◌, if◌then◌else◌}
use Rattle.std.specs.HashMap.{HashMap, Updates}
use Rattle.std.specs.Map.{lookup}
use Rattle.std.proofs.lemmas.Bool.Decides.{nat_tests}
use Rattle.std.proofs.lemmas.Option.{none-some, same_Some}
use Rattle.recover_expr.specs.declared.steps.Step.{Step}
use Rattle.recover_flow.specs.Arms.{Starting, arm_starts}
use Rattle.recover_flow.specs.Held.{Store, NoBranches}
use Rattle.recover_flow.specs.Plans.{ArmPlans, no_arms, last_arm, and_arm, arm_levels}
use Rattle.recover_flow.specs.Searching.{AreRests, BranchesAnswer, Grows, IsNoted, IsStartOf, NoRest, RestAnswer, rest_at}
use Rattle.recover_flow.specs.Standing.{ArmsFrom, BranchesStand, IsAmongWays, IsStart, IsWay}
use Rattle.recover_flow.specs.declared.branches.Way.{Way}
use Rattle.recover_flow.specs.declared.plan.Found.{Found}
use Rattle.recover_flow.specs.declared.regions.BranchesAt.{BranchesAt}
use Rattle.recover_flow.proofs.Growing.{rest_answer_grows}
use Rattle.recover_flow.proofs.Starts.{AreBehind, AreOrdered, each_behind, ordered_behind, others_ordered, other_starts, starts_are}

-- ---- places in order

-- each is behind the one before it
abbrev pub AreInOrder : List Starting → Type 0
AreInOrder [] = Unit {0}
AreInOrder (start ∷ starts) = AreBehind start.place starts × AreInOrder starts

in_order : (place to : ℕ) (starts : List Starting) → AreOrdered place to starts → AreInOrder starts
in_order place to [] ordered = tt
in_order place to (start ∷ starts) ordered = (each_behind start.place to starts ordered.2, in_order start.place to starts ordered.2)

pub starts_in_order : (steps : List Step) (at : BranchesAt) → AreInOrder (arm_starts steps at)
starts_in_order steps at =
    subst AreInOrder (sym (starts_are steps at)) (each_behind at.from at.to (other_starts steps at) (others_ordered steps at), in_order at.from at.to (other_starts steps at) (others_ordered steps at))

-- those of a part
later_in_order : (before after : List Starting) → AreInOrder (before ++ after) → AreInOrder after
later_in_order [] after ordered = ordered
later_in_order (start ∷ before) after ordered = later_in_order before after ordered.1

-- one that is behind is further on
start_behind : (place begin : ℕ) (starts : List Starting) → AreBehind place starts → IsStart starts begin → place < begin
start_behind place begin [] behind start = absurd start
start_behind place begin (first ∷ starts) behind (inl same) = omega (arith, behind.0, same)
start_behind place begin (first ∷ starts) behind (inr start) = start_behind place begin starts behind.1 start

behind_joined : (place : ℕ) (before after : List Starting) → AreBehind place (before ++ after) → AreBehind place after
behind_joined place [] after behind = behind
behind_joined place (start ∷ before) after behind = behind_joined place before after behind.1

-- a place of the whole list is one of the first part, which is not behind this one, or of the second
start_in : (before : List Starting) (current : Starting) (after : List Starting) (begin : ℕ) → AreInOrder (before ++ current ∷ after) → IsStart (before ++ current ∷ after) begin → (begin ≤ current.place) ⊎ IsStart after begin
start_in [] current after begin ordered (inl same) = inl (omega (arith, same))
start_in [] current after begin ordered (inr start) = inr start
start_in (first ∷ before) current after begin ordered (inl same) =
    let past = start_behind first.place current.place (current ∷ after) (behind_joined first.place before (current ∷ after) ordered.0) (inl refl) in inl (omega (arith, past, same))
start_in (first ∷ before) current after begin ordered (inr start) = start_in before current after begin ordered.1 start

-- ---- the start at a place

start_there : (before : List Starting) (current : Starting) (after : List Starting) → IsStart (before ++ current ∷ after) current.place
start_there [] current after = inl refl
start_there (first ∷ before) current after = inr (start_there before current after)

way_there : (before : List Starting) (current : Starting) (after : List Starting) (way : Way) → IsAmongWays current.ways way → IsWay (before ++ current ∷ after) current.place way
way_there [] current after way among = inl (refl, among)
way_there (first ∷ before) current after way among = inr (way_there before current after way among)

-- a way behind a place is at another one
no_way_behind : (place : ℕ) (starts : List Starting) (way : Way) {X : Type 0} → AreBehind place starts → IsWay starts place way → X
no_way_behind place [] way behind is = absurd is
no_way_behind place (start ∷ starts) way {X} behind (inl (same, among)) = absurd (never behind.0 same)
  where
    never : place < start.place → start.place ≡ place → ⊥
    never past same = omega (arith, past, same)
no_way_behind place (start ∷ starts) way behind (inr is) = no_way_behind place starts way behind.1 is

way_of_start : (before : List Starting) (current : Starting) (after : List Starting) (way : Way) → AreInOrder (before ++ current ∷ after) → IsWay (before ++ current ∷ after) current.place way → IsAmongWays current.ways way
way_of_start [] current after way ordered (inl (same, among)) = among
way_of_start [] current after way ordered (inr is) = no_way_behind current.place after way ordered.0 is
way_of_start (first ∷ before) current after way ordered (inl (same, among)) =
    absurd (never (start_behind first.place current.place (current ∷ after) (behind_joined first.place before (current ∷ after) ordered.0) (inl refl)) same)
  where
    never : first.place < current.place → first.place ≡ current.place → ⊥
    never past same = omega (arith, past, same)
way_of_start (first ∷ before) current after way ordered (inr is) = way_of_start before current after way ordered.1 is

first_within : (steps : List Step) (at : BranchesAt) (place : ℕ) → IsStart (arm_starts steps at) place → at.from ≤ place
first_within steps at place there = by (subst (λ starts. IsStart starts place) (starts_are steps at) there)
  where
    by : (at.from ≡ place) ⊎ IsStart (other_starts steps at) place → at.from ≤ place
    by (inl same) = omega (arith, same)
    by (inr start) = omega (arith, start_behind at.from place (other_starts steps at) (each_behind at.from at.to (other_starts steps at) (others_ordered steps at)) start)

pub start_is : (steps : List Step) (at : BranchesAt) (before : List Starting) (current : Starting) (after : List Starting) → before ++ current ∷ after ≡ arm_starts steps at → IsStartOf steps at current.place current.ways
start_is steps at before current after are =
    let ordered : AreInOrder (before ++ current ∷ after) = subst AreInOrder (sym are) (starts_in_order steps at) in
    let there : IsStart (arm_starts steps at) current.place = subst (λ starts. IsStart starts current.place) are (start_there before current after) in
    record {
      within = first_within steps at current.place there;
      start = there;
      all = λ way is. way_of_start before current after way ordered (subst (λ starts. IsWay starts current.place way) (sym are) is);
      each = λ way among. subst (λ starts. IsWay starts current.place way) are (way_there before current after way among);
    }

-- the last one is taken off
pub popped : (before all : List Starting) (current : Starting) (done starts : List Starting) → all ≡ before ++ current ∷ [] → all ++ done ≡ starts → before ++ current ∷ done ≡ starts
popped before all current done starts last are = joined before ∙ sym (ap (λ list. list ++ done) last) ∙ are
  where
    joined : (before : List Starting) → before ++ current ∷ done ≡ (before ++ current ∷ []) ++ done
    joined [] = refl
    joined (first ∷ before) = ap (λ rest. first ∷ rest) (joined before)

-- ---- what was found of the last starts, and of no others

pub record RestsOf (steps : List Step) (store : Store) (at : BranchesAt) (levels : ℕ) (done : List Starting) (found : ℕ → Option Found) : Type 0 where
  pub here : (begin : ℕ) → IsStart done begin → RestAnswer at begin levels (found begin) steps store
  pub elsewhere : (begin : ℕ) → (IsStart done begin → ⊥) → found begin ≡ None

pub nothing_done : (steps : List Step) (store : Store) (at : BranchesAt) (levels : ℕ) (found : ℕ → Option Found) → ((begin : ℕ) → found begin ≡ None) → RestsOf steps store at levels [] found
nothing_done steps store at levels found none = record { here = λ begin start. absurd start; elsewhere = λ begin not_there. none begin }

pub rests_of_grow : (steps : List Step) {before after : Store} → Grows before after → (at : BranchesAt) (levels : ℕ) (done : List Starting) (found : ℕ → Option Found) → RestsOf steps before at levels done found → RestsOf steps after at levels done found
rests_of_grow steps grows at levels done found rests = record { here = λ begin start. rest_answer_grows steps grows at begin levels (found begin) (rests.here begin start); elsewhere = rests.elsewhere }

-- of a map with no entries
pub none_yet : {S : Type 0} (rests : HashMap ℕ Found S) → rests.entries ≡ [] → (begin : ℕ) → rest_at rests begin ≡ None
none_yet rests none begin = ap (λ entries. lookup (λ place. begin == place) entries) none

-- a place is one of these, or not
is_start : (starts : List Starting) (begin : ℕ) → IsStart starts begin ⊎ (IsStart starts begin → ⊥)
is_start [] begin = inr (λ start. start)
is_start (first ∷ starts) begin = by (first.place == begin) refl (is_start starts begin)
  where
    by : (b : Bool) → (first.place == begin) ≡ b → IsStart starts begin ⊎ (IsStart starts begin → ⊥) → IsStart (first ∷ starts) begin ⊎ (IsStart (first ∷ starts) begin → ⊥)
    by true same later = inl (inl (grind (arith, nat_tests)))
    by false other (inl start) = inl (inr start)
    by false other (inr none) = inr neither
      where
        neither : IsStart (first ∷ starts) begin → ⊥
        neither (inl same) = grind (arith, nat_tests)
        neither (inr start) = none start

-- no arm and no `else` stands where none may begin
no_start_no_rest : (steps : List Step) (at : BranchesAt) (begin levels : ℕ) → (IsStart (arm_starts steps at) begin → ⊥) → NoRest steps at begin levels
no_start_no_rest steps at begin levels none no_arms stand = absurd stand
no_start_no_rest steps at begin levels none (last_arm body) (apart, start, stands) = absurd (none start)
no_start_no_rest steps at begin levels none (and_arm condition body rest) (way, is_way, tested, stands, behind) = absurd (none (way_start (arm_starts steps at) is_way))
  where
    way_start : (starts : List Starting) → IsWay starts begin way → IsStart starts begin
    way_start [] is = absurd is
    way_start (first ∷ starts) (inl (same, among)) = inl same
    way_start (first ∷ starts) (inr is) = inr (way_start starts is)

pub are_rests : (steps : List Step) (store : Store) (at : BranchesAt) (levels : ℕ) (before : List Starting) (current : Starting) (done : List Starting) (found : ℕ → Option Found) → before ++ current ∷ done ≡ arm_starts steps at → RestsOf steps store at levels done found
    → AreRests steps store at levels current.place found
are_rests steps store at levels before current done found are rests = record { behind = behind; before = λ begin within. rests.elsewhere begin (not_done begin within) }
  where
    ordered : AreInOrder (before ++ current ∷ done)
    ordered = subst AreInOrder (sym are) (starts_in_order steps at)

    current_first : AreInOrder (current ∷ done)
    current_first = later_in_order before (current ∷ done) ordered

    not_done : (begin : ℕ) → begin ≤ current.place → IsStart done begin → ⊥
    not_done begin within start = omega (arith, within, start_behind current.place begin done current_first.0 start)

    behind : (begin : ℕ) → current.place < begin → RestAnswer at begin levels (found begin) steps store
    behind begin past = by (is_start done begin)
      where
        nowhere : (IsStart done begin → ⊥) → IsStart (arm_starts steps at) begin → ⊥
        nowhere none start = by_part (start_in before current done begin ordered (subst (λ starts. IsStart starts begin) (sym are) start))
          where
            by_part : (begin ≤ current.place) ⊎ IsStart done begin → ⊥
            by_part (inl within) = omega (arith, within, past)
            by_part (inr later) = none later

        by : IsStart done begin ⊎ (IsStart done begin → ⊥) → RestAnswer at begin levels (found begin) steps store
        by (inl start) = rests.here begin start
        by (inr none) = subst (λ answer. RestAnswer at begin levels answer steps store) (sym (rests.elsewhere begin none)) (no_start_no_rest steps at begin levels (nowhere none))

-- with what was found at one more
rests_more : (steps : List Step) (store : Store) (at : BranchesAt) (levels : ℕ) (before : List Starting) (current : Starting) (done : List Starting) (found after : ℕ → Option Found) (answer : Option Found) → before ++ current ∷ done ≡ arm_starts steps at
    → RestsOf steps store at levels done found → RestAnswer at current.place levels answer steps store → (after current.place ≡ answer) → ((begin : ℕ) → (current.place ≡ begin → ⊥) → after begin ≡ found begin) → RestsOf steps store at levels (current ∷ done) after
rests_more steps store at levels before current done found after answer are rests is at_place others = record { here = here; elsewhere = λ begin none. others begin (λ same. none (inl same)) ∙ rests.elsewhere begin (λ start. none (inr start)) }
  where
    ordered : AreInOrder (current ∷ done)
    ordered = later_in_order before (current ∷ done) (subst AreInOrder (sym are) (starts_in_order steps at))

    here : (begin : ℕ) → IsStart (current ∷ done) begin → RestAnswer at begin levels (after begin) steps store
    here begin (inl same) = subst (λ b. RestAnswer at b levels (after b) steps store) same (subst (λ one. RestAnswer at current.place levels one steps store) (sym at_place) is)
    here begin (inr start) = subst (λ one. RestAnswer at begin levels one steps store) (sym (others begin apart)) (rests.here begin start)
      where
        apart : current.place ≡ begin → ⊥
        apart same = omega (arith, same, start_behind current.place begin done ordered.0 start)

pub rests_noted : (steps : List Step) (store : Store) (at : BranchesAt) (levels : ℕ) (before : List Starting) (current : Starting) (done : List Starting) (found after : ℕ → Option Found) (answer : Option Found) → before ++ current ∷ done ≡ arm_starts steps at → RestsOf steps store at levels done found
    → RestAnswer at current.place levels answer steps store → IsNoted current.place answer found after → RestsOf steps store at levels (current ∷ done) after
rests_noted steps store at levels before current done found after None are rests is noted =
    rests_more steps store at levels before current done found after None are rests is (noted current.place ∙ rests.elsewhere current.place not_done) (λ begin apart. noted begin)
  where
    ordered : AreInOrder (current ∷ done)
    ordered = later_in_order before (current ∷ done) (subst AreInOrder (sym are) (starts_in_order steps at))

    not_done : IsStart done current.place → ⊥
    not_done start = omega (arith, start_behind current.place current.place done ordered.0 start)
rests_noted steps store at levels before current done found after (Some one) are rests is noted = rests_more steps store at levels before current done found after (Some one) are rests is noted.0 noted.1

-- an entry that is put into the map
pub noted : {S : Type 0} (before after : HashMap ℕ Found S) (place : ℕ) (one : Found) → Updates (λ first second. first == second) before after place (Some one) → IsNoted place (Some one) (rest_at before) (rest_at after)
noted before after place one puts = (puts.1, λ begin apart. puts.2 begin (by begin apart (place == begin) refl))
  where
    by : (begin : ℕ) → (place ≡ begin → ⊥) → (b : Bool) → (place == begin) ≡ b → (place == begin) ≡ false
    by begin apart true same = absurd (apart (grind (arith, nat_tests)))
    by begin apart false other = other

-- ---- the whole

branches_from : (steps : List Step) (at : BranchesAt) (arms : ArmPlans) → BranchesStand steps at arms → ArmsFrom steps at at.from arms
branches_from steps at no_arms stand = absurd stand
branches_from steps at (last_arm body) stand = absurd stand
branches_from steps at (and_arm condition body rest) stand = stand

from_branches : (steps : List Step) (at : BranchesAt) (arms : ArmPlans) → ArmsFrom steps at at.from arms → BranchesStand steps at arms
from_branches steps at no_arms stand = absurd stand
from_branches steps at (last_arm body) (apart, start, stands) = absurd (apart refl)
from_branches steps at (and_arm condition body rest) stand = stand

pub branches_answer : (steps : List Step) (store : Store) (at : BranchesAt) (levels : ℕ) (done : List Starting) (found : ℕ → Option Found) → done ≡ arm_starts steps at → RestsOf steps store at levels done found → BranchesAnswer at levels (found at.from) steps store
branches_answer steps store at levels done found are rests = by (found at.from) (rests.here at.from (subst (λ starts. IsStart starts at.from) (sym (are ∙ starts_are steps at)) (inl refl)))
  where
    by : (answer : Option Found) → RestAnswer at at.from levels answer steps store → BranchesAnswer at levels answer steps store
    by None none = λ arms stand. none arms (branches_from steps at arms stand)
    by (Some one) (fits, is) = (fits, record { arms = is.arms; stand = from_branches steps at is.arms is.stand; held = is.held; levels = is.levels })
