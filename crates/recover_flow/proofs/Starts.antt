-- The places at which an arm may begin stand in order: the first is where the `if` begins, and each of the others is behind the one before it.
use Rattle.std.proofs.Common.{◌≡◌, refl, ℕ, zero, suc, ◌+◌, ◌-◌, ◌<◌, ◌≤◌, Bool, true, false, List, [], ◌∷◌, ◌++◌, arith}
use Rattle.std.specs.Prelude.{if◌then◌else◌}
use Rattle.recover_expr.specs.declared.steps.Step.{Step}
use Rattle.recover_flow.specs.Arms.{Starting, arm_starts, first_ways, further_ways, is_next, starts_behind}
use Rattle.recover_flow.specs.declared.branches.Way.{Way}
use Rattle.recover_flow.specs.declared.regions.BranchesAt.{BranchesAt}

-- each is behind the one before it, the first behind this place, and all are before an end
abbrev pub AreOrdered : (place to : ℕ) → List Starting → Type 0
AreOrdered place to [] = Unit {0}
AreOrdered place to (start ∷ starts) = (place < start.place) × (start.place < to) × AreOrdered start.place to starts

-- behind an earlier place too
pub ordered_behind : (earlier place to : ℕ) (starts : List Starting) → earlier ≤ place → AreOrdered place to starts → AreOrdered earlier to starts
ordered_behind earlier place to [] below ordered = tt
ordered_behind earlier place to (start ∷ starts) below ordered = (omega (arith, below, ordered.0), ordered.1, ordered.2)

-- so each is behind it
abbrev pub AreBehind : (place : ℕ) → List Starting → Type 0
AreBehind place [] = Unit {0}
AreBehind place (start ∷ starts) = (place < start.place) × AreBehind place starts

pub each_behind : (place to : ℕ) (starts : List Starting) → AreOrdered place to starts → AreBehind place starts
each_behind place to [] ordered = tt
each_behind place to (start ∷ starts) ordered = (ordered.0, each_behind place to starts (ordered_behind place start.place to starts (omega (arith, ordered.0)) ordered.2))

either_ordered : (steps : List Step) (at : BranchesAt) (ways : List Way) (before place left to : ℕ) (found : Bool) → before < place → place < to →
    AreOrdered place to (starts_behind steps at (ways ++ further_ways steps at place) (place + 1) left) → AreOrdered place to (starts_behind steps at ways (place + 1) left) →
    AreOrdered before to (if found then record { place = place; ways = further_ways steps at place } ∷ starts_behind steps at (ways ++ further_ways steps at place) (place + 1) left else starts_behind steps at ways (place + 1) left)
either_ordered steps at ways before place left to true behind within more over = (behind, within, more)
either_ordered steps at ways before place left to false behind within more over = ordered_behind before place to _ (omega (arith, behind)) over

pub behind_ordered : (steps : List Step) (at : BranchesAt) (ways : List Way) (before place count to : ℕ) → before < place → count ≤ to - place → AreOrdered before to (starts_behind steps at ways place count)
behind_ordered steps at ways before place zero to behind within = tt
behind_ordered steps at ways before place (suc left) to behind within =
    let here : place < to = omega (arith, within) in
    let next : place < place + 1 = omega arith in
    let rest : left ≤ to - (place + 1) = omega (arith, within) in
    either_ordered steps at ways before place left to (is_next ways place) behind here
    (behind_ordered steps at (ways ++ further_ways steps at place) place (place + 1) left to next rest)
    (behind_ordered steps at ways place (place + 1) left to next rest)

-- all but the first
abbrev pub other_starts : List Step → BranchesAt → List Starting
other_starts steps at = starts_behind steps at (first_ways steps at) (at.from + 1) (at.to - (at.from + 1))

pub starts_are : (steps : List Step) (at : BranchesAt) → arm_starts steps at ≡ record { place = at.from; ways = first_ways steps at } ∷ other_starts steps at
starts_are steps at = refl

pub others_ordered : (steps : List Step) (at : BranchesAt) → AreOrdered at.from at.to (other_starts steps at)
others_ordered steps at =
    let next : at.from < at.from + 1 = omega arith in
    let within : at.to - (at.from + 1) ≤ at.to - (at.from + 1) = omega arith in
    behind_ordered steps at (first_ways steps at) at.from (at.from + 1) (at.to - (at.from + 1)) at.to next within
