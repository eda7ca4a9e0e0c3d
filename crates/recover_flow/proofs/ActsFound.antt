-- Where each step is a statement by itself, and only the last one may be a return, each is a piece, and nothing else stands there.
use Rattle.std.proofs.Common.{◌≡◌, ◌∙◌, ◌⊎◌, inl, inr, refl, sym, ap, subst, Bool, ℕ, zero, suc, ◌+◌, ◌≤◌, ◌-◌, max, true, false, not, ◌&&◌, ◌==◌, nat_le, List, [], ◌∷◌, ◌++◌, length, slice_get, Option, None, Some, add-one, arith, if◌then◌else◌}
use Rattle.std.specs.Prelude.{option_map, option_and_then}
use Rattle.std.proofs.Math.Bool.{and-false}
use Rattle.std.proofs.lemmas.Bool.Decides.{nat_tests}
use Rattle.std.proofs.lemmas.Option.{none-some, same_Some}
use Rattle.core_expr.specs.Counting.{one_more}
use Rattle.recover_expr.specs.declared.steps.Step.{Step}
use Rattle.recover_expr.specs.declared.steps.StepKind.{StepKind}
use Rattle.recover_flow.specs.Acts.{IsPlain, ArePlain, plan_of, plans_of, ActsAreFound}
use Rattle.recover_flow.specs.Asked.{break_exit, closing_exit, goes_back, is_closed, is_other, is_single, is_this, kind_at, last_back, number_before, target_of}
use Rattle.recover_flow.specs.Cutting.{begun_behind, behind_kind, behind_place, behind_step, cut_behind, ends_with_body, locals_reach, pieces_from, pieces_of, reach_to, turn_behind, within}
use Rattle.recover_flow.specs.Forms.{choice_at, choice_of_kind, choice_of_step, ending, is_own, loop_or_straight, may_stand}
use Rattle.recover_flow.specs.Plans.{Plans, no_plans, and_plan, PlanTree, step_plan, end_plan, do_plan, for_plan, while_plan, repeat_plan, if_plan, body_levels, levels_at, plan_levels, step_levels}
use Rattle.recover_flow.specs.Searching.{whole_body}
use Rattle.recover_flow.specs.Standing.{BodyStands, RestStands, PlanStands, EndsInBranches}
use Rattle.recover_flow.specs.declared.cuts.Reach.{Reach}
use Rattle.recover_flow.specs.declared.forms.Choice.{Choice}
use Rattle.recover_flow.specs.declared.plan.End.{End}
use Rattle.recover_flow.specs.declared.plan.Plan.{Plan}
use Rattle.recover_flow.specs.declared.plan.Planned.{Planned}
use Rattle.recover_flow.specs.declared.regions.BodyAt.{BodyAt}
use Rattle.recover_flow.specs.declared.regions.Piece.{Piece}
use Rattle.recover_flow.proofs.Numbers.{at_true, between_past, last_none}

-- ---- steps

-- what one of the steps may be
abbrev IsShort : (count : ℕ) → StepKind → Type 0
IsShort count kind = IsPlain count kind ⊎ (kind ≡ StepKind.Return)

first_short : (count : ℕ) (step : Step) (rest : List Step) → ArePlain count (step ∷ rest) → IsShort count step.kind
first_short count step [] plain = plain
first_short count step (next ∷ rest) plain = inl plain.0

-- the first of them is a return only where it is the last one
first_plain : (count : ℕ) (step : Step) (rest : List Step) → ArePlain count (step ∷ rest) → IsPlain count step.kind ⊎ ((step.kind ≡ StepKind.Return) × (length rest ≡ 0))
first_plain count step [] (inl plain) = inl plain
first_plain count step [] (inr returns) = inr (returns, refl)
first_plain count step (next ∷ rest) plain = inl plain.0

rest_plain : (count : ℕ) (step : Step) (rest : List Step) → ArePlain count (step ∷ rest) → ArePlain count rest
rest_plain count step [] plain = tt
rest_plain count step (next ∷ rest) plain = plain.1

-- what holds of each such step, and where there is none, holds of the step of a number
at_each : (holds : Option Step → Type 0) (count : ℕ) → holds None → ((step : Step) → IsShort count step.kind → holds (Some step)) → (steps : List Step) → ArePlain count steps → (place : ℕ) → holds (slice_get steps place)
at_each holds count none each [] plain place = none
at_each holds count none each (step ∷ rest) plain zero = each step (first_short count step rest plain)
at_each holds count none each (step ∷ rest) plain (suc place) = at_each holds count none each rest (rest_plain count step rest plain) place

-- these are the steps from a place on
record AreFrom (steps : List Step) (place : ℕ) (rest : List Step) : Type 0 where
  plain : ArePlain (length steps) rest
  fits : place + length rest ≡ length steps
  same : (k : ℕ) → slice_get steps (place + k) ≡ slice_get rest k

from_first : (steps : List Step) → ArePlain (length steps) steps → AreFrom steps 0 steps
from_first steps plain = record { plain = plain; fits = omega arith; same = λ k. let at : 0 + k ≡ k = omega arith in ap (slice_get steps) at }

first_there : (steps : List Step) (place : ℕ) (step : Step) (rest : List Step) → AreFrom steps place (step ∷ rest) → slice_get steps place ≡ Some step
first_there steps place step rest from = let at : place ≡ place + 0 = omega arith in ap (slice_get steps) at ∙ from.same 0

from_next : (steps : List Step) (place : ℕ) (step : Step) (rest : List Step) → AreFrom steps place (step ∷ rest) → AreFrom steps (place + 1) rest
from_next steps place step rest from = record {
  plain = rest_plain (length steps) step rest from.plain;
  fits = omega (arith, from.fits);
  same = λ k. let at : place + 1 + k ≡ place + suc k = omega arith in ap (slice_get steps) at ∙ from.same (suc k);
}

-- ---- jumps

no_target_of : (count : ℕ) (kind : StepKind) → IsShort count kind → target_of kind ≡ None
no_target_of count kind (inl (inl acts)) = ap target_of acts
no_target_of count kind (inl (inr (captured, declares))) = ap target_of declares
no_target_of count kind (inr returns) = ap target_of returns

no_target : (steps : List Step) → ArePlain (length steps) steps → (place : ℕ) → option_and_then target_of (kind_at steps place) ≡ None
no_target steps plain place =
    at_each (λ found. option_and_then target_of (option_map (λ (step : Step). step.kind) found) ≡ None) (length steps) refl (λ step short. no_target_of (length steps) step.kind short) steps plain place

-- no jump goes back
none_back : (steps : List Step) → ArePlain (length steps) steps → (place to : ℕ) → last_back steps place to ≡ None
none_back steps plain place to = last_none (goes_back steps place) to (λ jump past. ap (λ target. nat_le place jump && is_this target place) (no_target steps plain jump) ∙ and-false (nat_le place jump))

no_exit_of : (steps : List Step) (count declaration close base : ℕ) (kind : StepKind) → IsShort count kind → closing_exit steps declaration close base kind ≡ None
no_exit_of steps count declaration close base kind (inl (inl acts)) = ap (closing_exit steps declaration close base) acts
no_exit_of steps count declaration close base kind (inl (inr (captured, declares))) = ap (closing_exit steps declaration close base) declares
no_exit_of steps count declaration close base kind (inr returns) = ap (closing_exit steps declaration close base) returns

no_exit : (steps : List Step) → ArePlain (length steps) steps → (declaration close : ℕ) → break_exit steps declaration close ≡ None
no_exit steps plain declaration close =
    at_each (λ found. option_and_then (λ (step : Step). closing_exit steps declaration close step.base step.kind) found ≡ None) (length steps) refl
    (λ step short. no_exit_of steps (length steps) declaration close step.base step.kind short) steps plain close

-- no break closes the locals of a declaration
none_closed : (steps : List Step) → ArePlain (length steps) steps → (declaration : ℕ) → is_closed steps (whole_body steps) declaration ≡ false
none_closed steps plain declaration =
    ap (λ b. nat_le declaration (length steps) && b)
    (between_past (λ close. is_other None (break_exit steps declaration close)) 0 0 (length steps) (λ close past. ap (is_other None) (no_exit steps plain declaration close)) (omega arith))
    ∙ and-false (nat_le declaration (length steps))

-- ---- pieces

-- one of each step
abbrev one_piece : (place : ℕ) → Piece
one_piece place = record { from = place; to = place + 1 }

abbrev pieces_of_steps : (place count : ℕ) → List Piece
pieces_of_steps place zero = []
pieces_of_steps place (suc count) = one_piece place ∷ pieces_of_steps (place + 1) count

-- a piece begins at a place
abbrev begin_at : (place : ℕ) → Reach
begin_at place = record { begin = place; far = place; turned = 0 }

-- and goes on behind its step
abbrev behind_one : (place : ℕ) → Reach
behind_one place = record { begin = place; far = place + 1; turned = 0 }

reached_one : (place : ℕ) → reach_to (place + 1) (begin_at place) ≡ behind_one place
reached_one place = let far : max place (place + 1) ≡ place + 1 = omega arith in ap (λ n. record { begin = place; far = n; turned = 0 }) far

same_number : (n : ℕ) → (n == n) ≡ true
same_number n = grind (arith, nat_tests)

-- locals that end with the function are those of its body
own_locals : (steps : List Step) → ArePlain (length steps) steps → (place : ℕ) → ends_with_body steps (whole_body steps) place (length steps) (behind_one place) ≡ true
own_locals steps plain place =
    let past : nat_le 0 place ≡ true = grind (arith, nat_tests) in
    ap (λ b. b && (nat_le 0 place && not (is_closed steps (whole_body steps) place))) (same_number (length steps))
    ∙ ap (λ b. b && not (is_closed steps (whole_body steps) place)) past
    ∙ ap not (none_closed steps plain place)

-- no step takes its piece further
kind_reach : (steps : List Step) → ArePlain (length steps) steps → (place base : ℕ) (kind : StepKind) → IsShort (length steps) kind → behind_kind steps (whole_body steps) place base kind (behind_one place) ≡ Some (behind_one place)
kind_reach steps plain place base kind (inl (inl acts)) = ap (λ kind. behind_kind steps (whole_body steps) place base kind (behind_one place)) acts
kind_reach steps plain place base kind (inl (inr (captured, declares))) =
    ap (λ kind. behind_kind steps (whole_body steps) place base kind (behind_one place)) declares
    ∙ ap Some (at_true (ends_with_body steps (whole_body steps) place (length steps) (behind_one place)) (behind_one place) (reach_to (locals_reach (length steps) captured) (behind_one place)) (own_locals steps plain place))
kind_reach steps plain place base kind (inr returns) = ap (λ kind. behind_kind steps (whole_body steps) place base kind (behind_one place)) returns

behind_first : (steps : List Step) → ArePlain (length steps) steps → (place : ℕ) (step : Step) (rest : List Step) → AreFrom steps place (step ∷ rest)
    → behind_place steps (whole_body steps) place (begin_at place) ≡ Some (behind_one place)
behind_first steps plain place step rest from =
    let at : BodyAt = whole_body steps in
    ap (λ found. option_and_then (behind_step steps at place (begin_at place)) found) (first_there steps place step rest from)
    ∙ ap (λ last. option_and_then (within at) (behind_kind steps at place step.base step.kind (turn_behind last (reach_to (place + 1) (begin_at place))))) (none_back steps plain place at.to)
    ∙ ap (λ reach. option_and_then (within at) (behind_kind steps at place step.base step.kind reach)) (reached_one place)
    ∙ ap (option_and_then (within at)) (kind_reach steps plain place step.base step.kind (first_short (length steps) step rest from.plain))
    ∙ at_true (nat_le (place + 1) (length steps)) (Some (behind_one place)) None (let fits : place + 1 ≤ length steps = omega (arith, from.fits) in grind (arith, nat_tests))

cut_one : (place : ℕ) → cut_behind place (behind_one place) ≡ one_piece place ∷ []
cut_one place = at_true ((place + 1) == (place + 1)) (one_piece place ∷ []) [] (same_number (place + 1))

begun_one : (place : ℕ) → begun_behind place (behind_one place) ≡ begin_at (place + 1)
begun_one place = at_true ((place + 1) == (place + 1)) (begin_at (place + 1)) (behind_one place) (same_number (place + 1))

pieces_there : (steps : List Step) → ArePlain (length steps) steps → (rest : List Step) (place : ℕ) → AreFrom steps place rest
    → pieces_from steps (whole_body steps) (length rest) place (begin_at place) ≡ Some (pieces_of_steps place (length rest))
pieces_there steps plain [] place from = refl
pieces_there steps plain (step ∷ rest) place from =
    let at : BodyAt = whole_body steps in
    ap (λ o. option_and_then (λ behind. option_map (λ more. cut_behind place behind ++ more) (pieces_from steps at (length rest) (place + 1) (begun_behind place behind))) o) (behind_first steps plain place step rest from)
    ∙ ap (λ cut. option_map (λ more. cut ++ more) (pieces_from steps at (length rest) (place + 1) (begun_behind place (behind_one place)))) (cut_one place)
    ∙ ap (λ reach. option_map (λ more. (one_piece place ∷ []) ++ more) (pieces_from steps at (length rest) (place + 1) reach)) (begun_one place)
    ∙ ap (λ o. option_map (λ more. (one_piece place ∷ []) ++ more) o) (pieces_there steps plain rest (place + 1) (from_next steps place step rest from))

pieces_whole : (steps : List Step) → ArePlain (length steps) steps → pieces_of steps (whole_body steps) ≡ Some (pieces_of_steps 0 (length steps))
pieces_whole steps plain =
    let all : length steps - 0 ≡ length steps = omega arith in
    ap (λ n. pieces_from steps (whole_body steps) n 0 (begin_at 0)) all ∙ pieces_there steps plain steps 0 (from_first steps plain)

-- ---- a statement of one step

single_one : (place : ℕ) → is_single (one_piece place) ≡ true
single_one place = ap (λ n. is_this (number_before n) place) (add-one place) ∙ same_number place

-- an act, or a declaration of the body's own
own_stands : (steps : List Step) (place : ℕ) (step : Step) → slice_get steps place ≡ Some step → (kind : StepKind) → step.kind ≡ kind → is_own (whole_body steps) kind ≡ true → may_stand (whole_body steps) kind ≡ true
    → PlanStands steps (whole_body steps) (one_piece place) (step_plan place)
own_stands steps place step there kind is own stands =
    let at : BodyAt = whole_body steps in
    let otherwise : Choice = loop_or_straight steps at (one_piece place) step (last_back steps place (place + 1)) in
    let made : Planned = record { plan = Plan.Step place; levels = step.levels } in
    ap (choice_of_step steps at (one_piece place)) there
    ∙ ap (λ kind. if is_single (one_piece place) && is_own at kind then Choice.Settled (if may_stand at kind then Some made else None) else otherwise) is
    ∙ ap (λ b. if b && is_own at kind then Choice.Settled (if may_stand at kind then Some made else None) else otherwise) (single_one place)
    ∙ ap (λ b. if b then Choice.Settled (if may_stand at kind then Some made else None) else otherwise) own
    ∙ ap (λ b. Choice.Settled (if b then Some made else None)) stands
    ∙ ap (λ found. Choice.Settled (Some (record { plan = Plan.Step place; levels = levels_at found }))) (sym there)

-- a return that is the last step
return_stands : (steps : List Step) → ArePlain (length steps) steps → (place : ℕ) (step : Step) → slice_get steps place ≡ Some step → step.kind ≡ StepKind.Return → place + 1 ≡ length steps
    → PlanStands steps (whole_body steps) (one_piece place) (end_plan (End.Return place) false)
return_stands steps plain place step there is last =
    let at : BodyAt = whole_body steps in
    let piece : Piece = one_piece place in
    let own : (kind : StepKind) → Choice = λ kind. Choice.Settled (if may_stand at kind then Some (record { plan = Plan.Step place; levels = step.levels }) else None) in
    ap (choice_of_step steps at piece) there
    ∙ ap (λ back. if is_single piece && is_own at step.kind then own step.kind else loop_or_straight steps at piece step back) (none_back steps plain place (place + 1))
    ∙ ap (λ kind. if is_single piece && is_own at kind then own kind else choice_of_kind steps at piece step kind) is
    ∙ ap (λ b. if b && false then own StepKind.Return else Choice.Settled (if b then Some (ending at piece (End.Return place) step.levels) else None)) (single_one place)
    ∙ ap (λ b. Choice.Settled (Some (record { plan = Plan.End (End.Return place) b; levels = if b then one_more step.levels else step.levels }))) (ap (λ n. not (n == length steps)) last ∙ ap not (same_number (length steps)))
    ∙ ap (λ found. Choice.Settled (Some (record { plan = Plan.End (End.Return place) false; levels = levels_at found }))) (sym there)

-- ---- nothing else stands in its piece

abbrev tree_of_plan : Plan → Option PlanTree
tree_of_plan (Plan.Step step) = Some (step_plan step)
tree_of_plan (Plan.End end enclosed) = Some (end_plan end enclosed)
tree_of_plan plan = None

-- the statement by itself that is chosen
abbrev tree_of_choice : Choice → Option PlanTree
tree_of_choice (Choice.Settled (Some planned)) = tree_of_plan planned.plan
tree_of_choice choice = None

only_tree : (steps : List Step) (at : BodyAt) (piece : Piece) (tree : PlanTree) → tree_of_choice (choice_at steps at piece) ≡ Some tree → (plan : PlanTree) → PlanStands steps at piece plan → plan ≡ tree
only_tree steps at piece tree found (step_plan step) stands = same_Some (step_plan step) tree (sym (ap tree_of_choice stands) ∙ found)
only_tree steps at piece tree found (end_plan end enclosed) stands = same_Some (end_plan end enclosed) tree (sym (ap tree_of_choice stands) ∙ found)
only_tree steps at piece tree found (do_plan step body) stands = absurd (none-some tree (sym (ap tree_of_choice stands.0) ∙ found))
only_tree steps at piece tree found (for_plan step numeric body) stands = absurd (none-some tree (sym (ap tree_of_choice stands.0) ∙ found))
only_tree steps at piece tree found (while_plan condition body) stands = absurd (none-some tree (sym (ap tree_of_choice stands.3) ∙ found))
only_tree steps at piece tree found (repeat_plan body None) (inl locals, form) = absurd (none-some tree (sym (ap tree_of_choice locals) ∙ found))
only_tree steps at piece tree found (repeat_plan body None) (inr jumps, form) = absurd (none-some tree (sym (ap tree_of_choice jumps) ∙ found))
only_tree steps at piece tree found (repeat_plan body (Some condition)) stands = absurd (none-some tree (sym (ap tree_of_choice stands.3) ∙ found))
only_tree steps at piece tree found (if_plan arms) stands = absurd (none-some tree (sym (ap tree_of_choice stands.0) ∙ found))

-- this stands in a piece, and nothing else
record IsOnly (steps : List Step) (piece : Piece) (tree : PlanTree) : Type 0 where
  stands : PlanStands steps (whole_body steps) piece tree
  only : (plan : PlanTree) → PlanStands steps (whole_body steps) piece plan → plan ≡ tree

own_only : (steps : List Step) (place : ℕ) (step : Step) → slice_get steps place ≡ Some step → (kind : StepKind) → step.kind ≡ kind → is_own (whole_body steps) kind ≡ true → may_stand (whole_body steps) kind ≡ true
    → IsOnly steps (one_piece place) (step_plan place)
own_only steps place step there kind is own stands =
    let chosen = own_stands steps place step there kind is own stands in
    record { stands = chosen; only = only_tree steps (whole_body steps) (one_piece place) (step_plan place) (ap tree_of_choice chosen) }

return_only : (steps : List Step) → ArePlain (length steps) steps → (place : ℕ) (step : Step) → slice_get steps place ≡ Some step → step.kind ≡ StepKind.Return → place + 1 ≡ length steps
    → IsOnly steps (one_piece place) (end_plan (End.Return place) false)
return_only steps plain place step there is last =
    let chosen = return_stands steps plain place step there is last in
    record { stands = chosen; only = only_tree steps (whole_body steps) (one_piece place) (end_plan (End.Return place) false) (ap tree_of_choice chosen) }

-- the body of a function may have captured locals
may_declare : (steps : List Step) (end : ℕ) (captured : Bool) → may_stand (whole_body steps) (StepKind.Declaration end captured) ≡ true
may_declare steps end true = refl
may_declare steps end false = refl

first_only : (steps : List Step) → ArePlain (length steps) steps → (place : ℕ) (step : Step) (rest : List Step) → AreFrom steps place (step ∷ rest) → IsOnly steps (one_piece place) (plan_of step.kind place)
first_only steps plain place step rest from = by_kind (first_plain (length steps) step rest from.plain)
  where
    there : slice_get steps place ≡ Some step
    there = first_there steps place step rest from

    by_kind : IsPlain (length steps) step.kind ⊎ ((step.kind ≡ StepKind.Return) × (length rest ≡ 0)) → IsOnly steps (one_piece place) (plan_of step.kind place)
    by_kind (inl (inl acts)) = subst (λ kind. IsOnly steps (one_piece place) (plan_of kind place)) (sym acts) (own_only steps place step there StepKind.Act acts refl refl)
    by_kind (inl (inr (captured, declares))) =
        subst (λ kind. IsOnly steps (one_piece place) (plan_of kind place)) (sym declares)
        (own_only steps place step there (StepKind.Declaration (length steps) captured) declares (same_number (length steps)) (may_declare steps (length steps) captured))
    by_kind (inr returns) =
        subst (λ kind. IsOnly steps (one_piece place) (plan_of kind place)) (sym returns.0) (return_only steps plain place step there returns.0 (omega (arith, from.fits, returns.1)))

-- ---- the body

steps_stand : (steps : List Step) → ArePlain (length steps) steps → (rest : List Step) (place : ℕ) → AreFrom steps place rest → RestStands steps (whole_body steps) (pieces_of_steps place (length rest)) (plans_of place rest)
steps_stand steps plain [] place from = tt
steps_stand steps plain (step ∷ rest) place from = inl ((first_only steps plain place step rest from).stands, steps_stand steps plain rest (place + 1) (from_next steps place step rest from))

body_stands : (steps : List Step) → ArePlain (length steps) steps → BodyStands steps (whole_body steps) (plans_of 0 steps)
body_stands [] plain = refl
body_stands (step ∷ rest) plain = (
  λ none. omega (arith, none),
  (one_piece 0, pieces_of_steps 1 (length rest), pieces_whole (step ∷ rest) plain, steps_stand (step ∷ rest) plain (step ∷ rest) 0 (from_first (step ∷ rest) plain)),
)

-- the body of a function has no exit
no_last_if : (steps : List Step) (piece : Piece) (plan : PlanTree) (rest : Plans) → EndsInBranches steps (whole_body steps) piece plan rest → ⊥
no_last_if steps piece (if_plan arms) no_plans ends = differ ends.0
  where
    differ : false ≡ true → ⊥
    differ same = cc
no_last_if steps piece (if_plan arms) (and_plan next rest) ends = ends
no_last_if steps piece (step_plan step) rest ends = ends
no_last_if steps piece (end_plan end enclosed) rest ends = ends
no_last_if steps piece (do_plan step body) rest ends = ends
no_last_if steps piece (for_plan step numeric body) rest ends = ends
no_last_if steps piece (while_plan condition body) rest ends = ends
no_last_if steps piece (repeat_plan body condition) rest ends = ends

only_steps : (steps : List Step) → ArePlain (length steps) steps → (rest : List Step) (place : ℕ) → AreFrom steps place rest
    → (plans : Plans) → RestStands steps (whole_body steps) (pieces_of_steps place (length rest)) plans → plans ≡ plans_of place rest
only_steps steps plain [] place from no_plans stands = refl
only_steps steps plain [] place from (and_plan plan others) stands = absurd stands
only_steps steps plain (step ∷ rest) place from no_plans stands = absurd stands
only_steps steps plain (step ∷ rest) place from (and_plan plan others) (inl stands) =
    ap (λ first. and_plan first others) ((first_only steps plain place step rest from).only plan stands.0)
    ∙ ap (and_plan (plan_of step.kind place)) (only_steps steps plain rest (place + 1) (from_next steps place step rest from) others stands.1)
only_steps steps plain (step ∷ rest) place from (and_plan plan others) (inr ends) = absurd (no_last_if steps (one_piece place) plan others ends)

no_steps : (steps : List Step) → 0 ≡ length steps → no_plans ≡ plans_of 0 steps
no_steps [] none = refl
no_steps (step ∷ steps) none = absurd (omega (arith, none))

one_body : (steps : List Step) → ArePlain (length steps) steps → (plans : Plans) → BodyStands steps (whole_body steps) plans → plans ≡ plans_of 0 steps
one_body steps plain no_plans stands = no_steps steps stands
one_body steps plain (and_plan plan rest) (apart, (piece, pieces, are, stands)) =
    let same = same_Some (piece ∷ pieces) (pieces_of_steps 0 (length steps)) (sym are ∙ pieces_whole steps plain) in
    only_steps steps plain steps 0 (from_first steps plain) (and_plan plan rest) (subst (λ all. RestStands steps (whole_body steps) all (and_plan plan rest)) same stands)

pub acts_found : ActsAreFound
acts_found steps plain = (body_stands steps plain, one_body steps plain)
