-- Plans that stand among the steps of a function are planned so that they are formed: an end without a `do` of its own is last, as it is enclosed wherever its piece is not, and each `if` begins with an arm.
use Rattle.std.proofs.Common.{◌≡◌, ℕ, zero, suc, ◌+◌, ◌-◌, ◌<◌, Bool, true, false, not, inl, inr, List, [], ◌∷◌, ◌++◌, refl, sym, arith, subst}
use Rattle.std.proofs.lemmas.Bool.Decides.{nat_tests}
use Rattle.std.specs.Prelude.{◌==◌, ◌&&◌, Option, None, Some, option_map, slice_get, if◌then◌else◌}
use Rattle.recover_expr.specs.declared.steps.Step.{Step}
use Rattle.recover_expr.specs.declared.steps.StepKind.{StepKind}
use Rattle.recover_flow.specs.Asked.{last_back, is_single}
use Rattle.recover_flow.specs.Cutting.{ends_behind, begun_behind, cut_behind, behind_place, pieces_from, pieces_of}
use Rattle.recover_flow.specs.Forms.{is_own, may_stand, own_statement, is_enclosed, ending, leaves_straight, leaves_closing, choice_of_kind, loop_or_straight, choice_of_step, choice_at}
use Rattle.recover_flow.specs.Plans.{Plans, no_plans, and_plan, PlanTree, step_plan, end_plan, do_plan, for_plan, while_plan, repeat_plan, if_plan, ArmPlans, no_arms, last_arm, and_arm}
use Rattle.recover_flow.specs.Standing.{InBlock, BodyStands, RestStands, EndsInBranches, PlanStands, BranchesStand, ArmsBehind}
use Rattle.recover_flow.specs.declared.forms.Choice.{Choice}
use Rattle.recover_flow.specs.declared.plan.End.{End}
use Rattle.recover_flow.specs.declared.plan.Plan.{Plan}
use Rattle.recover_flow.specs.declared.plan.Planned.{Planned}
use Rattle.recover_flow.specs.declared.regions.BlockAt.{BlockAt}
use Rattle.recover_flow.specs.declared.regions.BodyAt.{BodyAt}
use Rattle.recover_flow.specs.declared.regions.BranchesAt.{BranchesAt}
use Rattle.recover_flow.specs.declared.regions.Piece.{Piece}
use Rattle.built_flow.specs.BuiltWhole.{EndsLast, HasArm, ArePlansFormed, IsPlanFormed, AreArmsFormed, StandingIsFormed}
use Rattle.built_flow.proofs.PartsTaken.{same_some, mapped, chained}

-- ---- the last piece

-- only the last piece of a body ends where the body does
abbrev pub EndBefore : (to : ℕ) → List Piece → Type 0
EndBefore to [] = Unit {0}
EndBefore to (piece ∷ []) = Unit {0}
EndBefore to (piece ∷ next ∷ pieces) = (piece.to < to) × EndBefore to (next ∷ pieces)

-- there are pieces only where the body goes on
abbrev IsLeft : (place to : ℕ) → List Piece → Type 0
IsLeft place to [] = Unit {0}
IsLeft place to (piece ∷ pieces) = place < to

cut_before : (to place : ℕ) (reach : _) (pieces : List Piece) → EndBefore to pieces → IsLeft (place + 1) to pieces → EndBefore to (cut_behind place reach ++ pieces)
cut_before to place reach pieces before left = by (ends_behind place reach) refl pieces before left
  where
    by : (b : Bool) → ends_behind place reach ≡ b → (pieces : List Piece) → EndBefore to pieces → IsLeft (place + 1) to pieces →
        EndBefore to ((if b then record { from = reach.begin; to = reach.far } ∷ [] else []) ++ pieces)
    by false e pieces before left = before
    by true e [] before left = tt
    by true e (next ∷ pieces) before left = (let far : reach.far ≡ place + 1 = grind (arith, nat_tests) in omega arith, before)

some_left : (place to : ℕ) (pieces : List Piece) → place < to → IsLeft place to pieces
some_left place to [] less = tt
some_left place to (piece ∷ pieces) less = less

pieces_before : (steps : List Step) (at : BodyAt) (to count place : ℕ) (reach : _) (pieces : List Piece) → place + count ≡ to → pieces_from steps at count place reach ≡ Some pieces → EndBefore to pieces × IsLeft place to pieces
pieces_before steps at to zero place reach pieces e is = subst (λ x. EndBefore to x × IsLeft place to x) (same_some [] pieces is) (tt, tt)
pieces_before steps at to (suc count) place reach pieces e is =
    let c = chained (λ behind. option_map (λ rest. cut_behind place behind ++ rest) (pieces_from steps at count (place + 1) (begun_behind place behind))) (behind_place steps at place reach) pieces is in
    let m = mapped (λ rest. cut_behind place c.found ++ rest) (pieces_from steps at count (place + 1) (begun_behind place c.found)) pieces c.gives in
    let x = pieces_before steps at to count (place + 1) (begun_behind place c.found) m.found (omega arith) m.there in
    (subst (λ y. EndBefore to y) m.gives (cut_before to place c.found m.found x.0 x.1), some_left place to pieces (omega arith))

body_before : (steps : List Step) (at : BodyAt) (piece : Piece) (pieces : List Piece) → pieces_of steps at ≡ Some (piece ∷ pieces) → EndBefore at.to (piece ∷ pieces)
body_before steps at piece pieces is = by (at.to - at.from) refl is
  where
    by : (count : ℕ) → at.to - at.from ≡ count → pieces_from steps at count at.from (record { begin = at.from; far = at.from; turned = 0 }) ≡ Some (piece ∷ pieces) → EndBefore at.to (piece ∷ pieces)
    by zero e h = let bad = same_some [] (piece ∷ pieces) h in cc
    by (suc count) e h = (pieces_before steps at at.to (suc count) at.from (record { begin = at.from; far = at.from; turned = 0 }) (piece ∷ pieces) (omega arith) h).0

-- ---- an end is enclosed where its piece is not the last

abbrev EnclosesPlan : BodyAt → Piece → Plan → Type 0
EnclosesPlan at piece (Plan.End end enclosed) = enclosed ≡ is_enclosed at piece
EnclosesPlan at piece plan = Unit {0}

abbrev EnclosesSome : BodyAt → Piece → Option Planned → Type 0
EnclosesSome at piece None = Unit {0}
EnclosesSome at piece (Some planned) = EnclosesPlan at piece planned.plan

abbrev Encloses : BodyAt → Piece → Choice → Type 0
Encloses at piece (Choice.Settled found) = EnclosesSome at piece found
Encloses at piece choice = Unit {0}

either_way : {answer : Type 0} (holds : answer → Type 0) (b : Bool) (x y : answer) → holds x → holds y → holds (if b then x else y)
either_way holds true x y h k = h
either_way holds false x y h k = k

kind_encloses : (steps : List Step) (at : BodyAt) (piece : Piece) (step : Step) (kind : StepKind) → Encloses at piece (choice_of_kind steps at piece step kind)
kind_encloses steps at piece step (StepKind.Jump target) =
    either_way (λ choice. Encloses at piece choice) (leaves_straight steps at piece step) (Choice.Settled (Some (ending at piece End.Break 1))) Choice.Jumps refl tt
kind_encloses steps at piece step StepKind.Return = either_way (λ found. EnclosesSome at piece found) (is_single piece) (Some (ending at piece (End.Return piece.from) step.levels)) None refl tt
kind_encloses steps at piece step (StepKind.Close from declared) =
    either_way (λ found. EnclosesSome at piece found) (leaves_closing steps at piece step from) (Some (ending at piece End.Break 1)) None refl tt
kind_encloses steps at piece step kind = tt

choice_encloses : (steps : List Step) (at : BodyAt) (piece : Piece) → Encloses at piece (choice_at steps at piece)
choice_encloses steps at piece = by (slice_get steps piece.from)
  where
    straight : (step : Step) (last : Option ℕ) → Encloses at piece (loop_or_straight steps at piece step last)
    straight step (Some last) = tt
    straight step None = kind_encloses steps at piece step step.kind

    by : (found : Option Step) → Encloses at piece (choice_of_step steps at piece found)
    by None = tt
    by (Some step) =
        either_way (λ choice. Encloses at piece choice) (is_single piece && is_own at step.kind) (Choice.Settled (own_statement at step piece.from)) (loop_or_straight steps at piece step (last_back steps piece.from piece.to))
        (either_way (λ found. EnclosesSome at piece found) (may_stand at step.kind) (Some (record { plan = Plan.Step piece.from; levels = step.levels })) None tt tt)
        (straight step (last_back steps piece.from piece.to))

ends_last : (steps : List Step) (at : BodyAt) (piece : Piece) (pieces : List Piece) (plan : PlanTree) (rest : Plans) → EndBefore at.to (piece ∷ pieces) → PlanStands steps at piece plan → RestStands steps at pieces rest → EndsLast plan rest
ends_last steps at piece [] (end_plan end false) (and_plan next rest) before standing others = absurd others
ends_last steps at piece (other ∷ pieces) (end_plan end false) (and_plan next rest) before standing others =
    let encloses = subst (λ choice. Encloses at piece choice) standing (choice_encloses steps at piece) in
    absurd (not_last (piece.to == at.to) encloses refl)
  where
    not_last : (b : Bool) → false ≡ not b → (piece.to == at.to) ≡ b → ⊥
    not_last true h e = let less = before.0 in let same : piece.to ≡ at.to = grind (arith, nat_tests) in omega arith
    not_last false h e = cc
ends_last steps at piece pieces plan rest before standing others = tt

-- ---- plans that stand

-- where the bodies of a block are planned so, the block is
block_planned : (steps : List Step) (block : BlockAt) (body : Plans) → ((at : BodyAt) → BodyStands steps at body → ArePlansFormed body) → InBlock (λ inner. BodyStands steps inner body) steps block → ArePlansFormed body
block_planned steps block body planned (inl (at, closed, standing)) = planned _ standing
block_planned steps block body planned (inr standing) = planned _ standing

module _ (steps : List Step) where
  mutual
    body_planned : (plans : Plans) (at : BodyAt) → BodyStands steps at plans → ArePlansFormed plans
    body_planned no_plans at standing = tt
    body_planned (and_plan plan rest) at (some, (piece, pieces, cut, inl (standing, others))) =
        let before = body_before steps at piece pieces cut in
        (ends_last steps at piece pieces plan rest before standing others, plan_planned plan at piece standing, rest_planned rest at piece pieces before others)
    body_planned (and_plan plan rest) at (some, (piece, pieces, cut, inr standing)) = branches_end plan rest at piece standing

    rest_planned : (plans : Plans) (at : BodyAt) (piece : Piece) (pieces : List Piece) → EndBefore at.to (piece ∷ pieces) → RestStands steps at pieces plans → ArePlansFormed plans
    rest_planned no_plans at piece pieces before standing = tt
    rest_planned (and_plan plan rest) at piece [] before standing = absurd standing
    rest_planned (and_plan plan rest) at piece (next ∷ pieces) before (inl (standing, others)) =
        (ends_last steps at next pieces plan rest before.1 standing others, plan_planned plan at next standing, rest_planned rest at next pieces before.1 others)
    rest_planned (and_plan plan rest) at piece (next ∷ pieces) before (inr standing) = branches_end plan rest at next standing

    branches_end : (plan : PlanTree) (rest : Plans) (at : BodyAt) (piece : Piece) → EndsInBranches steps at piece plan rest → EndsLast plan rest × IsPlanFormed plan × ArePlansFormed rest
    branches_end (if_plan arms) no_plans at piece (begins, (bare, standing)) = (tt, branches_planned arms _ standing, tt)
    branches_end plan rest at piece standing = absurd standing

    plan_planned : (plan : PlanTree) (at : BodyAt) (piece : Piece) → PlanStands steps at piece plan → IsPlanFormed plan
    plan_planned (step_plan step) at piece standing = tt
    plan_planned (end_plan end enclosed) at piece standing = tt
    plan_planned (do_plan step body) at piece (choice, (form, found, shape, standing)) = block_planned steps form.inner body (λ at standing. body_planned body at standing) standing
    plan_planned (for_plan step numeric body) at piece (choice, (form, found, shape, standing)) = block_planned steps form.inner body (λ at standing. body_planned body at standing) standing
    plan_planned (while_plan condition body) at piece (last, loop, parts, choice, found, having, standing) = block_planned steps parts.inner body (λ at standing. body_planned body at standing) standing
    plan_planned (repeat_plan body None) at piece (choice, (form, found, standing)) = block_planned steps form.inner body (λ at standing. body_planned body at standing) standing
    plan_planned (repeat_plan body (Some condition)) at piece (last, loop, parts, choice, found, having, standing) = block_planned steps parts.inner body (λ at standing. body_planned body at standing) standing
    plan_planned (if_plan arms) at piece (choice, (bare, standing)) = branches_planned arms _ standing

    branches_planned : (arms : ArmPlans) (at : BranchesAt) → BranchesStand steps at arms → HasArm arms × AreArmsFormed arms
    branches_planned no_arms at standing = absurd standing
    branches_planned (last_arm body) at standing = absurd standing
    branches_planned (and_arm condition body rest) at (way, is, tested, standing, behind) =
        (tt, (block_planned steps _ body (λ at standing. body_planned body at standing) standing, behind_planned rest at at.from way.next behind))

    behind_planned : (arms : ArmPlans) (at : BranchesAt) (place : ℕ) (next : Option ℕ) → ArmsBehind steps at place next arms → AreArmsFormed arms
    behind_planned no_arms at place next standing = tt
    behind_planned (last_arm body) at place next (begin, is, inl (ended, none_there)) = subst (λ x. ArePlansFormed x) (sym none_there) tt
    behind_planned (last_arm body) at place next (begin, is, inr (goes, less, start, standing)) = block_planned steps _ body (λ at standing. body_planned body at standing) standing
    behind_planned (and_arm condition body rest) at place next (begin, way, is, goes, less, start, tested, standing, behind) =
        (block_planned steps _ body (λ at standing. body_planned body at standing) standing, behind_planned rest at begin way.next behind)

-- what stands is planned so that it is formed
pub standing_is_formed : StandingIsFormed
standing_is_formed steps at plans standing = body_planned steps plans at standing
