-- What stands in the memory of the search still stands in it when it has grown.
use Rattle.std.proofs.Common.{◌≡◌, refl, ℕ, List, [], ◌∷◌, Option, None, Some}
use Rattle.recover_expr.specs.declared.steps.Step.{Step}
use Rattle.recover_flow.specs.Conditions.{ConditionTree}
use Rattle.recover_flow.specs.Held.{Store, ConditionHeld, BodyHeld, PlansHeld, PlanHeld, ArmsHeld, BodyFound, BranchesFound, KnownFound, IsKnown, ConditionFound}
use Rattle.recover_flow.specs.Plans.{Plans, no_plans, and_plan, PlanTree, step_plan, end_plan, do_plan, for_plan, while_plan, repeat_plan, if_plan, ArmPlans, no_arms, last_arm, and_arm}
use Rattle.recover_flow.specs.Searching.{Grows, PlanFound, SoFar, RestFound, RestAnswer, AreRests, BehindFound, TestFound}
use Rattle.recover_flow.specs.declared.branches.Way.{Way}
use Rattle.recover_flow.specs.declared.memory.Known.{Known}
use Rattle.recover_flow.specs.declared.plan.Found.{Found}
use Rattle.recover_flow.specs.declared.plan.Plan.{Plan}
use Rattle.recover_flow.specs.declared.plan.Planned.{Planned}
use Rattle.recover_flow.specs.declared.regions.BodyAt.{BodyAt}
use Rattle.recover_flow.specs.declared.regions.BranchesAt.{BranchesAt}
use Rattle.recover_flow.specs.declared.regions.ConditionAt.{ConditionAt}
use Rattle.recover_flow.specs.declared.regions.Piece.{Piece}
use Rattle.recover_flow.specs.declared.search.ArmTest.{ArmTest}

pub grows_same : (store : Store) → Grows store store
grows_same store = record { bodies = λ number body held. held; rests = λ number rest held. held; conditions = λ number condition held. held }

pub grows_both : {first second third : Store} → Grows first second → Grows second third → Grows first third
grows_both f g = record {
  bodies = λ number body held. g.bodies number body (f.bodies number body held);
  rests = λ number rest held. g.rests number rest (f.rests number rest held);
  conditions = λ number condition held. g.conditions number condition (f.conditions number condition held);
}

pub condition_grows : {before after : Store} → Grows before after → (number : Option ℕ) (condition : Option ConditionTree) → ConditionHeld before number condition → ConditionHeld after number condition
condition_grows g None None held = held
condition_grows g None (Some condition) held = absurd held
condition_grows g (Some number) None held = absurd held
condition_grows g (Some number) (Some condition) held = g.conditions number condition held

mutual
  pub body_grows : (steps : List Step) {before after : Store} → Grows before after → (number : ℕ) (plans : Plans) → BodyHeld steps before number plans → BodyHeld steps after number plans
  body_grows steps g number no_plans held = g.bodies number [] held
  body_grows steps g number (and_plan plan rest) held =
      (held.0, held.1, g.bodies number (held.0 ∷ held.1) held.2, held.3, plan_grows steps g held.0.plan plan held.4, plans_grow steps g held.1 rest held.5)

  pub plans_grow : (steps : List Step) {before after : Store} → Grows before after → (statements : List Planned) (plans : Plans) → PlansHeld steps before statements plans → PlansHeld steps after statements plans
  plans_grow steps g [] no_plans held = held
  plans_grow steps g [] (and_plan plan rest) held = absurd held
  plans_grow steps g (planned ∷ later) no_plans held = absurd held
  plans_grow steps g (planned ∷ later) (and_plan plan rest) held = (held.0, plan_grows steps g planned.plan plan held.1, plans_grow steps g later rest held.2)

  pub plan_grows : (steps : List Step) {before after : Store} → Grows before after → (plan : Plan) (tree : PlanTree) → PlanHeld steps before plan tree → PlanHeld steps after plan tree
  plan_grows steps g plan (step_plan step) held = held
  plan_grows steps g plan (end_plan end enclosed) held = held
  plan_grows steps g plan (do_plan step body) held = (held.0, held.1, body_grows steps g held.0 body held.2)
  plan_grows steps g plan (for_plan step numeric body) held = (held.0, held.1, body_grows steps g held.0 body held.2)
  plan_grows steps g plan (while_plan condition body) held = (held.0, held.1, held.2, g.conditions held.0 condition held.3, body_grows steps g held.1 body held.4)
  plan_grows steps g plan (repeat_plan body condition) held = (held.0, held.1, held.2, condition_grows g held.0 condition held.3, body_grows steps g held.1 body held.4)
  plan_grows steps g plan (if_plan arms) held = (held.0, held.1, arms_grow steps g held.0 arms held.2)

  pub arms_grow : (steps : List Step) {before after : Store} → Grows before after → (number : ℕ) (arms : ArmPlans) → ArmsHeld steps before number arms → ArmsHeld steps after number arms
  arms_grow steps g number no_arms held = g.rests number _ held
  arms_grow steps g number (last_arm body) held = (held.0, g.rests number _ held.1, body_grows steps g held.0 body held.2)
  arms_grow steps g number (and_arm condition body rest) held =
      (held.0, held.1, held.2, g.rests number _ held.3, held.4, condition_grows g held.0 condition held.5, body_grows steps g held.1 body held.6, arms_grow steps g held.2 rest held.7)

pub body_found_grows : (steps : List Step) {before after : Store} → Grows before after → (at : BodyAt) (found : Found) → BodyFound steps before at found → BodyFound steps after at found
body_found_grows steps g at found f = record { body = f.body; stands = f.stands; levels = f.levels; held = body_grows steps g found.number f.body f.held }

pub branches_found_grow : (steps : List Step) {before after : Store} → Grows before after → (at : BranchesAt) (found : Found) → BranchesFound steps before at found → BranchesFound steps after at found
branches_found_grow steps g at found f = record { arms = f.arms; stand = f.stand; levels = f.levels; held = arms_grow steps g found.number f.arms f.held }

pub plan_found_grows : (steps : List Step) {before after : Store} → Grows before after → (at : BodyAt) (piece : Piece) (planned : Planned) → PlanFound steps before at piece planned → PlanFound steps after at piece planned
plan_found_grows steps g at piece planned f = record { tree = f.tree; stands = f.stands; levels = f.levels; held = plan_grows steps g planned.plan f.tree f.held }

pub sofar_grows : (steps : List Step) {before after : Store} → Grows before after → (at : BodyAt) (levels : ℕ) (pieces : List Piece) (statements : List Planned) → SoFar steps before at levels pieces statements → SoFar steps after at levels pieces statements
sofar_grows steps g at levels pieces [] s = s
sofar_grows steps g at levels [] (planned ∷ statements) s = absurd s
sofar_grows steps g at levels (piece ∷ pieces) (planned ∷ statements) s = (s.0, plan_found_grows steps g at piece planned s.1, sofar_grows steps g at levels pieces statements s.2)

pub rest_found_grows : (steps : List Step) {before after : Store} → Grows before after → (at : BranchesAt) (place : ℕ) (found : Found) → RestFound steps before at place found → RestFound steps after at place found
rest_found_grows steps g at place found f = record { arms = f.arms; stand = f.stand; levels = f.levels; held = arms_grow steps g found.number f.arms f.held }

pub rest_answer_grows : (steps : List Step) {before after : Store} → Grows before after → (at : BranchesAt) (place levels : ℕ) (found : Option Found) → RestAnswer at place levels found steps before → RestAnswer at place levels found steps after
rest_answer_grows steps g at place levels None answer = answer
rest_answer_grows steps g at place levels (Some found) answer = (answer.0, rest_found_grows steps g at place found answer.1)

pub rests_grow : (steps : List Step) {before after : Store} → Grows before after → (at : BranchesAt) (levels place : ℕ) (found : ℕ → Option Found) → AreRests steps before at levels place found → AreRests steps after at levels place found
rests_grow steps g at levels place found rests = record { before = rests.before; behind = λ begin past. rest_answer_grows steps g at begin levels (found begin) (rests.behind begin past) }

pub behind_found_grows : (steps : List Step) {before after : Store} → Grows before after → (at : BranchesAt) (place : ℕ) (next : Option ℕ) (found : Found) → BehindFound steps before at place next found → BehindFound steps after at place next found
behind_found_grows steps g at place next found f = record { arms = f.arms; stand = f.stand; levels = f.levels; held = arms_grow steps g found.number f.arms f.held }

pub test_found_grows : (steps : List Step) {before after : Store} → Grows before after → (place : ℕ) (way : Way) (test : ArmTest) → TestFound steps before place way test → TestFound steps after place way test
test_found_grows steps g place way test f = record { condition = f.condition; tested = f.tested; levels = f.levels; held = condition_grows g test.condition f.condition f.held }

-- ---- what is known stays right

pub known_found_grows : {before after : Found → Type 0} → ((found : Found) → before found → after found) → (found : Option Found) → KnownFound before found → KnownFound after found
known_found_grows grow None known = known
known_found_grows grow (Some found) known = grow found known

pub known_grows : {before after : Found → Type 0} {none : ℕ → Type 0} → ((found : Found) → before found → after found) → (known : Known) → IsKnown before none known → IsKnown after none known
known_grows grow known is = record { found = known_found_grows grow known.found is.found; failed = is.failed }

pub condition_found_grows : (steps : List Step) {before after : Store} → Grows before after → (at : ConditionAt) (found : Option Found) → ConditionFound steps before at found → ConditionFound steps after at found
condition_found_grows steps g at None is = is
condition_found_grows steps g at (Some found) is = (is.0, is.1, g.conditions found.number is.0 is.2, is.3)
