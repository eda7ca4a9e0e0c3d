-- Serves a body. Which plans stand in the memory of the search, by their numbers; and that what the memory knows is right.
use Rattle.std.specs.Prelude.{◌≡◌, ◌<◌, ◌≤◌, ℕ, Bool, List, [], ◌∷◌, map, slice_get, Option, None, Some}
use Rattle.recover_expr.specs.declared.steps.Step.{Step}
use Rattle.recover_flow.specs.Conditions.{ConditionTree, view_condition, condition_of, condition_levels}
use Rattle.recover_flow.specs.Plans.{Plans, no_plans, and_plan, PlanTree, step_plan, end_plan, do_plan, for_plan, while_plan, repeat_plan, if_plan, ArmPlans, no_arms, last_arm, and_arm, body_levels, plan_levels, arm_levels}
use Rattle.recover_flow.specs.Standing.{BodyStands, BranchesStand}
use Rattle.recover_flow.specs.declared.memory.Known.{Known}
use Rattle.recover_flow.specs.declared.memory.Memory.{Memory}
use Rattle.recover_flow.specs.declared.plan.Found.{Found}
use Rattle.recover_flow.specs.declared.plan.Plan.{Plan}
use Rattle.recover_flow.specs.declared.plan.Planned.{Planned}
use Rattle.recover_flow.specs.declared.plan.Rest.{Rest}
use Rattle.recover_flow.specs.declared.regions.BodyAt.{BodyAt}
use Rattle.recover_flow.specs.declared.regions.BranchesAt.{BranchesAt}
use Rattle.recover_flow.specs.declared.regions.ConditionAt.{ConditionAt}

-- what was found, by its numbers
pub record Store : Type 0 where
  pub bodies : List (List Planned)
  pub rests : List Rest
  pub conditions : List ConditionTree

abbrev pub view_store : Memory → Store
view_store memory = record { bodies = map (λ body. body.items) memory.bodies.items; rests = memory.rests.items; conditions = map view_condition memory.conditions.items }

-- ---- what stands there

abbrev pub ConditionHeld : Store → Option ℕ → Option ConditionTree → Type 0
ConditionHeld store None None = Unit {0}
ConditionHeld store (Some number) (Some condition) = slice_get store.conditions number ≡ Some condition
ConditionHeld store number condition = ⊥

abbrev mutual
  -- each statement with the levels that it needs
  pub BodyHeld : List Step → Store → (number : ℕ) → Plans → Type 0
  BodyHeld steps store number no_plans = slice_get store.bodies number ≡ Some []
  BodyHeld steps store number (and_plan plan rest) =
      (planned : Planned) × (later : List Planned) × (slice_get store.bodies number ≡ Some (planned ∷ later)) × (planned.levels ≡ plan_levels steps plan)
      × PlanHeld steps store planned.plan plan × PlansHeld steps store later rest

  pub PlansHeld : List Step → Store → List Planned → Plans → Type 0
  PlansHeld steps store [] no_plans = Unit {0}
  PlansHeld steps store [] (and_plan plan rest) = ⊥
  PlansHeld steps store (planned ∷ later) no_plans = ⊥
  PlansHeld steps store (planned ∷ later) (and_plan plan rest) =
      (planned.levels ≡ plan_levels steps plan) × PlanHeld steps store planned.plan plan × PlansHeld steps store later rest

  pub PlanHeld : List Step → Store → Plan → PlanTree → Type 0
  PlanHeld steps store plan (step_plan step) = plan ≡ Plan.Step step
  PlanHeld steps store plan (end_plan end enclosed) = plan ≡ Plan.End end enclosed
  PlanHeld steps store plan (do_plan step body) = (number : ℕ) × (plan ≡ Plan.Do step number) × BodyHeld steps store number body
  PlanHeld steps store plan (for_plan step numeric body) = (number : ℕ) × (plan ≡ Plan.For step numeric number) × BodyHeld steps store number body
  PlanHeld steps store plan (while_plan condition body) =
      (test number : ℕ) × (plan ≡ Plan.While test number) × ConditionHeld store (Some test) (Some condition) × BodyHeld steps store number body
  PlanHeld steps store plan (repeat_plan body condition) =
      (test : Option ℕ) × (number : ℕ) × (plan ≡ Plan.Repeat number test) × ConditionHeld store test condition × BodyHeld steps store number body
  PlanHeld steps store plan (if_plan arms) = (rest : ℕ) × (plan ≡ Plan.If rest) × ArmsHeld steps store rest arms

  -- what stands behind an arm has a lower number
  pub ArmsHeld : List Step → Store → (number : ℕ) → ArmPlans → Type 0
  ArmsHeld steps store number no_arms = slice_get store.rests number ≡ Some Rest.Nothing
  ArmsHeld steps store number (last_arm body) = (block : ℕ) × (slice_get store.rests number ≡ Some (Rest.Last block)) × BodyHeld steps store block body
  ArmsHeld steps store number (and_arm condition body rest) =
      (test : Option ℕ) × (block behind : ℕ) × (slice_get store.rests number ≡ Some (Rest.Arm test block behind)) × (behind < number)
      × ConditionHeld store test condition × BodyHeld steps store block body × ArmsHeld steps store behind rest

-- ---- what is found, and what is not

-- a body of these levels stands there, and in the memory
pub record BodyFound (steps : List Step) (store : Store) (at : BodyAt) (found : Found) : Type 0 where
  pub body : Plans
  pub stands : BodyStands steps at body
  pub held : BodyHeld steps store found.number body
  pub levels : found.levels ≡ body_levels steps body

-- each body that stands there needs more levels
abbrev pub NoBody : List Step → BodyAt → (levels : ℕ) → Type 0
NoBody steps at levels = (body : Plans) → BodyStands steps at body → levels < body_levels steps body

-- none needs fewer
abbrev pub IsFewest : List Step → BodyAt → (levels : ℕ) → Type 0
IsFewest steps at levels = (body : Plans) → BodyStands steps at body → levels ≤ body_levels steps body

pub record BranchesFound (steps : List Step) (store : Store) (at : BranchesAt) (found : Found) : Type 0 where
  pub arms : ArmPlans
  pub stand : BranchesStand steps at arms
  pub held : ArmsHeld steps store found.number arms
  pub levels : found.levels ≡ arm_levels steps arms

abbrev pub NoBranches : List Step → BranchesAt → (levels : ℕ) → Type 0
NoBranches steps at levels = (arms : ArmPlans) → BranchesStand steps at arms → levels < arm_levels steps arms

-- what is known of a part is right, where these say what is found and what is not
abbrev pub KnownFound : (Found → Type 0) → Option Found → Type 0
KnownFound is_found None = Unit {0}
KnownFound is_found (Some found) = is_found found

abbrev pub KnownFailed : (ℕ → Type 0) → Option ℕ → Type 0
KnownFailed is_none None = Unit {0}
KnownFailed is_none (Some levels) = is_none levels

pub record IsKnown (is_found : Found → Type 0) (is_none : ℕ → Type 0) (known : Known) : Type 0 where
  pub found : KnownFound is_found known.found
  pub failed : KnownFailed is_none known.failed

-- a condition that was looked for
abbrev pub ConditionFound : List Step → Store → ConditionAt → Option Found → Type 0
ConditionFound steps store at None = condition_of steps at ≡ None
ConditionFound steps store at (Some found) =
    (condition : ConditionTree) × (condition_of steps at ≡ Some condition) × (slice_get store.conditions found.number ≡ Some condition) × (found.levels ≡ condition_levels steps condition)
