-- Serves a body. What a part of the search answers: a plan that stands, by its number in the memory; or none, where each that stands needs more levels.
use Rattle.std.specs.Prelude.{◌≡◌, ◌==◌, ◌<◌, ◌≤◌, ℕ, max, Bool, true, nat_le, List, [], ◌∷◌, length, slice_get, Option, None, Some, if◌then◌else◌}
use Rattle.std.specs.HashMap.{HashMap, get}
use Rattle.core_expr.specs.Counting.{one_more}
use Rattle.recover_expr.specs.declared.steps.Step.{Step}
use Rattle.recover_flow.specs.Arms.{arm_starts}
use Rattle.recover_flow.specs.Asked.{block_at, begins_branches}
use Rattle.recover_flow.specs.Conditions.{ConditionTree, condition_of}
use Rattle.recover_flow.specs.Forms.{plan_around}
use Rattle.recover_flow.specs.Held.{Store, view_store, ConditionHeld, BodyHeld, PlansHeld, PlanHeld, ArmsHeld, BodyFound, NoBody, BranchesFound, NoBranches, IsKnown, ConditionFound}
use Rattle.recover_flow.specs.Loops.{loop_parts, loop_shape}
use Rattle.recover_flow.specs.Plans.{Plans, and_plan, PlanTree, ArmPlans, around_block, until_levels, tested_levels, body_levels, plan_levels, arm_levels}
use Rattle.recover_flow.specs.Standing.{branches_used, last_branches, IsStart, IsAmongWays, IsWay, IsTested, HasParts, BodyStands, BlockStands, PlanStands, BranchesStand, ArmStands, ArmsBehind, ArmsFrom}
use Rattle.recover_flow.specs.Tabled.{AreTables}
use Rattle.recover_flow.specs.contracts.regions.BodyAtPartialEq.TheImpl.{eq-value as body_eq}
use Rattle.recover_flow.specs.contracts.regions.BranchesAtPartialEq.TheImpl.{eq-value as branches_eq}
use Rattle.recover_flow.specs.contracts.regions.ConditionAtPartialEq.TheImpl.{eq-value as condition_eq}
use Rattle.recover_flow.specs.declared.branches.Way.{Way}
use Rattle.recover_flow.specs.declared.forms.Form.{Form}
use Rattle.recover_flow.specs.declared.loops.LoopAt.{LoopAt}
use Rattle.recover_flow.specs.declared.loops.LoopParts.{LoopParts}
use Rattle.recover_flow.specs.declared.memory.Known.{Known}
use Rattle.recover_flow.specs.declared.memory.Memory.{Memory}
use Rattle.recover_flow.specs.declared.memory.Recalled.{Recalled}
use Rattle.recover_flow.specs.declared.plan.Found.{Found}
use Rattle.recover_flow.specs.declared.plan.Plan.{Plan}
use Rattle.recover_flow.specs.declared.plan.Planned.{Planned}
use Rattle.recover_flow.specs.declared.plan.Rest.{Rest}
use Rattle.recover_flow.specs.declared.regions.BlockAt.{BlockAt}
use Rattle.recover_flow.specs.declared.regions.BodyAt.{BodyAt}
use Rattle.recover_flow.specs.declared.regions.BranchesAt.{BranchesAt}
use Rattle.recover_flow.specs.declared.regions.ConditionAt.{ConditionAt}
use Rattle.recover_flow.specs.declared.regions.Piece.{Piece}
use Rattle.recover_flow.specs.declared.search.ArmTest.{ArmTest}
use Rattle.recover_flow.specs.declared.search.Search.{Search}

-- ---- the memory is right

pub record IsRight (steps : List Step) (memory : Memory) : Type 0 where
  pub empty_body : slice_get (view_store memory).bodies 0 ≡ Some []
  pub no_rest : slice_get (view_store memory).rests 0 ≡ Some Rest.Nothing
  pub empty_last : slice_get (view_store memory).rests 1 ≡ Some (Rest.Last 0)
  pub bodies : (at : BodyAt) (known : Known) → get body_eq.it memory.known_bodies at ≡ Some known → IsKnown (BodyFound steps (view_store memory) at) (NoBody steps at) known
  pub branches : (at : BranchesAt) (known : Known) → get branches_eq.it memory.known_branches at ≡ Some known → IsKnown (BranchesFound steps (view_store memory) at) (NoBranches steps at) known
  pub conditions : (at : ConditionAt) (found : Option Found) → get condition_eq.it memory.known_conditions at ≡ Some found → ConditionFound steps (view_store memory) at found

-- what stands in a memory still stands there
pub record Grows (before after : Store) : Type 0 where
  pub bodies : (number : ℕ) (body : List Planned) → slice_get before.bodies number ≡ Some body → slice_get after.bodies number ≡ Some body
  pub rests : (number : ℕ) (rest : Rest) → slice_get before.rests number ≡ Some rest → slice_get after.rests number ≡ Some rest
  pub conditions : (number : ℕ) (condition : ConditionTree) → slice_get before.conditions number ≡ Some condition → slice_get after.conditions number ≡ Some condition

-- ---- calls

abbrev pub steps_of : Search → List Step
steps_of search = search.tables.steps.now

abbrev pub store_of : Search → Store
store_of search = view_store search.memory

-- what each call of a part of the search finds, and leaves
pub record IsReady (search : Search) : Type 0 where
  pub tabled : AreTables search.tables
  pub right : IsRight (steps_of search) search.memory

pub record Keeps (before after : Search) : Type 0 where
  pub tables : after.tables ≡ before.tables
  pub right : IsRight (steps_of before) after.memory
  pub grows : Grows (store_of before) (store_of after)

-- and what it answers, of the steps and the memory behind it
pub record Answers (before after : Search) (answer : List Step → Store → Type 0) : Type 0 where
  pub keeps : Keeps before after
  pub gives : answer (steps_of before) (store_of after)

-- ---- answers

abbrev pub BodyAnswer : BodyAt → (levels : ℕ) → Option Found → List Step → Store → Type 0
BodyAnswer at levels None steps store = NoBody steps at levels
BodyAnswer at levels (Some found) steps store = (found.levels ≤ levels) × BodyFound steps store at found

pub record BlockFound (steps : List Step) (store : Store) (block : BlockAt) (found : Found) : Type 0 where
  pub body : Plans
  pub stands : BlockStands steps block body
  pub held : BodyHeld steps store found.number body
  pub levels : found.levels ≡ body_levels steps body

abbrev pub NoBlock : List Step → BlockAt → (levels : ℕ) → Type 0
NoBlock steps block levels = (body : Plans) → BlockStands steps block body → levels < body_levels steps body

abbrev pub BlockAnswer : BlockAt → (levels : ℕ) → Option Found → List Step → Store → Type 0
BlockAnswer block levels None steps store = NoBlock steps block levels
BlockAnswer block levels (Some found) steps store = (found.levels ≤ levels) × BlockFound steps store block found

-- a body that has statements
pub record StatementsFound (steps : List Step) (store : Store) (at : BodyAt) (levels : ℕ) (statements : List Planned) : Type 0 where
  pub first : PlanTree
  pub rest : Plans
  pub stands : BodyStands steps at (and_plan first rest)
  pub held : PlansHeld steps store statements (and_plan first rest)
  pub fits : body_levels steps (and_plan first rest) ≤ levels

abbrev pub StatementsAnswer : BodyAt → (levels : ℕ) → Option (List Planned) → List Step → Store → Type 0
StatementsAnswer at levels None steps store = NoBody steps at levels
StatementsAnswer at levels (Some statements) steps store = StatementsFound steps store at levels statements

-- a statement that is a piece
pub record PlanFound (steps : List Step) (store : Store) (at : BodyAt) (piece : Piece) (planned : Planned) : Type 0 where
  pub tree : PlanTree
  pub stands : PlanStands steps at piece tree
  pub held : PlanHeld steps store planned.plan tree
  pub levels : planned.levels ≡ plan_levels steps tree

abbrev pub NoPlan : List Step → BodyAt → Piece → (levels : ℕ) → Type 0
NoPlan steps at piece levels = (tree : PlanTree) → PlanStands steps at piece tree → levels < plan_levels steps tree

abbrev pub PlanAnswer : BodyAt → Piece → (levels : ℕ) → Option Planned → List Step → Store → Type 0
PlanAnswer at piece levels None steps store = NoPlan steps at piece levels
PlanAnswer at piece levels (Some planned) steps store = (planned.levels ≤ levels) × PlanFound steps store at piece planned

-- a statement around a block
pub record FormFound (steps : List Step) (store : Store) (form : Form) (planned : Planned) : Type 0 where
  pub body : Plans
  pub number : ℕ
  pub stands : BlockStands steps form.inner body
  pub held : BodyHeld steps store number body
  pub plan : planned.plan ≡ plan_around form.shape number
  pub levels : planned.levels ≡ around_block form.levels (body_levels steps body)

abbrev pub FormAnswer : Option Form → (levels : ℕ) → Option Planned → List Step → Store → Type 0
FormAnswer None levels None steps store = Unit {0}
FormAnswer None levels (Some planned) steps store = ⊥
FormAnswer (Some form) levels None steps store = (body : Plans) → BlockStands steps form.inner body → levels < around_block form.levels (body_levels steps body)
FormAnswer (Some form) levels (Some planned) steps store = (planned.levels ≤ levels) × FormFound steps store form planned

-- a loop with its condition and its block
pub record LoopFound (steps : List Step) (store : Store) (loop : LoopAt) (planned : Planned) : Type 0 where
  pub condition : ConditionTree
  pub parts : LoopParts
  pub body : Plans
  pub test : ℕ
  pub number : ℕ
  pub parted : HasParts steps loop condition parts
  pub stands : BlockStands steps parts.inner body
  pub tested : slice_get store.conditions test ≡ Some condition
  pub held : BodyHeld steps store number body
  pub plan : planned.plan ≡ plan_around (loop_shape loop test) number
  pub levels : planned.levels ≡ around_block (until_levels steps (Some condition)) (body_levels steps body)

abbrev pub NoLoop : List Step → LoopAt → (levels : ℕ) → Type 0
NoLoop steps loop levels =
    (condition : ConditionTree) (parts : LoopParts) (body : Plans) → HasParts steps loop condition parts → BlockStands steps parts.inner body
    → levels < around_block (until_levels steps (Some condition)) (body_levels steps body)

abbrev pub LoopAnswer : Option LoopAt → (levels : ℕ) → Option Planned → List Step → Store → Type 0
LoopAnswer None levels None steps store = Unit {0}
LoopAnswer None levels (Some planned) steps store = ⊥
LoopAnswer (Some loop) levels None steps store = NoLoop steps loop levels
LoopAnswer (Some loop) levels (Some planned) steps store = (planned.levels ≤ levels) × LoopFound steps store loop planned

-- the form of a loop whose condition has this length
pub record LoopForm (steps : List Step) (store : Store) (loop : LoopAt) (length : ℕ) (form : Form) : Type 0 where
  pub condition : ConditionTree
  pub parts : LoopParts
  pub test : ℕ
  pub parted : loop_parts steps loop length ≡ Some parts
  pub is_condition : condition_of steps parts.condition ≡ Some condition
  pub tested : slice_get store.conditions test ≡ Some condition
  pub form_is : form ≡ record { shape = loop_shape loop test; levels = until_levels steps (Some condition); inner = parts.inner }

abbrev pub NoLoopForm : List Step → LoopAt → (length : ℕ) → Type 0
NoLoopForm steps loop length = (condition : ConditionTree) (parts : LoopParts) → loop_parts steps loop length ≡ Some parts → condition_of steps parts.condition ≡ Some condition → ⊥

abbrev pub LoopFormAnswer : LoopAt → (length : Option ℕ) → Option Form → List Step → Store → Type 0
LoopFormAnswer loop None None steps store = Unit {0}
LoopFormAnswer loop None (Some form) steps store = ⊥
LoopFormAnswer loop (Some length) None steps store = NoLoopForm steps loop length
LoopFormAnswer loop (Some length) (Some form) steps store = LoopForm steps store loop length form

abbrev pub BranchesAnswer : BranchesAt → (levels : ℕ) → Option Found → List Step → Store → Type 0
BranchesAnswer at levels None steps store = NoBranches steps at levels
BranchesAnswer at levels (Some found) steps store = (found.levels ≤ levels) × BranchesFound steps store at found

-- ---- what stands in an `if` from a place on

pub record RestFound (steps : List Step) (store : Store) (at : BranchesAt) (place : ℕ) (found : Found) : Type 0 where
  pub arms : ArmPlans
  pub stand : ArmsFrom steps at place arms
  pub held : ArmsHeld steps store found.number arms
  pub levels : found.levels ≡ arm_levels steps arms

abbrev pub NoRest : List Step → BranchesAt → (place levels : ℕ) → Type 0
NoRest steps at place levels = (arms : ArmPlans) → ArmsFrom steps at place arms → levels < arm_levels steps arms

abbrev pub RestAnswer : BranchesAt → (place levels : ℕ) → Option Found → List Step → Store → Type 0
RestAnswer at place levels None steps store = NoRest steps at place levels
RestAnswer at place levels (Some found) steps store = (found.levels ≤ levels) × RestFound steps store at place found

-- what was found, by places, of those behind this one
pub record AreRests (steps : List Step) (store : Store) (at : BranchesAt) (levels place : ℕ) (found : ℕ → Option Found) : Type 0 where
  pub behind : (begin : ℕ) → place < begin → RestAnswer at begin levels (found begin) steps store
  pub before : (begin : ℕ) → begin ≤ place → found begin ≡ None

-- behind an arm that began at a place
pub record BehindFound (steps : List Step) (store : Store) (at : BranchesAt) (place : ℕ) (next : Option ℕ) (found : Found) : Type 0 where
  pub arms : ArmPlans
  pub stand : ArmsBehind steps at place next arms
  pub held : ArmsHeld steps store found.number arms
  pub levels : found.levels ≡ arm_levels steps arms

abbrev pub NoneBehind : List Step → BranchesAt → (place : ℕ) → (next : Option ℕ) → (levels : ℕ) → Type 0
NoneBehind steps at place next levels = (arms : ArmPlans) → ArmsBehind steps at place next arms → levels < arm_levels steps arms

abbrev pub BehindAnswer : BranchesAt → (place : ℕ) → (next : Option ℕ) → (levels : ℕ) → Option Found → List Step → Store → Type 0
BehindAnswer at place next levels None steps store = NoneBehind steps at place next levels
BehindAnswer at place next levels (Some found) steps store = (found.levels ≤ levels) × BehindFound steps store at place next found

-- an arm that stands in a way, with what was found behind it
abbrev pub NoArm : List Step → BranchesAt → (place : ℕ) → Way → (levels : ℕ) → Type 0
NoArm steps at place way levels =
    (condition : Option ConditionTree) (body : Plans) → ArmStands steps at place way condition body → levels < max (tested_levels steps condition) (body_levels steps body)

abbrev pub ArmAnswer : BranchesAt → (place : ℕ) → Way → (levels : ℕ) → Option Found → List Step → Store → Type 0
ArmAnswer at place way levels None steps store = NoArm steps at place way levels
ArmAnswer at place way levels (Some found) steps store = (found.levels ≤ levels) × RestFound steps store at place found

-- an arm that stands in a way, and what stands behind it
abbrev pub NoWay : List Step → BranchesAt → (place levels : ℕ) → Way → Type 0
NoWay steps at place levels way =
    (condition : Option ConditionTree) (body : Plans) (behind : ArmPlans) → ArmStands steps at place way condition body → ArmsBehind steps at place way.next behind → levels < arm_levels steps (ArmPlans.and_arm condition body behind)

abbrev pub WayAnswer : BranchesAt → (place : ℕ) → Way → (levels : ℕ) → Option Found → List Step → Store → Type 0
WayAnswer at place way levels None steps store = NoWay steps at place levels way
WayAnswer at place way levels (Some found) steps store = (found.levels ≤ levels) × RestFound steps store at place found

-- the `else` from a place on
abbrev pub LastAnswer : BranchesAt → (place levels : ℕ) → Option Found → List Step → Store → Type 0
LastAnswer at place levels None steps store = NoBlock steps (block_at steps place at.to at.exit) levels
LastAnswer at place levels (Some found) steps store = (found.levels ≤ levels) × RestFound steps store at place found

-- the condition of an arm
pub record TestFound (steps : List Step) (store : Store) (place : ℕ) (way : Way) (test : ArmTest) : Type 0 where
  pub condition : Option ConditionTree
  pub tested : IsTested steps place way way.tests_end condition
  pub held : ConditionHeld store test.condition condition
  pub levels : test.levels ≡ tested_levels steps condition

abbrev pub NoTest : List Step → (place : ℕ) → Way → (levels : ℕ) → Type 0
NoTest steps place way levels = (condition : Option ConditionTree) → IsTested steps place way way.tests_end condition → levels < tested_levels steps condition

abbrev pub TestAnswer : (place : ℕ) → Way → (levels : ℕ) → Option ArmTest → List Step → Store → Type 0
TestAnswer place way levels None steps store = NoTest steps place way levels
TestAnswer place way levels (Some test) steps store = (test.levels ≤ levels) × TestFound steps store place way test

-- the start of an arm or the `else` at its place, and no other there
pub record IsStartOf (steps : List Step) (at : BranchesAt) (place : ℕ) (ways : List Way) : Type 0 where
  pub within : at.from ≤ place
  pub start : IsStart (arm_starts steps at) place
  pub all : (way : Way) → IsWay (arm_starts steps at) place way → IsAmongWays ways way
  pub each : (way : Way) → IsAmongWays ways way → IsWay (arm_starts steps at) place way

-- ---- an `if`

pub record IfFound (steps : List Step) (store : Store) (at : BranchesAt) (planned : Planned) : Type 0 where
  pub arms : ArmPlans
  pub stand : BranchesStand steps (branches_used steps at) arms
  pub held : PlanHeld steps store planned.plan (PlanTree.if_plan arms)
  pub levels : planned.levels ≡ plan_levels steps (PlanTree.if_plan arms)

abbrev pub NoIf : List Step → BranchesAt → (levels : ℕ) → Type 0
NoIf steps at levels = (arms : ArmPlans) → BranchesStand steps (branches_used steps at) arms → levels < plan_levels steps (PlanTree.if_plan arms)

abbrev pub IfAnswer : BranchesAt → (levels : ℕ) → Option Planned → List Step → Store → Type 0
IfAnswer at levels None steps store = NoIf steps at levels
IfAnswer at levels (Some planned) steps store = (planned.levels ≤ levels) × IfFound steps store at planned

-- one that begins with a piece of a body and goes on to its end
pub record LastIfFound (steps : List Step) (store : Store) (at : BodyAt) (piece : Piece) (planned : Planned) : Type 0 where
  pub begins : begins_branches steps at piece ≡ true
  pub bare : Bool
  pub found : IfFound steps store (last_branches at piece bare) planned

abbrev pub NoLastIf : List Step → BodyAt → Piece → (levels : ℕ) → Type 0
NoLastIf steps at piece levels = begins_branches steps at piece ≡ true → (bare : Bool) → NoIf steps (last_branches at piece bare) levels

abbrev pub LastIfAnswer : BodyAt → Piece → (levels : ℕ) → Option Planned → List Step → Store → Type 0
LastIfAnswer at piece levels None steps store = NoLastIf steps at piece levels
LastIfAnswer at piece levels (Some planned) steps store = (planned.levels ≤ levels) × LastIfFound steps store at piece planned

-- ---- statements so far

-- one for each of the first pieces
abbrev pub SoFar : List Step → Store → BodyAt → (levels : ℕ) → List Piece → List Planned → Type 0
SoFar steps store at levels pieces [] = Unit {0}
SoFar steps store at levels [] (planned ∷ statements) = ⊥
SoFar steps store at levels (piece ∷ pieces) (planned ∷ statements) = (planned.levels ≤ levels) × PlanFound steps store at piece planned × SoFar steps store at levels pieces statements

-- and none for the next one
pub record IsStuck (steps : List Step) (store : Store) (at : BodyAt) (levels : ℕ) (pieces : List Piece) (statements : List Planned) : Type 0 where
  pub piece : Piece
  pub next : slice_get pieces (length statements) ≡ Some piece
  pub none : NoPlan steps at piece levels
  pub sofar : SoFar steps store at levels pieces statements

-- ---- what the functions beside the search give

abbrev pub whole_body : List Step → BodyAt
whole_body steps = record { from = 0; to = length steps; locals_end = length steps; may_capture = true; exit = None }

abbrev pub fitting_plan : Option Planned → (levels : ℕ) → Option Planned
fitting_plan None levels = None
fitting_plan (Some planned) levels = if nat_le planned.levels levels then Some planned else None

abbrev pub if_planned : Found → Planned
if_planned found = record { plan = Plan.If found.number; levels = one_more found.levels }

abbrev pub rest_at : {S : Type 0} → HashMap ℕ Found S → (place : ℕ) → Option Found
rest_at rests place = get (λ first second. first == second) rests place

-- what was found at a place is noted
abbrev pub IsNoted : (place : ℕ) → Option Found → (before after : ℕ → Option Found) → Type 0
IsNoted place None before after = (begin : ℕ) → after begin ≡ before begin
IsNoted place (Some found) before after = (after place ≡ Some found) × ((begin : ℕ) → (place ≡ begin → ⊥) → after begin ≡ before begin)

abbrev pub found_behind : (ℕ → Option Found) → (next : Option ℕ) → (to : ℕ) → Option Found
found_behind found None to = Some (record { number = 0; levels = 0 })
found_behind found (Some place) to = if place == to then Some (record { number = 1; levels = 0 }) else found place

abbrev pub highest_of : List Planned → (sofar : ℕ) → ℕ
highest_of [] sofar = sofar
highest_of (planned ∷ statements) sofar = highest_of statements (max sofar planned.levels)

-- ---- what the memory knows

abbrev pub body_known : Memory → BodyAt → Option Known
body_known memory at = get body_eq.it memory.known_bodies at

abbrev pub branches_known : Memory → BranchesAt → Option Known
branches_known memory at = get branches_eq.it memory.known_branches at

abbrev pub condition_known : Memory → ConditionAt → Option (Option Found)
condition_known memory at = get condition_eq.it memory.known_conditions at

abbrev pub recall_failed_of : (levels : ℕ) → Option ℕ → Recalled
recall_failed_of levels None = Recalled.Unknown
recall_failed_of levels (Some failed) = if nat_le levels failed then Recalled.Failed else Recalled.Unknown

abbrev pub recall_found : (levels : ℕ) → Known → Option Found → Recalled
recall_found levels known None = recall_failed_of levels known.failed
recall_found levels known (Some found) = if nat_le found.levels levels then Recalled.Found found else recall_failed_of levels known.failed

abbrev pub recall_of : (levels : ℕ) → Known → Recalled
recall_of levels known = recall_found levels known known.found

abbrev pub recalled : (levels : ℕ) → Option Known → Recalled
recalled levels None = Recalled.Unknown
recalled levels (Some known) = recall_of levels known

abbrev pub known_with : (levels : ℕ) → Option Found → Known → Known
known_with levels None known = record { failed = Some levels; found = known.found }
known_with levels (Some found) known = record { failed = known.failed; found = Some found }

-- what is known where nothing was looked for
abbrev pub or_nothing : Option Known → Known
or_nothing None = record { failed = None; found = None }
or_nothing (Some known) = known

-- it stays right, and what stands in it stands there still; and this holds of it
pub record Keeping (steps : List Step) (before after : Memory) (answer : List Step → Store → Type 0) : Type 0 where
  pub right : IsRight steps after
  pub grows : Grows (view_store before) (view_store after)
  pub gives : answer steps (view_store after)

-- a number more stands for this
abbrev pub RestKept : (number : ℕ) → Rest → List Step → Store → Type 0
RestKept number rest steps store = slice_get store.rests number ≡ Some rest
