-- Serves a body. Which plans stand where, among the steps of a function. What the search finds stands; and where it finds none of so many levels, none stands that has no more.
use Rattle.std.specs.Prelude.{◌≡◌, ◌<◌, ◌⊎◌, ℕ, Bool, true, List, [], ◌∷◌, Option, None, Some, unwrap_or}
use Rattle.recover_expr.specs.declared.steps.Step.{Step}
use Rattle.recover_flow.specs.Arms.{Starting, arm_starts}
use Rattle.recover_flow.specs.Asked.{used, last_back, length_at, block_at, begins_branches}
use Rattle.recover_flow.specs.Conditions.{ConditionTree, condition_of}
use Rattle.recover_flow.specs.Cutting.{pieces_of}
use Rattle.recover_flow.specs.Forms.{choice_at, scope_form, once_form, counted_form}
use Rattle.recover_flow.specs.Loops.{closed_loop_at, while_loop_at, open_loop_at, loop_lengths, loop_parts}
use Rattle.recover_flow.specs.Plans.{Plans, no_plans, and_plan, PlanTree, step_plan, end_plan, do_plan, for_plan, while_plan, repeat_plan, if_plan, ArmPlans, no_arms, last_arm, and_arm, plan_levels}
use Rattle.recover_flow.specs.declared.branches.Way.{Way}
use Rattle.recover_flow.specs.declared.forms.Choice.{Choice}
use Rattle.recover_flow.specs.declared.forms.Form.{Form}
use Rattle.recover_flow.specs.declared.forms.Shape.{Shape}
use Rattle.recover_flow.specs.declared.loops.LoopAt.{LoopAt}
use Rattle.recover_flow.specs.declared.loops.LoopParts.{LoopParts}
use Rattle.recover_flow.specs.declared.plan.End.{End}
use Rattle.recover_flow.specs.declared.plan.Plan.{Plan}
use Rattle.recover_flow.specs.declared.regions.BlockAt.{BlockAt}
use Rattle.recover_flow.specs.declared.regions.BodyAt.{BodyAt}
use Rattle.recover_flow.specs.declared.regions.BranchesAt.{BranchesAt}
use Rattle.recover_flow.specs.declared.regions.ConditionAt.{ConditionAt}
use Rattle.recover_flow.specs.declared.regions.Exit.{Exit}
use Rattle.recover_flow.specs.declared.regions.Piece.{Piece}

-- an exit counts only where a jump goes there
abbrev pub with_used : List Step → BodyAt → BodyAt
with_used steps at = record at { exit = used steps at.exit at.from at.to }

abbrev pub branches_used : List Step → BranchesAt → BranchesAt
branches_used steps at = record at { exit = used steps at.exit at.from at.to }

-- the `if` of a piece, and the one from a piece on to the end of a body
abbrev pub piece_branches : BodyAt → Piece → (bare : Bool) → BranchesAt
piece_branches at piece bare = record { from = piece.from; to = piece.to; exit = at.exit; bare = bare }

abbrev pub last_branches : BodyAt → Piece → (bare : Bool) → BranchesAt
last_branches at piece bare = record { from = piece.from; to = at.to; exit = at.exit; bare = bare }

-- a statement by itself
abbrev pub IsSettled : List Step → BodyAt → Piece → PlanTree → Plan → Type 0
IsSettled steps at piece tree plan = choice_at steps at piece ≡ Choice.Settled (Some (record { plan = plan; levels = plan_levels steps tree }))

-- ---- places of an `if`

-- an arm or the `else` may begin there
abbrev pub IsStart : List Starting → (place : ℕ) → Type 0
IsStart [] place = ⊥
IsStart (start ∷ starts) place = (start.place ≡ place) ⊎ IsStart starts place

abbrev pub IsAmongWays : List Way → Way → Type 0
IsAmongWays [] way = ⊥
IsAmongWays (first ∷ ways) way = (first ≡ way) ⊎ IsAmongWays ways way

-- an arm may begin there in this way
abbrev pub IsWay : List Starting → (place : ℕ) → Way → Type 0
IsWay [] place way = ⊥
IsWay (start ∷ starts) place way = ((start.place ≡ place) × IsAmongWays start.ways way) ⊎ IsWay starts place way

-- where the condition of an arm stands
abbrev pub way_condition : (place : ℕ) → Way → (tests_end : ℕ) → ConditionAt
way_condition place way tests_end = record { from = place; to = tests_end; target = unwrap_or way.next way.block_end }

-- the condition of an arm
abbrev pub IsTested : List Step → (place : ℕ) → Way → (tests_end : Option ℕ) → Option ConditionTree → Type 0
IsTested steps place way None condition = condition ≡ None
IsTested steps place way (Some tests_end) None = ⊥
IsTested steps place way (Some tests_end) (Some condition) = condition_of steps (way_condition place way tests_end) ≡ Some condition

-- ---- loops

-- so long a condition, and the block
pub record HasParts (steps : List Step) (at : LoopAt) (condition : ConditionTree) (parts : LoopParts) : Type 0 where
  pub turn : ℕ
  pub length : ℕ
  pub turned : length_at (loop_lengths steps at) turn ≡ Some length
  pub parted : loop_parts steps at length ≡ Some parts
  pub tested : condition_of steps parts.condition ≡ Some condition

-- ---- plans

-- a block, before its CLOSE or whole, where this says which bodies stand
abbrev pub InBlock : (BodyAt → Type 0) → List Step → BlockAt → Type 0
InBlock stands steps block = ((at : BodyAt) × (block.closed ≡ Some at) × stands (with_used steps at)) ⊎ stands (with_used steps block.whole)

-- the block of an arm that begins at a place
abbrev pub way_block : List Step → BranchesAt → (place : ℕ) → Way → BlockAt
way_block steps at place way = block_at steps (unwrap_or way.tests_end place) way.block_end at.exit

abbrev mutual
  -- a body, whose exit counts
  pub BodyStands : List Step → BodyAt → Plans → Type 0
  BodyStands steps at no_plans = at.from ≡ at.to
  BodyStands steps at (and_plan plan rest) =
      (at.from ≡ at.to → ⊥) × ((piece : Piece) × (pieces : List Piece) × (pieces_of steps at ≡ Some (piece ∷ pieces))
      × ((PlanStands steps at piece plan × RestStands steps at pieces rest) ⊎ EndsInBranches steps at piece plan rest))

  -- statements in these pieces, of which the last may be an `if` up to the end of the body
  pub RestStands : List Step → BodyAt → List Piece → Plans → Type 0
  RestStands steps at [] no_plans = Unit {0}
  RestStands steps at [] (and_plan plan rest) = ⊥
  RestStands steps at (piece ∷ pieces) no_plans = ⊥
  RestStands steps at (piece ∷ pieces) (and_plan plan rest) = (PlanStands steps at piece plan × RestStands steps at pieces rest) ⊎ EndsInBranches steps at piece plan rest

  -- the last statement of a body is an `if` that begins with a piece
  pub EndsInBranches : List Step → BodyAt → Piece → PlanTree → Plans → Type 0
  EndsInBranches steps at piece (if_plan arms) no_plans =
      (begins_branches steps at piece ≡ true) × ((bare : Bool) × BranchesStand steps (branches_used steps (last_branches at piece bare)) arms)
  EndsInBranches steps at piece plan rest = ⊥

  -- a statement that is a piece
  pub PlanStands : List Step → BodyAt → Piece → PlanTree → Type 0
  PlanStands steps at piece (step_plan step) = IsSettled steps at piece (step_plan step) (Plan.Step step)
  PlanStands steps at piece (end_plan end enclosed) = IsSettled steps at piece (end_plan end enclosed) (Plan.End end enclosed)
  PlanStands steps at piece (do_plan step body) =
      (choice_at steps at piece ≡ Choice.Locals) × ((form : Form) × (scope_form steps at.exit piece ≡ Some form) × (form.shape ≡ Shape.Do step) × InBlock (λ inner. BodyStands steps inner body) steps form.inner)
  PlanStands steps at piece (for_plan step numeric body) =
      (choice_at steps at piece ≡ Choice.For) × ((form : Form) × (counted_form steps piece ≡ Some form) × (form.shape ≡ Shape.For step numeric) × InBlock (λ inner. BodyStands steps inner body) steps form.inner)
  PlanStands steps at piece (while_plan condition body) =
      (last : ℕ) × (loop : LoopAt) × (parts : LoopParts) × (choice_at steps at piece ≡ Choice.Loop last) × (while_loop_at steps piece last ≡ Some loop)
      × HasParts steps loop condition parts × InBlock (λ inner. BodyStands steps inner body) steps parts.inner
  PlanStands steps at piece (repeat_plan body None) =
      ((choice_at steps at piece ≡ Choice.Locals) ⊎ (choice_at steps at piece ≡ Choice.Jumps))
      × ((form : Form) × (once_form steps at.exit piece ≡ Some form) × InBlock (λ inner. BodyStands steps inner body) steps form.inner)
  PlanStands steps at piece (repeat_plan body (Some condition)) =
      (last : ℕ) × (loop : LoopAt) × (parts : LoopParts) × (choice_at steps at piece ≡ Choice.Loop last)
      × ((closed_loop_at steps piece last ≡ Some loop) ⊎ (open_loop_at steps piece last ≡ Some loop)) × HasParts steps loop condition parts × InBlock (λ inner. BodyStands steps inner body) steps parts.inner
  PlanStands steps at piece (if_plan arms) = (choice_at steps at piece ≡ Choice.Jumps) × ((bare : Bool) × BranchesStand steps (branches_used steps (piece_branches at piece bare)) arms)

  -- an `if`, which begins with an arm, and whose exit counts
  pub BranchesStand : List Step → BranchesAt → ArmPlans → Type 0
  BranchesStand steps at no_arms = ⊥
  BranchesStand steps at (last_arm body) = ⊥
  BranchesStand steps at (and_arm condition body rest) =
      (way : Way) × IsWay (arm_starts steps at) at.from way × IsTested steps at.from way way.tests_end condition
      × InBlock (λ inner. BodyStands steps inner body) steps (way_block steps at at.from way) × ArmsBehind steps at at.from way.next rest

  -- behind an arm that began at a place: what begins at the next place, which is further on
  pub ArmsBehind : List Step → BranchesAt → (place : ℕ) → (next : Option ℕ) → ArmPlans → Type 0
  ArmsBehind steps at place next no_arms = next ≡ None
  ArmsBehind steps at place next (last_arm body) =
      (begin : ℕ) × (next ≡ Some begin) × (((begin ≡ at.to) × (body ≡ no_plans))
      ⊎ ((begin ≡ at.to → ⊥) × (place < begin) × IsStart (arm_starts steps at) begin
      × InBlock (λ inner. BodyStands steps inner body) steps (block_at steps begin at.to at.exit)))
  ArmsBehind steps at place next (and_arm condition body rest) =
      (begin : ℕ) × (way : Way) × (next ≡ Some begin) × (begin ≡ at.to → ⊥) × (place < begin) × IsWay (arm_starts steps at) begin way
      × IsTested steps begin way way.tests_end condition × InBlock (λ inner. BodyStands steps inner body) steps (way_block steps at begin way) × ArmsBehind steps at begin way.next rest

abbrev pub BlockStands : List Step → BlockAt → Plans → Type 0
BlockStands steps block plans = InBlock (λ at. BodyStands steps at plans) steps block

-- an arm that begins at a place, in a way
abbrev pub ArmStands : List Step → BranchesAt → (place : ℕ) → Way → Option ConditionTree → Plans → Type 0
ArmStands steps at place way condition body = IsTested steps place way way.tests_end condition × BlockStands steps (way_block steps at place way) body

-- what stands in an `if` from a place on
abbrev pub ArmsFrom : List Step → BranchesAt → (place : ℕ) → ArmPlans → Type 0
ArmsFrom steps at place no_arms = ⊥
ArmsFrom steps at place (last_arm body) = (place ≡ at.from → ⊥) × IsStart (arm_starts steps at) place × BlockStands steps (block_at steps place at.to at.exit) body
ArmsFrom steps at place (and_arm condition body rest) =
    (way : Way) × IsWay (arm_starts steps at) place way × IsTested steps place way way.tests_end condition × BlockStands steps (way_block steps at place way) body × ArmsBehind steps at place way.next rest
