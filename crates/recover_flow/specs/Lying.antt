-- Serves the laws. Which steps of a function a plan is of: how the code of each statement stands among them, as the scheme has it, with nothing said of how it is found.
use Rattle.std.specs.Prelude.{◌≡◌, ◌⊎◌, ◌<◌, ◌≤◌, ◌||◌, ◌+◌, not, ℕ, suc, Bool, true, false, List, length, slice_get, Option, None, Some, if◌then◌else◌}
use Rattle.std.specs.Bool.{beq}
use Rattle.recover_expr.specs.declared.steps.Step.{Step}
use Rattle.recover_expr.specs.declared.steps.StepKind.{StepKind}
use Rattle.recover_flow.specs.Asked.{closes, kind_at}
use Rattle.recover_flow.specs.Conditions.{ConditionTree, test_condition, true_condition, false_condition, joined_condition, Conditions, no_conditions, and_condition}
use Rattle.recover_flow.specs.Forms.{variables_from}
use Rattle.recover_flow.specs.Plans.{Plans, no_plans, and_plan, PlanTree, step_plan, end_plan, do_plan, for_plan, while_plan, repeat_plan, if_plan, ArmPlans, no_arms, last_arm, and_arm}
use Rattle.recover_flow.specs.Searching.{whole_body}
use Rattle.recover_flow.specs.Standing.{BodyStands}
use Rattle.recover_flow.specs.declared.conditions.Junction.{Junction}
use Rattle.recover_flow.specs.declared.plan.End.{End}
use Rattle.recover_flow.specs.declared.regions.Exit.{Exit}

-- ---- conditions (manual 2.5.3): steps that go to a target where the condition has this truth, and else come to the end

-- a bare jump stands at a place
abbrev pub Jumps : List Step → (place target : ℕ) → Type 0
Jumps steps place target = kind_at steps place ≡ Some (StepKind.Jump target)

abbrev pub TestGoes : (negated : Bool) → (sense : Bool) → (target : ℕ) → Option StepKind → Type 0
TestGoes negated sense target (Some (StepKind.Test when to levels)) = (to ≡ target) × (negated ≡ not (beq when sense))
TestGoes negated sense target kind = ⊥

-- a literal jumps where it has this truth, and is no step where it has the other
abbrev pub LiteralLies : List Step → (jumps : Bool) → (from to target : ℕ) → Type 0
LiteralLies steps true from to target = Jumps steps from target × (to ≡ suc from)
LiteralLies steps false from to target = to ≡ from

-- the truth with which a part decides the whole
abbrev pub decides : Junction → Bool
decides Junction.And = false
decides Junction.Or = true

-- where the whole goes to the target with the other truth, a part that decides it goes to the end
abbrev pub decided_to : Junction → (sense : Bool) → (to target : ℕ) → ℕ
decided_to junction sense to target = if beq (decides junction) sense then target else to

abbrev mutual
  pub ConditionLies : List Step → ConditionTree → (sense : Bool) → (target from to : ℕ) → Type 0
  ConditionLies steps (test_condition step negated) sense target from to = (step ≡ from) × (to ≡ suc from) × TestGoes negated sense target (kind_at steps from)
  ConditionLies steps true_condition sense target from to = LiteralLies steps sense from to target
  ConditionLies steps false_condition sense target from to = LiteralLies steps (not sense) from to target
  ConditionLies steps (joined_condition junction parts) sense target from to = PartsLie steps junction (decided_to junction sense to target) parts sense target from to

  -- each part but the last goes to a place of its own
  pub PartsLie : List Step → Junction → (early : ℕ) → Conditions → (sense : Bool) → (target from to : ℕ) → Type 0
  PartsLie steps junction early no_conditions sense target from to = ⊥
  PartsLie steps junction early (and_condition last no_conditions) sense target from to = ConditionLies steps last sense target from to
  PartsLie steps junction early (and_condition first (and_condition next rest)) sense target from to =
      (mid : ℕ) × (from ≤ mid) × (mid ≤ to) × ConditionLies steps first (decides junction) early from mid × PartsLie steps junction early (and_condition next rest) sense target mid to

-- no condition is `true`, whose jump where it is false is no step
abbrev pub TestLies : List Step → Option ConditionTree → (target from to : ℕ) → Type 0
TestLies steps None target from to = to ≡ from
TestLies steps (Some condition) target from to = ConditionLies steps condition false target from to

-- ---- statements of one step, and breaks

-- an act, or a declaration of locals that end there
abbrev pub IsOwn : (ends : ℕ) → StepKind → Type 0
IsOwn ends StepKind.Act = Unit {0}
IsOwn ends (StepKind.Declaration end captured) = end ≡ ends
IsOwn ends kind = ⊥

abbrev pub StepLies : List Step → (ends : ℕ) → (from to : ℕ) → Type 0
StepLies steps ends from to = (kind : StepKind) × (kind_at steps from ≡ Some kind) × IsOwn ends kind × (to ≡ suc from)

-- a jump to the exit, behind a CLOSE where locals of the loop are captured
abbrev pub LeavesTo : List Step → Option Exit → (from to : ℕ) → Type 0
LeavesTo steps None from to = ⊥
LeavesTo steps (Some exit) from to =
    (step : Step) × (slice_get steps from ≡ Some step)
    × (((step.captured ≤ exit.locals) × Jumps steps from exit.place × (to ≡ suc from))
    ⊎ ((exit.locals < step.captured) × (closes steps from exit.locals ≡ true) × Jumps steps (suc from) exit.place × (to ≡ suc (suc from))))

abbrev pub EndLies : List Step → Option Exit → End → (from to : ℕ) → Type 0
EndLies steps exit (End.Return step) from to = (step ≡ from) × (kind_at steps from ≡ Some StepKind.Return) × (to ≡ suc from)
EndLies steps exit End.Break from to = LeavesTo steps exit from to

-- ---- locals of a block that are captured

abbrev pub is_captured_at : Option StepKind → Bool
is_captured_at (Some (StepKind.Declaration end captured)) = captured
is_captured_at kind = false

-- one of a block's own
abbrev pub captures_own : List Step → Plans → Bool
captures_own steps no_plans = false
captures_own steps (and_plan (step_plan step) rest) = is_captured_at (kind_at steps step) || captures_own steps rest
captures_own steps (and_plan plan rest) = captures_own steps rest

-- a CLOSE of the locals from the register on that is free before a step
abbrev pub ClosesFrom : List Step → (place before : ℕ) → Type 0
ClosesFrom steps place before = (step : Step) × (slice_get steps before ≡ Some step) × (closes steps place step.base ≡ true)

-- it closes the locals that are active from where the block begins, or from where it ends: they are the same
abbrev pub ClosesBlock : List Step → (from end : ℕ) → Type 0
ClosesBlock steps from end = ClosesFrom steps end from ⊎ ClosesFrom steps end end

-- where the variables of a `for` end: before its foot, and before a CLOSE where one is captured
abbrev pub VariablesEnd : List Step → (head : Step) → (captured : Bool) → (end foot : ℕ) → Type 0
VariablesEnd steps head true end foot = (closes steps end (variables_from head) ≡ true) × (foot ≡ suc end)
VariablesEnd steps head false end foot = foot ≡ end

-- ---- plans

-- a loop's exit: the place behind it, and the number of locals before it
abbrev pub exit_to : (to : ℕ) → Step → Option Exit
exit_to to step = Some (record { place = to; locals = step.base })

-- a block, with a CLOSE of its own locals where one is captured; where its own locals end, and how far its statements go, is asked of these
abbrev pub IsBlock : List Step → (captured : Bool) → (lies : (ends end : ℕ) → Type 0) → (from to : ℕ) → Type 0
IsBlock steps captured lies from to =
    ((captured ≡ false) × lies to to) ⊎ ((end : ℕ) × (to ≡ suc end) × (from ≤ end) × (captured ≡ true) × ClosesBlock steps from end × lies end end)

-- the locals of a `repeat` are closed where its condition holds, before the jump out of it, and again before the jump back
abbrev pub ClosesTwice : List Step → (first : Step) → (from tested to : ℕ) → Type 0
ClosesTwice steps first from tested to =
    (closes steps tested first.base ≡ true) × Jumps steps (tested + 1) to × (closes steps (tested + 2) first.base ≡ true) × Jumps steps (tested + 3) from × (to ≡ tested + 4)

-- the head of a `for`, its block up to the end of its variables, and its foot
abbrev pub IsFor : List Step → (numeric : Bool) → (block : Step → (from to : ℕ) → Type 0) → (from to : ℕ) → Type 0
IsFor steps numeric block from to =
    (head : Step) × (foot : ℕ) × (variables_end : ℕ) × (captured : Bool)
    × (slice_get steps from ≡ Some head) × (head.kind ≡ StepKind.Head numeric foot to variables_end captured)
    × (from < variables_end) × block head (suc from) variables_end
    × VariablesEnd steps head captured variables_end foot × (kind_at steps foot ≡ Some (StepKind.Foot numeric (suc from))) × (to ≡ suc foot)

abbrev mutual
  -- statements whose block's own locals end at a place
  pub BodyLies : List Step → Option Exit → (ends : ℕ) → Plans → (from to : ℕ) → Type 0
  BodyLies steps exit ends no_plans from to = to ≡ from
  BodyLies steps exit ends (and_plan plan rest) from to = (mid : ℕ) × (from < mid) × (mid ≤ to) × PlanLies steps exit ends plan from mid × BodyLies steps exit ends rest mid to

  pub PlanLies : List Step → Option Exit → (ends : ℕ) → PlanTree → (from to : ℕ) → Type 0
  PlanLies steps exit ends (step_plan step) from to = (step ≡ from) × StepLies steps ends from to
  PlanLies steps exit ends (end_plan end enclosed) from to = EndLies steps exit end from to
  PlanLies steps exit ends (do_plan step body) from to =
      (step ≡ from) × IsBlock steps (captures_own steps (and_plan (step_plan step) body)) (λ ends end. StepLies steps ends from (suc from) × (suc from ≤ end) × BodyLies steps exit ends body (suc from) end) from to
  PlanLies steps exit ends (for_plan step numeric body) from to =
      (step ≡ from) × IsFor steps numeric (λ head begin variables_end. IsBlock steps (captures_own steps body) (λ ends end. BodyLies steps (exit_to to head) ends body begin end) begin variables_end) from to
  PlanLies steps exit ends (while_plan condition body) from to =
      (first : Step) × (start : ℕ) × (back : ℕ) × (slice_get steps from ≡ Some first) × (from ≤ start) × (start ≤ back)
      × ConditionLies steps condition false to from start × IsBlock steps (captures_own steps body) (λ ends end. BodyLies steps (exit_to to first) ends body start end) start back
      × Jumps steps back from × (to ≡ suc back)
  PlanLies steps exit ends (repeat_plan body condition) from to =
      (first : Step) × (start : ℕ) × (slice_get steps from ≡ Some first) × (from ≤ start)
      × (((start ≤ to) × (captures_own steps body ≡ false) × BodyLies steps (exit_to to first) to body from start × TestLies steps condition from start to)
      ⊎ ((tested : ℕ) × (start ≤ tested) × (captures_own steps body ≡ true)
      × BodyLies steps (exit_to to first) (tested + 2) body from start × TestLies steps condition (tested + 2) start tested × ClosesTwice steps first from tested to))
  PlanLies steps exit ends (if_plan arms) from to = ArmsLie steps exit arms from to

  -- the arms of an `if` that ends at a place; where something stands behind an arm, it jumps to the end
  pub ArmsLie : List Step → Option Exit → ArmPlans → (from to : ℕ) → Type 0
  ArmsLie steps exit no_arms from to = to ≡ from
  ArmsLie steps exit (last_arm body) from to = (from ≤ to) × IsBlock steps (captures_own steps body) (λ ends end. BodyLies steps exit ends body from end) from to
  ArmsLie steps exit (and_arm condition body no_arms) from to =
      (start : ℕ) × (from ≤ start) × (start ≤ to) × TestLies steps condition to from start × IsBlock steps (captures_own steps body) (λ ends end. BodyLies steps exit ends body start end) start to
  ArmsLie steps exit (and_arm condition body rest) from to =
      (start : ℕ) × (last : ℕ) × (from ≤ start) × (start ≤ last) × (suc last ≤ to) × TestLies steps condition (suc last) from start
      × IsBlock steps (captures_own steps body) (λ ends end. BodyLies steps exit ends body start end) start last × Jumps steps last to × ArmsLie steps exit rest (suc last) to

abbrev pub BlockLies : List Step → Option Exit → Plans → (from to : ℕ) → Type 0
BlockLies steps exit body from to = IsBlock steps (captures_own steps body) (λ ends end. BodyLies steps exit ends body from end) from to

-- ---- the law

-- locals end behind the step that declares them
abbrev pub EndsBehind : (place : ℕ) → Option StepKind → Type 0
EndsBehind place (Some (StepKind.Declaration end captured)) = place < end
EndsBehind place kind = Unit {0}

abbrev pub AreOrdered : List Step → Type 0
AreOrdered steps = (place : ℕ) → EndsBehind place (kind_at steps place)

-- what stands as the body of a function lies on all its steps
abbrev pub WhatStandsLies : Type 0
WhatStandsLies = (steps : List Step) → AreOrdered steps → (plans : Plans) → BodyStands steps (whole_body steps) plans → BodyLies steps None (length steps) plans 0 (length steps)
