-- What lies where no loop is around lies there too with a loop around: an exit that no jump uses may be added.
use Rattle.std.proofs.Common.{◌≤◌, inl, inr, ℕ, suc, Bool, true, false, List, Option, None, Some}
use Rattle.std.specs.Prelude.{if◌then◌else◌}
use Rattle.recover_expr.specs.declared.steps.Step.{Step}
use Rattle.recover_flow.specs.Asked.{is_reached, used}
use Rattle.recover_flow.specs.Conditions.{ConditionTree}
use Rattle.recover_flow.specs.Lying.{ArmsLie, BlockLies, BodyLies, IsBlock, PlanLies, StepLies, captures_own}
use Rattle.recover_flow.specs.Plans.{Plans, no_plans, and_plan, PlanTree, step_plan, end_plan, do_plan, for_plan, while_plan, repeat_plan, if_plan, ArmPlans, no_arms, last_arm, and_arm}
use Rattle.recover_flow.specs.declared.plan.End.{End}
use Rattle.recover_flow.specs.declared.regions.Exit.{Exit}

-- ---- an exit may be added

-- a block keeps what its statements keep
block_kept : (steps : List Step) (captured : Bool) (lies more : ℕ → ℕ → Type 0) (from to : ℕ) → ((ends end : ℕ) → lies ends end → more ends end) → IsBlock steps captured lies from to → IsBlock steps captured more from to
block_kept steps captured lies more from to each (inl (none, whole)) = inl (none, each to to whole)
block_kept steps captured lies more from to each (inr (end, is, low, some, closing, before)) = inr (end, is, low, some, closing, each end end before)

-- the block of a `do`: a declaration, and the rest
abbrev pub DoInside : List Step → Option Exit → Plans → (from ends end : ℕ) → Type 0
DoInside steps exit body from ends end = StepLies steps ends from (suc from) × (suc from ≤ end) × BodyLies steps exit ends body (suc from) end

-- statements keep their places with an exit
abbrev KeepsBody : List Step → Option Exit → Plans → Type 0
KeepsBody steps exit plans = (ends from to : ℕ) → BodyLies steps None ends plans from to → BodyLies steps exit ends plans from to

body_block_kept : (steps : List Step) (exit : Option Exit) (body : Plans) (from to : ℕ) → KeepsBody steps exit body → BlockLies steps None body from to → BlockLies steps exit body from to
body_block_kept steps exit body from to each block =
    block_kept steps (captures_own steps body) (λ ends end. BodyLies steps None ends body from end) (λ ends end. BodyLies steps exit ends body from end) from to (λ ends end lies. each ends from end lies) block

arm_kept : (steps : List Step) (exit : Option Exit) (condition : Option ConditionTree) (body : Plans) (rest : ArmPlans) (from to : ℕ) → KeepsBody steps exit body
    → ((from to : ℕ) → ArmsLie steps None rest from to → ArmsLie steps exit rest from to)
    → ArmsLie steps None (and_arm condition body rest) from to → ArmsLie steps exit (and_arm condition body rest) from to
arm_kept steps exit condition body no_arms from to each behind (start, low, high, tests, block) = (start, low, high, tests, body_block_kept steps exit body start to each block)
arm_kept steps exit condition body (last_arm other) from to each behind (start, last, low, high, ends, tests, block, jumps, others) =
    (start, last, low, high, ends, tests, body_block_kept steps exit body start last each block, jumps, behind (suc last) to others)
arm_kept steps exit condition body (and_arm next other rest) from to each behind (start, last, low, high, ends, tests, block, jumps, others) =
    (start, last, low, high, ends, tests, body_block_kept steps exit body start last each block, jumps, behind (suc last) to others)

mutual
  pub body_exits : (steps : List Step) (exit : Option Exit) (plans : Plans) (ends from to : ℕ) → BodyLies steps None ends plans from to → BodyLies steps exit ends plans from to
  body_exits steps exit no_plans ends from to lies = lies
  body_exits steps exit (and_plan plan rest) ends from to (mid, begins, goes, first, others) = (mid, begins, goes, plan_exits steps exit plan ends from mid first, body_exits steps exit rest ends mid to others)

  plan_exits : (steps : List Step) (exit : Option Exit) (plan : PlanTree) (ends from to : ℕ) → PlanLies steps None ends plan from to → PlanLies steps exit ends plan from to
  plan_exits steps exit (step_plan step) ends from to lies = lies
  plan_exits steps exit (end_plan (End.Return step) enclosed) ends from to lies = lies
  plan_exits steps exit (end_plan End.Break enclosed) ends from to lies = absurd lies
  plan_exits steps exit (do_plan step body) ends from to (here, block) = (
    here,
    block_kept steps (captures_own steps (and_plan (step_plan step) body)) (DoInside steps None body from) (DoInside steps exit body from) from to
        (λ ends end lies. (lies.0, lies.1, body_exits steps exit body ends (suc from) end lies.2)) block,
  )
  plan_exits steps exit (for_plan step numeric body) ends from to lies = lies
  plan_exits steps exit (while_plan condition body) ends from to lies = lies
  plan_exits steps exit (repeat_plan body condition) ends from to lies = lies
  plan_exits steps exit (if_plan arms) ends from to lies = arms_exit steps exit arms from to lies

  pub arms_exit : (steps : List Step) (exit : Option Exit) (arms : ArmPlans) (from to : ℕ) → ArmsLie steps None arms from to → ArmsLie steps exit arms from to
  arms_exit steps exit no_arms from to lies = lies
  arms_exit steps exit (last_arm body) from to (low, block) = (low, body_block_kept steps exit body from to (body_exits steps exit body) block)
  arms_exit steps exit (and_arm condition body rest) from to lies =
      arm_kept steps exit condition body rest from to (body_exits steps exit body) (arms_exit steps exit rest) lies

-- an exit which a jump uses, or none, is the exit
pub used_kept : (steps : List Step) (exit : Option Exit) (low high : ℕ) (lies : Option Exit → Type 0) → (lies None → lies exit) → lies (used steps exit low high) → lies exit
used_kept steps None low high lies more here = here
used_kept steps (Some exit) low high lies more here = by (is_reached steps exit.place low high) here
  where
    by : (b : Bool) → lies (if b then Some exit else None) → lies (Some exit)
    by true here = here
    by false here = more here
