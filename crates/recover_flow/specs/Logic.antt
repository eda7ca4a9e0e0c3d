-- Serves the laws. Conditions as a source has them, by the steps of their tests: where they stand, and that the condition which is found there is no deeper than they may be.
use Rattle.std.specs.Prelude.{◌≡◌, ◌≤◌, ◌⊎◌, ◌&&◌, ◌+◌, ◌*◌, ◌-◌, not, ℕ, suc, max, Bool, true, false, List, length, Some, slice_get, if◌then◌else◌}
use Rattle.std.specs.Bool.{beq}
use Rattle.recover_expr.specs.declared.steps.Step.{Step}
use Rattle.recover_expr.specs.declared.steps.StepKind.{StepKind}
use Rattle.recover_flow.specs.Asked.{kind_at}
use Rattle.recover_flow.specs.Conditions.{ConditionTree, condition_of, condition_levels, test_levels}
use Rattle.recover_flow.specs.Lying.{LiteralLies, TestGoes}

pub data Logic : Type 0 where
  -- a test by the number of its step, as it is written or negated
  test_logic : (step : ℕ) → (negated : Bool) → Logic
  literal_logic : (truth : Bool) → Logic
  not_logic : Logic → Logic
  and_logic or_logic : (left right : Logic) → Logic

-- steps that go to a target where the condition has this truth, and else come to the end (manual 2.5.3)
abbrev pub LogicLies : List Step → Logic → (sense : Bool) → (target from to : ℕ) → Type 0
LogicLies steps (test_logic step negated) sense target from to = (step ≡ from) × (to ≡ suc from) × TestGoes negated sense target (kind_at steps from)
LogicLies steps (literal_logic truth) sense target from to = LiteralLies steps (beq truth sense) from to target
LogicLies steps (not_logic inner) sense target from to = LogicLies steps inner (not sense) target from to
LogicLies steps (and_logic left right) sense target from to =
    (mid : ℕ) × (from ≤ mid) × (mid ≤ to) × LogicLies steps left false (if sense then to else target) from mid × LogicLies steps right sense target mid to
LogicLies steps (or_logic left right) sense target from to =
    (mid : ℕ) × (from ≤ mid) × (mid ≤ to) × LogicLies steps left true (if sense then target else to) from mid × LogicLies steps right sense target mid to

abbrev pub logic_levels : List Step → Logic → ℕ
logic_levels steps (test_logic step negated) = test_levels negated (slice_get steps step)
logic_levels steps (literal_logic truth) = 1
logic_levels steps (not_logic inner) = suc (logic_levels steps inner)
logic_levels steps (and_logic left right) = suc (max (logic_levels steps left) (logic_levels steps right))
logic_levels steps (or_logic left right) = suc (max (logic_levels steps left) (logic_levels steps right))

abbrev pub operators : Logic → ℕ
operators (test_logic step negated) = 0
operators (literal_logic truth) = 0
operators (not_logic inner) = suc (operators inner)
operators (and_logic left right) = suc (operators left + operators right)
operators (or_logic left right) = suc (operators left + operators right)

-- a condition never has this truth, whatever its tests find, as the literals tell with which it ends: `true` never fails, nor does `a or true`
abbrev pub is_never : (sense : Bool) → Logic → Bool
is_never sense (test_logic step negated) = false
is_never sense (literal_logic truth) = not (beq truth sense)
is_never sense (not_logic inner) = is_never (not sense) inner
is_never false (and_logic left right) = is_never false left && is_never false right
is_never true (and_logic left right) = is_never true right
is_never true (or_logic left right) = is_never true left && is_never true right
is_never false (or_logic left right) = is_never false right

-- a test has at most two levels more where it is negated
abbrev pub IsLevelled : (levels : ℕ) → StepKind → Type 0
IsLevelled levels (StepKind.Test when target negated) = (1 ≤ levels) × (levels ≤ negated) × (negated ≤ levels + 2)
IsLevelled levels kind = Unit {0}

abbrev pub AreLevelled : List Step → Type 0
AreLevelled steps = (at : ℕ) (step : Step) → slice_get steps at ≡ Some step → IsLevelled step.levels step.kind

-- a condition is found where one lies that goes to no place inside it, with two levels more for each operator at most
abbrev pub LogicIsFound : Type 0
LogicIsFound =
    (steps : List Step) → AreLevelled steps → (logic : Logic) (from to target : ℕ) → (target ≤ from) ⊎ (to ≤ target) → LogicLies steps logic false target from to → to ≤ length steps → to - from ≤ 100
    → (condition : ConditionTree) × (condition_of steps (record { from = from; to = to; target = target }) ≡ Some condition)
    × (condition_levels steps condition ≤ logic_levels steps logic + 2 * operators logic)
