-- Serves the laws. What the drafts of steps are placed as: steps like those on which the statements of a function stand.
use Rattle.std.specs.Prelude.{◌≡◌, ◌<◌, ◌≤◌, ◌+◌, ◌^◌, ℕ, zero, suc, List, length, map, slice_get, Option, None, Some, option_map}
use Rattle.lua_num.specs.Bytes.{Text}
use Rattle.recover_expr.specs.Drafts.{Drafted}
use Rattle.recover_expr.specs.Locals.{Scope}
use Rattle.recover_expr.specs.Placing.{Steps, placed}
use Rattle.recover_expr.specs.Situation.{Function}
use Rattle.recover_expr.specs.declared.draft.DraftKind.{DraftKind}
use Rattle.recover_expr.specs.declared.locals.Declared.{Declared}
use Rattle.recover_expr.specs.declared.steps.Step.{Step}
use Rattle.recover_expr.specs.declared.steps.StepKind.{StepKind}
use Rattle.scheme.specs.Making.{Ahead, active_count}
use Rattle.scheme.specs.declared.making.Active.{Active}
use Rattle.same_flow.specs.Alike.{AreStepsLike}
use Rattle.same_flow.specs.Listed.{before_place, entries_from, entries_where, pc_of_step}
use Rattle.same_flow.specs.Performed.{kind_at, part_at, performed_to}
use Rattle.same_flow.specs.Told.{at_beginning}

-- the entry of the local before one, where there is one
abbrev pub outer_of : List Active → (register : ℕ) → Option ℕ
outer_of active zero = None
outer_of active (suc register) = option_map (λ (one : Active). one.listed) (slice_get active register)

-- the entry of the innermost active local
abbrev pub innermost_of : List Active → Option ℕ
innermost_of active = outer_of active (length active)

-- how many locals are listed before a step
abbrev pub listed_before : Steps → (params names : List Text) → Ahead → (at : ℕ) → ℕ
listed_before code params names ahead at = length params + length (entries_from code (pc_of_step code params names ahead) 0 at)

-- and how many a step declares
abbrev pub listed_by_step : Steps → (params names : List Text) → Ahead → (at : ℕ) → ℕ
listed_by_step code params names ahead at = length (entries_where (pc_of_step code params names ahead) at (kind_at code.steps at) (part_at code at))

-- the draft of a step of this kind, where so many locals are listed before it and so many are declared; a CLOSE names the step that declares its first local
abbrev pub IsDraftKind : (pcs : ℕ → ℕ) → (first count : ℕ) → StepKind → DraftKind → Type 0
IsDraftKind pcs first count StepKind.Act kind = kind ≡ DraftKind.Act
IsDraftKind pcs first count StepKind.Return kind = kind ≡ DraftKind.Return
IsDraftKind pcs first count (StepKind.Declaration end captured) kind = (kind ≡ DraftKind.Declaration first count) × (0 < count)
IsDraftKind pcs first count (StepKind.Test when target negated) kind = (levels : ℕ) × (kind ≡ DraftKind.Test when (pcs target) levels)
IsDraftKind pcs first count (StepKind.Jump target) kind = kind ≡ DraftKind.Jump (pcs target)
IsDraftKind pcs first count (StepKind.Close from declared) kind = kind ≡ DraftKind.Close from declared
IsDraftKind pcs first count (StepKind.Head numeric foot end variables_end captured) kind = (variables : ℕ) × (kind ≡ DraftKind.Head numeric (pcs foot) first variables) × (count ≡ 3 + variables) × (0 < variables)
IsDraftKind pcs first count (StepKind.Foot numeric target) kind = kind ≡ DraftKind.Foot numeric (pcs target)

pub record IsDraftAt (code : Steps) (params names : List Text) (ahead : Ahead) (at : ℕ) (draft : Drafted) : Type 0 where
  pub step : Step
  pub there : slice_get code.steps at ≡ Some step
  pub kind : IsDraftKind (pc_of_step code params names ahead) (listed_before code params names ahead at) (listed_by_step code params names ahead at) step.kind draft.kind
  pub pc : draft.pc ≡ pc_of_step code params names ahead at
  pub base : draft.base ≡ active_count (before_place code params names ahead at).maker
  pub innermost : draft.innermost ≡ innermost_of (before_place code params names ahead at).maker.active

-- what the reader knows in the end of the local that is active in a register
pub record IsDeclared (declared : List Declared) (active : List Active) (register : ℕ) (one : Active) : Type 0 where
  pub is : Declared
  pub there : slice_get declared one.listed ≡ Some is
  pub in_register : is.register ≡ register
  pub outer : is.outer ≡ outer_of active register
  pub captured : is.captured ≡ one.local.captured

-- the locals that are active behind so many steps, before those that end there have ended: a local that ends right behind the step that declares it is active nowhere else
abbrev pub active_behind : Steps → (params names : List Text) → Ahead → (at : ℕ) → List Active
active_behind code params names ahead at = (performed_to code (at_beginning code params names ahead) at).maker.active

abbrev pub AreDeclared : Steps → (params names : List Text) → Ahead → List Declared → Type 0
AreDeclared code params names ahead declared =
    (at register : ℕ) (one : Active) → at ≤ length code.steps → slice_get (active_behind code params names ahead at) register ≡ Some one → IsDeclared declared (active_behind code params names ahead at) register one

-- each register of a local has a number that 32 bits count
abbrev pub HaveRegisters : Steps → (params names : List Text) → Ahead → Type 0
HaveRegisters code params names ahead = (at : ℕ) → at < length code.steps → active_count (before_place code params names ahead at).maker < 2 ^ 32

-- each step has a word
abbrev pub HaveWords : Steps → (params names : List Text) → Ahead → Type 0
HaveWords code params names ahead = (at : ℕ) → at < length code.steps → pc_of_step code params names ahead at < pc_of_step code params names ahead (suc at)

-- the drafts of all steps, in a function with these locals, are placed as steps that are like those of the function, with the drafts' levels and parts
pub record ArePlacedLike (code : Steps) (params : List Text) (f : Function) (scope : Scope) (drafts : List Drafted) : Type 0 where
  pub steps : List Step
  pub is : placed f scope params drafts ≡ Some (record { params = params; steps = steps; parts = map (λ (draft : Drafted). draft.part) drafts })
  pub like : AreStepsLike code.steps steps
  pub levels : map (λ (step : Step). step.levels) steps ≡ map (λ (draft : Drafted). draft.levels) drafts

-- ---- the levels of steps

-- the step that is placed of a test has the levels of the draft for where it is negated
abbrev pub HasNegated : DraftKind → StepKind → Type 0
HasNegated (DraftKind.Test when pc levels) (StepKind.Test sense target negated) = negated ≡ levels
HasNegated draft kind = Unit {0}

-- a step has a level at least, and a test where it is negated no fewer, and two more at most
abbrev pub IsLevelled : (levels : ℕ) → StepKind → Type 0
IsLevelled levels (StepKind.Test when target negated) = (1 ≤ levels) × (levels ≤ negated) × (negated ≤ levels + 2)
IsLevelled levels kind = 1 ≤ levels

abbrev pub AreLevelled : Steps → Type 0
AreLevelled code = (at : ℕ) (step : Step) → slice_get code.steps at ≡ Some step → IsLevelled step.levels step.kind
