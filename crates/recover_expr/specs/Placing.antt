-- Serves a body. From pcs to numbers of steps.
use Rattle.std.specs.Prelude.{◌&&◌, ◌+◌, ℕ, suc, Bool, nat_le, nat_lt, List, [], ◌∷◌, ◌++◌, length, drop, map, replicate, slice_get, slice_set, Option, None, Some, option_map, option_and_then, if◌then◌else◌}
use Rattle.lua_num.specs.Bytes.{Text}
use Rattle.proto.specs.declared.parts.LocVar.{LocVar}
use Rattle.recover_expr.specs.Declaring.{hidden_count}
use Rattle.recover_expr.specs.Drafts.{Drafted, Part, view_part}
use Rattle.recover_expr.specs.Locals.{Scope, all_end, any_captured, end_of, highest_captured, up_to}
use Rattle.recover_expr.specs.Situation.{Function}
use Rattle.recover_expr.specs.declared.draft.DraftKind.{DraftKind}
use Rattle.recover_expr.specs.declared.steps.Reading as declared
use Rattle.recover_expr.specs.declared.steps.Step.{Step}
use Rattle.recover_expr.specs.declared.steps.StepKind.{StepKind}

-- the parameters and the steps of a function, and the part of the source in each step
pub record Steps : Type 0 where
  pub params : List Text
  pub steps : List Step
  pub parts : List Part

abbrev pub view_reading : declared.Reading → Steps
view_reading r = record { params = r.params; steps = r.steps.items; parts = map view_part r.parts.items }

-- ---- the numbers of steps, by the pcs at which they begin

abbrev pub Numbers : Type 0
Numbers = List (Option ℕ)

abbrev pub set_number : (pc number : ℕ) → Numbers → Numbers
set_number pc number numbers = if nat_lt pc (length numbers) then slice_set numbers pc (Some number) else numbers

abbrev pub number_all : (number : ℕ) → List Drafted → Numbers → Numbers
number_all number [] numbers = numbers
number_all number (draft ∷ drafts) numbers = number_all (suc number) drafts (set_number draft.pc number numbers)

-- of these steps, behind which the last word stands
abbrev pub numbers_of : Function → List Drafted → Numbers
numbers_of f drafts = set_number f.last (length drafts) (number_all 0 drafts (replicate (length f.of.code) None))

abbrev pub there : Option (Option ℕ) → Option ℕ
there None = None
there (Some number) = number

-- the step that begins at a pc
abbrev pub number_at : Numbers → (pc : ℕ) → Option ℕ
number_at numbers pc = there (slice_get numbers pc)

-- ---- where locals of one declaration end

-- so many from one on are there, and end at a pc
abbrev pub all_end_at : List LocVar → (end first count : ℕ) → Bool
all_end_at locals end first count = nat_le count (length (drop first locals)) && all_end (drop first locals) count end

abbrev pub end_shared : List LocVar → Numbers → (first count end : ℕ) → Option ℕ
end_shared locals numbers first count end = if all_end_at locals end first count then number_at numbers end else None

-- the step where so many locals of one declaration end
abbrev pub shared_end : List LocVar → Numbers → (first count : ℕ) → Option ℕ
shared_end locals numbers first count = option_and_then (end_shared locals numbers first count) (end_of locals first)

-- ---- steps

abbrev pub declaration_placed : Scope → (first count : ℕ) → (end : ℕ) → StepKind
declaration_placed scope first count end = StepKind.Declaration end (any_captured first count scope)

abbrev pub head_ends : Function → Scope → Numbers → (numeric : Bool) → (first variables foot : ℕ) → (end : ℕ) → Option StepKind
head_ends f scope numbers numeric first variables foot end =
    option_map (λ variables_end. StepKind.Head numeric foot end variables_end (any_captured (first + hidden_count) variables scope)) (shared_end f.of.locals numbers (first + hidden_count) variables)

abbrev pub head_placed : Function → Scope → Numbers → (numeric : Bool) → (first variables foot : ℕ) → Option StepKind
head_placed f scope numbers numeric first variables foot = option_and_then (head_ends f scope numbers numeric first variables foot) (shared_end f.of.locals numbers first hidden_count)

-- what a step is, by numbers of steps
abbrev pub kind_placed : Function → Scope → Numbers → DraftKind → Option StepKind
kind_placed f scope numbers DraftKind.Act = Some StepKind.Act
kind_placed f scope numbers DraftKind.Return = Some StepKind.Return
kind_placed f scope numbers (DraftKind.Declaration first count) = option_map (declaration_placed scope first count) (shared_end f.of.locals numbers first count)
kind_placed f scope numbers (DraftKind.Test when target negated) = option_map (λ to. StepKind.Test when to negated) (number_at numbers target)
kind_placed f scope numbers (DraftKind.Jump target) = option_map (λ to. StepKind.Jump to) (number_at numbers target)
kind_placed f scope numbers (DraftKind.Close from declared) = Some (StepKind.Close from declared)
kind_placed f scope numbers (DraftKind.Head numeric foot first variables) = option_and_then (head_placed f scope numbers numeric first variables) (number_at numbers foot)
kind_placed f scope numbers (DraftKind.Foot numeric target) = option_map (λ to. StepKind.Foot numeric to) (number_at numbers target)

abbrev pub step_of_kind : StepKind → (captured : ℕ) → Drafted → Step
step_of_kind kind captured draft = record { kind = kind; pc = draft.pc; base = draft.base; captured = captured; levels = draft.levels }

abbrev pub and_step : Drafted → Step → Steps → Steps
and_step draft step sofar = record sofar { steps = sofar.steps ++ step ∷ []; parts = sofar.parts ++ draft.part ∷ [] }

-- behind these, those of these drafts
abbrev pub steps_placed : Function → Scope → Numbers → (highest : List ℕ) → List Drafted → Steps → Option Steps
steps_placed f scope numbers highest [] sofar = Some sofar
steps_placed f scope numbers highest (draft ∷ drafts) sofar =
    option_and_then (λ kind. steps_placed f scope numbers highest drafts (and_step draft (step_of_kind kind (up_to highest draft.innermost) draft) sofar)) (kind_placed f scope numbers draft.kind)

abbrev pub placed : Function → Scope → (params : List Text) → List Drafted → Option Steps
placed f scope params drafts = steps_placed f scope (numbers_of f drafts) (highest_captured scope) drafts (record { params = params; steps = []; parts = [] })
