-- Serves the laws. What the scheme makes of the steps of a function, one after the other: a label is the number of a step, and locals end where their step says.
use Rattle.std.specs.Prelude.{ℕ, zero, suc, ◌+◌, ◌-◌, Bool, true, false, nat_lt, List, [], ◌∷◌, ◌++◌, length, replicate, slice_get, take, Option, None, Some, option_map}
use Rattle.std.specs.List.{prefix_len}
use Rattle.lua_num.specs.Bytes.{Text}
use Rattle.lua_tree.specs.Syntax.{return_statement, Expressions, no_expressions, expression}
use Rattle.opcode.specs.declared.op.Op.{Op}
use Rattle.recover_expr.specs.Drafts.{Part, statement_part, values_part, condition_part, head_part}
use Rattle.recover_expr.specs.Placing.{Steps}
use Rattle.recover_expr.specs.declared.steps.Step.{Step}
use Rattle.recover_expr.specs.declared.steps.StepKind.{StepKind}
use Rattle.scheme.specs.Expressions.{next_reg}
use Rattle.scheme.specs.Lists.{adjust}
use Rattle.scheme.specs.Making as making
use Rattle.scheme.specs.Making.{◌>>=◌, ◌>>◌, Maker, nothing, read, put, jump_to, take_registers, used, declare, activate, end_locals, active_count}
use Rattle.scheme.specs.Scheme.{coded, all_coded, statement_made}
use Rattle.scheme.specs.Statements.{close_from, settle, step_part, numeric_names, generic_names}
use Rattle.scheme.specs.declared.making.Piece.{Piece}

abbrev pub kind_at : List Step → (place : ℕ) → Option StepKind
kind_at steps place = option_map (λ (step : Step). step.kind) (slice_get steps place)

abbrev pub part_at : Steps → (place : ℕ) → Option Part
part_at code place = slice_get code.parts place

-- ---- what one step makes

-- a statement by itself, or a return
abbrev pub part_made : Part → making.Part
part_made (statement_part s) = statement_made s 1 None
part_made (values_part es) = statement_made (return_statement es) 1 None
part_made part = nothing

abbrev pub tested_made : (when : Bool) → (target : ℕ) → Part → making.Part
tested_made when target (condition_part e) = (coded e).jump_if when target
tested_made when target part = nothing

-- the values of a loop over numbers, and the step that is 1 where none is said
abbrev pub counted_values : Expressions → making.Part
counted_values (expression first (expression last no_expressions)) = next_reg (coded first) >> next_reg (coded last) >> step_part 1 None
counted_values (expression first (expression last (expression by rest))) = next_reg (coded first) >> next_reg (coded last) >> step_part 1 (Some (coded by))
counted_values values = nothing

abbrev pub numeric_head : (foot : ℕ) → Expressions → List Text → making.Part
numeric_head foot values names = do
  variables ← declare names
  base ← read (λ m. m.free)
  counted_values values
  activate numeric_names
  put 1 (Piece.Jump Op.ForPrep base foot)
  activate variables
  take_registers (length variables)

abbrev pub generic_head : (foot : ℕ) → Expressions → List Text → making.Part
generic_head foot values names = do
  variables ← declare names
  base ← read (λ m. m.free)
  adjust 1 (all_coded values) 3
  activate generic_names
  jump_to 1 foot
  used (base + 6)
  activate variables
  take_registers (length variables)

abbrev pub head_made : (numeric : Bool) → (foot : ℕ) → Part → making.Part
head_made true foot (head_part values names) = numeric_head foot values names
head_made false foot (head_part values names) = generic_head foot values names
head_made numeric foot part = nothing

abbrev pub names_in : Option Part → ℕ
names_in (Some (head_part values names)) = length names
names_in part = 0

-- the hidden locals are the last that are active; the head stands before the target
abbrev pub foot_made : Steps → (numeric : Bool) → (target : ℕ) → making.Part
foot_made code true target m = put 1 (Piece.Jump Op.ForLoop (active_count m - 3) target) m
foot_made code false target m = jump_to 1 target (put 1 (Piece.Abc Op.TForLoop (active_count m - 3) 0 (names_in (part_at code (target - 1)))) m)

abbrev pub kind_made : Steps → StepKind → Part → making.Part
kind_made code StepKind.Act part = part_made part
kind_made code StepKind.Return part = part_made part
kind_made code (StepKind.Declaration end captured) part = part_made part
kind_made code (StepKind.Test when target negated) part = tested_made when target part
kind_made code (StepKind.Jump target) part = jump_to 1 target
kind_made code (StepKind.Close from declared) part = close_from 1 from
kind_made code (StepKind.Head numeric foot end variables_end captured) part = head_made numeric foot part
kind_made code (StepKind.Foot numeric target) part = foot_made code numeric target

-- ---- all steps

-- a function in the making, and the step at which each active local ends
pub record Performance : Type 0 where
  pub maker : Maker
  pub ends : List ℕ

-- how many locals, of the first ones, end behind a step
abbrev pub still_active : (place : ℕ) → List ℕ → ℕ
still_active place ends = prefix_len (λ end. nat_lt place end) ends

-- the others have ended
abbrev pub ended_to : (count : ℕ) → Performance → Performance
ended_to count now = record { maker = settle (end_locals count now.maker); ends = take count now.ends }

abbrev pub ended_before : (place : ℕ) → Performance → Performance
ended_before place now = ended_to (still_active place now.ends) now

-- where the locals end that a step brings into scope, so many
abbrev pub ends_of : StepKind → (count : ℕ) → List ℕ
ends_of (StepKind.Declaration end captured) count = replicate count end
ends_of (StepKind.Head numeric foot end variables_end captured) count = replicate 3 end ++ replicate (count - 3) variables_end
ends_of kind count = []

abbrev pub behind_kind : Steps → StepKind → Part → Performance → Performance
behind_kind code kind part before =
    let after = kind_made code kind part before.maker in
    record { maker = settle after; ends = before.ends ++ ends_of kind (active_count after - active_count before.maker) }

abbrev pub behind_step : Steps → Option StepKind → Option Part → Performance → Performance
behind_step code (Some kind) (Some part) before = behind_kind code kind part before
behind_step code kind part before = before

abbrev pub performed : Steps → (place : ℕ) → Performance → Performance
performed code place now = behind_step code (kind_at code.steps place) (part_at code place) (ended_before place now)

-- so many steps
abbrev pub performed_to : Steps → Performance → (place : ℕ) → Performance
performed_to code first zero = first
performed_to code first (suc place) = performed code place (performed_to code first place)

-- the pc of each step, by its number, and of what stands behind so many
abbrev pub pcs_from : Steps → Performance → (place count : ℕ) → List ℕ
pcs_from code first place zero = length (performed_to code first place).maker.items ∷ []
pcs_from code first place (suc count) = length (performed_to code first place).maker.items ∷ pcs_from code first (place + 1) count
