-- Serves a body. Which statement a piece of a body may be, and statements around a block that is still to be found.
use Rattle.std.specs.Prelude.{◌==◌, ◌&&◌, ◌+◌, ◌-◌, ◌^◌, not, ℕ, max, min, Bool, true, false, nat_le, nat_lt, List, slice_get, Option, None, Some, option_map, option_and_then, if◌then◌else◌}
use Rattle.core_expr.specs.Counting.{one_more}
use Rattle.recover_expr.specs.declared.steps.Step.{Step}
use Rattle.recover_expr.specs.declared.steps.StepKind.{StepKind}
use Rattle.recover_flow.specs.Asked.{kind_at, is_this, last_back, is_reached, ends_captured, closes, leaves, is_other, number_before, is_single, plain_body, closed_body, block_at}
use Rattle.recover_flow.specs.declared.forms.Choice.{Choice}
use Rattle.recover_flow.specs.declared.forms.Form.{Form}
use Rattle.recover_flow.specs.declared.forms.Shape.{Shape}
use Rattle.recover_flow.specs.declared.plan.End.{End}
use Rattle.recover_flow.specs.declared.plan.Plan.{Plan}
use Rattle.recover_flow.specs.declared.plan.Planned.{Planned}
use Rattle.recover_flow.specs.declared.regions.BodyAt.{BodyAt}
use Rattle.recover_flow.specs.declared.regions.Exit.{Exit}
use Rattle.recover_flow.specs.declared.regions.Piece.{Piece}

-- a statement with its block
abbrev pub plan_around : Shape → (body : ℕ) → Plan
plan_around (Shape.Do step) body = Plan.Do step body
plan_around (Shape.For step numeric) body = Plan.For step numeric body
plan_around (Shape.While condition) body = Plan.While condition body
plan_around (Shape.Repeat condition) body = Plan.Repeat body condition

-- ---- statements of one step

-- a step is a statement of a body by itself: an act, or a declaration of the body's own locals
abbrev pub is_own : BodyAt → StepKind → Bool
is_own at StepKind.Act = true
is_own at (StepKind.Declaration end captured) = end == at.locals_end
is_own at kind = false

-- captured locals stand only in a body that may have some
abbrev pub may_stand : BodyAt → StepKind → Bool
may_stand at (StepKind.Declaration end true) = at.may_capture
may_stand at kind = true

abbrev pub own_statement : BodyAt → Step → (place : ℕ) → Option Planned
own_statement at step place = if may_stand at step.kind then Some (record { plan = Plan.Step place; levels = step.levels }) else None

-- ---- what ends a block

-- it is not the last statement of the body
abbrev pub is_enclosed : BodyAt → Piece → Bool
is_enclosed at piece = not (piece.to == at.to)

-- a return or a break of so many levels, in a `do` of its own where it is not last
abbrev pub ending : BodyAt → Piece → End → (levels : ℕ) → Planned
ending at piece end levels = record { plan = Plan.End end (is_enclosed at piece); levels = if is_enclosed at piece then one_more levels else levels }

abbrev pub returning : BodyAt → Piece → Step → Option Planned
returning at piece step = if is_single piece then Some (ending at piece (End.Return piece.from) step.levels) else None

-- a break that has no captured locals to close
abbrev pub leaves_straight_to : List Step → Piece → Step → Option Exit → Bool
leaves_straight_to steps piece step None = false
leaves_straight_to steps piece step (Some exit) = is_single piece && (leaves steps piece.from exit && nat_le step.captured exit.locals)

abbrev pub leaves_straight : List Step → BodyAt → Piece → Step → Bool
leaves_straight steps at piece step = leaves_straight_to steps piece step at.exit

-- one behind a CLOSE of captured locals, which are those from this register on
abbrev pub leaves_closing_to : List Step → Piece → Step → (from : ℕ) → Option Exit → Bool
leaves_closing_to steps piece step from None = false
leaves_closing_to steps piece step from (Some exit) =
    (piece.to == piece.from + 2) && ((from == exit.locals) && (nat_lt exit.locals step.captured && leaves steps (piece.from + 1) exit))

abbrev pub leaves_closing : List Step → BodyAt → Piece → Step → (from : ℕ) → Bool
leaves_closing steps at piece step from = leaves_closing_to steps piece step from at.exit

-- ---- the choice, by the first step

abbrev pub choice_of_kind : List Step → BodyAt → Piece → Step → StepKind → Choice
choice_of_kind steps at piece step (StepKind.Head numeric foot end variables_end captured) = Choice.For
choice_of_kind steps at piece step (StepKind.Declaration end captured) = Choice.Locals
choice_of_kind steps at piece step (StepKind.Test when target negated) = Choice.Jumps
choice_of_kind steps at piece step (StepKind.Jump target) = if leaves_straight steps at piece step then Choice.Settled (Some (ending at piece End.Break 1)) else Choice.Jumps
choice_of_kind steps at piece step StepKind.Return = Choice.Settled (returning at piece step)
choice_of_kind steps at piece step (StepKind.Close from declared) = Choice.Settled (if leaves_closing steps at piece step from then Some (ending at piece End.Break 1) else None)
choice_of_kind steps at piece step kind = Choice.Settled None

-- where no jump goes back to its first step, and it is not a statement by itself
abbrev pub straight_choice : List Step → BodyAt → Piece → Step → Choice
straight_choice steps at piece step = choice_of_kind steps at piece step step.kind

-- a loop, where a jump goes back to the first step
abbrev pub loop_or_straight : List Step → BodyAt → Piece → Step → (last : Option ℕ) → Choice
loop_or_straight steps at piece step (Some last) = Choice.Loop last
loop_or_straight steps at piece step None = straight_choice steps at piece step

abbrev pub choice_of_step : List Step → BodyAt → Piece → Option Step → Choice
choice_of_step steps at piece None = Choice.Settled None
choice_of_step steps at piece (Some step) =
    if is_single piece && is_own at step.kind then Choice.Settled (own_statement at step piece.from) else loop_or_straight steps at piece step (last_back steps piece.from piece.to)

-- what the statement of a piece of a body may be
abbrev pub choice_at : List Step → BodyAt → Piece → Choice
choice_at steps at piece = choice_of_step steps at piece (slice_get steps piece.from)

-- ---- a `do` from a declaration to the end of its locals

-- the number behind the step of a number
abbrev pub step_behind : List Step → (place : ℕ) → Option ℕ
step_behind steps place = option_map (λ (step : Step). place + 1) (slice_get steps place)

-- a scope whose locals end there ends with a piece, and with a CLOSE where one of its locals is captured
abbrev pub ends_scope : List Step → Piece → Step → (end : ℕ) → Bool
ends_scope steps piece step end = if ends_captured steps end piece.from then is_this (number_before piece.to) end && closes steps end step.base else piece.to == end

-- where the locals of a declaration end, if the piece that begins with it is their scope
abbrev pub scope_end_of : List Step → Piece → Step → StepKind → Option ℕ
scope_end_of steps piece step (StepKind.Declaration end captured) = if nat_le end piece.to && ends_scope steps piece step end then Some end else None
scope_end_of steps piece step kind = None

abbrev pub scope_end : List Step → Piece → Step → Option ℕ
scope_end steps piece step = scope_end_of steps piece step step.kind

abbrev pub do_form : Option Exit → Piece → Step → (end : ℕ) → Form
do_form exit piece step end = record { shape = Shape.Do piece.from; levels = max (one_more step.levels) 2; inner = record { closed = None; whole = closed_body (piece.from + 1) end exit } }

abbrev pub scope_of_step : List Step → Option Exit → Piece → Step → Option Form
scope_of_step steps exit piece step = option_map (do_form exit piece step) (scope_end steps piece step)

abbrev pub scope_form : List Step → Option Exit → Piece → Option Form
scope_form steps exit piece = option_and_then (scope_of_step steps exit piece) (slice_get steps piece.from)

-- ---- a loop that runs once, for its breaks: `repeat .. until true`

-- the exit behind a piece that begins with a step
abbrev pub exit_of : Piece → Step → Exit
exit_of piece step = record { place = piece.to; locals = step.base }

abbrev pub once_repeat : Piece → Step → Form
once_repeat piece step = record { shape = Shape.Repeat None; levels = 2; inner = record { closed = None; whole = plain_body piece.from piece.to (Some (exit_of piece step)) } }

abbrev pub once_of_step : List Step → Option Exit → Piece → Step → Option Form
once_of_step steps exit piece step = if is_other exit (Some (exit_of piece step)) && is_reached steps piece.to piece.from piece.to then Some (once_repeat piece step) else None

abbrev pub once_form : List Step → Option Exit → Piece → Option Form
once_form steps exit piece = option_and_then (once_of_step steps exit piece) (slice_get steps piece.from)

-- ---- a `for`

-- both are of one kind of `for`
abbrev pub are_alike : Bool → Bool → Bool
are_alike true other = other
are_alike false other = not other

-- the foot of this kind of `for` goes back there
abbrev pub is_foot : (numeric : Bool) → (target : ℕ) → Option StepKind → Bool
is_foot numeric target (Some (StepKind.Foot other to)) = are_alike other numeric && (to == target)
is_foot numeric target kind = false

-- the register behind the hidden locals of a loop, where 32 bits count it
abbrev pub variables_from : Step → ℕ
variables_from step = min (step.base + 3) (2 ^ 32 - 1)

-- the variables of a `for` end before its foot, and before a CLOSE where one is captured
abbrev pub ends_variables : List Step → Step → (foot end : ℕ) → (captured : Bool) → Bool
ends_variables steps step foot end false = end == foot
ends_variables steps step foot end true = is_this (number_before foot) end && closes steps end (variables_from step)

-- the foot is the last step of the piece, and the hidden locals end behind it
abbrev pub is_framed : Piece → (foot end variables_end : ℕ) → Bool
is_framed piece foot end variables_end = nat_lt piece.from variables_end && (nat_le variables_end foot && (is_this (number_before piece.to) foot && (end == piece.to)))

abbrev pub for_around : List Step → Piece → Step → (numeric : Bool) → (variables_end : ℕ) → Form
for_around steps piece step numeric variables_end =
    record { shape = Shape.For piece.from numeric; levels = max step.levels 2; inner = block_at steps (piece.from + 1) variables_end (Some (exit_of piece step)) }

abbrev pub counted_of_kind : List Step → Piece → Step → StepKind → Option Form
counted_of_kind steps piece step (StepKind.Head numeric foot end variables_end captured) =
    if is_framed piece foot end variables_end && (is_foot numeric (piece.from + 1) (kind_at steps foot) && ends_variables steps step foot variables_end captured)
    then Some (for_around steps piece step numeric variables_end)
    else None
counted_of_kind steps piece step kind = None

abbrev pub counted_of_step : List Step → Piece → Step → Option Form
counted_of_step steps piece step = counted_of_kind steps piece step step.kind

abbrev pub counted_form : List Step → Piece → Option Form
counted_form steps piece = option_and_then (counted_of_step steps piece) (slice_get steps piece.from)
