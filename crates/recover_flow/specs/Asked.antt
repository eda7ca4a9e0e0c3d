-- Serves a body. What is asked of the steps of a function, by their numbers.
use Rattle.std.specs.Prelude.{◌==◌, ◌&&◌, ◌||◌, ◌+◌, ◌-◌, not, ℕ, zero, suc, min, Bool, true, false, nat_le, nat_lt, List, length, slice_get, Option, None, Some, is_some, option_map, option_and_then, if◌then◌else◌}
use Rattle.recover_expr.specs.declared.steps.Step.{Step}
use Rattle.recover_expr.specs.declared.steps.StepKind.{StepKind}
use Rattle.recover_flow.specs.declared.regions.BlockAt.{BlockAt}
use Rattle.recover_flow.specs.declared.regions.BodyAt.{BodyAt}
use Rattle.recover_flow.specs.declared.regions.Exit.{Exit}
use Rattle.recover_flow.specs.declared.regions.Piece.{Piece}
use Rattle.recover_flow.specs.declared.tables.Lengths.{Lengths}

abbrev pub kind_at : List Step → (place : ℕ) → Option StepKind
kind_at steps place = option_map (λ (step : Step). step.kind) (slice_get steps place)

-- where a test or a jump goes
abbrev pub target_of : StepKind → Option ℕ
target_of (StepKind.Test when target negated) = Some target
target_of (StepKind.Jump target) = Some target
target_of kind = None

abbrev pub target_at : List Step → (place : ℕ) → Option ℕ
target_at steps place = option_and_then target_of (kind_at steps place)

abbrev pub jump_of : StepKind → Option ℕ
jump_of (StepKind.Jump target) = Some target
jump_of kind = None

abbrev pub is_this : Option ℕ → ℕ → Bool
is_this None n = false
is_this (Some m) n = m == n

-- a bare jump to this target stands at a place
abbrev pub jumps_to : List Step → (place target : ℕ) → Bool
jumps_to steps place target = is_this (option_and_then jump_of (kind_at steps place)) target

-- ---- numbers of steps that pass a test

-- the last one below a count
abbrev pub last_below : (ℕ → Bool) → (count : ℕ) → Option ℕ
last_below holds zero = None
last_below holds (suc n) = if holds n then Some n else last_below holds n

-- there is one from a number on, and below another
abbrev pub any_between : (ℕ → Bool) → (from to : ℕ) → Bool
any_between holds from zero = false
any_between holds from (suc n) = (nat_le from n && holds n) || any_between holds from n

-- how many stand side by side from one on, at most so many
abbrev pub run_behind : (ℕ → Bool) → (from most : ℕ) → ℕ
run_behind holds from zero = 0
run_behind holds from (suc n) = if holds from then suc (run_behind holds (from + 1) n) else 0

-- and up to one
abbrev pub run_before : (ℕ → Bool) → (to most : ℕ) → ℕ
run_before holds (suc n) (suc most) = if holds n then suc (run_before holds n most) else 0
run_before holds to most = 0

-- ---- jumps

-- a test or a jump goes back to a place
abbrev pub goes_back : List Step → (place : ℕ) → (jump : ℕ) → Bool
goes_back steps place jump = nat_le place jump && is_this (target_at steps jump) place

-- the last one that does before an end
abbrev pub last_back : List Step → (place to : ℕ) → Option ℕ
last_back steps place to = last_below (goes_back steps place) to

-- a bare jump goes forward to a place
abbrev pub goes_ahead : List Step → (place : ℕ) → (jump : ℕ) → Bool
goes_ahead steps place jump = nat_lt jump place && jumps_to steps jump place

-- one between these numbers does, where the place is one of the function
abbrev pub is_reached : List Step → (place from to : ℕ) → Bool
is_reached steps place from to = nat_le place (length steps) && any_between (goes_ahead steps place) from to

-- an exit, where a jump between these numbers goes there
abbrev pub used : List Step → Option Exit → (from to : ℕ) → Option Exit
used steps None from to = None
used steps (Some exit) from to = if is_reached steps exit.place from to then Some exit else None

-- ---- locals that are closed

-- captured locals that are declared there end at a place
abbrev pub ends_there : (end : ℕ) → Option StepKind → Bool
ends_there end (Some (StepKind.Declaration to true)) = to == end
ends_there end kind = false

-- such locals are declared from a number on
abbrev pub ends_captured : List Step → (end from : ℕ) → Bool
ends_captured steps end from = nat_le end (length steps) && any_between (λ place. ends_there end (kind_at steps place)) from (length steps)

-- the locals from a register on are closed
abbrev pub closes_from : (locals : ℕ) → Option StepKind → Bool
closes_from locals (Some (StepKind.Close from declared)) = from == locals
closes_from locals kind = false

abbrev pub closes : List Step → (place locals : ℕ) → Bool
closes steps place locals = closes_from locals (kind_at steps place)

-- so before a place
abbrev pub closes_before : List Step → (place locals : ℕ) → Bool
closes_before steps zero locals = false
closes_before steps (suc n) locals = closes steps n locals

-- a jump before which so many locals are captured is a break to an exit, behind a CLOSE where it closes locals
abbrev pub leaves_with : List Step → (place : ℕ) → Exit → Option Step → Bool
leaves_with steps place exit None = false
leaves_with steps place exit (Some step) = is_this (jump_of step.kind) exit.place && (nat_le step.captured exit.locals || closes_before steps place exit.locals)

abbrev pub leaves : List Step → (place : ℕ) → Exit → Bool
leaves steps place exit = leaves_with steps place exit (slice_get steps place)

-- ---- breaks that name the declaration of the first local that they close

abbrev pub exit_behind : (close locals : ℕ) → Option StepKind → Option Exit
exit_behind close locals (Some (StepKind.Jump target)) = if nat_lt (close + 1) target then Some (record { place = target; locals = locals }) else None
exit_behind close locals kind = None

abbrev pub closing_exit : List Step → (declaration close base : ℕ) → StepKind → Option Exit
closing_exit steps declaration close base (StepKind.Close from (Some declared)) =
    if (declared == declaration) && nat_lt from base then exit_behind close from (kind_at steps (close + 1)) else None
closing_exit steps declaration close base kind = None

-- where the break goes whose CLOSE stands there, if it names this declaration
abbrev pub break_exit : List Step → (declaration close : ℕ) → Option Exit
break_exit steps declaration close = option_and_then (λ (step : Step). closing_exit steps declaration close step.base step.kind) (slice_get steps close)

abbrev pub is_other : Option Exit → Option Exit → Bool
is_other exit None = false
is_other None (Some found) = true
is_other (Some exit) (Some found) = not ((exit.place == found.place) && (exit.locals == found.locals))

-- a break of another loop, before the end of a body, closes the locals of a declaration
abbrev pub is_closed : List Step → BodyAt → (declaration : ℕ) → Bool
is_closed steps at declaration = nat_le declaration (length steps) && any_between (λ close. is_other at.exit (break_exit steps declaration close)) 0 at.to

-- ---- conditions

abbrev pub is_test : Option StepKind → Bool
is_test (Some (StepKind.Test when target negated)) = true
is_test kind = false

abbrev pub is_unit : Option StepKind → Bool
is_unit (Some kind) = is_some (target_of kind)
is_unit None = false

-- the lengths that a condition may have which begins at a place and ends at most there; it has at most 100 steps
abbrev pub lengths_after : List Step → (from to : ℕ) → Lengths
lengths_after steps from to = record {
  tests = run_behind (λ place. is_test (kind_at steps place)) from (min 100 (to - from));
  jumps = run_behind (λ place. is_unit (kind_at steps place)) from (min 100 (to - from));
}

-- and one that ends at a place and begins at least there
abbrev pub lengths_before : List Step → (from to : ℕ) → Lengths
lengths_before steps from to = record {
  tests = run_before (λ place. is_test (kind_at steps place)) to (min 100 (to - from));
  jumps = run_before (λ place. is_unit (kind_at steps place)) to (min 100 (to - from));
}

-- the length at a turn: the longest of tests alone first, down to none, then the longer ones with jumps
abbrev pub length_at : Lengths → (turn : ℕ) → Option ℕ
length_at lengths turn =
    if nat_le turn lengths.tests then Some (lengths.tests - turn)
    else if nat_le turn lengths.jumps then Some turn
    else None

-- ---- places

-- the number before this one
abbrev pub number_before : ℕ → Option ℕ
number_before zero = None
number_before (suc n) = Some n

-- a piece is one step
abbrev pub is_single : Piece → Bool
is_single piece = is_this (number_before piece.to) piece.from

-- a body to whose end its locals go, none of which is captured
abbrev pub plain_body : (from to : ℕ) → Option Exit → BodyAt
plain_body from to exit = record { from = from; to = to; locals_end = to; may_capture = false; exit = exit }

-- one before a CLOSE, which may be wanted
abbrev pub closed_body : (from end : ℕ) → Option Exit → BodyAt
closed_body from end exit = record { from = from; to = end; locals_end = end; may_capture = true; exit = exit }

abbrev pub ends_closed : List Step → (from end : ℕ) → Option Step → Bool
ends_closed steps from end None = false
ends_closed steps from end (Some step) = nat_le from end && (closes steps end step.base && ends_captured steps end from)

abbrev pub closed_before : List Step → (from : ℕ) → Option Exit → (end : ℕ) → Option BodyAt
closed_before steps from exit end = if ends_closed steps from end (slice_get steps end) then Some (closed_body from end exit) else None

-- a block, which a CLOSE ends where one of its own locals may be captured
abbrev pub block_at : List Step → (from to : ℕ) → Option Exit → BlockAt
block_at steps from to exit = record { closed = option_and_then (closed_before steps from exit) (number_before to); whole = plain_body from to exit }

abbrev pub is_exit_at : Option Exit → (place : ℕ) → Bool
is_exit_at None place = false
is_exit_at (Some exit) place = exit.place == place

-- an `if` may begin with a piece of a body and go on to its end, which is the exit
abbrev pub begins_branches : List Step → BodyAt → Piece → Bool
begins_branches steps at piece = is_exit_at at.exit at.to && (nat_lt piece.to at.to && (is_some (target_at steps piece.from) && not (is_some (last_back steps piece.from at.to))))
