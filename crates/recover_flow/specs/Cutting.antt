-- Serves a body. The pieces of a body: it is cut where no jump, no local and no CLOSE goes across.
use Rattle.std.specs.Prelude.{◌==◌, ◌&&◌, ◌+◌, ◌-◌, ◌^◌, not, ℕ, zero, suc, max, min, Bool, false, nat_le, nat_lt, List, [], ◌∷◌, ◌++◌, Option, None, Some, slice_get, option_map, option_and_then, if◌then◌else◌}
use Rattle.recover_expr.specs.declared.steps.Step.{Step}
use Rattle.recover_expr.specs.declared.steps.StepKind.{StepKind}
use Rattle.recover_flow.specs.declared.cuts.Reach.{Reach}
use Rattle.recover_flow.specs.declared.regions.BodyAt.{BodyAt}
use Rattle.recover_flow.specs.declared.regions.Exit.{Exit}
use Rattle.recover_flow.specs.declared.regions.Piece.{Piece}
use Rattle.recover_flow.specs.declared.tables.Span.{Span}
use Rattle.recover_flow.specs.Asked.{is_closed, is_other, last_back, leaves}

-- so many further, where 64 bits count it
abbrev pub further : (by place : ℕ) → ℕ
further by place = min (place + by) (2 ^ 64 - 1)

-- a break of another loop stands in a body
abbrev pub is_of_other : BodyAt → Span → Bool
is_of_other at span = nat_lt span.close at.to && is_other at.exit (Some span.exit)

-- ---- how far a piece reaches

-- it goes on up to there
abbrev pub reach_to : (place : ℕ) → Reach → Reach
reach_to place reach = record reach { far = max reach.far place }

-- a loop of it goes up to there
abbrev pub turn_to : (place : ℕ) → Reach → Reach
turn_to place reach = record reach { far = max reach.far place; turned = max reach.turned place }

-- up to behind the last jump that goes back to a place
abbrev pub turn_behind : Option ℕ → Reach → Reach
turn_behind None reach = reach
turn_behind (Some last) reach = turn_to (further 1 last) reach

-- a jump is a break to the exit of the body, from no loop of the piece
abbrev pub breaks_out : List Step → Option Exit → (place : ℕ) → Reach → Bool
breaks_out steps None place reach = false
breaks_out steps (Some exit) place reach = nat_le reach.turned place && leaves steps place exit

-- a jump goes back within the piece, or forward
abbrev pub behind_jump : List Step → Option Exit → (place target : ℕ) → Reach → Option Reach
behind_jump steps exit place target reach =
    if nat_le target place then if nat_le reach.begin target then Some reach else None
    else if breaks_out steps exit place reach then Some reach
    else Some (reach_to target reach)

-- where locals end, and the CLOSE behind them
abbrev pub locals_reach : (end : ℕ) → (captured : Bool) → ℕ
locals_reach end captured = if captured then further 1 end else end

-- locals are those of the body, which only its end closes
abbrev pub ends_with_body : List Step → BodyAt → (place end : ℕ) → Reach → Bool
ends_with_body steps at place end reach = (end == at.locals_end) && (nat_le reach.turned place && not (is_closed steps at place))

abbrev pub behind_declaration : List Step → BodyAt → (place end : ℕ) → (captured : Bool) → Reach → Reach
behind_declaration steps at place end captured reach = if ends_with_body steps at place end reach then reach else reach_to (locals_reach end captured) reach

-- the jump behind a CLOSE that closes locals belongs to it
abbrev pub behind_close : (place from base : ℕ) → Reach → Reach
behind_close place from base reach = if nat_lt from base then reach_to (further 2 place) reach else reach

-- how far the piece reaches behind what a step is; None where that goes back before the piece
abbrev pub behind_kind : List Step → BodyAt → (place base : ℕ) → StepKind → Reach → Option Reach
behind_kind steps at place base (StepKind.Test when target negated) reach = behind_jump steps at.exit place target reach
behind_kind steps at place base (StepKind.Jump target) reach = behind_jump steps at.exit place target reach
behind_kind steps at place base (StepKind.Foot numeric target) reach = behind_jump steps at.exit place target reach
behind_kind steps at place base (StepKind.Head numeric foot end variables_end captured) reach = option_map (turn_to (further 1 foot)) (behind_jump steps at.exit place foot reach)
behind_kind steps at place base (StepKind.Declaration end captured) reach = Some (behind_declaration steps at place end captured reach)
behind_kind steps at place base (StepKind.Close from declared) reach = Some (behind_close place from base reach)
behind_kind steps at place base kind reach = Some reach

-- it stays before the end of the body
abbrev pub within : BodyAt → Reach → Option Reach
within at reach = if nat_le reach.far at.to then Some reach else None

-- behind the step of a number
abbrev pub behind_step : List Step → BodyAt → (place : ℕ) → Reach → Step → Option Reach
behind_step steps at place reach step =
    option_and_then (within at) (behind_kind steps at place step.base step.kind (turn_behind (last_back steps place at.to) (reach_to (place + 1) reach)))

abbrev pub behind_place : List Step → BodyAt → (place : ℕ) → Reach → Option Reach
behind_place steps at place reach = option_and_then (behind_step steps at place reach) (slice_get steps place)

-- ---- pieces

-- a piece ends behind a place where it reaches no further
abbrev pub ends_behind : (place : ℕ) → Reach → Bool
ends_behind place reach = reach.far == (place + 1)

-- the next one begins there
abbrev pub begun_behind : (place : ℕ) → Reach → Reach
begun_behind place reach = if ends_behind place reach then record reach { begin = reach.far } else reach

-- and this one has been
abbrev pub cut_behind : (place : ℕ) → Reach → List Piece
cut_behind place reach = if ends_behind place reach then record { from = reach.begin; to = reach.far } ∷ [] else []

-- the pieces that end behind so many steps from a place on
abbrev pub pieces_from : List Step → BodyAt → (count place : ℕ) → Reach → Option (List Piece)
pieces_from steps at zero place reach = Some []
pieces_from steps at (suc count) place reach =
    option_and_then (λ behind. option_map (λ rest. cut_behind place behind ++ rest) (pieces_from steps at count (place + 1) (begun_behind place behind))) (behind_place steps at place reach)

-- the statements of a body; None where something goes past its end, or a jump back before its piece
abbrev pub pieces_of : List Step → BodyAt → Option (List Piece)
pieces_of steps at = pieces_from steps at (at.to - at.from) at.from (record { begin = at.from; far = at.from; turned = 0 })
