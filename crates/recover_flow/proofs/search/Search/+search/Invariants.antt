-- Each call within the search has fewer levels, or is of a lower rank. What was tried so far has been in vain.
use Rattle.std.proofs.Common.{◌≡◌, ◌<◌, ◌≤◌, ◌+◌, ◌-◌, ◌*◌, ℕ, length, map, ◌++◌, List, Some, slice_get}
use Rattle.recover_flow.specs.Arms.{Starting, arm_starts, view_start}
use Rattle.recover_flow.specs.Cutting.{pieces_of}
use Rattle.recover_flow.specs.Searching.{Keeps, NoLastIf, NoWay, SoFar, rest_at, steps_of, store_of}
use Rattle.recover_flow.specs.declared.branches.Way.{Way}
use Rattle.recover_flow.specs.declared.regions.Piece.{Piece}
use Rattle.recover_flow.proofs.Looping.{TurnTried}
use Rattle.recover_flow.proofs.Resting.{RestsOf}
use Rattle.recover_flow.proofs.search.Search.+search.Given as goal

abbrev pub decreases-branches : goal.decreases-branches
decreases-branches l = 32 * l.levels + 17

abbrev pub decreases-new_branches : goal.decreases-new_branches
decreases-new_branches l = 32 * l.levels + 16

abbrev pub decreases-arms : goal.decreases-arms
decreases-arms l = 32 * l.levels + 15

abbrev pub decreases-rest : goal.decreases-rest
decreases-rest l = 32 * l.levels + 14

abbrev pub decreases-way : goal.decreases-way
decreases-way l = 32 * l.levels + 13

abbrev pub decreases-arm : goal.decreases-arm
decreases-arm l = 32 * l.levels + 12

abbrev pub decreases-last : goal.decreases-last
decreases-last l = 32 * l.levels + 12

abbrev pub decreases-block : goal.decreases-block
decreases-block l = 32 * l.levels + 11

abbrev pub decreases-body : goal.decreases-body
decreases-body l = 32 * l.levels + 10

abbrev pub decreases-new_body : goal.decreases-new_body
decreases-new_body l = 32 * l.levels + 9

abbrev pub decreases-statements : goal.decreases-statements
decreases-statements l = 32 * l.levels + 8

abbrev pub decreases-next_statement : goal.decreases-next_statement
decreases-next_statement l = 32 * l.levels + 7

abbrev pub decreases-last_branches : goal.decreases-last_branches
decreases-last_branches l = 32 * l.levels + 7

abbrev pub decreases-statement : goal.decreases-statement
decreases-statement l = 32 * l.levels + 6

abbrev pub decreases-last_if : goal.decreases-last_if
decreases-last_if l = 32 * l.levels + 4

abbrev pub decreases-loop_of : goal.decreases-loop_of
decreases-loop_of l = 32 * l.levels + 5

abbrev pub decreases-for_of : goal.decreases-for_of
decreases-for_of l = 32 * l.levels + 5

abbrev pub decreases-locals : goal.decreases-locals
decreases-locals l = 32 * l.levels + 5

abbrev pub decreases-jumps : goal.decreases-jumps
decreases-jumps l = 32 * l.levels + 5

abbrev pub decreases-if_of : goal.decreases-if_of
decreases-if_of l = 32 * l.levels + 4

abbrev pub decreases-tested_loop : goal.decreases-tested_loop
decreases-tested_loop l = 32 * l.levels + 4

abbrev pub decreases-if_at : goal.decreases-if_at
decreases-if_at l = 32 * l.levels + 3

abbrev pub decreases-filled : goal.decreases-filled
decreases-filled l = 32 * l.levels + 2

-- what was found stands behind the starts that are left
abbrev pub invariant-arms-loop-start : goal.invariant-arms-loop-start
invariant-arms-loop-start l =
    Keeps l.fn.self l.self × ((done : List Starting) × (map view_start l.starts.items ++ done ≡ arm_starts (steps_of l.fn.self) l.at)
    × RestsOf (steps_of l.fn.self) (store_of l.self) l.at l.levels done (rest_at l.rests))

abbrev pub decreases-arms-loop-start : goal.decreases-arms-loop-start
decreases-arms-loop-start l = length l.starts.items

-- no `if` begins with a piece behind this number
abbrev pub invariant-last_branches-loop-statements : goal.invariant-last_branches-loop-statements
invariant-last_branches-loop-statements l =
    Keeps l.fn.self l.self × (l.statements ≡ l.fn.statements) × (l.number ≤ length l.statements.items) × SoFar (steps_of l.fn.self) (store_of l.self) l.at l.levels l.pieces l.statements.items
    × ((n : ℕ) (piece : Piece) → l.number < n → n ≤ length l.statements.items → slice_get l.pieces n ≡ Some piece → NoLastIf (steps_of l.fn.self) l.at piece l.levels)

abbrev pub decreases-last_branches-loop-statements : goal.decreases-last_branches-loop-statements
decreases-last_branches-loop-statements l = l.number

-- no arm stands in an earlier way
abbrev pub invariant-rest-loop-way : goal.invariant-rest-loop-way
invariant-rest-loop-way l =
    Keeps l.fn.self l.self × ((n : ℕ) (way : Way) → n < l.way-index → slice_get l.start.ways.items n ≡ Some way → NoWay (steps_of l.fn.self) l.at l.start.place l.levels way)

-- a statement for each piece so far
abbrev pub invariant-statements-loop-piece : goal.invariant-statements-loop-piece
invariant-statements-loop-piece l =
    Keeps l.fn.self l.self × SoFar (steps_of l.fn.self) (store_of l.self) l.at l.levels l.piece-items l.statements.items × (length l.statements.items ≡ l.piece-index)

-- no loop has a condition of an earlier length
abbrev pub invariant-tested_loop-loop-form : goal.invariant-tested_loop-loop-form
invariant-tested_loop-loop-form l = Keeps l.fn.self l.self × (l.turn ≤ l.most) × ((n : ℕ) → n < l.turn → TurnTried (steps_of l.fn.self) (Some l.at) l.levels n)

abbrev pub decreases-tested_loop-loop-form : goal.decreases-tested_loop-loop-form
decreases-tested_loop-loop-form l = l.most - l.turn
