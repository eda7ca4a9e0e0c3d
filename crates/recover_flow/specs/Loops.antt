-- Serves a body. Loops, by the condition at their end or at their beginning.
use Rattle.std.specs.Prelude.{◌&&◌, ◌+◌, ◌-◌, ℕ, Bool, true, false, nat_le, List, slice_get, Option, None, Some, option_map, option_and_then, if◌then◌else◌}
use Rattle.recover_expr.specs.declared.steps.Step.{Step}
use Rattle.recover_flow.specs.Asked.{is_this, jumps_to, ends_captured, closes, lengths_after, lengths_before, number_before, block_at}
use Rattle.recover_flow.specs.Forms.{exit_of}
use Rattle.recover_flow.specs.declared.forms.Shape.{Shape}
use Rattle.recover_flow.specs.declared.loops.LoopAt.{LoopAt}
use Rattle.recover_flow.specs.declared.loops.LoopKind.{LoopKind}
use Rattle.recover_flow.specs.declared.loops.LoopParts.{LoopParts}
use Rattle.recover_flow.specs.declared.regions.Piece.{Piece}
use Rattle.recover_flow.specs.declared.tables.Lengths.{Lengths}

-- ---- what a loop may be, by its last jump back

-- a loop of a kind, whose first step this is
abbrev pub loop_at : Piece → LoopKind → Step → LoopAt
loop_at piece kind step = record { kind = kind; piece = piece; exit = exit_of piece step }

-- a `repeat`
abbrev pub open_loop_at : List Step → Piece → (last : ℕ) → Option LoopAt
open_loop_at steps piece last = option_map (loop_at piece (LoopKind.Open last)) (slice_get steps piece.from)

-- a piece ends with a bare jump back to its first step
abbrev pub ends_back : List Step → Piece → (last : ℕ) → Bool
ends_back steps piece last = is_this (number_before piece.to) last && jumps_to steps last piece.from

-- a `while`
abbrev pub while_loop_at : List Step → Piece → (last : ℕ) → Option LoopAt
while_loop_at steps piece last = if ends_back steps piece last then option_map (loop_at piece (LoopKind.While last)) (slice_get steps piece.from) else None

-- two CLOSEs of the locals stand at its end, and the jump out of it between them
abbrev pub closes_twice : List Step → Piece → Step → (last : ℕ) → Bool
closes_twice steps piece step last =
    nat_le (piece.from + 3) last && (closes steps (last - 1) step.base && (closes steps (last - 3) step.base && (jumps_to steps (last - 2) piece.to && ends_captured steps (last - 1) piece.from)))

abbrev pub closed_kind : List Step → Piece → Step → (last : ℕ) → Option LoopKind
closed_kind steps piece step last = if closes_twice steps piece step last then Some (LoopKind.Closed (last - 3) (last - 1)) else None

abbrev pub closed_of_step : List Step → Piece → (last : ℕ) → Step → Option LoopAt
closed_of_step steps piece last step = option_map (λ kind. loop_at piece kind step) (closed_kind steps piece step last)

-- a `repeat` that closes its locals
abbrev pub closed_loop_at : List Step → Piece → (last : ℕ) → Option LoopAt
closed_loop_at steps piece last = if ends_back steps piece last then option_and_then (closed_of_step steps piece last) (slice_get steps piece.from) else None

-- ---- its condition and its block

-- the lengths that the condition may have
abbrev pub lengths_of_kind : List Step → Piece → LoopKind → Lengths
lengths_of_kind steps piece (LoopKind.Closed tests_end close) = lengths_before steps piece.from tests_end
lengths_of_kind steps piece (LoopKind.While back) = lengths_after steps piece.from back
lengths_of_kind steps piece (LoopKind.Open last) = lengths_before steps piece.from piece.to

abbrev pub loop_lengths : List Step → LoopAt → Lengths
loop_lengths steps at = lengths_of_kind steps at.piece at.kind

-- the condition goes to the second CLOSE where it is false
abbrev pub closed_parts : LoopAt → (from tests_end close : ℕ) → LoopParts
closed_parts at from tests_end close = record {
  condition = record { from = from; to = tests_end; target = close };
  inner = record { closed = None; whole = record { from = at.piece.from; to = from; locals_end = close; may_capture = true; exit = Some at.exit } };
}

-- out of the loop
abbrev pub while_parts : List Step → LoopAt → (from back : ℕ) → LoopParts
while_parts steps at from back = record {
  condition = record { from = at.piece.from; to = from; target = at.piece.to };
  inner = block_at steps from back (Some at.exit);
}

-- back to the first step
abbrev pub open_parts : LoopAt → (from : ℕ) → LoopParts
open_parts at from = record {
  condition = record { from = from; to = at.piece.to; target = at.piece.from };
  inner = record { closed = None; whole = record { from = at.piece.from; to = from; locals_end = at.piece.to; may_capture = false; exit = Some at.exit } };
}

abbrev pub parts_of_kind : List Step → LoopAt → (count : ℕ) → LoopKind → Option LoopParts
parts_of_kind steps at count (LoopKind.Closed tests_end close) = if nat_le count tests_end then Some (closed_parts at (tests_end - count) tests_end close) else None
parts_of_kind steps at count (LoopKind.While back) = if nat_le (at.piece.from + count) back then Some (while_parts steps at (at.piece.from + count) back) else None
parts_of_kind steps at count (LoopKind.Open last) = if nat_le count at.piece.to && nat_le (at.piece.to - count) last then Some (open_parts at (at.piece.to - count)) else None

-- the parts of the loop where its condition has so many steps
abbrev pub loop_parts : List Step → LoopAt → (count : ℕ) → Option LoopParts
loop_parts steps at count = parts_of_kind steps at count at.kind

-- the loop with its condition, but for its block
abbrev pub shape_of_kind : (condition : ℕ) → LoopKind → Shape
shape_of_kind condition (LoopKind.While back) = Shape.While condition
shape_of_kind condition kind = Shape.Repeat (Some condition)

abbrev pub loop_shape : LoopAt → (condition : ℕ) → Shape
loop_shape at condition = shape_of_kind condition at.kind
