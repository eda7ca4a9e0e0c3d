-- What the pieces that are left give is what all give.
use Rattle.std.proofs.Common.{◌≡◌, drop}
use Rattle.std.specs.Prelude.{None}
use Rattle.recover_flow.specs.Arms.{last_begin}
use Rattle.recover_flow.proofs.tables.Tables.last_begin.Given as goal

abbrev pub invariant-loop-piece : goal.invariant-loop-piece
invariant-loop-piece l = last_begin l.self.steps.now l.to l.last (drop l.piece-index l.pieces) ≡ last_begin l.self.steps.now l.to None l.pieces
