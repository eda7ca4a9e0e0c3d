-- The pieces so far, and those of the rest, are all.
use Rattle.std.proofs.Common.{◌≡◌, ◌-◌, ◌++◌, option_map}
use Rattle.recover_flow.specs.Cutting.{pieces_from, pieces_of}
use Rattle.recover_flow.proofs.tables.Tables.pieces.Given as goal

abbrev pub invariant-loop-place : goal.invariant-loop-place
invariant-loop-place l = option_map (λ rest. l.pieces.items ++ rest) (pieces_from l.self.steps.now l.at (l.at.to - l.place) l.place l.reach) ≡ pieces_of l.self.steps.now l.at
