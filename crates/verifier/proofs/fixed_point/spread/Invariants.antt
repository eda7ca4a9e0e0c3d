-- Answers.
use Rattle.std.proofs.Common.{◌≡◌, ◌≤◌, ◌+◌, length}
use Rattle.proto.specs.Chunk.{own}
use Rattle.proto.specs.View.{view_proto}
use Rattle.verifier.specs.Registers.{notes_of, rooms}
use Rattle.verifier.specs.Least.{Flowing}
use Rattle.verifier.proofs.fixed_point.spread.Given as goal

abbrev pub invariant-loop-pc : goal.invariant-loop-pc
invariant-loop-pc l = (length (own (view_proto l.function)).code ≤ length l.notes) × (length l.notes ≡ length l.initial.notes) × Flowing (view_proto l.function) (notes_of l.notes) l.work.keys

-- a word ahead costs one, and a note that asks more pays for it
abbrev pub decreases-loop-pc : goal.decreases-loop-pc
decreases-loop-pc l = rooms l.notes + length l.work.keys
