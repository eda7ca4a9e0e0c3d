-- Answers.
use Rattle.std.proofs.Common.{◌≡◌, map}
use Rattle.proto.specs.Chunk.{functions_of}
use Rattle.proto.specs.View.{view_proto}
use Rattle.verifier.proofs.Shortness.{chunk_size, functions_size}
use Rattle.verifier.proofs.Inner.{SoFar, left_of}
use Rattle.verifier.proofs.judging.+judging.Given as goal

abbrev pub invariant-judge_all-loop-function : goal.invariant-judge_all-loop-function
invariant-judge_all-loop-function l = (l.number ≡ l.function-index) × (l.path ≡ l.initial.path) × SoFar (functions_of (map view_proto l.functions)) (left_of l.functions l.function-index) l.function-index

-- what decreases: how many functions there are
abbrev pub decreases-judge : goal.decreases-judge
decreases-judge l = chunk_size (view_proto l.proto.now)

abbrev pub decreases-judge_all : goal.decreases-judge_all
decreases-judge_all l = functions_size (functions_of (map view_proto l.functions.now))
