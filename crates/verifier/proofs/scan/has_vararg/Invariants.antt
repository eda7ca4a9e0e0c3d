-- Answers.
use Rattle.std.proofs.Common.{◌≡◌, ◌≤◌, length, drop}
use Rattle.proto.specs.Chunk.{own}
use Rattle.proto.specs.View.{view_proto}
use Rattle.rules.specs.Places.{further_words}
use Rattle.rules.specs.Breaks.{has_vararg}
use Rattle.verifier.proofs.scan.has_vararg.Given as goal

abbrev pub invariant-loop-pc : goal.invariant-loop-pc
invariant-loop-pc l = (l.pc ≤ length (own (view_proto l.function)).code) × (has_vararg (further_words (view_proto l.function)) (own (view_proto l.function)).code ≡ has_vararg (drop l.pc (further_words (view_proto l.function))) (drop l.pc (own (view_proto l.function)).code))
