-- Answers.
use Rattle.std.proofs.Common.{◌≡◌, ◌++◌, drop}
use Rattle.proto.specs.Chunk.{functions}
use Rattle.proto.specs.View.{view_proto}
use Rattle.rules.specs.Places.{further_from, further_words}
use Rattle.verifier.proofs.words.further_marks.Given as goal

abbrev pub invariant-loop-word : goal.invariant-loop-word
invariant-loop-word l = l.marks.items ++ further_from (functions (view_proto l.proto)) l.left (drop l.word-index l.words) ≡ further_words (view_proto l.proto)
