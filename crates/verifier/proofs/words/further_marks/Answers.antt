-- Answers.
use Rattle.proto.specs.Chunk.{functions}
use Rattle.proto.specs.View.{view_proto}
use Rattle.verifier.proofs.Reading.{marked}
use Rattle.verifier.proofs.words.further_marks.Goals as goal

pub loop-word-preserved : goal.loop-word-preserved
loop-word-preserved c = marked (functions (view_proto c.args.proto.now)) c.loop-word.marks.items c.push.new.self.items c.loop-word.left _ c.loop-word.word-index c.code_of-words.result.now _ c.in_ok-push.ensures.items c.loop-word-test.true c.left_after-left.ensures.none c.left_after-left.ensures.some c.loop-word.invariant
