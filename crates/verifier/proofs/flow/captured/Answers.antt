-- Answers.
use Rattle.verifier.proofs.After.{captures_one}
use Rattle.verifier.proofs.flow.captured.Goals as goal

pub loop-word-preserved : goal.loop-word-preserved
loop-word-preserved c = captures_one c.args.words.now c.loop-word.word-index _ _ _ c.loop-word-test.true c.captured_one-note.ensures c.loop-word.invariant
