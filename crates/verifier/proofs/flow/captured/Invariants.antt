-- Answers.
use Rattle.std.proofs.Common.{drop}
use Rattle.verifier.specs.Registers.{Alike, meant, capturing_all}
use Rattle.verifier.proofs.flow.captured.Given as goal

abbrev pub invariant-loop-word : goal.invariant-loop-word
invariant-loop-word l = Alike (capturing_all (drop l.word-index l.words) (meant l.note)) (capturing_all l.words (meant l.initial.note))
