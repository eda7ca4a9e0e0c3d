-- Answers.
use Rattle.std.proofs.Common.{◌≡◌, drop}
use Rattle.std.specs.List.{list_any}
use Rattle.rules.specs.Breaks.{is_bad_word_of}
use Rattle.verifier.proofs.jumps.any_bad_further.Given as goal

abbrev pub invariant-loop-word : goal.invariant-loop-word
invariant-loop-word l = list_any (is_bad_word_of l.op) l.words ≡ list_any (is_bad_word_of l.op) (drop l.word-index l.words)
