-- Answers.
use Rattle.std.proofs.Common.{◌≡◌, drop}
use Rattle.std.specs.List.{list_any}
use Rattle.rules.specs.Places.{named_by}
use Rattle.rules.specs.Breaks.{reaches}
use Rattle.opcode.specs.Reading.{instr_of}
use Rattle.verifier.proofs.operands.any_named_past.Given as goal

abbrev pub invariant-loop-word : goal.invariant-loop-word
invariant-loop-word l = list_any (λ w. reaches l.count (named_by l.by (instr_of w))) l.words ≡ list_any (λ w. reaches l.count (named_by l.by (instr_of w))) (drop l.word-index l.words)
