-- Answers.
use Rattle.std.proofs.Common.{◌∙◌, arith, sym}
use Rattle.opcode.specs.Reading.{instr_of}
use Rattle.rules.specs.Places.{named_by}
use Rattle.rules.specs.Breaks.{reaches}
use Rattle.verifier.proofs.Scans.{any_some, any_end, named_one_by_one}
use Rattle.verifier.proofs.operands.any_named_past.Goals as goal

pub returns-then-named_past : goal.returns-then-named_past
returns-then-named_past c = any_some (λ w. reaches c.args.count (named_by c.args.by (instr_of w))) c.args.words.now c.loop-word.word-index _ (omega arith) (sym c.named_past.ensures ∙ c.if-named_past.true) c.loop-word.invariant ∙ sym (named_one_by_one c.args.by c.args.count c.args.words.now)

pub returns : goal.returns
returns c = any_end (λ w. reaches c.args.count (named_by c.args.by (instr_of w))) c.args.words.now c.loop-word.word-index _ (omega arith) c.loop-word.invariant ∙ sym (named_one_by_one c.args.by c.args.count c.args.words.now)
