-- Answers.
use Rattle.std.proofs.Common.{◌≡◌, ◌<◌, ℕ, false}
use Rattle.proto.specs.View.{view_proto}
use Rattle.rules.specs.declared.rule.Rule.{Rule}
use Rattle.rules.specs.Breaks.{breaks}
use Rattle.verifier.specs.Registers.{notes_of}
use Rattle.verifier.proofs.scan.first_of_notes.Given as goal

abbrev pub invariant-loop-pc : goal.invariant-loop-pc
invariant-loop-pc l = (p : ℕ) (r : Rule) → p < l.pc → breaks (view_proto l.function) l.main (notes_of l.notes) p r ≡ false
