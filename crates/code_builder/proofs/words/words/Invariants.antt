use Rattle.std.proofs.Common.{◌≡◌, ◌++◌, drop}
use Rattle.scheme.specs.Functions as functions
use Rattle.code_builder.proofs.words.words.Given as goal

abbrev pub invariant-loop-pc : goal.invariant-loop-pc
invariant-loop-pc l = l.words.items ++ functions.words_from l.labels l.pc (drop l.pc l.items) ≡ functions.words_from l.labels 0 l.items
