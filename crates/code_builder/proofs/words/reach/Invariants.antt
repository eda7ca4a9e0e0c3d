use Rattle.std.proofs.Common.{◌≡◌, drop, max}
use Rattle.scheme.specs.Functions as functions
use Rattle.code_builder.proofs.words.reach.Given as goal

abbrev pub invariant-loop-pc : goal.invariant-loop-pc
invariant-loop-pc l = max l.reach (functions.reach_from l.labels l.pc (drop l.pc l.items)) ≡ functions.reach_from l.labels 0 l.items
