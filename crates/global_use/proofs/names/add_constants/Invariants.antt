use Rattle.global_use.specs.Counts.{Tells}
use Rattle.global_use.proofs.Tables.{sums_of}
use Rattle.global_use.proofs.names.add_constants.Given as goal

abbrev pub invariant-loop-constant : goal.invariant-loop-constant
invariant-loop-constant l = Tells l.initial.names l.names (sums_of l.constants l.counts) (sums_of l.constant-iterator.a.rest.now l.constant-iterator.b.rest.now)
