use Rattle.std.proofs.Common.{drop}
use Rattle.global_use.specs.Counts.{Tells}
use Rattle.global_use.proofs.Tables.{uses_all}
use Rattle.global_use.proofs.names.+names.Given as goal

abbrev pub invariant-add_functions-loop-proto : goal.invariant-add_functions-loop-proto
invariant-add_functions-loop-proto l = Tells l.initial.names l.names (uses_all l.protos) (uses_all (drop l.proto-index l.protos))
