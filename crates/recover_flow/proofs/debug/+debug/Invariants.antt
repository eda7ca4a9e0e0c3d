use Rattle.std.proofs.Common.{◌≡◌}
use Rattle.std.specs.Prelude.{drop}
use Rattle.recover_flow.proofs.Telling.{AreSoFar}
use Rattle.recover_flow.proofs.debug.+debug.Given as goal

abbrev pub invariant-have_untold-loop-proto : goal.invariant-have_untold-loop-proto
invariant-have_untold-loop-proto l = AreSoFar l.protos (drop l.proto-index l.protos) l.number × (l.path ≡ l.initial.path)
