use Rattle.std.proofs.Common.{length}
use Rattle.suite_io.proofs.TakenPieces.{PutSoFar}
use Rattle.suite_io.proofs.putting.put_all.Given as goal

abbrev pub invariant-loop-rest : goal.invariant-loop-rest
invariant-loop-rest g l =
    let sink = g.S.Sink in PutSoFar l.piece l.rest (sink.taken l.initial.sink) (sink.taken l.sink) (sink.faults l.initial.sink) (sink.faults l.sink)

abbrev pub decreases-loop-rest : goal.decreases-loop-rest
decreases-loop-rest g l = length l.rest
