use Rattle.machine.proofs.PutPieces.{PutSoMany}
use Rattle.machine.proofs.machine.put_pieces.Given as goal

abbrev pub invariant-loop-piece : goal.invariant-loop-piece
invariant-loop-piece g l =
    let sink = g.S.Sink in PutSoMany l.piece-items l.piece-index (sink.taken l.initial.out) (sink.taken l.out) (sink.faults l.initial.out) (sink.faults l.out)
