use Rattle.suite_io.proofs.TakenPieces.{put_next, rest_is}
use Rattle.suite_io.proofs.putting.put_all.Goals as goal

pub loop-rest-preserved : goal.loop-rest-preserved
loop-rest-preserved g c =
    put_next c.args.piece.now c.loop-rest.rest.now _ _ _ _ _ _ _ c.in_ok-taken.taken (rest_is c.in_ok-taken.taken c.loop-rest.rest.now) c.loop-rest.invariant c.in_ok-taken.ensures.taken c.put.ensures.never_falls
