use Rattle.std.proofs.Common.{Result, Ok, Err, OnErr, ap, subst, arith}
use Rattle.std.specs.List.{concat}
use Rattle.suite_io.specs.Taken.{Takes}
use Rattle.suite_io.specs.Parts.{TakesPart}
use Rattle.machine.proofs.PutPieces.{put_next, put_part}
use Rattle.machine.proofs.machine.put_pieces.Goals as goal

on_err : {A E P : Type 0} → (r : Result A E) → P → OnErr r P
on_err (Ok x) p = tt
on_err (Err e) p = p

pub returns-in_err-put_all-clause-part : goal.returns-in_err-put_all-clause-part
returns-in_err-put_all-clause-part g c =
    let taken = g.S.Sink.taken in
    let part = subst (TakesPart (taken c.loop-piece.out) (taken c.put_all.new.sink)) c.bytes.ensures c.in_err-put_all.ensures.part in
    on_err c.from_residual.result (subst (TakesPart (taken c.args.out.now) (taken c.put_all.new.sink)) (ap concat c.as_slice-piece-items.ensures.value) (put_part c.as_slice-piece-items.result.now c.loop-piece.piece-index c.piece-item.result (taken c.args.out.now) (taken c.loop-piece.out) (taken c.put_all.new.sink) _ _ (omega arith) c.piece-item.is c.loop-piece.invariant part))

pub loop-piece-preserved : goal.loop-piece-preserved
loop-piece-preserved g c =
    let taken = g.S.Sink.taken in
    let all = subst (Takes (taken c.loop-piece.out) (taken c.put_all.new.sink)) c.bytes.ensures c.in_ok-put_all.ensures.whole in
    put_next c.as_slice-piece-items.result.now c.loop-piece.piece-index c.piece-item.result (taken c.args.out.now) (taken c.loop-piece.out) (taken c.put_all.new.sink) _ _ _ (omega arith) c.piece-item.is c.loop-piece.invariant all c.put_all.ensures.never_falls
