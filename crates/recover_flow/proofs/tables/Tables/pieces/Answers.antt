use Rattle.std.proofs.Common.{sym}
use Rattle.recover_flow.proofs.PieceTurns.{piece_stops, piece_turn}
use Rattle.recover_flow.proofs.tables.Tables.pieces.Goals as goal

pub loop-place-preserved : goal.loop-place-preserved
loop-place-preserved c =
    piece_turn c.args.self.now.steps.now c.args.at c.loop-place.place c.args.at.to c.loop-place.reach c.goes_behind.new.reach c.cut.new.reach c.loop-place.pieces.items c.cut.new.pieces.items
    c.loop-place-test.true c.if-not-goes_behind.ensures c.in_ok-cut.ensures.pieces c.in_ok-cut.ensures.begun c.loop-place.invariant

pub returns-then-not-goes_behind : goal.returns-then-not-goes_behind
returns-then-not-goes_behind c = piece_stops c.args.self.now.steps.now c.args.at c.loop-place.place c.args.at.to c.loop-place.reach c.loop-place.pieces.items c.loop-place-test.true (sym c.if-not-goes_behind.ensures) c.loop-place.invariant
