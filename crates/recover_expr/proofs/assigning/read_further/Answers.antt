use Rattle.std.proofs.Common.{sym, ◌∙◌}
use Rattle.recover_expr.specs.Situation.{view_function, view_state}
use Rattle.recover_expr.specs.Stores.{view_stores}
use Rattle.recover_expr.proofs.Storing.{further_turn}
use Rattle.recover_expr.proofs.assigning.read_further.Goals as goal

pub loop-preserved : goal.loop-preserved
loop-preserved c =
    further_turn (view_function c.args.function.now) c.len-count.result c.loop.counter (view_stores c.loop.stores, c.loop.at, view_state c.loop.state)
    (view_stores c.further_store.new.stores, c.in_ok-at.at, view_state c.further_store.new.state) c.loop-test.true (sym c.are_all.ensures ∙ c.if-are_all.false) c.in_ok-at.ensures.next c.loop.invariant
