use Rattle.std.proofs.Common.{◌∙◌}
use Rattle.core_expr.specs.Values.{view_core}
use Rattle.recover_expr.specs.Entries.{entries_of}
use Rattle.recover_expr.proofs.Makers.{hold_turn}
use Rattle.recover_expr.proofs.constructors.hold_items.Goals as goal

pub loop-at-preserved : goal.loop-at-preserved
loop-at-preserved c = record {
  base = c.push_item.ensures.base ∙ c.hold.ensures.base ∙ c.loop-at.invariant.base;
  held = hold_turn c.args.place c.len-at-end.result c.loop-at.at (entries_of c.loop-at.stack) (entries_of c.hold.new.self) (entries_of c.push_item.new.self) (view_core c.in_ok-core.core)
      c.loop-at-test.true c.in_ok-core.ensures.taken c.in_ok-push_item.ensures.entries c.loop-at.invariant.held;
}
