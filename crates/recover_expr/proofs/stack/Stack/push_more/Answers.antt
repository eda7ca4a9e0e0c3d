use Rattle.std.proofs.Common.{◌∙◌}
use Rattle.recover_expr.specs.Entries.{entries_of, more_entry}
use Rattle.recover_expr.proofs.EntriesAt.{more_next}
use Rattle.recover_expr.proofs.stack.Stack.push_more.Goals as goal

pub loop-preserved : goal.loop-preserved
loop-preserved c = record {
  base = c.push.ensures.base ∙ c.loop.invariant.base;
  entries = more_next c.loop.counter more_entry (entries_of c.args.self.now) (entries_of c.loop.self) _ c.loop.invariant.entries c.in_ok-push.ensures.entries;
}
