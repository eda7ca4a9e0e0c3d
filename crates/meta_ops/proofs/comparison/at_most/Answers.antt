-- The operands have no order of their own and no handler `__le`, so that the other handler is asked.
use Rattle.std.proofs.Common.{sym, ap, ◌∙◌}
use Rattle.lua_model.specs.Datum.{is_nil}
use Rattle.lua_heap.specs.State.{own_store}
use Rattle.meta_ops.proofs.Orders.{at_most_swaps, acts_alike}
use Rattle.meta_ops.proofs.comparison.at_most.Goals as goal

pub returns-then-is_nil-clause-act : goal.returns-then-is_nil-clause-act
returns-then-is_nil-clause-act c =
    acts_alike c.ask_not_greater.new.heap _ _ _
    (at_most_swaps (own_store c.args.heap.now) _ _ (sym c.in_default.is ∙ c.plain_at_most.ensures) (ap is_nil (sym c.common_handler-handler.ensures.value) ∙ sym (c.is_nil.ensures c.args.heap.now) ∙ c.if-is_nil.true))
    c.ask_not_greater.ensures.act
