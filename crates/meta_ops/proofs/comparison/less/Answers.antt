-- The operands have no order of their own, so that their handler is asked.
use Rattle.std.proofs.Common.{sym, ◌∙◌}
use Rattle.lua_heap.specs.State.{own_store}
use Rattle.meta_ops.proofs.Orders.{less_asks, acts_alike}
use Rattle.meta_ops.proofs.comparison.less.Goals as goal

pub returns-clause-act : goal.returns-clause-act
returns-clause-act c =
    acts_alike c.ask_less.new.heap _ _ _ (sym (less_asks (own_store c.args.heap.now) _ _ (sym c.in_default.is ∙ c.plain_less.ensures))) c.ask_less.ensures.act
