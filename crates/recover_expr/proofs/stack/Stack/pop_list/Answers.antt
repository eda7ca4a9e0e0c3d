use Rattle.recover_expr.specs.Entries.{entries_of}
use Rattle.recover_expr.proofs.EntriesTaken.{list_open}
use Rattle.recover_expr.proofs.stack.Stack.pop_list.Goals as goal

pub returns-in_default-clause-taken : goal.returns-in_default-clause-taken
returns-in_default-clause-taken c =
    list_open c.args.first c.args.field (entries_of c.args.self.now) (entries_of c.pop_open.new.self) (entries_of c.pop_from.new.self) _ _ c.in_ok-last.last c.in_default.ensures c.in_ok-last.ensures.taken c.in_ok-cores.ensures.taken
    c.in_ok-push.ensures.items
