use Rattle.recover_expr.proofs.EntriesTaken.{lost_with, none_at, not_highest}
use Rattle.std.proofs.Common.{◌∙◌}
use Rattle.recover_expr.specs.Entries.{entries_of}
use Rattle.recover_expr.proofs.stack.Stack.pop_at.Goals as goal

pub returns-in_err-check-clause-lost : goal.returns-in_err-check-clause-lost
returns-in_err-check-clause-lost c =
    lost_with c.from_residual.result c.in_err-check.field-0.0 c.from_residual.ensures.1
    (λ wrong. none_at c.args.place (entries_of c.args.self.now) (λ one. not_highest c.len.result c.args.place 1 c.checked_sub.result c.eq.result c.checked_sub.ensures c.eq.ensures wrong (c.len.ensures ∙ one)))
    c.in_err-check.ensures.lost
