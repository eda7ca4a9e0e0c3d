use Rattle.std.proofs.Common.{◌∙◌, ap, sym, refl, [], ◌∷◌, ◌++◌}
use Rattle.recover_expr.specs.Entries.{entries_of}
use Rattle.recover_expr.proofs.EntriesTaken.{lost_with, none_of_method, not_highest, highest, method_taken, no_method_taken}
use Rattle.recover_expr.proofs.stack.Stack.pop_method.Goals as goal

pub returns-in_err-check-clause-lost : goal.returns-in_err-check-clause-lost
returns-in_err-check-clause-lost c =
    lost_with c.from_residual.result c.in_err-check.field-0.0 c.from_residual.ensures.1
    (λ wrong. none_of_method c.args.place (entries_of c.args.self.now) (λ two. not_highest c.len.result c.args.place 2 c.checked_sub.result c.eq.result c.checked_sub.ensures c.eq.ensures wrong (c.len.ensures ∙ two)))
    c.in_err-check.ensures.lost

pub returns-in-Method-clause-taken : goal.returns-in-Method-clause-taken
returns-in-Method-clause-taken c =
    let two = highest c.len.result c.args.place 2 c.checked_sub.result c.eq.result c.checked_sub.ensures c.eq.ensures c.in_ok-check.ensures.ok in
    method_taken c.args.self.now.entries.items c.truncate.new.self.items c.pop.new.self.items c.args.place c.in-Method.on c.in-Method.name (sym c.len.ensures ∙ two) c.truncate.ensures.items
    (c.in-Some.ensures.items ∙ ap (λ e. c.pop.new.self.items ++ e ∷ []) c.in-Method.is)

pub returns : goal.returns
returns c =
    let two = highest c.len.result c.args.place 2 c.checked_sub.result c.eq.result c.checked_sub.ensures c.eq.ensures c.in_ok-check.ensures.ok in
    let none = no_method_taken c.args.self.now.entries.items c.truncate.new.self.items c.pop.new.self.items c.args.place c.in-Some.entry (sym c.len.ensures ∙ two) c.truncate.ensures.items c.in-Some.ensures.items c.in_default-entry.not-Method in
    record { base = refl; taken = tt; lost = none }
