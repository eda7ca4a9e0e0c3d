use Rattle.std.proofs.Common.{ap, sym, ◌∙◌, refl, Some}
use Rattle.std.proofs.lemmas.Option.{slice_get_read, slice_get_past}
use Rattle.recover_expr.proofs.EntriesAt.{hold_some, hold_lost, hold_none}
use Rattle.recover_expr.proofs.EntriesTaken.{lost_where}
use Rattle.recover_expr.proofs.stack.Stack.hold.Goals as goal

pub returns-in-Some-clause-taken : goal.returns-in-Some-clause-taken
returns-in-Some-clause-taken c =
    let item = c.in-Some.ensures.item in
    let there = slice_get_read c.args.self.now.entries.items _ c.args.place c.in-Some.entry.now refl item.3.0 item.1 ∙ ap Some (sym c.replace.ensures.value) in
    hold_some _ c.args.place c.replace.result _ _ there c.replace.ensures.after c.into_core.ensures.made

pub returns-in-Some-clause-lost : goal.returns-in-Some-clause-lost
returns-in-Some-clause-lost c =
    let item = c.in-Some.ensures.item in
    let there = slice_get_read c.args.self.now.entries.items _ c.args.place c.in-Some.entry.now refl item.3.0 item.1 ∙ ap Some (sym c.replace.ensures.value) in
    lost_where c.into_core.result (hold_lost _ c.args.place c.replace.result there) c.into_core.ensures.lost

pub returns-in-None-clause-lost : goal.returns-in-None-clause-lost
returns-in-None-clause-lost c =
    let entries = c.args.self.now.entries.items in
    hold_none entries c.args.place (slice_get_past entries c.args.place c.in-None.ensures.item.3)
