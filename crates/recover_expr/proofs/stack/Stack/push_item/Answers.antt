use Rattle.std.proofs.Common.{ap, ◌∙◌, refl, Some}
use Rattle.std.proofs.lemmas.Option.{slice_get_read}
use Rattle.recover_expr.proofs.EntriesAt.{item_next}
use Rattle.recover_expr.proofs.stack.Stack.push_item.Goals as goal

pub returns-clause-entries : goal.returns-clause-entries
returns-clause-entries c =
    let item = c.in-Some.ensures.item in
    let there = slice_get_read c.args.self.now.entries.items _ c.args.place c.in-Some.entry.now refl item.3.0 item.1 in
    item_next c.args.self.now.entries.items c.args.place c.in-Maker.items _ c.in-Maker.«open» c.args.item (there ∙ ap Some c.in-Maker.is) c.in_ok-push.ensures.items
