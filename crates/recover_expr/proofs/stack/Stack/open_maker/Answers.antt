use Rattle.std.proofs.Common.{ap, ◌∙◌, refl, Some}
use Rattle.std.proofs.lemmas.Option.{slice_get_read}
use Rattle.recover_expr.proofs.EntriesAt.{opened_next, opened_same}
use Rattle.recover_expr.proofs.stack.Stack.open_maker.Goals as goal

pub returns-in-Maker-clause-entries : goal.returns-in-Maker-clause-entries
returns-in-Maker-clause-entries c =
    let item = c.in-Some.ensures.item in
    let there = slice_get_read c.args.self.now.entries.items _ c.args.place c.in-Some.entry.now refl item.3.0 item.1 in
    opened_next c.args.self.now.entries.items c.args.place c.in-Maker.items c.in-Maker.«open» (there ∙ ap Some c.in-Maker.is)

pub returns-in_default-entry : goal.returns-in_default-entry
returns-in_default-entry c =
    let item = c.in-Some.ensures.item in
    let there = slice_get_read c.args.self.now.entries.items _ c.args.place c.in-Some.entry.now refl item.3.0 item.1 in
    record { base = refl; entries = opened_same c.args.self.now.entries.items c.args.place c.in-Some.entry.now there c.in_default-entry.not-Maker }
