use Rattle.std.proofs.Common.{rules}
use Rattle.recover_flow.proofs.Rows.{row_missing, row_noted}
use Rattle.recover_flow.proofs.tables.note.Goals as goal

pub returns-in_ok-push : goal.returns-in_ok-push
returns-in_ok-push g c = row_noted c.args.item (λ row. row.items) c.args.lists.now.items c.args.place c.in-Some.place c.in-Some-get_mut.list.now c.push.new.self c.in-Some.is (search rules) (search rules) (search rules)

pub returns-in_default-get_mut : goal.returns-in_default-get_mut
returns-in_default-get_mut g c = row_missing c.args.item (λ row. row.items) c.args.lists.now.items c.args.place c.in-Some.place c.in-Some.is (search rules)
