use Rattle.std.proofs.Common.{sym, ◌∙◌}
use Rattle.codegen.proofs.Endings.{ends_open-by_last}
use Rattle.codegen.proofs.lists.ends_open.Goals as goal

pub returns-in-len1-up : goal.returns-in-len1-up
returns-in-len1-up c = c.is_multiple.ensures ∙ sym (ends_open-by_last c.args.list.now c.last-item.result c.in-len1-up.len_at_least c.last-item.is)
