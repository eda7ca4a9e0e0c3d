use Rattle.std.proofs.Common.{sym, ◌∙◌}
use Rattle.well_formed.proofs.Lists.{missing_ends}
use Rattle.well_formed.proofs.shapes.ends_item.Goals as goal

pub returns-in-Missing : goal.returns-in-Missing
returns-in-Missing c = rw c.in-Missing.is (c.is_empty.ensures ∙ sym (missing_ends c.args.behind.now))
