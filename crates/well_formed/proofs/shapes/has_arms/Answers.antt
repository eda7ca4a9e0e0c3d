use Rattle.std.proofs.Common.{sym, ap, ◌∙◌, not}
use Rattle.lua_tree.specs.WellFormed.{has_branches}
use Rattle.well_formed.proofs.Lists.{has_branches_is}
use Rattle.well_formed.proofs.shapes.has_arms.Goals as goal

pub returns : goal.returns
returns c = ap not c.is_empty.ensures ∙ sym (ap has_branches c.items.ensures.view ∙ has_branches_is c.items.result.now)
