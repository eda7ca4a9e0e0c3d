use Rattle.std.proofs.Common.{sym, ap, ◌∙◌, not}
use Rattle.lua_tree.specs.WellFormed.{has_expressions}
use Rattle.well_formed.proofs.Lists.{has_expressions_is}
use Rattle.well_formed.proofs.shapes.has_expressions.Goals as goal

pub returns : goal.returns
returns c = ap not c.is_empty.ensures ∙ sym (ap has_expressions c.items.ensures.view ∙ has_expressions_is c.items.result.now)
