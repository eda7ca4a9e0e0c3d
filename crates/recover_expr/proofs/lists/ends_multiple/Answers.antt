use Rattle.std.proofs.Common.{◌∙◌, sym}
use Rattle.core_expr.specs.Writing.{is_multiple}
use Rattle.recover_expr.proofs.Listing.{last_so}
use Rattle.recover_expr.proofs.lists.ends_multiple.Goals as goal

pub returns-in-Some : goal.returns-in-Some
returns-in-Some c = c.is_multiple.ensures ∙ sym (last_so is_multiple _ _ _ c.items.ensures.items c.in-Some.ensures.value)
