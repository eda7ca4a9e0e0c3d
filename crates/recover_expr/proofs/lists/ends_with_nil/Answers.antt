use Rattle.std.proofs.Common.{◌∙◌, sym, refl}
use Rattle.recover_expr.specs.Lists.{is_nil}
use Rattle.recover_expr.proofs.Listing.{last_so}
use Rattle.recover_expr.proofs.lists.ends_with_nil.Goals as goal

pub returns-in-Some : goal.returns-in-Some
returns-in-Some c = c.is_nil.ensures ∙ sym (last_so is_nil c.args.cores.now c.args.cores.now _ refl c.in-Some.ensures.value)
