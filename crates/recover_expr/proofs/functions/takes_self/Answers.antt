use Rattle.std.proofs.Common.{◌∙◌, sym, ap}
use Rattle.recover_expr.specs.Assigning.{is_self}
use Rattle.recover_expr.proofs.Listing.{takes_self_of}
use Rattle.recover_expr.proofs.functions.takes_self.Goals as goal

pub returns : goal.returns
returns c = c.is_self.ensures ∙ ap is_self c.items.ensures ∙ sym (takes_self_of c.args.body.now)
