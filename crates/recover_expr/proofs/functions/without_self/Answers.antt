use Rattle.recover_expr.proofs.Listing.{without_self_of}
use Rattle.recover_expr.proofs.functions.without_self.Goals as goal

pub returns : goal.returns
returns c = without_self_of c.args.body _ c.all_but_first.ensures
