-- By the marks of the place where the closure is made.
use Rattle.scheme_stands.proofs.Here.{captures_are}
use Rattle.scheme_stands.proofs.captures_are_known.Goals as goal

pub returns : goal.returns
returns c = captures_are
