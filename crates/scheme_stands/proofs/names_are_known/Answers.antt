-- By what is ahead at the place of the name.
use Rattle.scheme_stands.proofs.Here.{name_is}
use Rattle.scheme_stands.proofs.names_are_known.Goals as goal

pub returns : goal.returns
returns c = name_is
