-- By the induction over the tree.
use Rattle.scheme_stands.proofs.Final.{scheme_stands}
use Rattle.scheme_stands.proofs.scheme_stands.Goals as goal

pub returns : goal.returns
returns c = λ source name fits. scheme_stands source name fits
