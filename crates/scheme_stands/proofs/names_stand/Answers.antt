-- By the walk over the whole tree, from what the scheme gives.
use Rattle.scheme.specs.Scheme.{scheme}
use Rattle.scheme_stands.proofs.Final.{scheme_stands}
use Rattle.scheme_stands.proofs.Lawful.{main_lawful}
use Rattle.scheme_stands.proofs.names_stand.Goals as goal

pub returns : goal.returns
returns c = λ source name formed scoped fits. main_lawful source (scheme source name) formed scoped (scheme_stands source name fits)
