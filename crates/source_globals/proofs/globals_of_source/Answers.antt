-- By the walk over the scheme, with the mentions of the source.
use Rattle.source_globals.proofs.Whole.{globals_of_source}
use Rattle.source_globals.proofs.globals_of_source.Goals as goal

pub returns : goal.returns
returns c = globals_of_source
