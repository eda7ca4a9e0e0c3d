-- From the source with its comparisons of locals turned.
use Rattle.recovers.proofs.PlainSources.{plain_are_flow}
use Rattle.recovers.proofs.plain_sources_are_flow.Goals as goal

pub returns : goal.returns
returns c = plain_are_flow c.turned_sources_are_alike.ensures
