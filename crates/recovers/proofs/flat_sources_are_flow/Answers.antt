-- From what their statements are.
use Rattle.recovers.proofs.FlatSources.{flat_are_flow}
use Rattle.recovers.proofs.flat_sources_are_flow.Goals as goal

pub returns : goal.returns
returns c = flat_are_flow
