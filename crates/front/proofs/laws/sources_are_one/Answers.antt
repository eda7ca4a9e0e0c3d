use Rattle.front.proofs.OneSource.{one_source}
use Rattle.front.proofs.laws.sources_are_one.Goals as goal

pub returns : goal.returns
returns c = one_source c.tokens_are_one.ensures c.trees_are_one.ensures
