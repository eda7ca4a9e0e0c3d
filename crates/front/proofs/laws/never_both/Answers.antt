use Rattle.front.proofs.OneSource.{chunk_or_fault}
use Rattle.front.proofs.laws.never_both.Goals as goal

pub returns : goal.returns
returns c = chunk_or_fault c.tokens_are_one.ensures c.never_both.ensures c.trees_are_one.ensures c.never_both-2.ensures
