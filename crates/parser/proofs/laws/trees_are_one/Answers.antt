use Rattle.parser.proofs.OneTree.{one_tree}
use Rattle.parser.proofs.laws.trees_are_one.Goals as goal

pub returns : goal.returns
returns c = one_tree
