use Rattle.parser.proofs.Places.{tree_or_fault}
use Rattle.parser.proofs.laws.never_both.Goals as goal

pub returns : goal.returns
returns c = tree_or_fault
