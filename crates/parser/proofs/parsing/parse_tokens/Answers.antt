use Rattle.parser.proofs.Places.{found_tree}
use Rattle.parser.proofs.parsing.parse_tokens.Goals as goal

pub returns-in-Ok-clause-tree : goal.returns-in-Ok-clause-tree
returns-in-Ok-clause-tree c = found_tree c.in-Ok.ensures.found
