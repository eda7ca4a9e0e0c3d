use Rattle.std.proofs.Common.{rules}
use Rattle.parser.proofs.Places.{tree_left, fault_left}
use Rattle.parser.proofs.parsing.parse.Goals as goal

pub returns-clause-only_tree : goal.returns-clause-only_tree
returns-clause-only_tree c = tree_left c.trees_are_one.ensures c.never_both.ensures c.args.tokens.now c.parse_tokens.result (search rules) (search rules)

pub returns-clause-only_fault : goal.returns-clause-only_fault
returns-clause-only_fault c = fault_left c.faults_are_one.ensures c.never_both.ensures c.args.tokens.now c.parse_tokens.result (search rules) (search rules)
