use Rattle.parser.proofs.Places.{unexpected_left, deep_left, refused_unexpected, refused_deep}
use Rattle.parser.proofs.parsing.fault_of.Goals as goal

pub overflow_sub-result : goal.overflow_sub-result
overflow_sub-result c = unexpected_left c.args.tokens.now c.args.rest.now (rw c.in-Unexpected.is at c.requires)

pub overflow_sub-result-in-TooDeep : goal.overflow_sub-result-in-TooDeep
overflow_sub-result-in-TooDeep c = deep_left c.args.tokens.now c.args.rest.now (rw c.in-TooDeep.is at c.requires)

pub returns-in-Unexpected : goal.returns-in-Unexpected
returns-in-Unexpected c = refused_unexpected c.args.tokens.now c.args.rest.now (rw c.in-Unexpected.is at c.requires)

pub returns-in-TooDeep : goal.returns-in-TooDeep
returns-in-TooDeep c = refused_deep c.args.tokens.now c.args.rest.now (rw c.in-TooDeep.is at c.requires)
