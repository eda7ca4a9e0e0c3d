use Rattle.std.proofs.Common.{◌∙◌}
use Rattle.recover_flow.proofs.Numbers.{last_is}
use Rattle.recover_flow.proofs.tables.last_number.Goals as goal

pub returns : goal.returns
returns c = λ holds all. c.item_before.ensures ∙ last_is c.args.numbers.now holds c.args.end c.count_below.result c.count_below.ensures all
