use Rattle.std.proofs.Common.{◌∙◌, ap}
use Rattle.recover_flow.specs.Tabled.{is_before}
use Rattle.recover_flow.proofs.Numbers.{any_is}
use Rattle.recover_flow.proofs.tables.any_number.Goals as goal

pub returns : goal.returns
returns c = λ holds all. c.is_before.ensures ∙ ap (is_before c.args.to) c.item.ensures ∙ any_is c.args.numbers.now holds c.args.from c.args.to c.count_below.result c.count_below.ensures all
