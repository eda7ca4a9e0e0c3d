-- The test of std is that of the definitions.
use Rattle.meta_ops.proofs.Orders.{is_text_less}
use Rattle.meta_ops.proofs.comparison.text_less.Goals as goal

pub returns : goal.returns
returns c = is_text_less c.args.a.now c.args.b.now c.lt.result c.lt.ensures
