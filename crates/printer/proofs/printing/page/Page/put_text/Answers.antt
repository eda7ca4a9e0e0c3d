use Rattle.std.proofs.Common.{arith}
use Rattle.printer.proofs.SheetLemmas.{put_text_is}
use Rattle.printer.proofs.printing.page.Page.put_text.Goals as goal

pub returns : goal.returns
returns c = let is = put_text_is c.args.text.now c.args.self.now (λ i. omega (arith, c.type_inv.text i)) in grind (arith, is)
