use Rattle.std.proofs.Common.{arith}
use Rattle.std.proofs.lemmas.Grind.{common_steps}
use Rattle.printer.proofs.SheetLemmas.{line_start_some}
use Rattle.printer.proofs.printing.page.Page.start_line.Goals as goal

pub returns : goal.returns
returns c = grind (arith, common_steps, line_start_some)
