-- By the induction over the tree.
use Rattle.scheme_lines.proofs.Whole.{alike, alike_on_one_line}
use Rattle.scheme_lines.proofs.lines_do_not_matter.Goals as goal

pub returns-clause-lines : goal.returns-clause-lines
returns-clause-lines c = λ a b e. alike_on_one_line a b e

pub returns-clause-semicolons : goal.returns-clause-semicolons
returns-clause-semicolons c = λ a b e. alike a b e
