use Rattle.decompile.proofs.Given.{text_is_source}
use Rattle.decompile.proofs.decompiling.printed.Goals as goal

pub returns-clause-given : goal.returns-clause-given
returns-clause-given c tree = c.compared.ensures.given (text_is_source c.lines_do_not_matter.ensures.lines tree (c.in_ok-text.ensures.read c.requires.formed))
