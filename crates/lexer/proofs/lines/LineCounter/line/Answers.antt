use Rattle.lexer.proofs.LineLemmas.{counted_line}
use Rattle.lexer.proofs.lines.LineCounter.line.Goals as goal

pub returns : goal.returns
returns c = counted_line c.args.self.now
