use Rattle.std.proofs.Common.{rules}
use Rattle.core_expr.specs.Standing.{view_writer}
use Rattle.core_expr.proofs.writer.Writer.new.Goals as goal

pub returns : goal.returns
unfolding view_writer
returns c = search rules
