use Rattle.core_expr.specs.Standing.{view_writer}
use Rattle.core_expr.proofs.writer.Writer.take_constant.Goals as goal

pub returns : goal.returns
unfolding view_writer
returns c = rw c.with_constant-self.ensures
