use Rattle.same_flow.proofs.FlowSame.{same_flow}
use Rattle.same_flow.proofs.RenamedStatements.{statements_rename}
use Rattle.same_flow.proofs.same_steps_make_the_same.Goals as goal

pub returns : goal.returns
returns c = same_flow statements_rename
