use Rattle.recover_flow.proofs.FlowFound.{flow_is_found}
use Rattle.recover_flow.proofs.lying.flow_is_found.Goals as goal

pub returns : goal.returns
returns c = flow_is_found
