use Rattle.recover_flow.proofs.FlowApart.{comes_apart}
use Rattle.recover_flow.proofs.lying.flow_comes_apart.Goals as goal

pub returns : goal.returns
returns c = comes_apart
