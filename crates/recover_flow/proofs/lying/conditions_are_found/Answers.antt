use Rattle.recover_flow.proofs.LogicFound.{logic_is_found}
use Rattle.recover_flow.proofs.lying.conditions_are_found.Goals as goal

pub returns : goal.returns
returns c = logic_is_found
