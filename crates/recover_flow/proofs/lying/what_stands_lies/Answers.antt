use Rattle.recover_flow.proofs.ConditionsLie.{conditions_lie}
use Rattle.recover_flow.proofs.PlacesFit.{pieces_follow, ways_fit}
use Rattle.recover_flow.proofs.StandsLie.{what_stands_lies}
use Rattle.recover_flow.proofs.lying.what_stands_lies.Goals as goal

pub returns : goal.returns
returns c = what_stands_lies conditions_lie pieces_follow ways_fit
