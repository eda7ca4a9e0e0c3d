-- What lies on all steps of a function is found, no deeper than is counted for it.
use Rattle.recover_flow.specs.Flow.{FlowIsFound}
use Rattle.recover_flow.specs.Lying.{AreOrdered}
use Rattle.recover_flow.specs.declared.regions.BodyAt.{BodyAt}
use Rattle.recover_flow.proofs.BodiesFound.{AnyStatement, LighterFound, StatementsFound, function_found}
use Rattle.recover_flow.proofs.ClosesNamed.{closes_are_named}
use Rattle.recover_flow.proofs.FlowInside.{ClosesAreNamed}
use Rattle.recover_flow.proofs.FlowOrdered.{function_ordered}
use Rattle.recover_flow.proofs.HardFound.{hard_found}
use Rattle.recover_flow.proofs.LastIf.{last_if_found}
use Rattle.recover_flow.proofs.LogicFound.{logic_is_found}
use Rattle.recover_flow.proofs.OncePieces.{piece_found}

pub flow_is_found : FlowIsFound
flow_is_found steps small levelled before behind beginning flow lies levels =
    function_found steps levelled named statements
    (λ at lighter. hard_found steps levelled named at (statements at lighter) (last_if_found steps levelled small logic_is_found named at lighter)) small before behind beginning flow lies levels
  where
    named : ClosesAreNamed steps
    named = closes_are_named steps flow before behind beginning lies

    ordered : AreOrdered steps
    ordered = function_ordered steps flow before behind lies

    statements : (at : BodyAt) → LighterFound steps at → StatementsFound steps at (AnyStatement steps)
    statements at lighter piece s before between ends first bound any is = piece_found steps levelled small logic_is_found named ordered at lighter s piece before between ends first bound is
