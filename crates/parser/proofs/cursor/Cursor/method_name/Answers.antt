use Rattle.parser.proofs.Steps.{finds, refuses, lead_accept, lead_leave, lead_give, lead_call, lead_call_not}
use Rattle.parser.proofs.Passing.{handed_on}
use Rattle.parser.proofs.cursor.Cursor.method_name.Goals as goal

pub returns-then-not-accept-clause-found : goal.returns-then-not-accept-clause-found
returns-then-not-accept-clause-found c = finds (lead_leave c.accept.ensures.accepted c.if-not-accept.true lead_give)

pub returns-in_err-name-clause-refused : goal.returns-in_err-name-clause-refused
returns-in_err-name-clause-refused c = handed_on _ _ _ c.from_residual.ensures.1
    (refuses (lead_accept c.accept.ensures.accepted c.if-not-accept.false (lead_call_not c.in_err-name.ensures.refused)))

pub returns-clause-found : goal.returns-clause-found
returns-clause-found c = finds (lead_accept c.accept.ensures.accepted c.if-not-accept.false (lead_call c.in_ok-name.ensures.found lead_give))
