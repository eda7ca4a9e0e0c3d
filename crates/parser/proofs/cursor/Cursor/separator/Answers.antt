use Rattle.parser.proofs.Steps.{finds, lead_accept, lead_leave, lead_give}
use Rattle.parser.proofs.cursor.Cursor.separator.Goals as goal

pub returns-then-accept-clause-found : goal.returns-then-accept-clause-found
returns-then-accept-clause-found c = finds (lead_accept c.accept.ensures.accepted c.if-accept.true lead_give)

pub returns-then-accept-2-clause-found : goal.returns-then-accept-2-clause-found
returns-then-accept-2-clause-found c = finds (lead_leave c.accept.ensures.accepted c.if-accept.false (lead_accept c.accept-2.ensures.accepted c.if-accept-2.true lead_give))

pub returns-clause-found : goal.returns-clause-found
returns-clause-found c = finds (lead_leave c.accept.ensures.accepted c.if-accept.false (lead_leave c.accept-2.ensures.accepted c.if-accept-2.false lead_give))
