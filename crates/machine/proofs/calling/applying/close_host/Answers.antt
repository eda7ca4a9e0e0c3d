use Rattle.std.proofs.Common.{sym}
use Rattle.machine.proofs.Outcomes.{closes_one, closes_none}
use Rattle.machine.proofs.calling.applying.close_host.Goals as goal

pub returns-in-Some : goal.returns-in-Some
returns-in-Some g c = closes_one c.args.name.now _ _ c.in-Some.host c.close.result c.in-Some.ensures.names_differ (sym c.in-Some.ensures.number) c.close.ensures.was_live c.close.ensures.closed

pub returns-in-None : goal.returns-in-None
returns-in-None g c = closes_none c.args.name.now _ (sym c.in-None.ensures.number)
