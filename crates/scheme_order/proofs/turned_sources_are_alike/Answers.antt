-- From what names mean in both, and what the scheme makes of them.
use Rattle.scheme_order.proofs.TurnedAlike.{turned_alike}
use Rattle.scheme_order.proofs.turned_sources_are_alike.Goals as goal

pub returns : goal.returns
returns c = turned_alike
