use Rattle.std.proofs.Common.{rules, refl}
use Rattle.parser.proofs.Steps.{steps, finds, lead_skip, lead_give}
use Rattle.parser.proofs.Looks.{lead_name}
use Rattle.parser.proofs.cursor.Cursor.name.Goals as goal

pub returns-in_default-clause-refused : goal.returns-in_default-clause-refused
returns-in_default-clause-refused c = search (rules, steps, lead_name, c.in_default.ensures) depth 12

pub returns-clause-found : goal.returns-clause-found
returns-clause-found c = rw c.in_ok-copy.ensures (finds (lead_name c.in-Some.ensures (lead_skip c.in_ok-take.ensures.taken refl lead_give)))
