use Rattle.std.proofs.Common.{rules}
use Rattle.parser.proofs.Steps.{steps}
use Rattle.parser.proofs.cursor.Cursor.field_of.Goals as goal

pub returns-in_err-take-clause-refused : goal.returns-in_err-take-clause-refused
returns-in_err-take-clause-refused c = search (rules, steps) depth 12

pub returns-in_err-name-clause-refused : goal.returns-in_err-name-clause-refused
returns-in_err-name-clause-refused c = search (rules, steps) depth 12

pub returns-clause-found : goal.returns-clause-found
returns-clause-found c = rw (c.in_ok-field.ensures, c.next_line-line.ensures) (search (rules, steps) depth 12)
