use Rattle.std.proofs.Common.{rules}
use Rattle.parser.proofs.Steps.{steps}
use Rattle.parser.proofs.cursor.Cursor.break_statement.Goals as goal

pub returns-in_err-take-clause-refused : goal.returns-in_err-take-clause-refused
returns-in_err-take-clause-refused c = search (rules, steps) depth 12

pub returns-clause-found : goal.returns-clause-found
returns-clause-found c = search (rules, steps) depth 12
