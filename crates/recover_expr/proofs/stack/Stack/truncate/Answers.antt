use Rattle.std.proofs.Common.{◌∙◌, ap, sym}
use Rattle.std.proofs.lemmas.List.{take-map}
use Rattle.recover_expr.specs.Entries.{view_entry}
use Rattle.std.specs.Prelude.{map}
use Rattle.recover_expr.proofs.stack.Stack.truncate.Goals as goal

pub returns-clause-entries : goal.returns-clause-entries
returns-clause-entries c = ap (map view_entry) c.truncate.ensures.items ∙ sym (take-map view_entry c.args.count c.args.self.now.entries.items)
