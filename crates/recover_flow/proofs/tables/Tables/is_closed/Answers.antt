use Rattle.std.proofs.Common.{ap, ◌∙◌}
use Rattle.std.specs.List.{list_any}
use Rattle.recover_flow.specs.Cutting.{is_of_other}
use Rattle.recover_flow.proofs.Spans.{closed_is}
use Rattle.recover_flow.proofs.tables.Tables.is_closed.Goals as goal

pub returns : goal.returns
returns c = c.any_of_other.ensures ∙ ap (list_any (is_of_other c.args.at)) c.spans.ensures ∙ closed_is c.args.self.now.steps.now c.args.at c.args.declaration
