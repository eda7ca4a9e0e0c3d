use Rattle.std.proofs.Common.{ap, ◌∙◌}
use Rattle.recover_flow.specs.Tabled.{is_from}
use Rattle.recover_flow.proofs.Rows.{captured_is}
use Rattle.recover_flow.proofs.tables.Tables.ends_captured.Goals as goal

pub returns : goal.returns
returns c = c.is_from.ensures ∙ ap (is_from c.args.from) c.last_captured.ensures ∙ captured_is c.args.self.now.steps.now c.args.end c.args.from
