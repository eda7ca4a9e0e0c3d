use Rattle.recover_flow.proofs.Rows.{reached_is}
use Rattle.recover_flow.proofs.tables.Tables.is_reached.Goals as goal

pub returns : goal.returns
returns c = reached_is c.args.self.now.steps.now c.args.place c.args.from c.args.to c.jumps_ahead.result.now c.any_number.result c.jumps_ahead.ensures c.any_number.ensures
