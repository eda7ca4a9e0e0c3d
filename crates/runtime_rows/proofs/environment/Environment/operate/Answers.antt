-- An operation takes no table and no closure away.
use Rattle.std.proofs.Common.{length}
use Rattle.runtime_rows.proofs.Counts.{counts_stay}
use Rattle.runtime_rows.proofs.environment.Environment.operate.Goals as goal

pub invariant_of-self : goal.invariant_of-self
invariant_of-self c =
    counts_stay c.self.inside.heap c.operate.new.heap (length c.self.inside.table_names.items) c.self.inside.closures c.operate.ensures c.self.invariant
