-- A table stays when another one is made.
use Rattle.lua_model.specs.declared.Value.{Value}
use Rattle.runtime_rows.proofs.environment.Environment.metatable.Goals as goal

pub set_metatable-requires-clause-table : goal.set_metatable-requires-clause-table
set_metatable-requires-clause-table c = rw c.self-2.view_is ((c.in_ok-metatable.ensures.keeps (Value.Table c.args.table) c.requires).0)
