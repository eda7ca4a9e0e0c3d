use Rattle.lua_table.proofs.Writes.{set_same}
use Rattle.lua_table.proofs.laws.set_then_get.Goals as goal

pub returns : goal.returns
returns c = set_same
