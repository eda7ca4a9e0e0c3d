use Rattle.lua_table.proofs.Walks.{next_walks}
use Rattle.lua_table.proofs.laws.next_walks.Goals as goal

pub returns : goal.returns
returns c = next_walks
