use Rattle.lua_table.proofs.Equality.{same_decides}
use Rattle.lua_table.proofs.laws.same_value_is_equality.Goals as goal

pub returns : goal.returns
returns c = same_decides
