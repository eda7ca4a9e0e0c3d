use Rattle.lua_table.proofs.Borders.{one_border}
use Rattle.lua_table.proofs.laws.one_border.Goals as goal

pub returns : goal.returns
returns c = one_border
