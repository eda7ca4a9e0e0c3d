use Rattle.lua_tree.proofs.Cuts.{one_line}
use Rattle.lua_tree.proofs.laws.lines_are_one.Goals as goal

pub returns : goal.returns
returns c = one_line
