use Rattle.lua_tree.proofs.OneLine.{spelling_is_spelled}
use Rattle.lua_tree.proofs.laws.spelling_is_spelled.Goals as goal

pub returns : goal.returns
returns c = spelling_is_spelled
