use Rattle.lua_tree.proofs.Tilings.{one_list}
use Rattle.lua_tree.proofs.laws.tokens_are_one.Goals as goal

pub returns : goal.returns
returns c = one_list
