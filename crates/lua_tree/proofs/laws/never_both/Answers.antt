use Rattle.lua_tree.proofs.Exclusion.{not_both}
use Rattle.lua_tree.proofs.laws.never_both.Goals as goal

pub returns : goal.returns
returns c = not_both
