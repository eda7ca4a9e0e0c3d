use Rattle.std.proofs.Common.{rules}
use Rattle.lua_tree.proofs.TreeJoins.{no_stats}
use Rattle.lua_tree.proofs.tree.Block.new.Goals as goal

pub returns-clause-view : goal.returns-clause-view
returns-clause-view c = search (rules, no_stats)
