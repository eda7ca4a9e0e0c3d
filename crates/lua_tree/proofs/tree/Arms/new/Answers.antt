use Rattle.std.proofs.Common.{rules}
use Rattle.lua_tree.proofs.TreeJoins.{no_arms}
use Rattle.lua_tree.proofs.tree.Arms.new.Goals as goal

pub returns-clause-view : goal.returns-clause-view
returns-clause-view c = search (rules, no_arms)
