use Rattle.std.proofs.Common.{rules}
use Rattle.lua_tree.proofs.TreeJoins.{pushed_arm, same_arms}
use Rattle.lua_tree.proofs.tree.Arms.push.Goals as goal

pub returns-clause-view : goal.returns-clause-view
returns-clause-view c = search (rules, pushed_arm)

pub returns-clause-err_view : goal.returns-clause-err_view
returns-clause-err_view c = search (rules, same_arms)
