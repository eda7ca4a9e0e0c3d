use Rattle.std.proofs.Common.{rules}
use Rattle.lua_tree.proofs.TreeJoins.{pushed_stat, same_stats}
use Rattle.lua_tree.proofs.tree.Block.push.Goals as goal

pub returns-clause-view : goal.returns-clause-view
returns-clause-view c = search (rules, pushed_stat)

pub returns-clause-err_view : goal.returns-clause-err_view
returns-clause-err_view c = search (rules, same_stats)
