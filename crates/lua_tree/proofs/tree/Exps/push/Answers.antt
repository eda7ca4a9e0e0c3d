use Rattle.std.proofs.Common.{rules}
use Rattle.lua_tree.proofs.TreeJoins.{pushed_exp, same_exps}
use Rattle.lua_tree.proofs.tree.Exps.push.Goals as goal

pub returns-clause-view : goal.returns-clause-view
returns-clause-view c = search (rules, pushed_exp)

pub returns-clause-err_view : goal.returns-clause-err_view
returns-clause-err_view c = search (rules, same_exps)
