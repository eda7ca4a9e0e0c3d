use Rattle.std.proofs.Common.{rules}
use Rattle.lua_tree.proofs.TreeJoins.{pushed_item, same_items}
use Rattle.lua_tree.proofs.tree.Items.push.Goals as goal

pub returns-clause-view : goal.returns-clause-view
returns-clause-view c = search (rules, pushed_item)

pub returns-clause-err_view : goal.returns-clause-err_view
returns-clause-err_view c = search (rules, same_items)
