use Rattle.std.proofs.Common.{rules}
use Rattle.lua_tree.proofs.TreeJoins.{no_items}
use Rattle.lua_tree.proofs.tree.Items.new.Goals as goal

pub returns-clause-view : goal.returns-clause-view
returns-clause-view c = search (rules, no_items)
