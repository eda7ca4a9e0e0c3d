use Rattle.std.proofs.Common.{rules}
use Rattle.lua_tree.proofs.TreeViews.{view_items_items}
use Rattle.lua_tree.proofs.tree.Items.into_vec.Goals as goal

pub returns-clause-view : goal.returns-clause-view
returns-clause-view c = rw view_items_items (search rules)
