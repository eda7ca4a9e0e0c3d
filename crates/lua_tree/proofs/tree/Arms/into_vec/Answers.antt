use Rattle.std.proofs.Common.{rules}
use Rattle.lua_tree.proofs.TreeViews.{view_arms_items}
use Rattle.lua_tree.proofs.tree.Arms.into_vec.Goals as goal

pub returns-clause-view : goal.returns-clause-view
returns-clause-view c = rw view_arms_items (search rules)
