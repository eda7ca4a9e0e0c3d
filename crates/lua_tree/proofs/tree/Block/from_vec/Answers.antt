use Rattle.std.proofs.Common.{rules}
use Rattle.lua_tree.proofs.TreeViews.{view_block_items}
use Rattle.lua_tree.proofs.tree.Block.from_vec.Goals as goal

pub returns-clause-view : goal.returns-clause-view
returns-clause-view c = rw view_block_items (search rules)
