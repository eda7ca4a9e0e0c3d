use Rattle.std.proofs.Common.{rules}
use Rattle.lua_tree.proofs.TreeViews.{view_exps_items}
use Rattle.lua_tree.proofs.tree.Exps.from_vec.Goals as goal

pub returns-clause-view : goal.returns-clause-view
returns-clause-view c = rw view_exps_items (search rules)
