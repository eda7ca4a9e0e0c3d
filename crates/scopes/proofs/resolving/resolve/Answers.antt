use Rattle.std.proofs.Common.{rules}
use Rattle.lua_tree.specs.View.{view_tree}
use Rattle.lua_tree.specs.Resolved.{resolved}
use Rattle.scopes.proofs.OneAnswer.{scopes_left, fault_left}
use Rattle.scopes.proofs.resolving.resolve.Goals as goal

pub returns-clause-only_scopes : goal.returns-clause-only_scopes
returns-clause-only_scopes c = scopes_left (view_tree c.args.tree.now) (resolved (view_tree c.args.tree.now)) _ (search rules) (search rules)

pub returns-clause-only_fault : goal.returns-clause-only_fault
returns-clause-only_fault c = fault_left (view_tree c.args.tree.now) _ (search rules) (search rules)
