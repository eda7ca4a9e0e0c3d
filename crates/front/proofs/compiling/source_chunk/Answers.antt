use Rattle.std.proofs.Common.{rules}
use Rattle.lua_tree.specs.View.{view_tree}
use Rattle.front.proofs.OneSource.{scoping_bad}
use Rattle.front.proofs.compiling.source_chunk.Goals as goal

pub returns-in_err-scopes-clause-bad : goal.returns-in_err-scopes-clause-bad
returns-in_err-scopes-clause-bad c = λ fault e.
    scoping_bad c.args.bytes.now (view_tree c.in_ok-tree.tree) fault c.in_ok-tree.ensures.tree (search (rules, c.in_err-scopes.ensures.bad))
