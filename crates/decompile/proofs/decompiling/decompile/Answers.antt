-- From what is recovered of the chunk of a source.
use Rattle.std.proofs.lemmas.Result.{err_from_is_err_and}
use Rattle.lua_tree.specs.View.{view_tree}
use Rattle.proto.specs.View.{view_proto}
use Rattle.decompile.proofs.RecoveredChunks.{RecoveryLaws, recovered_given, recovered_lost}
use Rattle.decompile.proofs.decompiling.decompile.Goals as goal

pub returns-in_err-tree-clause-recoverable : goal.returns-in_err-tree-clause-recoverable
returns-in_err-tree-clause-recoverable c =
    let laws : RecoveryLaws = record { flat = c.flat_sources_are_flow.ensures; plain = c.plain_sources_are_flow.ensures; flow = c.flow_sources_are_recovered.ensures } in
    let p = err_from_is_err_and c.from_residual.result c.from_residual.ensures.1 in
    λ is. rw (p.1, p.2) (recovered_lost laws (view_proto c.args.proto.now) c.requires.short is _ c.in_err-tree.ensures.only)

pub returns-clause-recoverable : goal.returns-clause-recoverable
returns-clause-recoverable c =
    let laws : RecoveryLaws = record { flat = c.flat_sources_are_flow.ensures; plain = c.plain_sources_are_flow.ensures; flow = c.flow_sources_are_recovered.ensures } in
    λ is. c.printed.ensures.given (recovered_given laws (view_proto c.args.proto.now) c.requires.short is (view_tree c.in_ok-tree.tree) c.in_ok-tree.ensures.formed c.in_ok-tree.ensures.found)
