use Rattle.std.proofs.Common.{◌-◌, length, take, sym, ◌∙◌}
use Rattle.std.proofs.lemmas.Bool.{eqb-false}
use Rattle.codegen.proofs.FieldPaths.{two_of_front, path_from-last}
use Rattle.codegen.proofs.paths.bare_target.Goals as goal

pub returns-in-len1-up-clause-target : goal.returns-in-len1-up-clause-target
returns-in-len1-up-clause-target c =
    let two = two_of_front c.args.path.now c.in-len1-up.len_at_least (eqb-false (length (take (length c.args.path.now - 1) c.args.path.now)) 0 (sym c.if-not-is_empty.ensures)) in
    rw (path_from-last c.args.line c.args.path.now c.bytes.result.now c.last-item.result two (c.bytes.ensures ∙ c.last-item.is)) c.field_target.ensures.target

pub returns-in-len1-up-clause-made : goal.returns-in-len1-up-clause-made
returns-in-len1-up-clause-made c =
    let two = two_of_front c.args.path.now c.in-len1-up.len_at_least (eqb-false (length (take (length c.args.path.now - 1) c.args.path.now)) 0 (sym c.if-not-is_empty.ensures)) in
    rw (path_from-last c.args.line c.args.path.now c.bytes.result.now c.last-item.result two (c.bytes.ensures ∙ c.last-item.is)) c.field_target.ensures.made
