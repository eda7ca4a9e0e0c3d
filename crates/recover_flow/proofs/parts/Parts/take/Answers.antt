use Rattle.std.proofs.Common.{ap, sym, ◌∙◌}
use Rattle.std.specs.Prelude.{slice_set, option_map}
use Rattle.std.proofs.lemmas.List.{map-set}
use Rattle.std.proofs.lemmas.Option.{slice_get-map, slice_get_past}
use Rattle.recover_expr.specs.Drafts.{view_part}
use Rattle.recover_flow.specs.Parts.{parts_of, part_or_nothing}
use Rattle.recover_flow.proofs.parts.Parts.take.Goals as goal

pub returns-in-Some-clause-left : goal.returns-in-Some-clause-left
returns-in-Some-clause-left c =
    map-set view_part c.args.self.now.parts.items c.args.step c.replace.new.dest
    ∙ ap (λ part. slice_set (parts_of c.args.self.now) c.args.step (view_part part)) c.replace.ensures.after

pub returns-in-None-clause-part : goal.returns-in-None-clause-part
returns-in-None-clause-part c =
    let parts = c.args.self.now.parts.items in
    sym (ap part_or_nothing (slice_get-map view_part parts c.args.step ∙ ap (option_map view_part) (slice_get_past parts c.args.step c.in-None.ensures.item.3)))
