use Rattle.std.proofs.Common.{ap, ◌∙◌}
use Rattle.std.proofs.lemmas.List.{map-set}
use Rattle.std.specs.Prelude.{slice_set}
use Rattle.core_expr.specs.Values.{view_left, view_bodies}
use Rattle.core_expr.proofs.bodies.Bodies.take.Goals as goal

pub returns-clause-left : goal.returns-clause-left
returns-clause-left c = map-set view_left c.args.self.now.bodies.items c.args.number c.take.new.self ∙ ap (λ f. slice_set (view_bodies c.args.self.now) c.args.number (view_left f)) c.take.ensures.after
