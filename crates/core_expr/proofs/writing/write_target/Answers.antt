use Rattle.std.proofs.Common.{ap, sym, ◌∙◌}
use Rattle.core_expr.specs.Held.{place_of}
use Rattle.core_expr.specs.Targets.{view_target, can_write_target}
use Rattle.core_expr.specs.Values.{view_bodies}
use Rattle.core_expr.specs.declared.writing.Target.{Target}
use Rattle.core_expr.proofs.Faults.{handed_on}
use Rattle.core_expr.proofs.Worded.{target_key}
use Rattle.core_expr.proofs.writing.write_target.Goals as goal

pub returns-in_err-written-in-Index-clause-refused : goal.returns-in_err-written-in-Index-clause-refused
returns-in_err-written-in-Index-clause-refused c refusal =
    ap (λ t. can_write_target (place_of c.args.scope.now) (view_bodies c.args.bodies.now) (view_target t)) c.in-Index.is
    ∙ ap (λ those. can_write_target (place_of c.args.scope.now) (view_bodies those) (view_target (Target.Index c.in-Index.on c.in-Index.key))) (sym c.replace.ensures.value)
    ∙ target_key c.in-Index.on c.in-Index.key _ _ _ _ _ c.new-writer.ensures c.in_ok-on-in-Index.ensures.behind
    (handed_on c.from_residual-in_err-written-in-Index.result _ c.from_residual-in_err-written-in-Index.ensures.1 c.in_err-written-in-Index.ensures.refused refusal)
