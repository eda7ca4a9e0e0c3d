use Rattle.std.proofs.Common.{sym, ◌∙◌}
use Rattle.recover_flow.specs.Parts.{parts_of}
use Rattle.recover_flow.proofs.Joinings.{gone_with, joined_is}
use Rattle.recover_flow.proofs.expressions.+expression.Goals as goal

pub expression-returns-in_ok-joined-in-Joined-clause-made :
    goal.expression-returns-in_ok-joined-in-Joined-clause-made
expression-returns-in_ok-joined-in-Joined-clause-made t c =
    c.in_ok-joined-in-Joined.ensures.made ∙ joined_is _ c.in-Joined.junction c.in-Joined.conditions _ (parts_of c.args.parts.now) c.in-Joined.is c.deref.ensures.value

pub expression-returns-in_err-joined-in-Joined-clause-gone :
    goal.expression-returns-in_err-joined-in-Joined-clause-gone
expression-returns-in_err-joined-in-Joined-clause-gone t c =
    let same = joined_is _ c.in-Joined.junction c.in-Joined.conditions _ (parts_of c.args.parts.now) c.in-Joined.is c.deref.ensures.value in
    gone_with c.from_residual-in_err-joined-in-Joined.result _ c.from_residual-in_err-joined-in-Joined.ensures.1 (λ none. sym same ∙ none) c.in_err-joined-in-Joined.ensures.gone
