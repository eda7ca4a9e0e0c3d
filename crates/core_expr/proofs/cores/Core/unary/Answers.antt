use Rattle.std.proofs.Common.{◌∙◌, ap, sym, ℕ}
use Rattle.core_expr.specs.Making.{made_over}
use Rattle.core_expr.specs.Values.{Value, unary_value, view_core}
use Rattle.core_expr.proofs.Faults.{handed_on}
use Rattle.core_expr.proofs.cores.Core.unary.Goals as goal

pub returns-in_err-depth-clause-refused : goal.returns-in_err-depth-clause-refused
returns-in_err-depth-clause-refused c refusal =
    let make : ℕ → Value = λ depth. unary_value c.args.op (view_core c.args.of) depth in
    ap (λ n. made_over n make) (sym c.depth.ensures) ∙ handed_on c.from_residual.result _ c.from_residual.ensures.1 c.in_err-depth.ensures.refused refusal make

pub returns-clause-made : goal.returns-clause-made
returns-clause-made c =
    let make : ℕ → Value = λ depth. unary_value c.args.op (view_core c.args.of) depth in
    rw c.in_ok-of.ensures (c.in_ok-depth.ensures.made make ∙ ap (λ n. made_over n make) c.depth.ensures)
