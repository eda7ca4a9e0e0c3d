use Rattle.std.proofs.Common.{◌∙◌, ap, sym, ℕ}
use Rattle.core_expr.specs.Making.{made_over}
use Rattle.core_expr.specs.Values.{Value, binary_value, view_operand}
use Rattle.core_expr.proofs.Faults.{handed_on}
use Rattle.core_expr.proofs.cores.Core.binary.Goals as goal

pub returns-in_err-depth-clause-refused : goal.returns-in_err-depth-clause-refused
returns-in_err-depth-clause-refused c refusal =
    let make : ℕ → Value = λ depth. binary_value c.args.op (view_operand c.args.left) (view_operand c.args.right) depth in
    ap (λ n. made_over n make) (sym (rw (c.depth.ensures, c.depth-2.ensures) at c.max.ensures)) ∙ handed_on c.from_residual.result _ c.from_residual.ensures.1 c.in_err-depth.ensures.refused refusal make

pub returns-clause-made : goal.returns-clause-made
returns-clause-made c =
    let make : ℕ → Value = λ depth. binary_value c.args.op (view_operand c.args.left) (view_operand c.args.right) depth in
    rw (c.in_ok-boxed_operand.ensures, c.in_ok-boxed_operand-2.ensures) (c.in_ok-depth.ensures.made make ∙ ap (λ n. made_over n make) (rw (c.depth.ensures, c.depth-2.ensures) at c.max.ensures))
