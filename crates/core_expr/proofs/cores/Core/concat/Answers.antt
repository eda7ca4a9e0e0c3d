use Rattle.std.proofs.Common.{◌≡◌, ◌∙◌, ap, sym, ℕ, Some}
use Rattle.core_expr.specs.Making.{deepest, made_over}
use Rattle.core_expr.specs.Values.{Value, concat_value, values_of, Values, view_core_list}
use Rattle.core_expr.proofs.CoreViews.{view_cores_list}
use Rattle.core_expr.proofs.Faults.{handed_on}
use Rattle.core_expr.proofs.cores.Core.concat.Goals as goal

pub returns-in_err-depth-clause-refused : goal.returns-in_err-depth-clause-refused
returns-in_err-depth-clause-refused c refusal =
    let over : Values → ℕ → Value = λ those depth. concat_value those depth in
    let make = over (view_core_list c.args.operands) in
    let deep : c.deepest.result ≡ deepest (view_core_list c.args.operands) = c.deepest.ensures ∙ ap (λ those. deepest (values_of those)) c.items.ensures.items in
    ap (λ n. made_over n make) (sym deep) ∙ handed_on c.from_residual.result _ c.from_residual.ensures.1 c.in_err-depth.ensures.refused refusal make

pub returns-clause-made : goal.returns-clause-made
returns-clause-made c =
    let over : Values → ℕ → Value = λ those depth. concat_value those depth in
    let make = over (view_core_list c.args.operands) in
    let deep : c.deepest.result ≡ deepest (view_core_list c.args.operands) = c.deepest.ensures ∙ ap (λ those. deepest (values_of those)) c.items.ensures.items in
    ap (λ those. Some (over those c.in_ok-depth.depth)) (view_cores_list c.args.operands) ∙ c.in_ok-depth.ensures.made make ∙ ap (λ n. made_over n make) deep
