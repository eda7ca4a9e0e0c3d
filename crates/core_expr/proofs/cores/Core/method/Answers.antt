use Rattle.std.proofs.Common.{◌≡◌, ◌∙◌, ap, sym, ℕ, Some, max}
use Rattle.core_expr.specs.Making.{deepest, depth_of, made_over}
use Rattle.core_expr.specs.Values.{Value, method_value, values_of, Values, view_core, view_core_list}
use Rattle.core_expr.proofs.CoreViews.{view_cores_list}
use Rattle.core_expr.proofs.Faults.{handed_on}
use Rattle.core_expr.proofs.cores.Core.method.Goals as goal

pub returns-in_err-depth-clause-refused : goal.returns-in_err-depth-clause-refused
returns-in_err-depth-clause-refused c refusal =
    let over : Values → ℕ → Value = λ those depth. method_value (view_core c.args.on) c.args.name those c.args.«open» depth in
    let make = over (view_core_list c.args.args) in
    let most : c.deepest.result ≡ deepest (view_core_list c.args.args) = c.deepest.ensures ∙ ap (λ those. deepest (values_of those)) c.items.ensures.items in
    let deep : c.max.result ≡ max (depth_of (view_core c.args.on)) (deepest (view_core_list c.args.args)) = rw (c.depth.ensures, most) at c.max.ensures in
    ap (λ n. made_over n make) (sym deep) ∙ handed_on c.from_residual.result _ c.from_residual.ensures.1 c.in_err-depth.ensures.refused refusal make

pub returns-clause-made : goal.returns-clause-made
returns-clause-made c =
    let over : Values → ℕ → Value = λ those depth. method_value (view_core c.args.on) c.args.name those c.args.«open» depth in
    let make = over (view_core_list c.args.args) in
    let most : c.deepest.result ≡ deepest (view_core_list c.args.args) = c.deepest.ensures ∙ ap (λ those. deepest (values_of those)) c.items.ensures.items in
    let deep : c.max.result ≡ max (depth_of (view_core c.args.on)) (deepest (view_core_list c.args.args)) = rw (c.depth.ensures, most) at c.max.ensures in
    rw c.in_ok-on.ensures (ap (λ those. Some (over those c.in_ok-depth.depth)) (view_cores_list c.args.args) ∙ c.in_ok-depth.ensures.made make ∙ ap (λ n. made_over n make) deep)
