use Rattle.std.proofs.Common.{◌≡◌, ◌∙◌, ap, sym, ℕ, Some}
use Rattle.core_expr.specs.Making.{deepest_item, made_over}
use Rattle.core_expr.specs.Values.{Value, table_value, items_of, ItemList, view_item_list}
use Rattle.core_expr.proofs.CoreViews.{view_items_list}
use Rattle.core_expr.proofs.Faults.{handed_on}
use Rattle.core_expr.proofs.cores.Core.table.Goals as goal

pub returns-in_err-depth-clause-refused : goal.returns-in_err-depth-clause-refused
returns-in_err-depth-clause-refused c refusal =
    let over : ItemList → ℕ → Value = λ those depth. table_value those c.args.«open» depth in
    let make = over (view_item_list c.args.items) in
    let deep : c.deepest_item.result ≡ deepest_item (view_item_list c.args.items) = c.deepest_item.ensures ∙ ap (λ those. deepest_item (items_of those)) c.items.ensures.items in
    ap (λ n. made_over n make) (sym deep) ∙ handed_on c.from_residual.result _ c.from_residual.ensures.1 c.in_err-depth.ensures.refused refusal make

pub returns-clause-made : goal.returns-clause-made
returns-clause-made c =
    let over : ItemList → ℕ → Value = λ those depth. table_value those c.args.«open» depth in
    let make = over (view_item_list c.args.items) in
    let deep : c.deepest_item.result ≡ deepest_item (view_item_list c.args.items) = c.deepest_item.ensures ∙ ap (λ those. deepest_item (items_of those)) c.items.ensures.items in
    ap (λ those. Some (over those c.in_ok-depth.depth)) (view_items_list c.args.items) ∙ c.in_ok-depth.ensures.made make ∙ ap (λ n. made_over n make) deep
