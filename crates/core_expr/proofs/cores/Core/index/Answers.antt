use Rattle.std.proofs.Common.{◌≡◌, ◌∙◌, ap, sym, ℕ, max, Some, [], ◌∷◌, ◌++◌}
use Rattle.std.proofs.lemmas.Result.{IfOk-from_err}
use Rattle.core_expr.specs.Making.{depth_of, depth_of_operand, made_over, and_last}
use Rattle.core_expr.specs.Values.{Value, OperandList, index_value, view_core, view_operand, view_operand_list, operands_of, no_operands, and_operand}
use Rattle.core_expr.proofs.CoreViews.{view_operands_list}
use Rattle.core_expr.proofs.Depths.{no_chain, first_key, last_key}
use Rattle.core_expr.proofs.Faults.{handed_on}
use Rattle.core_expr.proofs.cores.Core.index.Goals as goal

pub returns-in_err-depth_over-in-Index-clause-refused : goal.returns-in_err-depth_over-in-Index-clause-refused
returns-in_err-depth_over-in-Index-clause-refused c refusal =
    let key = view_operand c.args.key in
    let make : ℕ → Value = λ depth. index_value (view_core c.in-Index.on.value) (and_last (view_operand_list c.in-Index.keys) key) (max c.in-Index.depth depth) in
    rw (c.in-Index.is, view_operands_list) (ap (λ n. made_over n make) (sym c.depth.ensures) ∙ handed_on c.from_residual.result _ c.from_residual.ensures.1 c.in_err-depth_over-in-Index.ensures.refused refusal make)

pub returns-in_err-depth-in_default : goal.returns-in_err-depth-in_default
returns-in_err-depth-in_default c =
    let key = view_operand c.args.key in
    let on = view_core c.args.on in
    let make : ℕ → Value = λ depth. index_value on (and_operand key no_operands) depth in
    let deep : c.max.result ≡ max (depth_of on) (depth_of_operand key) = rw (c.depth-in_default.ensures, c.depth-in_default-2.ensures) at c.max.ensures in
    record {
      made = IfOk-from_err _ _ c.from_residual-in_err-depth-in_default.ensures.0;
      refused = λ refusal.
          first_key on key (no_chain c.args.on c.in_default.not-Index)
          ∙ ap (λ n. made_over n make) (sym deep) ∙ handed_on c.from_residual-in_err-depth-in_default.result _ c.from_residual-in_err-depth-in_default.ensures.1 c.in_err-depth-in_default.ensures.refused refusal make;
    }

pub returns-in_ok-push-in-Index-clause-made : goal.returns-in_ok-push-in-Index-clause-made
returns-in_ok-push-in-Index-clause-made c =
    let key = view_operand c.args.key in
    let on = view_core c.in-Index.on.value in
    let keys = view_operand_list c.in-Index.keys in
    let make : ℕ → Value = λ depth. index_value on (and_last keys key) (max c.in-Index.depth depth) in
    let over : OperandList → ℕ → Value = λ those depth. index_value on those depth in
    rw c.in-Index.is
    (ap (λ those. Some (over those c.max-depth.result)) (view_operands_list c.push.new.self ∙ ap operands_of c.in_ok-push-in-Index.ensures.items ∙ last_key c.in-Index.keys.operands.items c.args.key)
    ∙ ap (λ depth. Some (over (and_last keys key) depth)) c.max-depth.ensures
    ∙ c.in_ok-depth_over-in-Index.ensures.made make
    ∙ ap (λ n. made_over n make) c.depth.ensures
    ∙ ap (λ those. made_over (depth_of_operand key) (λ depth. over (and_last those key) (max c.in-Index.depth depth))) (sym (view_operands_list c.in-Index.keys)))

pub returns-in_ok-on-in_default : goal.returns-in_ok-on-in_default
returns-in_ok-on-in_default c =
    let key = view_operand c.args.key in
    let on = view_core c.args.on in
    let over : OperandList → ℕ → Value = λ those depth. index_value on those depth in
    let make = over (and_operand key no_operands) in
    let deep : c.max.result ≡ max (depth_of on) (depth_of_operand key) = rw (c.depth-in_default.ensures, c.depth-in_default-2.ensures) at c.max.ensures in
    let alone = ap operands_of (c.in_ok-push-in_default.ensures.items ∙ ap (λ those. those ++ c.args.key ∷ []) c.new-keys.ensures.items) in
    record {
      made =
          rw c.in_ok-on-in_default.ensures
          (ap (λ those. Some (over those c.in_ok-depth-in_default.depth)) (view_operands_list c.push-in_default.new.self ∙ alone)
          ∙ c.in_ok-depth-in_default.ensures.made make
          ∙ ap (λ n. made_over n make) deep
          ∙ sym (first_key on key (no_chain c.args.on c.in_default.not-Index)));
      refused = λ refusal. cc;
    }
