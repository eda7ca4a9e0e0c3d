use Rattle.std.proofs.Common.{◌∷◌, ◌++◌, [], sym, ap, subst, ◌∙◌}
use Rattle.lua_model.specs.declared.Value.{Value}
use Rattle.lua_table.specs.Rows.{AreFew}
use Rattle.lua_table.proofs.Lists.{one_few}
use Rattle.lua_table.proofs.few.Few.one.Goals as goal

pub invariant_of-result : goal.invariant_of-result
invariant_of-result c =
    let p : Value × Value = (c.args.key, c.args.value) in
    subst AreFew (sym (c.in_ok-push.ensures.items ∙ ap (λ ps. ps ++ p ∷ []) c.new-pairs.ensures.items)) (one_few p)
