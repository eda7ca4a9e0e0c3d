use Rattle.std.proofs.Common.{◌∙◌, ap, take}
use Rattle.std.specs.List.{list_any}
use Rattle.core_expr.specs.Writing.{is_literal}
use Rattle.core_expr.proofs.OwnParts.{constants_are, first_small}
use Rattle.core_expr.proofs.literals.is_small.Goals as goal

pub returns : goal.returns
returns c =
    let constants = c.items-constants.result.now in
    c.is_among.ensures
    ∙ ap (list_any (is_literal c.args.literal.now)) (first_small constants c.min-count.result c.min-count.ensures)
    ∙ ap (λ those. list_any (is_literal c.args.literal.now) (take 256 those)) (c.items-constants.ensures ∙ constants_are c.args.scope.now.proto.now)
