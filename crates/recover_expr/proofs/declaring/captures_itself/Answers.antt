use Rattle.std.proofs.Common.{◌∙◌, sym, rules, tests}
use Rattle.std.proofs.lemmas.Iterator.{YieldsList-from_slice}
use Rattle.std.proofs.lemmas.Iterator.Search.{any_from_yields_List}
use Rattle.recover_expr.specs.Declaring.{is_own_function}
use Rattle.recover_expr.specs.Entries.{view_entry}
use Rattle.recover_expr.proofs.Declarations.{any_own}
use Rattle.recover_expr.proofs.declaring.captures_itself.Goals as goal

pub returns : goal.returns
returns c =
    any_from_yields_List (λ entry. is_own_function (view_entry entry)) _ _ _ c.any.ensures.ran (YieldsList-from_slice c.args.entries.now (cc)) (λ x b q k. search (rules, tests))
    ∙ sym (any_own c.args.entries.now)
