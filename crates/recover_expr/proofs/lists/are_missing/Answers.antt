use Rattle.std.proofs.Common.{◌∙◌, sym, rules, tests}
use Rattle.std.proofs.lemmas.Iterator.{YieldsList-from_slice}
use Rattle.std.proofs.lemmas.Iterator.Search.{all_from_yields_List}
use Rattle.std.proofs.lemmas.List.Folds.{list_all-map}
use Rattle.recover_expr.specs.Entries.{view_entry}
use Rattle.recover_expr.specs.Lists.{is_missing}
use Rattle.recover_expr.proofs.lists.are_missing.Goals as goal

pub returns : goal.returns
returns c =
    all_from_yields_List (λ entry. is_missing (view_entry entry)) _ _ _ c.all.ensures.ran (YieldsList-from_slice c.args.entries.now (cc)) (λ x b q k. search (rules, tests))
    ∙ sym (list_all-map is_missing view_entry c.args.entries.now)
