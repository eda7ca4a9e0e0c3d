use Rattle.std.proofs.Common.{◌∙◌, sym, rules, tests, arith}
use Rattle.std.proofs.lemmas.Iterator.{YieldsList-from_slice}
use Rattle.std.proofs.lemmas.Iterator.Consumers.{count_from_yields_List}
use Rattle.std.proofs.lemmas.Iterator.Search.{YieldsList-from_take_while}
use Rattle.std.proofs.lemmas.List.Folds.{length-prefix_len}
use Rattle.std.proofs.lemmas.List.Sums.{prefix_len-le-length}
use Rattle.recover_expr.specs.Entries.{view_entry, is_single}
use Rattle.recover_expr.proofs.Listing.{leading_map}
use Rattle.recover_expr.specs.declared.stack.Entry.{Entry}
use Rattle.recover_expr.proofs.lists.singles.Goals as goal

pub returns-clause-count : goal.returns-clause-count
returns-clause-count c =
    count_from_yields_List c.take_while.result c.count.result c.count.ensures.ran
    (YieldsList-from_take_while _ (λ entry. is_single (view_entry entry)) (YieldsList-from_slice c.args.entries.now (cc)) c.take_while.ensures.closure c.take_while.ensures.done (λ x b q k. search (rules, tests)))
    ∙ length-prefix_len (λ entry. is_single (view_entry entry)) c.args.entries.now
    ∙ sym (leading_map c.args.entries.now)

pub returns-clause-low : goal.returns-clause-low
returns-clause-low c =
    let test = λ (entry : Entry). is_single (view_entry entry) in
    let count = count_from_yields_List c.take_while.result c.count.result c.count.ensures.ran
    (YieldsList-from_take_while _ test (YieldsList-from_slice c.args.entries.now (cc)) c.take_while.ensures.closure c.take_while.ensures.done (λ x b q k. search (rules, tests))) in
    omega (arith, count, length-prefix_len test c.args.entries.now, prefix_len-le-length test c.args.entries.now)
