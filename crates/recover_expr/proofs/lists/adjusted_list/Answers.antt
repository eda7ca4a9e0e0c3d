use Rattle.std.proofs.Common.{◌≡◌, ◌∙◌, sym, ap, map, take, drop, length, nat_lt, ◌&&◌, not, Bool, Option, Some, None, if◌then◌else◌, arith}
use Rattle.std.specs.List.{list_all}
use Rattle.core_expr.specs.Values.{view_core_list}
use Rattle.recover_expr.specs.Entries.{Listed, view_entry, singles_of}
use Rattle.recover_expr.specs.Lists.{leading, is_missing, is_further}
use Rattle.recover_expr.proofs.EntriesTaken.{lost_with}
use Rattle.recover_expr.proofs.Listing.{missing_are, adjusts, adjusts_none}
use Rattle.recover_expr.proofs.lists.adjusted_list.Goals as goal

pub returns-in_err-cores-clause-lost : goal.returns-in_err-cores-clause-lost
returns-in_err-cores-clause-lost c =
    let entries = c.args.entries.items in
    let count_is = c.singles-count.ensures.count ∙ ap (λ those. leading (map view_entry those)) c.as_slice-all.ensures.value in
    lost_with c.from_residual.result c.in_err-cores.field-0.0 c.from_residual.ensures.1
    (λ none. adjusts_none entries c.singles-count.result c.args.places c.args.may_be_none count_is (ap (λ those. singles_of (map view_entry those)) (sym c.truncate.ensures.items) ∙ none))
    c.in_err-cores.ensures.lost

pub returns-in_err-check-clause-lost : goal.returns-in_err-check-clause-lost
returns-in_err-check-clause-lost c =
    let entries = c.args.entries.items in
    let count = c.singles-count.result in
    let missing = c.are_missing_from-missing.result in
    let values = view_core_list c.in_ok-cores.cores in
    let total_is : c.len-total.result ≡ length entries = omega (arith, c.len-total.ensures, c.args.entries.ok.0) in
    let count_is = c.singles-count.ensures.count ∙ ap (λ those. leading (map view_entry those)) c.as_slice-all.ensures.value in
    let missing_is = c.are_missing_from-missing.ensures ∙ ap (λ those. nat_lt count (length those) && list_all is_missing (map view_entry (drop count those))) c.as_slice-all.ensures.value in
    let further_is = c.are_further_from-further.ensures ∙ ap (λ those. list_all is_further (map view_entry (drop count those))) c.as_slice-all.ensures.value in
    let made : Some values ≡ singles_of (map view_entry (take count entries)) = c.in_ok-cores.ensures.made ∙ ap (λ those. singles_of (map view_entry those)) c.truncate.ensures.items in
    let given = adjusts entries count c.len-total.result c.args.places missing _ _ c.args.may_be_none _ values count_is total_is (missing_are entries count missing count_is missing_is) further_is made c.ends_multiple-multiple.ensures c.fits_places.ensures in
    let listed : Bool → Option Listed = λ fits. if fits then Some (record { values = values; all = not missing }) else None in
    lost_with c.from_residual-in_err-check.result c.in_err-check.field-0.0 c.from_residual-in_err-check.ensures.1
    (λ wrong. given ∙ ap listed wrong)
    c.in_err-check.ensures.lost

pub returns-clause-list : goal.returns-clause-list
returns-clause-list c =
    let entries = c.args.entries.items in
    let count = c.singles-count.result in
    let missing = c.are_missing_from-missing.result in
    let values = view_core_list c.in_ok-cores.cores in
    let total_is : c.len-total.result ≡ length entries = omega (arith, c.len-total.ensures, c.args.entries.ok.0) in
    let count_is = c.singles-count.ensures.count ∙ ap (λ those. leading (map view_entry those)) c.as_slice-all.ensures.value in
    let missing_is = c.are_missing_from-missing.ensures ∙ ap (λ those. nat_lt count (length those) && list_all is_missing (map view_entry (drop count those))) c.as_slice-all.ensures.value in
    let further_is = c.are_further_from-further.ensures ∙ ap (λ those. list_all is_further (map view_entry (drop count those))) c.as_slice-all.ensures.value in
    let made : Some values ≡ singles_of (map view_entry (take count entries)) = c.in_ok-cores.ensures.made ∙ ap (λ those. singles_of (map view_entry those)) c.truncate.ensures.items in
    let given = adjusts entries count c.len-total.result c.args.places missing _ _ c.args.may_be_none _ values count_is total_is (missing_are entries count missing count_is missing_is) further_is made c.ends_multiple-multiple.ensures c.fits_places.ensures in
    let listed : Bool → Option Listed = λ fits. if fits then Some (record { values = values; all = not missing }) else None in
    ap listed (sym c.in_ok-check.ensures.ok) ∙ sym given
