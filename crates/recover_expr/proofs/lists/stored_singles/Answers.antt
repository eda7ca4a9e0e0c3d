use Rattle.std.proofs.Common.{◌≡◌, ◌∙◌, length, ap, sym, arith}
use Rattle.core_expr.specs.Values.{view_core_list}
use Rattle.core_expr.specs.declared.cores.Cores.{out-Cores}
use Rattle.recover_expr.specs.Lists.{value_count, first_place, stored_to}
use Rattle.recover_expr.specs.Situation.{view_function, view_state}
use Rattle.recover_expr.proofs.Listing.{counted, counted_same, counted_other, wrote_as, lost_as}
use Rattle.recover_expr.proofs.lists.stored_singles.Goals as goal

pub returns-then-items-stores-clause-wrote : goal.returns-then-items-stores-clause-wrote
returns-then-items-stores-clause-wrote c =
    wrote_as _ c.written_list.result (counted_other (out-Cores c.args.cores).cores.items c.items.result.now (length c.args.stores.now) _ _ c.items.ensures.items (λ same. omega (arith, same))) c.written_list.ensures.wrote

pub returns-then-items-stores-clause-lost : goal.returns-then-items-stores-clause-lost
returns-then-items-stores-clause-lost c =
    lost_as c.written_list.result (counted_other (out-Cores c.args.cores).cores.items c.items.result.now (length c.args.stores.now) _ _ c.items.ensures.items (λ same. omega (arith, same))) c.written_list.ensures.lost

pub returns-clause-wrote : goal.returns-clause-wrote
returns-clause-wrote c =
    let f = view_function c.args.function.now in
    let s = view_state c.args.state.now in
    let values = view_core_list c.args.cores in
    let stores = c.args.stores.now in
    let n = c.args.taken.now in
    let many : length c.items.result.now ≡ length stores = omega arith in
    let count : value_count values ≡ length stores = counted (out-Cores c.args.cores).cores.items ∙ ap length (sym c.items.ensures.items) ∙ many in
    wrote_as _ c.stored_to.result
    (ap (λ place. stored_to f place (value_count values) n values s) c.first_place.ensures
    ∙ ap (λ count. stored_to f (first_place stores) count n values s) count
    ∙ counted_same (out-Cores c.args.cores).cores.items c.items.result.now (length stores) _ _ c.items.ensures.items many)
    c.stored_to.ensures.wrote

pub returns-clause-lost : goal.returns-clause-lost
returns-clause-lost c =
    let f = view_function c.args.function.now in
    let s = view_state c.args.state.now in
    let values = view_core_list c.args.cores in
    let stores = c.args.stores.now in
    let n = c.args.taken.now in
    let many : length c.items.result.now ≡ length stores = omega arith in
    let count : value_count values ≡ length stores = counted (out-Cores c.args.cores).cores.items ∙ ap length (sym c.items.ensures.items) ∙ many in
    lost_as c.stored_to.result
    (ap (λ place. stored_to f place (value_count values) n values s) c.first_place.ensures
    ∙ ap (λ count. stored_to f (first_place stores) count n values s) count
    ∙ counted_same (out-Cores c.args.cores).cores.items c.items.result.now (length stores) _ _ c.items.ensures.items many)
    c.stored_to.ensures.lost
