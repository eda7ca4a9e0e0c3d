use Rattle.std.proofs.Common.{◌∙◌, ap, false, arith}
use Rattle.core_expr.specs.Values.{values_of}
use Rattle.recover_expr.specs.Situation.{view_function, view_state}
use Rattle.recover_expr.specs.Writing.{list_written}
use Rattle.recover_expr.proofs.Listing.{before_pop, wrote_as, lost_as}
use Rattle.recover_expr.proofs.lists.all_but_last.Goals as goal

pub returns-clause-wrote : goal.returns-clause-wrote
returns-clause-wrote c =
    let firsts = before_pop _ c.args.cores.items c.pop.new.self.items c.pop.result c.pop.ensures.items c.pop.ensures.cases (λ none. omega (arith, none.1, c.pop.new.self.ok.0)) in
    wrote_as _ c.written_list.result
    (ap (λ values. list_written (view_function c.args.function.now) c.args.taken.now (record { values = values; all = false }) (view_state c.args.state.now)) (ap values_of c.from_vec.ensures.items ∙ firsts))
    c.written_list.ensures.wrote

pub returns-clause-lost : goal.returns-clause-lost
returns-clause-lost c =
    let firsts = before_pop _ c.args.cores.items c.pop.new.self.items c.pop.result c.pop.ensures.items c.pop.ensures.cases (λ none. omega (arith, none.1, c.pop.new.self.ok.0)) in
    lost_as c.written_list.result
    (ap (λ values. list_written (view_function c.args.function.now) c.args.taken.now (record { values = values; all = false }) (view_state c.args.state.now)) (ap values_of c.from_vec.ensures.items ∙ firsts))
    c.written_list.ensures.lost
