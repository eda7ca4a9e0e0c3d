use Rattle.std.proofs.Common.{◌≡◌, ◌∙◌, ap, sym}
use Rattle.std.specs.Prelude.{option_and_then}
use Rattle.core_expr.specs.Values.{view_core, view_core_list, values_of, value_operand}
use Rattle.recover_expr.specs.Lists.{straight_operand, list_and_straight, operand_last, split_last}
use Rattle.recover_expr.specs.Situation.{view_function, view_state}
use Rattle.recover_expr.proofs.Listing.{split_pop, wrote_as, lost_as}
use Rattle.recover_expr.proofs.lists.operand_last.Goals as goal

pub returns-clause-wrote : goal.returns-clause-wrote
returns-clause-wrote c =
    let f = view_function c.args.function.now in
    let s = view_state c.args.state.now in
    let split = split_pop c.args.cores.items c.pop.new.self.items c.in-Some.last c.in-Some.ensures.items in
    let same : list_and_straight f c.args.taken.now (view_core_list c.from_vec.result) (straight_operand (value_operand (view_core c.in-Some.last))) s ≡ option_and_then (operand_last f c.args.taken.now s) (split_last (values_of c.args.cores.items)) =
    ap (λ cores. list_and_straight f c.args.taken.now (values_of cores) (straight_operand (value_operand (view_core c.in-Some.last))) s) c.from_vec.ensures.items ∙ sym (ap (option_and_then (operand_last f c.args.taken.now s)) split) in
    wrote_as _ c.list_and_straight.result same c.list_and_straight.ensures.wrote

pub returns-clause-lost : goal.returns-clause-lost
returns-clause-lost c =
    let f = view_function c.args.function.now in
    let s = view_state c.args.state.now in
    let split = split_pop c.args.cores.items c.pop.new.self.items c.in-Some.last c.in-Some.ensures.items in
    let same : list_and_straight f c.args.taken.now (view_core_list c.from_vec.result) (straight_operand (value_operand (view_core c.in-Some.last))) s ≡ option_and_then (operand_last f c.args.taken.now s) (split_last (values_of c.args.cores.items)) =
    ap (λ cores. list_and_straight f c.args.taken.now (values_of cores) (straight_operand (value_operand (view_core c.in-Some.last))) s) c.from_vec.ensures.items ∙ sym (ap (option_and_then (operand_last f c.args.taken.now s)) split) in
    lost_as c.list_and_straight.result same c.list_and_straight.ensures.lost
