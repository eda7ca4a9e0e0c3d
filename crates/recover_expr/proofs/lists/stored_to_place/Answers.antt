use Rattle.core_expr.specs.Values.{view_core_list}
use Rattle.recover_expr.specs.Lists.{value_count}
use Rattle.recover_expr.specs.Situation.{view_function, view_state}
use Rattle.recover_expr.proofs.Listing.{stored_other, wrote_as, lost_as}
use Rattle.recover_expr.proofs.lists.stored_to_place.Goals as goal

pub returns-in_default-clause-wrote : goal.returns-in_default-clause-wrote
returns-in_default-clause-wrote c =
    let values = view_core_list c.args.cores in
    wrote_as _ c.written_list.result
    (stored_other (view_function c.args.function.now) c.args.place (value_count values) c.args.taken.now values (view_state c.args.state.now) c.in_default.not-Index c.in_default.not-Local)
    c.written_list.ensures.wrote

pub returns-in_default-clause-lost : goal.returns-in_default-clause-lost
returns-in_default-clause-lost c =
    let values = view_core_list c.args.cores in
    lost_as c.written_list.result
    (stored_other (view_function c.args.function.now) c.args.place (value_count values) c.args.taken.now values (view_state c.args.state.now) c.in_default.not-Index c.in_default.not-Local)
    c.written_list.ensures.lost
