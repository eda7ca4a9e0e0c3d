-- The stores that are read so far, and the rest, are all.
use Rattle.std.proofs.Common.{◌≡◌, ◌-◌}
use Rattle.recover_expr.specs.Assigning.{further_stores}
use Rattle.recover_expr.specs.Situation.{view_function, view_state}
use Rattle.recover_expr.specs.Stores.{view_stores}
use Rattle.recover_expr.proofs.assigning.read_further.Given as goal

abbrev pub invariant-loop : goal.invariant-loop
invariant-loop l =
    further_stores (view_function l.function) (l.count - l.counter) (view_stores l.stores, l.at, view_state l.state)
    ≡ further_stores (view_function l.function) l.count (view_stores l.initial.stores, l.pc, view_state l.initial.state)
