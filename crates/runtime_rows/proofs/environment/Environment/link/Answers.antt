-- Tables stay when the next table and the text of the event are made.
use Rattle.lua_model.specs.declared.Value.{Value}
use Rattle.runtime_rows.proofs.environment.Environment.link.Goals as goal

pub raw_set-requires-clause-table : goal.raw_set-requires-clause-table
raw_set-requires-clause-table c =
    let table = Value.Table c.in_ok-metatable.metatable in
    let beside_next = c.in_ok-next.ensures.keeps table c.in_ok-metatable.ensures.known in
    rw c.self.view_is (c.in_ok-key.ensures.keeps table beside_next.0).0

pub raw_set-requires-clause-value : goal.raw_set-requires-clause-value
raw_set-requires-clause-value c =
    rw c.self.view_is (c.in_ok-key.ensures.keeps (Value.Table c.in_ok-next.next) c.in_ok-next.ensures.known).0
