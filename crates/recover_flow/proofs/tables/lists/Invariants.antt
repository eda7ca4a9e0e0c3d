-- As many empty lists as turns.
use Rattle.std.proofs.Common.{◌≡◌, [], map, replicate}
use Rattle.recover_flow.proofs.tables.lists.Given as goal

abbrev pub invariant-loop : goal.invariant-loop
invariant-loop g l = map (λ row. row.items) l.lists.items ≡ replicate l.counter []
