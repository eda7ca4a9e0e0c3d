-- With those of the ways that are left, those of all are noted.
use Rattle.std.proofs.Common.{◌≡◌, drop}
use Rattle.recover_flow.specs.Arms.{with_next}
use Rattle.recover_flow.proofs.branches.note_next.Given as goal

abbrev pub invariant-loop-way : goal.invariant-loop-way
invariant-loop-way l = with_next l.from (drop l.way-index l.ways) l.reached.items ≡ with_next l.from l.ways l.initial.reached.items
