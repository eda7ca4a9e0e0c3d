-- What is read so far, and the steps that are left, are all.
use Rattle.std.proofs.Common.{◌≡◌, ◌-◌, map, []}
use Rattle.recover_expr.specs.Drafts.{view_draft}
use Rattle.recover_expr.specs.Reading.{drafts_from}
use Rattle.recover_expr.specs.Situation.{view_function, view_state}
use Rattle.recover_expr.proofs.reading.read_drafts.Given as goal

abbrev pub invariant-loop : goal.invariant-loop
invariant-loop l =
    drafts_from (view_function l.function) (l.function.last - l.counter) (map view_draft l.drafts.items, l.pc, view_state l.state)
    ≡ drafts_from (view_function l.function) l.function.last ([], 0, view_state l.initial.state)
