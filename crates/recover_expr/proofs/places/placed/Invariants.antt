-- As many parts as steps; and what is placed so far with the drafts that are left is all.
use Rattle.std.proofs.Common.{◌≡◌, length, map}
use Rattle.std.specs.Vec.Iter.{into_iter_items}
use Rattle.recover_expr.specs.Drafts.{view_draft}
use Rattle.recover_expr.specs.Locals.{view_locals}
use Rattle.recover_expr.specs.Placing.{view_reading, steps_placed, placed}
use Rattle.recover_expr.specs.Situation.{view_function}
use Rattle.recover_expr.proofs.places.placed.Given as goal

abbrev pub invariant-loop-draft : goal.invariant-loop-draft
invariant-loop-draft l = record {
  parts : length l.reading.parts.items ≡ length l.reading.steps.items;
  left : steps_placed (view_function l.function) (view_locals l.locals) l.places.numbers.items l.highest.items (map view_draft (into_iter_items l.draft-iterator)) (view_reading l.reading)
      ≡ placed (view_function l.function) (view_locals l.locals) l.fn.params (map view_draft l.fn.drafts.items);
}
