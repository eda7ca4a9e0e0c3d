-- The numbers so far with those of the drafts that are left are all.
use Rattle.std.proofs.Common.{◌≡◌, length, map, drop, None}
use Rattle.std.specs.Prelude.{replicate}
use Rattle.recover_expr.specs.Drafts.{view_draft}
use Rattle.recover_expr.specs.Placing.{number_all}
use Rattle.recover_expr.specs.Situation.{view_function}
use Rattle.recover_expr.proofs.places.Places.new.Given as goal

abbrev pub invariant-loop-number : goal.invariant-loop-number
invariant-loop-number l =
    number_all l.number (map view_draft (drop l.number l.drafts)) l.places.numbers.items
    ≡ number_all 0 (map view_draft l.drafts) (replicate (length (view_function l.function).of.code) None)
