-- The names so far, and those of the rest, are all.
use Rattle.std.proofs.Common.{◌≡◌, ◌-◌, ◌++◌}
use Rattle.std.specs.Prelude.{option_map}
use Rattle.recover_expr.specs.Locals.{listed, names_from}
use Rattle.recover_expr.proofs.locals.own_names.Given as goal

abbrev pub invariant-loop-entry : goal.invariant-loop-entry
invariant-loop-entry l = option_map (λ rest. l.names ++ rest) (names_from (listed l.proto) l.entry (l.end - l.entry)) ≡ names_from (listed l.proto) l.first (l.end - l.first)
