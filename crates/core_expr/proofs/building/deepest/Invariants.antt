use Rattle.std.proofs.Common.{◌≡◌, drop, max}
use Rattle.core_expr.specs.Making.{deepest}
use Rattle.core_expr.specs.Values.{values_of}
use Rattle.core_expr.proofs.building.deepest.Given as goal

abbrev pub invariant-loop-core : goal.invariant-loop-core
invariant-loop-core l = max l.deepest (deepest (values_of (drop l.core-index l.cores))) ≡ deepest (values_of l.cores)
