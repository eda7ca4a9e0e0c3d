use Rattle.std.proofs.Common.{◌≡◌, drop}
use Rattle.core_expr.specs.Held.{place_of}
use Rattle.core_expr.specs.Targets.{are_fields}
use Rattle.core_expr.specs.Values.{operands_of}
use Rattle.core_expr.proofs.paths.are_fields.Given as goal

abbrev pub invariant-loop-key : goal.invariant-loop-key
invariant-loop-key l = are_fields (place_of l.scope) (operands_of (drop l.key-index l.keys)) ≡ are_fields (place_of l.scope) (operands_of l.keys)
