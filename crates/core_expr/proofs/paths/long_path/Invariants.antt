use Rattle.std.proofs.Common.{◌≡◌, ◌++◌, drop, true}
use Rattle.core_expr.specs.Held.{place_of}
use Rattle.core_expr.specs.Targets.{are_fields, field_names}
use Rattle.core_expr.specs.Values.{operands_of}
use Rattle.core_expr.proofs.paths.long_path.Given as goal

abbrev pub invariant-loop-key : goal.invariant-loop-key
invariant-loop-key l = record {
  names : l.names ++ field_names (place_of l.scope) (operands_of (drop l.key-index l.keys)) ≡ l.initial.names ++ field_names (place_of l.scope) (operands_of l.keys);
  fields : are_fields (place_of l.scope) (operands_of (drop l.key-index l.keys)) ≡ true;
}
