use Rattle.std.proofs.Common.{◌≡◌, ◌≤◌, length, drop}
use Rattle.scheme.specs.Statements as parts
use Rattle.codegen.specs.Targets.{targets_of}
use Rattle.codegen.proofs.stores.clashes.Given as goal

abbrev pub invariant-loop-i : goal.invariant-loop-i
invariant-loop-i l = record {
  within : l.i ≤ length l.targets;
  among : l.among ≡ parts.is_among l.x (targets_of (drop l.i l.targets));
  found : l.found ≡ parts.clashes l.x (targets_of (drop l.i l.targets));
}

abbrev pub decreases-loop-i : goal.decreases-loop-i
decreases-loop-i l = l.i
