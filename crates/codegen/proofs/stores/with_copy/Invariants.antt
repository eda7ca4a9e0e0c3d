use Rattle.std.proofs.Common.{◌≡◌, ◌≤◌, length, drop, take}
use Rattle.scheme.specs.Statements as parts
use Rattle.codegen.specs.Targets.{targets_of}
use Rattle.codegen.proofs.stores.with_copy.Given as goal

abbrev pub invariant-loop-i : goal.invariant-loop-i
invariant-loop-i l = record {
  within : l.i ≤ length l.targets;
  among : l.among ≡ parts.is_among l.x (targets_of (drop l.i l.fn.targets));
  front : take l.i l.targets ≡ take l.i l.fn.targets;
  back : targets_of (drop l.i l.targets) ≡ parts.with_copy l.x l.copy (targets_of (drop l.i l.fn.targets));
}

abbrev pub decreases-loop-i : goal.decreases-loop-i
decreases-loop-i l = l.i
