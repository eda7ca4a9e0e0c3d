use Rattle.std.proofs.Common.{◌≡◌, ◌+◌, ◌≤◌, length, drop}
use Rattle.scheme.specs.Statements as parts
use Rattle.code_builder.specs.Made.{maker_of}
use Rattle.codegen.specs.Targets.{targets_of}
use Rattle.codegen.proofs.stores.stored_from.Given as goal

abbrev pub invariant-loop-i : goal.invariant-loop-i
invariant-loop-i l = record {
  within : l.i ≤ length l.targets;
  stored : maker_of l.builder ≡ parts.stored_from l.line (l.r + l.i) (targets_of (drop l.i l.targets)) (maker_of l.initial.builder);
}

abbrev pub decreases-loop-i : goal.decreases-loop-i
decreases-loop-i l = l.i
