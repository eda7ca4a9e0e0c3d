use Rattle.std.proofs.Common.{◌≡◌, ◌≤◌, length, drop}
use Rattle.code_builder.specs.Made.{maker_of}
use Rattle.codegen.specs.Targets.{targets_of, stored_back}
use Rattle.codegen.proofs.stores.stored_back.Given as goal

abbrev pub invariant-loop-i : goal.invariant-loop-i
invariant-loop-i l = record {
  within : l.i ≤ length l.registers;
  stored : maker_of l.builder ≡ stored_back l.line (targets_of (drop l.i l.targets)) (drop l.i l.registers) (maker_of l.initial.builder);
}

abbrev pub decreases-loop-i : goal.decreases-loop-i
decreases-loop-i l = l.i
