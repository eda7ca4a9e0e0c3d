use Rattle.std.proofs.Common.{◌≡◌}
use Rattle.scheme.specs.Statements as parts
use Rattle.code_builder.specs.Made.{maker_of}
use Rattle.codegen.specs.Targets.{targets_of}
use Rattle.codegen.proofs.stores.some_copies.Given as goal

abbrev pub invariant-loop-x : goal.invariant-loop-x
invariant-loop-x l = record {
  targets : targets_of l.targets ≡ (parts.copies l.line l.x (targets_of l.originals) (maker_of l.initial.builder)).value;
  made : maker_of l.builder ≡ (parts.copies l.line l.x (targets_of l.originals) (maker_of l.initial.builder)).after;
}
