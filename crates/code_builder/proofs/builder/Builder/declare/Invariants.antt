use Rattle.std.proofs.Common.{◌≡◌, ◌++◌, drop}
use Rattle.scheme.specs.Making as making
use Rattle.code_builder.specs.Made.{maker_of}
use Rattle.code_builder.proofs.builder.Builder.declare.Given as goal

abbrev pub invariant-loop-name : goal.invariant-loop-name
invariant-loop-name l = record {
  locals : l.locals.items ++ (making.declare (drop l.name-index l.names) (maker_of l.self)).value ≡ (making.declare l.names (maker_of l.initial.self)).value;
  made : (making.declare (drop l.name-index l.names) (maker_of l.self)).after ≡ (making.declare l.names (maker_of l.initial.self)).after;
}
