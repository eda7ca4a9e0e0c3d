use Rattle.std.proofs.Common.{◌≡◌}
use Rattle.scheme.specs.Making as making
use Rattle.code_builder.specs.Made.{maker_of}
use Rattle.code_builder.proofs.builder.Builder.activate.Given as goal

abbrev pub invariant-loop-local : goal.invariant-loop-local
invariant-loop-local l = maker_of l.self ≡ making.activate l.yielded (maker_of l.initial.self)
