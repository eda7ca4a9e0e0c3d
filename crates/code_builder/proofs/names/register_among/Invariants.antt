use Rattle.std.proofs.Common.{◌≡◌, ◌+◌, drop}
use Rattle.scheme.specs.Making as making
use Rattle.code_builder.proofs.names.register_among.Given as goal

abbrev pub invariant-loop-register : goal.invariant-loop-register
invariant-loop-register l = l.register + making.register_among l.declaration (drop l.register l.active) ≡ making.register_among l.declaration l.active
