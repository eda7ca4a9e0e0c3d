use Rattle.std.proofs.Common.{◌≡◌, drop}
use Rattle.scheme.specs.Making as making
use Rattle.code_builder.proofs.locals.end_all.Given as goal

abbrev pub invariant-loop-one : goal.invariant-loop-one
invariant-loop-one l = making.end_all l.here (drop l.one-index l.active) l.locals ≡ making.end_all l.here l.active l.initial.locals
