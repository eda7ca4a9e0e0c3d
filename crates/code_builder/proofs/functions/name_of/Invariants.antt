use Rattle.std.proofs.Common.{◌≡◌, drop}
use Rattle.scheme.specs.Functions as functions
use Rattle.code_builder.proofs.functions.name_of.Given as goal

abbrev pub invariant-loop-one : goal.invariant-loop-one
invariant-loop-one l = functions.name_of l.declaration (drop l.one-index l.active) ≡ functions.name_of l.declaration l.active
