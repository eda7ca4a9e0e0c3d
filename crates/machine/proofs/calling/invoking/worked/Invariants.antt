use Rattle.std.proofs.Common.{◌≡◌, true}
use Rattle.std.specs.Prelude.{replicate}
use Rattle.lua_model.specs.declared.Value.TheVariants.{Bool as Boolean}
use Rattle.machine.proofs.calling.invoking.worked.Given as goal

abbrev pub invariant-loop : goal.invariant-loop
invariant-loop l = l.trues ≡ replicate l.counter (Boolean true)
