use Rattle.lua_model.specs.Builtins.{builtin_names}
use Rattle.machine.proofs.FirstGlobals.{BuiltinsSet}
use Rattle.machine.proofs.beginning.set_builtins.Given as goal

abbrev pub invariant-loop-number : goal.invariant-loop-number
invariant-loop-number l = BuiltinsSet builtin_names l.initial.heap l.heap l.number
