use Rattle.std.proofs.Common.{◌≡◌, ◌++◌}
use Rattle.made_source.specs.Made.{function_lines}
use Rattle.made_source.proofs.source.put_functions.Given as goal

abbrev pub invariant-loop-number : goal.invariant-loop-number
invariant-loop-number l = l.text ≡ l.initial.text ++ function_lines l.number
