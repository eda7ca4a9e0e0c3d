use Rattle.std.proofs.Common.{◌≡◌, ◌++◌, take}
use Rattle.machine.proofs.words.lists.joined.Given as goal

abbrev pub invariant-loop-value : goal.invariant-loop-value
invariant-loop-value l = l.all ≡ l.values ++ take l.value-index l.value-items
