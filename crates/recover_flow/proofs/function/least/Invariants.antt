-- The levels between those with which no body is found and those with which one is become fewer.
use Rattle.std.proofs.Common.{◌-◌}
use Rattle.recover_flow.proofs.Recovered.{IsBest}
use Rattle.recover_flow.proofs.function.least.Given as goal

abbrev pub decreases-loop-middle : goal.decreases-loop-middle
decreases-loop-middle l = l.high - l.low

abbrev pub invariant-loop-middle : goal.invariant-loop-middle
invariant-loop-middle l = IsBest l.initial.search l.search l.fn.found l.best l.low l.high
