-- No line end was met so far.
use Rattle.std.proofs.Common.{◌≢◌, ◌-◌, ◌≤◌, All, take}
use Rattle.host.proofs.reader.len_through.Given as goal

abbrev pub invariant-loop-i : goal.invariant-loop-i
invariant-loop-i l = (l.i ≤ l.end) × All (λ x. x ≢ 10) (take l.i l.bytes)

abbrev pub decreases-loop-i : goal.decreases-loop-i
decreases-loop-i l = l.end - l.i
