use Rattle.std.proofs.Common.{length}
use Rattle.host.specs.Views.{set_told}
use Rattle.machine.specs.Settled.{to_do}
use Rattle.machine.proofs.SettledSoFar.{SoFar}
use Rattle.machine.proofs.settling.settle.Given as goal

-- what was done so far
abbrev pub invariant-loop-did : goal.invariant-loop-did
invariant-loop-did g l =
    SoFar l.functions l.fn.did l.fn.running l.running (set_told (λ z. (goal.Host-dyn g z).heard z.1) l.fn.hosts) (set_told (λ z. (goal.Host-dyn g z).heard z.1) l.hosts) l.did

abbrev pub decreases-loop-did : goal.decreases-loop-did
decreases-loop-did g l = to_do (length l.running.below.items) l.did
