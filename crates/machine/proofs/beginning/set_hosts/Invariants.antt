use Rattle.host.specs.Views.{set_told}
use Rattle.machine.proofs.FirstGlobals.{HostsSet}
use Rattle.machine.proofs.beginning.set_hosts.Given as goal

abbrev pub invariant-loop-number : goal.invariant-loop-number
invariant-loop-number g l = HostsSet (set_told (λ z. (goal.Host-dyn g z).heard z.1) l.hosts).hosts l.initial.heap l.heap l.number
