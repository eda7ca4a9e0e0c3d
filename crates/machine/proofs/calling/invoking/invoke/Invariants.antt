use Rattle.std.proofs.Common.{◌-◌}
use Rattle.host.specs.Views.{set_told}
use Rattle.machine.specs.Called.{Protected}
use Rattle.machine.proofs.calling.invoking.invoke.Given as goal

abbrev pub invariant-loop-protections : goal.invariant-loop-protections
invariant-loop-protections g l =
    Protected 200 l.fn.f l.fn.args l.fn.heap l.heap l.fn.pieces.items l.pieces.items (set_told (λ z. (goal.Host-dyn g z).heard z.1) l.fn.hosts) (set_told (λ z. (goal.Host-dyn g z).heard z.1) l.hosts) (201 - l.protections) l.protections l.f l.args
