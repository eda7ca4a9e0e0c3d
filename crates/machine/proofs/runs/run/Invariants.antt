use Rattle.std.proofs.Common.{◌-◌, ◌≤◌}
use Rattle.proto.specs.View.{view_proto}
use Rattle.host.specs.Views.{set_told}
use Rattle.machine.proofs.RunsSoFar.{RanSoFar}
use Rattle.machine.proofs.runs.run.Given as goal

abbrev pub invariant-loop-left : goal.invariant-loop-left
invariant-loop-left g l =
    let sink = g.S.Sink in
    (l.left ≤ l.steps) × RanSoFar (view_proto l.chunk) (l.steps - l.left) (set_told (λ z. (goal.Host-dyn g z).heard z.1) l.fn.hosts) (set_told (λ z. (goal.Host-dyn g z).heard z.1) l.hosts) l.machine (sink.taken l.fn.out) (sink.taken l.out) (sink.faults l.fn.out) (sink.faults l.out)

abbrev pub decreases-loop-left : goal.decreases-loop-left
decreases-loop-left g l = l.left
