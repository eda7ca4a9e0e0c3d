use Rattle.std.proofs.Common.{◌≡◌, ◌∙◌, ◌+◌, suc, refl, sym, subst, arith}
use Rattle.proto.specs.View.{view_proto}
use Rattle.host.specs.Views.{set_told}
use Rattle.machine.specs.At.{IsAt}
use Rattle.machine.proofs.RunSteps.{not_stepped, stepped_in_place}
use Rattle.machine.proofs.machine.Machine.step.Goals as goal

pub step_on-requires-clause-at : goal.step_on-requires-clause-at
step_on-requires-clause-at g c =
    let (hosts, events, n, at) = c.requires in
    let set = set_told (λ z. (goal.Host-dyn g z).heard z.1) c.args.hosts.now in
    (hosts, events, n + c.in-Ok-eq0.field-0, c.in-Ok-eq0.ensures.went hosts events n set at)

pub returns-in-Ok-eq0-clause-steps : goal.returns-in-Ok-eq0-clause-steps
returns-in-Ok-eq0-clause-steps g c hosts events n at =
    let set = set_told (λ z. (goal.Host-dyn g z).heard z.1) c.args.hosts.now in
    let none : n + c.in-Ok-eq0.field-0 ≡ n = omega (arith, c.in-Ok-eq0.field-0-test) in
    c.step_on.ensures.steps hosts events n (subst (λ m. IsAt (view_proto c.args.chunk.now) hosts events m set c.go_on.new.machine) none (c.in-Ok-eq0.ensures.went hosts events n set at))

pub returns-in-Ok-eq0-clause-memory : goal.returns-in-Ok-eq0-clause-memory
returns-in-Ok-eq0-clause-memory g c hosts events n at such result =
    let set = set_told (λ z. (goal.Host-dyn g z).heard z.1) c.args.hosts.now in
    let done = sym c.in-Ok-eq0.is ∙ c.go_on.ensures.in_place refl hosts events n set at such in
    let none = c.in-Ok-eq0.field-0-test in
    cc

pub returns-in-Ok-clause-steps : goal.returns-in-Ok-clause-steps
returns-in-Ok-clause-steps g c hosts events n at =
    let set = set_told (λ z. (goal.Host-dyn g z).heard z.1) c.args.hosts.now in
    let one : n + c.in-Ok.field-0 ≡ suc n = omega (arith, c.in-Ok.field-0-test, c.in-Ok.ensures.no_more) in
    stepped_in_place (view_proto c.args.chunk.now) hosts events n set c.go_on.new.machine (subst (λ m. IsAt (view_proto c.args.chunk.now) hosts events m set c.go_on.new.machine) one (c.in-Ok.ensures.went hosts events n set at)) _ _

pub returns-in-Err-clause-steps : goal.returns-in-Err-clause-steps
returns-in-Err-clause-steps g c hosts events n at =
    not_stepped (view_proto c.args.chunk.now) c.proto.ensures.sound hosts events n _ c.args.self.now at _ _ _

pub returns-in-Err-clause-memory : goal.returns-in-Err-clause-memory
returns-in-Err-clause-memory g c hosts events n at such result =
    let set = set_told (λ z. (goal.Host-dyn g z).heard z.1) c.args.hosts.now in
    let refused = sym c.in-Err.is ∙ c.go_on.ensures.in_place refl hosts events n set at such in
    cc
