use Rattle.std.proofs.Common.{Some, refl, subst}
use Rattle.host.specs.Views.{set_told}
use Rattle.machine.specs.declared.did.Did.TheVariants as done
use Rattle.machine.specs.declared.settling.Settled.{Settled}
use Rattle.machine.specs.Settled.{IsAwaitedIn, Descends}
use Rattle.machine.specs.Words.{IsDidOf}
use Rattle.machine.proofs.SeenStates.{safe_at}
use Rattle.machine.proofs.SettledSoFar.{begun_so, so_as, named_so, called_so, descended_so, settled_so, failed_so}
use Rattle.machine.proofs.settling.settle.Goals as goal
use Rattle.machine.proofs.BrokenOff.{on_err}
use Rattle.machine.proofs.BrokenSteps.{settling_called, settling_failed}

pub loop-did-init : goal.loop-did-init
loop-did-init g c = begun_so c.args.functions.now c.args.running.now _ c.args.did c.requires.known c.requires.awaited

pub returns-in-Next-clause-settles : goal.returns-in-Next-clause-settles
returns-in-Next-clause-settles g c =
    let fs = c.args.functions.now in
    let first = c.args.did in
    let start = c.args.running.now in
    let now = c.loop-did.running in
    settled_so fs first done.Next start now now _ _ Settled.Going (so_as fs first c.loop-did.did done.Next start now _ _ c.in-Next.is c.loop-did.invariant) refl refl (λ safe. safe) (λ chunk m0 events left. refl)

pub returns-in-Jumps-clause-settles : goal.returns-in-Jumps-clause-settles
returns-in-Jumps-clause-settles g c =
    let fs = c.args.functions.now in
    let first = c.args.did in
    let start = c.args.running.now in
    let now = c.loop-did.running in
    let pc = c.in-Jumps.pc in
    let new = record now { top = record now.top { pc = pc } } in
    settled_so fs first (done.Jumps pc) start now new _ _ Settled.Going (so_as fs first c.loop-did.did (done.Jumps pc) start now _ _ c.in-Jumps.is c.loop-did.invariant) refl refl (λ safe. safe_at fs now pc now.top.results safe safe.top_frame.results) (λ chunk m0 events left. refl)

pub returns-in-Opens-clause-settles : goal.returns-in-Opens-clause-settles
returns-in-Opens-clause-settles g c =
    let fs = c.args.functions.now in
    let first = c.args.did in
    let start = c.args.running.now in
    let now = c.loop-did.running in
    let results = c.in-Opens.results in
    let new = record now { top = record now.top { results = Some results } } in
    let so = so_as fs first c.loop-did.did (done.Opens results) start now _ _ c.in-Opens.is c.loop-did.invariant in
    settled_so fs first (done.Opens results) start now new _ _ Settled.Going so refl refl (λ safe. safe_at fs now now.top.pc (Some results) safe so.known) (λ chunk m0 events left. refl)

pub returns-in-Ends-clause-settles : goal.returns-in-Ends-clause-settles
returns-in-Ends-clause-settles g c =
    let fs = c.args.functions.now in
    let first = c.args.did in
    let start = c.args.running.now in
    let now = c.loop-did.running in
    settled_so fs first done.Ends start now now _ _ Settled.Done (so_as fs first c.loop-did.did done.Ends start now _ _ c.in-Ends.is c.loop-did.invariant) refl refl (λ safe. safe) (λ chunk m0 events left. refl)

pub call-requires-clause-safe : goal.call-requires-clause-safe
call-requires-clause-safe g c = c.loop-did.invariant.safe c.requires.safe

pub call-requires-clause-callee : goal.call-requires-clause-callee
call-requires-clause-callee g c = (subst (IsDidOf c.loop-did.running.heap) c.in-Calls.is c.loop-did.invariant.known).0

pub call-requires-clause-args : goal.call-requires-clause-args
call-requires-clause-args g c = (subst (IsDidOf c.loop-did.running.heap) c.in-Calls.is c.loop-did.invariant.known).1

pub call-requires-clause-waiting : goal.call-requires-clause-waiting
call-requires-clause-waiting g c = subst (IsAwaitedIn c.args.functions.now c.loop-did.running) c.in-Calls.is c.loop-did.invariant.awaited

pub call-requires-clause-named : goal.call-requires-clause-named
call-requires-clause-named g c = named_so c.args.functions.now c.args.did c.loop-did.did c.args.running.now c.loop-did.running _ _ c.loop-did.invariant c.requires.named

pub fail-requires-clause-safe : goal.fail-requires-clause-safe
fail-requires-clause-safe g c = c.loop-did.invariant.safe c.requires.safe

pub fail-requires-clause-value : goal.fail-requires-clause-value
fail-requires-clause-value g c = subst (IsDidOf c.loop-did.running.heap) c.in-Fails.is c.loop-did.invariant.known

pub returns-in-None-clause-settles : goal.returns-in-None-clause-settles
returns-in-None-clause-settles g c =
    let fs = c.args.functions.now in
    let first = c.args.did in
    let start = c.args.running.now in
    let now = c.loop-did.running in
    let v = c.in-Fails.value in
    let new = c.fail.new.running in
    let down = subst (Descends fs v now new) c.in-None.is c.in_ok-next-in-Fails.ensures.does in
    failed_so fs first start now new _ _ v c.in_ok-failure_text-in-None.field-0 (so_as fs first c.loop-did.did (done.Fails v) start now _ _ c.in-Fails.is c.loop-did.invariant) down c.in_ok-failure_text-in-None.ensures

pub loop-did-preserved-in_ok-did-in-Calls : goal.loop-did-preserved-in_ok-did-in-Calls
loop-did-preserved-in_ok-did-in-Calls g c =
    let fs = c.args.functions.now in
    let first = c.args.did in
    let start = c.args.running.now in
    let now = c.loop-did.running in
    let asked = c.in-Calls in
    let next = c.in_ok-did-in-Calls in
    called_so fs first next.did start now c.call.new.running (set_told (λ z. (goal.Host-dyn g z).heard z.1) c.args.hosts.now) (set_told (λ z. (goal.Host-dyn g z).heard z.1) c.loop-did.hosts) (set_told (λ z. (goal.Host-dyn g z).heard z.1) c.call.new.hosts) asked.landing asked.callee asked.args (so_as fs first c.loop-did.did (done.Calls asked.landing asked.callee asked.args) start now _ _ asked.is c.loop-did.invariant) next.ensures.does

pub loop-did-preserved : goal.loop-did-preserved
loop-did-preserved g c =
    let fs = c.args.functions.now in
    let first = c.args.did in
    let start = c.args.running.now in
    let now = c.loop-did.running in
    let v = c.in-Fails.value in
    let new = c.fail.new.running in
    let next = c.in-Some.next in
    let down = subst (Descends fs v now new) c.in-Some.is c.in_ok-next-in-Fails.ensures.does in
    descended_so fs first next start now new _ _ v (so_as fs first c.loop-did.did (done.Fails v) start now _ _ c.in-Fails.is c.loop-did.invariant) down

pub returns-in_err-did-in-Calls-clause-broke_off : goal.returns-in_err-did-in-Calls-clause-broke_off
returns-in_err-did-in-Calls-clause-broke_off g c =
    let asked = c.in-Calls in
    on_err c.from_residual.result (settling_called c.args.functions.now c.args.did c.args.running.now c.loop-did.running _ _ _ asked.landing asked.callee asked.args (so_as c.args.functions.now c.args.did c.loop-did.did (done.Calls asked.landing asked.callee asked.args) c.args.running.now c.loop-did.running _ _ asked.is c.loop-did.invariant) c.in_err-did-in-Calls.ensures.broke_off)

pub returns-in_err-next-in-Fails-clause-broke_off : goal.returns-in_err-next-in-Fails-clause-broke_off
returns-in_err-next-in-Fails-clause-broke_off g c =
    on_err c.from_residual-in_err-next-in-Fails.result (settling_failed c.args.functions.now c.args.did c.args.running.now c.loop-did.running _ _ c.in-Fails.value (so_as c.args.functions.now c.args.did c.loop-did.did (done.Fails c.in-Fails.value) c.args.running.now c.loop-did.running _ _ c.in-Fails.is c.loop-did.invariant))

pub returns-in_err-failure_text-in-None-clause-broke_off : goal.returns-in_err-failure_text-in-None-clause-broke_off
returns-in_err-failure_text-in-None-clause-broke_off g c =
    on_err c.from_residual-in_err-failure_text-in-None.result (settling_failed c.args.functions.now c.args.did c.args.running.now c.loop-did.running _ _ c.in-Fails.value (so_as c.args.functions.now c.args.did c.loop-did.did (done.Fails c.in-Fails.value) c.args.running.now c.loop-did.running _ _ c.in-Fails.is c.loop-did.invariant))
