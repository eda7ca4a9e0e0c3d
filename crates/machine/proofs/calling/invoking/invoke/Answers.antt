use Rattle.std.proofs.Common.{◌≡◌, suc, ◌-◌, refl, arith}
use Rattle.std.proofs.lemmas.Result.{IfOk-weaker}
use Rattle.host.specs.Views.{set_told}
use Rattle.machine.proofs.CallTurns.{protected_start, named_now, protected_next, protected_done, protected_over}
use Rattle.machine.proofs.calling.invoking.invoke.Goals as goal
use Rattle.machine.proofs.BrokenOff.{on_err}
use Rattle.machine.proofs.BrokenCalls.{protected_broke, protected_broke_here}

pub loop-protections-init : goal.loop-protections-init
loop-protections-init g c = protected_start c.requires.f c.requires.args

pub call_once-requires-clause-named : goal.call_once-requires-clause-named
call_once-requires-clause-named g c = named_now c.loop-protections.invariant c.requires.named

pub returns-in-Done-clause-invokes : goal.returns-in-Done-clause-invokes
returns-in-Done-clause-invokes g c =
    let is_left : 201 - c.loop-protections.protections ≡ suc (200 - c.loop-protections.protections) = omega (arith, c.loop-protections-test.true) in
    protected_done c.loop-protections.invariant {behind = set_told (λ z. (goal.Host-dyn g z).heard z.1) c.call_once.new.hosts} is_left (λ enters lands s d ds. refl) c.in-Done.is c.in_ok-called.ensures.turns

pub loop-protections-preserved : goal.loop-protections-preserved
loop-protections-preserved g c =
    protected_next c.loop-protections.invariant {behind = set_told (λ z. (goal.Host-dyn g z).heard z.1) c.call_once.new.hosts} (omega (arith, c.loop-protections-test.true)) (omega arith) c.in-Again.is c.in_ok-called.ensures.turns

pub returns-clause-invokes : goal.returns-clause-invokes
returns-clause-invokes g c =
    let last : c.loop-protections.protections ≡ suc 200 = omega (arith, c.loop-protections-test.false) in
    IfOk-weaker c.fail_in.result _ _ (λ called is.
    protected_over c.in_ok-overflow.overflow c.loop-protections.invariant (omega (arith, last)) last (λ enters lands s d ds. refl) c.in_ok-overflow.ensures.grown c.in_ok-overflow.ensures.value c.in_ok-overflow.ensures.known is) c.fail_in.ensures

pub returns-in_err-called-clause-broke_off : goal.returns-in_err-called-clause-broke_off
returns-in_err-called-clause-broke_off g c =
    let is_left : 201 - c.loop-protections.protections ≡ suc (200 - c.loop-protections.protections) = omega (arith, c.loop-protections-test.true) in
    on_err c.from_residual.result (protected_broke c.loop-protections.invariant {behind = set_told (λ z. (goal.Host-dyn g z).heard z.1) c.call_once.new.hosts} is_left (λ enters lands s d ds. refl) c.in_err-called.ensures.broke_off)

pub returns-in_err-overflow-clause-broke_off : goal.returns-in_err-overflow-clause-broke_off
returns-in_err-overflow-clause-broke_off g c =
    on_err c.from_residual-in_err-overflow.result (protected_broke_here c.loop-protections.invariant)

pub returns-clause-broke_off : goal.returns-clause-broke_off
returns-clause-broke_off g c =
    on_err c.fail_in.result (protected_broke_here c.loop-protections.invariant)
