use Rattle.std.proofs.lemmas.Result.{IfOk-weaker}
use Rattle.host.specs.Views.{set_told}
use Rattle.machine.proofs.CallTurns.{turns_by, turns_failed}
use Rattle.machine.proofs.calling.invoking.call_once.Goals as goal
use Rattle.machine.proofs.BrokenOff.{on_err}
use Rattle.machine.proofs.BrokenCalls.{no_turn, turn_broke, turn_broke_behind}

pub returns-in_ok-applied-in-Calls-clause-turns : goal.returns-in_ok-applied-in-Calls-clause-turns
returns-in_ok-applied-in-Calls-clause-turns g c =
    IfOk-weaker c.turn_within.result _ _ (λ turn is.
    turns_by {before = set_told (λ z. (goal.Host-dyn g z).heard z.1) c.args.hosts.now} {behind = set_told (λ z. (goal.Host-dyn g z).heard z.1) c.apply.new.hosts} c.requires.protections c.in-Calls.is c.in_ok-f.ensures c.items.ensures c.in_ok-applied-in-Calls.ensures.applies is) c.turn_within.ensures

pub returns-in_ok-fail_in-in-Fails-clause-turns : goal.returns-in_ok-fail_in-in-Fails-clause-turns
returns-in_ok-fail_in-in-Fails-clause-turns g c = turns_failed c.in-Fails.is c.in_ok-f.ensures c.in_ok-fail_in-in-Fails.ensures

pub returns-in_err-f-clause-broke_off : goal.returns-in_err-f-clause-broke_off
returns-in_err-f-clause-broke_off g c =
    on_err c.from_residual.result (no_turn c.args.f c.args.args c.args.protections c.args.heap.now _)

pub returns-in_err-applied-in-Calls-clause-broke_off : goal.returns-in_err-applied-in-Calls-clause-broke_off
returns-in_err-applied-in-Calls-clause-broke_off g c =
    on_err c.from_residual-in_err-applied-in-Calls.result (turn_broke c.args.protections {before = set_told (λ z. (goal.Host-dyn g z).heard z.1) c.args.hosts.now} {behind = set_told (λ z. (goal.Host-dyn g z).heard z.1) c.apply.new.hosts} c.in-Calls.is c.in_ok-f.ensures c.items.ensures c.in_err-applied-in-Calls.ensures.broke_off)

pub returns-in_ok-applied-in-Calls-clause-broke_off : goal.returns-in_ok-applied-in-Calls-clause-broke_off
returns-in_ok-applied-in-Calls-clause-broke_off g c =
    on_err c.turn_within.result (turn_broke_behind c.args.protections {before = set_told (λ z. (goal.Host-dyn g z).heard z.1) c.args.hosts.now} {behind = set_told (λ z. (goal.Host-dyn g z).heard z.1) c.apply.new.hosts} c.in-Calls.is c.in_ok-f.ensures c.items.ensures c.in_ok-applied-in-Calls.ensures.applies)

pub returns-in_err-fail_in-in-Fails-clause-broke_off : goal.returns-in_err-fail_in-in-Fails-clause-broke_off
returns-in_err-fail_in-in-Fails-clause-broke_off g c =
    on_err c.from_residual-in_err-fail_in-in-Fails.result (no_turn c.args.f c.args.args c.args.protections c.args.heap.now _)
