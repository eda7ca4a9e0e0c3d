use Rattle.std.proofs.lemmas.Result.{IfOk-weaker}
use Rattle.rules.specs.Calls.{push, land}
use Rattle.machine.specs.Frames.{landing_of}
use Rattle.machine.proofs.OutsideFirst.{results_first, fails_first, enters_first}
use Rattle.machine.proofs.settling.call.Goals as goal
use Rattle.machine.proofs.BrokenOff.{on_err}
use Rattle.machine.proofs.BrokenCalls.{call_broke_behind}
use Rattle.machine.proofs.BrokenSteps.{call_broke}
use Rattle.machine.proofs.EventsGrow.{calls_keep}

pub returns-in-Results-clause-does : goal.returns-in-Results-clause-does
returns-in-Results-clause-does g c =
    let l = landing_of c.args.landing in
    let invoked = c.in_ok-values.ensures.invokes in
    IfOk-weaker c.land_top.result _ _ (λ did does. results_first c.args.functions.now c.args.running.now c.invoke.new.heap c.invoke.new.pieces invoked.keeps invoked.only_tables c.args.callee c.args.args c.in_ok-values.field-0 _ _ (push l (land l)) (land l) invoked c.in-Results.values c.land_top.new.running did c.in-Results.is does) c.land_top.ensures.does

pub returns-in-Fails-clause-does : goal.returns-in-Fails-clause-does
returns-in-Fails-clause-does g c =
    let l = landing_of c.args.landing in
    let invoked = c.in_ok-values.ensures.invokes in
    fails_first c.args.functions.now c.args.running.now c.invoke.new.heap c.invoke.new.pieces invoked.keeps invoked.only_tables c.args.callee c.args.args c.in_ok-values.field-0 _ _ (push l (land l)) (land l) invoked c.in-Fails.value c.in-Fails.is

pub returns-in-Enters-clause-does : goal.returns-in-Enters-clause-does
returns-in-Enters-clause-does g c =
    let l = landing_of c.args.landing in
    let invoked = c.in_ok-values.ensures.invokes in
    let entered = c.in-Enters in
    IfOk-weaker c.push.result _ _ (λ did does. enters_first c.args.functions.now c.args.running.now c.invoke.new.heap c.invoke.new.pieces invoked.keeps invoked.only_tables c.args.callee c.args.args c.in_ok-values.field-0 _ _ (push l (land l)) (land l) invoked entered.closure entered.args c.items.result.now entered.protections c.push.new.running did entered.is c.items.ensures does) c.push.ensures.does

pub returns-in_err-values-clause-broke_off : goal.returns-in_err-values-clause-broke_off
returns-in_err-values-clause-broke_off g c =
    on_err c.from_residual.result (call_broke c.args.functions.now c.args.running.now _ _ c.args.callee c.args.args (push (landing_of c.args.landing) (land (landing_of c.args.landing))) (land (landing_of c.args.landing)) (calls_keep (landing_of c.args.landing)) c.in_err-values.ensures.broke_off)

pub returns-in-Results-clause-broke_off : goal.returns-in-Results-clause-broke_off
returns-in-Results-clause-broke_off g c =
    on_err c.land_top.result (call_broke c.args.functions.now c.args.running.now _ _ c.args.callee c.args.args (push (landing_of c.args.landing) (land (landing_of c.args.landing))) (land (landing_of c.args.landing)) (calls_keep (landing_of c.args.landing)) (call_broke_behind c.in_ok-values.ensures.invokes))

pub returns-in-Enters-clause-broke_off : goal.returns-in-Enters-clause-broke_off
returns-in-Enters-clause-broke_off g c =
    on_err c.push.result (call_broke c.args.functions.now c.args.running.now _ _ c.args.callee c.args.args (push (landing_of c.args.landing) (land (landing_of c.args.landing))) (land (landing_of c.args.landing)) (calls_keep (landing_of c.args.landing)) (call_broke_behind c.in_ok-values.ensures.invokes))
