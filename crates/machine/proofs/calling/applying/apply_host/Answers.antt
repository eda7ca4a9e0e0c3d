use Rattle.std.proofs.Common.{◌≡◌, true, sym, subst, ◌∙◌}
use Rattle.std.proofs.lemmas.Result.{IfOk-weaker}
use Rattle.lua_model.specs.declared.Value.{Value}
use Rattle.lua_heap.specs.Grown.{Grown}
use Rattle.natives.specs.HostAnswers.{HostAnswers, IsHostActOf}
use Rattle.machine.proofs.Outcomes.{host_fails, asked_live, asked_answers}
use Rattle.machine.proofs.calling.applying.apply_host.Goals as goal
use Rattle.machine.proofs.BrokenOff.{on_err, on_err_as}
use Rattle.machine.proofs.BrokenCalls.{no_apply}

pub ask-requires-clause-live : goal.ask-requires-clause-live
ask-requires-clause-live g c =
    let live = asked_live c.args.heap.now c.host_call.new.heap c.args.host c.is_live-live.result c.args.args.now _ c.in_ok-act.act c.in-Ask.plain c.requires.named c.is_live-live.ensures c.in_ok-act.ensures.act c.in-Ask.is in
    sym c.is_live-live.ensures ∙ live

pub returns-in-Ask-clause-applies : goal.returns-in-Ask-clause-applies
returns-in-Ask-clause-applies g c =
    let old = c.args.heap.now in
    let between = c.host_call.new.heap in
    let live : c.is_live-live.result ≡ true = asked_live old between c.args.host c.is_live-live.result c.args.args.now _ c.in_ok-act.act c.in-Ask.plain c.requires.named c.is_live-live.ensures c.in_ok-act.ensures.act c.in-Ask.is in
    let answers = asked_answers old between c.args.host c.is_live-live.result c.args.args.now c.in_ok-act.act c.in-Ask.plain c.in_ok-act.ensures.act c.in-Ask.is live in
    let grown : Grown old between = record { only_texts = c.host_call.ensures.only_texts; keeps = c.host_call.ensures.keeps } in
    IfOk-weaker c.ask.result _ _ (λ applied is pieces. is old c.args.args.now pieces c.requires.named answers grown) c.ask.ensures.applies

pub returns-in-Fail-clause-applies : goal.returns-in-Fail-clause-applies
returns-in-Fail-clause-applies g c pieces =
    let old = c.args.heap.now in
    let new = c.host_call.new.heap in
    let answers = subst (HostAnswers old new c.args.host c.is_live-live.result c.args.args.now) c.in-Fail.is c.in_ok-act.ensures.act in
    let known = subst (IsHostActOf new) c.in-Fail.is c.in_ok-act.ensures.known in
    host_fails old new c.args.host c.is_live-live.result c.args.args.now pieces _ c.in-Fail.value c.requires.named c.is_live-live.ensures answers known c.host_call.ensures.only_texts c.host_call.ensures.keeps

pub returns-in_err-act-clause-broke_off : goal.returns-in_err-act-clause-broke_off
returns-in_err-act-clause-broke_off g c =
    on_err c.from_residual.result (no_apply (Value.Host c.args.host) c.args.args.now c.args.heap.now _)

pub returns-in-Ask-clause-broke_off : goal.returns-in-Ask-clause-broke_off
returns-in-Ask-clause-broke_off g c =
    let old = c.args.heap.now in
    let between = c.host_call.new.heap in
    let live : c.is_live-live.result ≡ true = asked_live old between c.args.host c.is_live-live.result c.args.args.now _ c.in_ok-act.act c.in-Ask.plain c.requires.named c.is_live-live.ensures c.in_ok-act.ensures.act c.in-Ask.is in
    let answers = asked_answers old between c.args.host c.is_live-live.result c.args.args.now c.in_ok-act.act c.in-Ask.plain c.in_ok-act.ensures.act c.in-Ask.is live in
    on_err_as c.ask.result (λ broke. broke old c.args.args.now c.requires.named answers) c.ask.ensures.broke_off
