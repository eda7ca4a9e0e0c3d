use Rattle.std.proofs.Common.{map, sym, ap, ◌∙◌}
use Rattle.lua_model.specs.declared.Value.{Value}
use Rattle.lua_model.specs.Datum.{text}
use Rattle.lua_model.specs.Store.{as_datum}
use Rattle.meta_ops.proofs.Tries.{grown_both}
use Rattle.machine.proofs.Outcomes.{reply_results, reply_fails}
use Rattle.machine.proofs.calling.applying.ask.Goals as goal
use Rattle.machine.proofs.BrokenOff.{on_err}
use Rattle.machine.proofs.BrokenCalls.{no_apply_as, values_broke, failure_broke, unanswered_broke}

pub returns-in_ok-results-in-Values-clause-applies : goal.returns-in_ok-results-in-Values-clause-applies
returns-in_ok-results-in-Values-clause-applies g c before given pieces named answers grown =
    let now = c.reply_values.new.heap in
    reply_results before now c.args.host c.args.args given pieces _ _ _ c.in-Values.values c.in_ok-results-in-Values.results named c.requires.live answers
    c.in_ok-call.ensures.ok (sym c.last_reply.ensures ∙ c.in-Values.is)
    (ap (map as_datum) (sym c.items.ensures) ∙ c.in_ok-results-in-Values.ensures.values) c.in_ok-results-in-Values.ensures.known
    (grown_both before c.args.heap.now now grown c.reply_values.ensures.grown)

pub returns-in_ok-failure-in-Fail-clause-applies : goal.returns-in_ok-failure-in-Fail-clause-applies
returns-in_ok-failure-in-Fail-clause-applies g c before given pieces named answers grown =
    let now = c.text_value.new.heap in
    reply_fails before now c.args.host c.args.args given pieces _ _ _ c.in-Fail.text c.in_ok-failure-in-Fail.failure named c.requires.live answers
    c.in_ok-call.ensures.ok (sym c.last_reply.ensures ∙ c.in-Fail.is)
    (c.in_ok-failure-in-Fail.ensures.value ∙ ap text c.bytes.ensures) c.in_ok-failure-in-Fail.ensures.known
    (grown_both before c.args.heap.now now grown c.text_value.ensures.grown)

pub returns-in_err-call-clause-broke_off : goal.returns-in_err-call-clause-broke_off
returns-in_err-call-clause-broke_off g c =
    on_err c.from_residual.result (λ before given named answers. no_apply_as (Value.Host c.args.host) given before _ _ c.in_err-call.ensures.err)

pub returns-in_err-results-in-Values-clause-broke_off : goal.returns-in_err-results-in-Values-clause-broke_off
returns-in_err-results-in-Values-clause-broke_off g c =
    on_err c.from_residual-in_err-results-in-Values.result (λ before given named answers. values_broke before c.args.heap.now c.args.host c.args.args given _ _ _ c.in-Values.values named c.requires.live answers c.in_ok-call.ensures.ok (sym c.last_reply.ensures ∙ c.in-Values.is))

pub returns-in_err-failure-in-Fail-clause-broke_off : goal.returns-in_err-failure-in-Fail-clause-broke_off
returns-in_err-failure-in-Fail-clause-broke_off g c =
    on_err c.from_residual-in_err-failure-in-Fail.result (λ before given named answers. failure_broke before c.args.heap.now c.args.host c.args.args given _ _ _ c.in-Fail.text named c.requires.live answers c.in_ok-call.ensures.ok (sym c.last_reply.ensures ∙ c.in-Fail.is))

pub returns-in-OutOfMemory-clause-broke_off : goal.returns-in-OutOfMemory-clause-broke_off
returns-in-OutOfMemory-clause-broke_off g c before given named answers =
    unanswered_broke before c.args.host c.args.args given _ _ _ c.in_ok-call.ensures.ok (sym c.last_reply.ensures ∙ c.in-OutOfMemory.is)
