use Rattle.std.proofs.Common.{◌≡◌, List, sym, subst}
use Rattle.std.proofs.lemmas.Result.{IfOk-weaker}
use Rattle.opcode.specs.declared.op.Op.{Op}
use Rattle.opcode.specs.declared.word.Instr.{Instr}
use Rattle.host.specs.Hosts.{HostSetState}
use Rattle.rules.specs.Step.{effect}
use Rattle.machine.specs.declared.function.Function.{Function}
use Rattle.machine.specs.declared.running.Running.{Running}
use Rattle.machine.specs.declared.did.Did.{Did}
use Rattle.machine.specs.Settled.{DoesOutside}
use Rattle.machine.proofs.InPlace.{quiet, framed_as}
use Rattle.machine.proofs.stepping.do_word.Goals as goal
use Rattle.machine.specs.Begun.{BeginsSeen, BrokeOff}
use Rattle.machine.proofs.BrokenOff.{on_err, on_err_as}
use Rattle.machine.proofs.BrokenSteps.{no_effect}

-- where the word's opcode is this one
for_op : {fs : List Function} {old new : Running} {before behind : HostSetState} {did : Did} (i : Instr) (o : Op) → i.op ≡ o → DoesOutside fs (λ m. effect o m i) old new before behind did → DoesOutside fs (λ m. effect i.op m i) old new before behind did
for_op {fs} {old} {new} {before} {behind} {did} i o is does =
    let P : Op → Type 0 = λ x. DoesOutside fs (λ m. effect x m i) old new before behind did in
    subst P (sym is) does

for_op_broke : {fs : List Function} {k : Running} {before behind : HostSetState} (i : Instr) (o : Op) → i.op ≡ o → BrokeOff (BeginsSeen fs (λ m. effect o m i) k before) before behind → BrokeOff (BeginsSeen fs (λ m. effect i.op m i) k before) before behind
for_op_broke {fs} {k} {before} {behind} i o is broke =
    let P : Op → Type 0 = λ x. BrokeOff (BeginsSeen fs (λ m. effect x m i) k before) before behind in
    subst P (sym is) broke

pub make_closure-requires-clause-fits : goal.make_closure-requires-clause-fits
make_closure-requires-clause-fits g c f at = framed_as c.args.functions.now f c.args.running.now c.args.i Op.Closure c.in-Closure.is (c.requires.fits f at)

pub make_closure-requires-clause-captures : goal.make_closure-requires-clause-captures
make_closure-requires-clause-captures g c f inner n at at_number at_inner = (c.requires.fits f at).captures c.in-Closure.is n inner at_number at_inner

pub make_closure-requires-clause-inner : goal.make_closure-requires-clause-inner
make_closure-requires-clause-inner g c f n at at_number = (c.requires.fits f at).inner c.in-Closure.is n at_number

pub call_word-requires-clause-fits : goal.call_word-requires-clause-fits
call_word-requires-clause-fits g c f at = framed_as c.args.functions.now f c.args.running.now c.args.i Op.Call c.in-Call.is (c.requires.fits f at)

pub tail_call-requires-clause-fits : goal.tail_call-requires-clause-fits
tail_call-requires-clause-fits g c f at = framed_as c.args.functions.now f c.args.running.now c.args.i Op.TailCall c.in-TailCall.is (c.requires.fits f at)

pub return_word-requires-clause-fits : goal.return_word-requires-clause-fits
return_word-requires-clause-fits g c f at = framed_as c.args.functions.now f c.args.running.now c.args.i Op.Return c.in-Return.is (c.requires.fits f at)

pub set_list_word-requires-clause-fits : goal.set_list_word-requires-clause-fits
set_list_word-requires-clause-fits g c f at = framed_as c.args.functions.now f c.args.running.now c.args.i Op.SetList c.in-SetList.is (c.requires.fits f at)

pub vararg-requires-clause-fits : goal.vararg-requires-clause-fits
vararg-requires-clause-fits g c f at = framed_as c.args.functions.now f c.args.running.now c.args.i Op.Vararg c.in-Vararg.is (c.requires.fits f at)

pub returns-in_ok-make_closure-in-Closure-clause-does : goal.returns-in_ok-make_closure-in-Closure-clause-does
returns-in_ok-make_closure-in-Closure-clause-does g c = for_op c.args.i Op.Closure c.in-Closure.is (quiet c.in_ok-make_closure-in-Closure.ensures.does)

pub returns-in-Call-clause-does : goal.returns-in-Call-clause-does
returns-in-Call-clause-does g c = IfOk-weaker c.call_word.result _ _ (λ did does. for_op c.args.i Op.Call c.in-Call.is (quiet does)) c.call_word.ensures.does

pub returns-in-TailCall-clause-does : goal.returns-in-TailCall-clause-does
returns-in-TailCall-clause-does g c = IfOk-weaker c.tail_call.result _ _ (λ did does. for_op c.args.i Op.TailCall c.in-TailCall.is does) c.tail_call.ensures.does

pub returns-in-Return-clause-does : goal.returns-in-Return-clause-does
returns-in-Return-clause-does g c = IfOk-weaker c.return_word.result _ _ (λ did does. for_op c.args.i Op.Return c.in-Return.is (quiet does)) c.return_word.ensures.does

pub returns-in-SetList-clause-does : goal.returns-in-SetList-clause-does
returns-in-SetList-clause-does g c = IfOk-weaker c.set_list_word.result _ _ (λ did does. for_op c.args.i Op.SetList c.in-SetList.is (quiet does)) c.set_list_word.ensures.does

pub returns-in-Vararg-clause-does : goal.returns-in-Vararg-clause-does
returns-in-Vararg-clause-does g c = IfOk-weaker c.vararg.result _ _ (λ did does. for_op c.args.i Op.Vararg c.in-Vararg.is (quiet does)) c.vararg.ensures.does

pub returns-in_default-clause-does : goal.returns-in_default-clause-does
returns-in_default-clause-does g c = IfOk-weaker c.perform_plain.result _ _ (λ did does. quiet does) c.perform_plain.ensures.does

pub returns-in_err-make_closure-in-Closure-clause-broke_off : goal.returns-in_err-make_closure-in-Closure-clause-broke_off
returns-in_err-make_closure-in-Closure-clause-broke_off g c =
    on_err c.from_residual.result (no_effect c.args.functions.now c.args.i.op c.args.i c.args.running.now _)

pub returns-in-Call-clause-broke_off : goal.returns-in-Call-clause-broke_off
returns-in-Call-clause-broke_off g c =
    on_err c.call_word.result (no_effect c.args.functions.now c.args.i.op c.args.i c.args.running.now _)

pub returns-in-Return-clause-broke_off : goal.returns-in-Return-clause-broke_off
returns-in-Return-clause-broke_off g c =
    on_err c.return_word.result (no_effect c.args.functions.now c.args.i.op c.args.i c.args.running.now _)

pub returns-in-SetList-clause-broke_off : goal.returns-in-SetList-clause-broke_off
returns-in-SetList-clause-broke_off g c =
    on_err c.set_list_word.result (no_effect c.args.functions.now c.args.i.op c.args.i c.args.running.now _)

pub returns-in-Vararg-clause-broke_off : goal.returns-in-Vararg-clause-broke_off
returns-in-Vararg-clause-broke_off g c =
    on_err c.vararg.result (no_effect c.args.functions.now c.args.i.op c.args.i c.args.running.now _)

pub returns-in_default-clause-broke_off : goal.returns-in_default-clause-broke_off
returns-in_default-clause-broke_off g c =
    on_err c.perform_plain.result (no_effect c.args.functions.now c.args.i.op c.args.i c.args.running.now _)

pub returns-in-TailCall-clause-broke_off : goal.returns-in-TailCall-clause-broke_off
returns-in-TailCall-clause-broke_off g c =
    on_err_as c.tail_call.result (λ broke. for_op_broke c.args.i Op.TailCall c.in-TailCall.is broke) c.tail_call.ensures.broke_off
