use Rattle.std.proofs.lemmas.Result.{IfOk-weaker}
use Rattle.opcode.specs.declared.op.Op.{Op}
use Rattle.machine.proofs.InPlace.{framed_as_word, goes_on_word}
use Rattle.machine.proofs.crossing.cross.Goals as goal

pub call_in_place-requires-clause-fits : goal.call_in_place-requires-clause-fits
call_in_place-requires-clause-fits c f at = framed_as_word c.args.functions.now f c.args.running.now c.args.word c.abc.result c.abc.ensures Op.Call c.in-Call.is (c.requires.fits f at)

pub return_in_place-requires-clause-fits : goal.return_in_place-requires-clause-fits
return_in_place-requires-clause-fits c f at = framed_as_word c.args.functions.now f c.args.running.now c.args.word c.abc-in-Return.result c.abc-in-Return.ensures Op.Return c.in-Return.is (c.requires.fits f at)

pub returns-in-Call-clause-done : goal.returns-in-Call-clause-done
returns-in-Call-clause-done c = IfOk-weaker c.call_in_place.result _ _ (λ done does yes. goes_on_word c.args.word c.abc.result c.abc.ensures Op.Call c.in-Call.is (does yes)) c.call_in_place.ensures.done

pub returns-in-Return-clause-done : goal.returns-in-Return-clause-done
returns-in-Return-clause-done c = λ yes. goes_on_word c.args.word c.abc-in-Return.result c.abc-in-Return.ensures Op.Return c.in-Return.is (c.return_in_place.ensures.done yes)
