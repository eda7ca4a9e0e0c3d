use Rattle.std.proofs.lemmas.Result.{err_from_is_err_and}
use Rattle.asm_text.specs.Reading.{spaced_many}
use Rattle.asm_text.proofs.Turns.{many_next, many_stops, many_done}
use Rattle.asm_text.proofs.numbers.many_spaced.Goals as goal

pub returns-in_err-n : goal.returns-in_err-n
returns-in_err-n c =
    let p = err_from_is_err_and c.from_residual.result c.from_residual.ensures.1 in
    rw (p.1, p.2) (many_stops c.in_err-n.field-0.0 2147483648 c.args.count c.loop.counter c.loop.numbers.items c.loop.rest.now (spaced_many 2147483648 c.args.count c.args.text.now) c.loop-test.true c.in_err-n.ensures c.loop.invariant)

pub loop-preserved : goal.loop-preserved
loop-preserved c =
    rw c.in_ok-push.ensures.items (many_next 2147483648 c.args.count c.loop.counter c.in_ok-n.n c.loop.numbers.items c.loop.rest.now c.in_ok-n.after.now (spaced_many 2147483648 c.args.count c.args.text.now) c.loop-test.true c.in_ok-n.ensures c.loop.invariant)

pub returns : goal.returns
returns c = many_done 2147483648 c.args.count c.loop.counter c.loop.numbers.items c.loop.rest.now (spaced_many 2147483648 c.args.count c.args.text.now) c.loop-test.false c.loop.invariant
