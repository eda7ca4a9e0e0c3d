use Rattle.std.proofs.lemmas.Result.{err_from_is_err_and}
use Rattle.chunk_io.specs.Reading.{int_at, many_at}
use Rattle.chunk_io.proofs.Loop.{goes_on, ends, is_done}
use Rattle.chunk_io.proofs.lists.many_lines.Goals as goal

pub returns-in_err-line : goal.returns-in_err-line
returns-in_err-line c =
    let p = err_from_is_err_and c.from_residual.result c.from_residual.ensures.1 in
    rw (p.1, p.2) (ends (int_at c.args.layout) c.in_err-line.field-0.0 c.loop.lines.items c.args.count c.loop.counter c.loop.rest.now (many_at (int_at c.args.layout) c.args.count c.args.bytes.now) c.loop-test.true c.in_err-line.ensures c.loop.invariant)

pub loop-preserved : goal.loop-preserved
loop-preserved c =
    rw c.in_ok-push.ensures.items (goes_on (int_at c.args.layout) c.loop.lines.items c.args.count c.loop.counter c.loop.rest.now c.in_ok-line.line c.in_ok-line.after.now (many_at (int_at c.args.layout) c.args.count c.args.bytes.now) c.loop-test.true c.in_ok-line.ensures c.loop.invariant)

pub returns : goal.returns
returns c = is_done (int_at c.args.layout) c.loop.lines.items c.args.count c.loop.counter c.loop.rest.now (many_at (int_at c.args.layout) c.args.count c.args.bytes.now) c.loop-test.false c.loop.invariant
