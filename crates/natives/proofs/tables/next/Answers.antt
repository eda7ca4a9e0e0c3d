-- What an argument refuses, the function refuses; an argument is the heap's.
use Rattle.std.proofs.lemmas.Result.{err_from_is_err_and}
use Rattle.natives.proofs.tables.next.Goals as goal

pub returns-in_err-table : goal.returns-in_err-table
returns-in_err-table c =
    let p = err_from_is_err_and c.from_residual.result c.from_residual.ensures.1 in
    rw (p.1, p.2) (λ hosts e. c.in_err-table.ensures.refused c.args.heap.now _)

pub next-requires-clause-key : goal.next-requires-clause-key
next-requires-clause-key c = c.argument_or_nil-key.ensures.known c.args.heap.now c.requires
