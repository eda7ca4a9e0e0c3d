-- What an argument refuses, the function refuses.
use Rattle.std.proofs.lemmas.Result.{err_from_is_err_and}
use Rattle.natives.proofs.tables.rawget.Goals as goal

pub returns-in_err-table : goal.returns-in_err-table
returns-in_err-table c =
    let p = err_from_is_err_and c.from_residual.result c.from_residual.ensures.1 in
    rw (p.1, p.2) (λ hosts e. c.in_err-table.ensures.refused c.args.heap.now _)

pub returns-in_err-key : goal.returns-in_err-key
returns-in_err-key c =
    let p = err_from_is_err_and c.from_residual-in_err-key.result c.from_residual-in_err-key.ensures.1 in
    rw (p.1, p.2) (λ hosts e. rw (c.in_ok-table.ensures.table c.args.heap.now) (c.in_err-key.ensures.refused c.args.heap.now _))

pub raw_get-requires-clause-key : goal.raw_get-requires-clause-key
raw_get-requires-clause-key c = c.in_ok-key.ensures.known c.args.heap.now c.requires
