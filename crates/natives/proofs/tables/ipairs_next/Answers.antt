-- What an argument refuses, the function refuses.
use Rattle.std.proofs.lemmas.Result.{err_from_is_err_and}
use Rattle.natives.proofs.tables.ipairs_next.Goals as goal

pub returns-in_err-table : goal.returns-in_err-table
returns-in_err-table c =
    let p = err_from_is_err_and c.from_residual.result c.from_residual.ensures.1 in
    rw (p.1, p.2) (λ hosts e. c.in_err-table.ensures.refused c.args.heap.now _)

pub returns-in_err-place : goal.returns-in_err-place
returns-in_err-place c =
    let p = err_from_is_err_and c.from_residual-in_err-place.result c.from_residual-in_err-place.ensures.1 in
    let h = c.args.heap.now in
    rw (p.1, p.2) (λ hosts e. rw (c.in_ok-table.ensures.table h) (c.in_err-place.ensures.refused _))
