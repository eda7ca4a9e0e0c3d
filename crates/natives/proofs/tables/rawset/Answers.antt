-- What an argument refuses, the function refuses; arguments are the heap's.
use Rattle.std.proofs.lemmas.Result.{err_from_is_err_and}
use Rattle.natives.proofs.tables.rawset.Goals as goal

pub returns-in_err-table-clause-act : goal.returns-in_err-table-clause-act
returns-in_err-table-clause-act c =
    let p = err_from_is_err_and c.from_residual.result c.from_residual.ensures.1 in
    rw (p.1, p.2) (λ hosts e. c.in_err-table.ensures.refused c.args.heap.now _)

pub returns-in_err-key-clause-act : goal.returns-in_err-key-clause-act
returns-in_err-key-clause-act c =
    let p = err_from_is_err_and c.from_residual-in_err-key.result c.from_residual-in_err-key.ensures.1 in
    let h = c.args.heap.now in
    rw (p.1, p.2) (λ hosts e. rw (c.in_ok-table.ensures.table h) (c.in_err-key.ensures.refused h _))

pub returns-in_err-value-clause-act : goal.returns-in_err-value-clause-act
returns-in_err-value-clause-act c =
    let p = err_from_is_err_and c.from_residual-in_err-value.result c.from_residual-in_err-value.ensures.1 in
    let h = c.args.heap.now in
    rw (p.1, p.2) (λ hosts e. rw (c.in_ok-table.ensures.table h, c.in_ok-key.ensures.value h) (c.in_err-value.ensures.refused h _))

pub raw_set-requires-clause-key : goal.raw_set-requires-clause-key
raw_set-requires-clause-key c = c.in_ok-key.ensures.known c.args.heap.now c.requires

pub raw_set-requires-clause-value : goal.raw_set-requires-clause-value
raw_set-requires-clause-value c = c.in_ok-value.ensures.known c.args.heap.now c.requires
