-- What an argument refuses, the function refuses; an argument is the heap's, and texts are no tables.
use Rattle.std.proofs.lemmas.Result.{err_from_is_err_and}
use Rattle.lua_heap.specs.State.{store_of}
use Rattle.natives.proofs.metatables.setmetatable.Goals as goal

pub returns-in_err-table-clause-act : goal.returns-in_err-table-clause-act
returns-in_err-table-clause-act c =
    let p = err_from_is_err_and c.from_residual.result c.from_residual.ensures.1 in
    rw (p.1, p.2) (λ hosts e. c.in_err-table.ensures.refused c.args.heap.now _)

pub returns-in_err-metatable-clause-act : goal.returns-in_err-metatable-clause-act
returns-in_err-metatable-clause-act c =
    let p = err_from_is_err_and c.from_residual-in_err-metatable.result c.from_residual-in_err-metatable.ensures.1 in
    let h = c.args.heap.now in
    rw (p.1, p.2) (λ hosts e. rw (c.in_ok-table.ensures.table h) (c.in_err-metatable.ensures.refused h (store_of h hosts) c.in_ok-table.table.index))

pub set_metatable-requires-clause-metatable : goal.set_metatable-requires-clause-metatable
set_metatable-requires-clause-metatable c = c.in_ok-metatable.ensures.known c.args.heap.now c.requires
