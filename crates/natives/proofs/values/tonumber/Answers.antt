-- What an argument refuses, the function refuses; an argument is the heap's.
use Rattle.std.proofs.lemmas.Result.{err_from_is_err_and}
use Rattle.natives.proofs.values.tonumber.Goals as goal

pub returns-in_err-v : goal.returns-in_err-v
returns-in_err-v c =
    let p = err_from_is_err_and c.from_residual.result c.from_residual.ensures.1 in
    rw (p.1, p.2) (λ hosts e. c.in_err-v.ensures.refused c.args.heap.now _)

pub number_of-requires : goal.number_of-requires
number_of-requires c = c.in_ok-v.ensures.known c.args.heap.now c.requires
