-- What an argument refuses, the function refuses.
use Rattle.std.proofs.lemmas.Result.{err_from_is_err_and}
use Rattle.natives.proofs.values.type_of.Goals as goal

pub returns-in_err-v-clause-act : goal.returns-in_err-v-clause-act
returns-in_err-v-clause-act c =
    let p = err_from_is_err_and c.from_residual.result c.from_residual.ensures.1 in
    rw (p.1, p.2) (λ hosts e. c.in_err-v.ensures.refused c.args.heap.now _)
