-- What an argument refuses, the function refuses; arguments are the heap's.
use Rattle.std.proofs.lemmas.Result.{err_from_is_err_and}
use Rattle.natives.proofs.values.rawequal.Goals as goal

pub returns-in_err-a : goal.returns-in_err-a
returns-in_err-a c =
    let p = err_from_is_err_and c.from_residual.result c.from_residual.ensures.1 in
    rw (p.1, p.2) (λ hosts e. c.in_err-a.ensures.refused c.args.heap.now _)

pub returns-in_err-b : goal.returns-in_err-b
returns-in_err-b c =
    let p = err_from_is_err_and c.from_residual-in_err-b.result c.from_residual-in_err-b.ensures.1 in
    let h = c.args.heap.now in
    rw (p.1, p.2) (λ hosts e. rw (c.in_ok-a.ensures.value h) (c.in_err-b.ensures.refused h _))

pub raw_equal-are_equal-requires-clause-a : goal.raw_equal-are_equal-requires-clause-a
raw_equal-are_equal-requires-clause-a c = c.in_ok-a.ensures.known c.args.heap.now c.requires

pub raw_equal-are_equal-requires-clause-b : goal.raw_equal-are_equal-requires-clause-b
raw_equal-are_equal-requires-clause-b c = c.in_ok-b.ensures.known c.args.heap.now c.requires
