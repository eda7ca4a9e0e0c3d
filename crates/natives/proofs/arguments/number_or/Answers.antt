-- Where an argument is not nil, a number is wanted.
use Rattle.std.proofs.Common.{◌≡◌, false, map, unwrap_or}
use Rattle.std.proofs.lemmas.Result.{err_from_is_err_and}
use Rattle.lua_model.specs.Datum.{nil, is_nil}
use Rattle.lua_model.specs.Builtins.{argument}
use Rattle.lua_heap.specs.State.{datum}
use Rattle.natives.proofs.arguments.number_or.Goals as goal

pub returns-in_err-number-clause-refused : goal.returns-in_err-number-clause-refused
returns-in_err-number-clause-refused c =
    let p = err_from_is_err_and c.from_residual.result c.from_residual.ensures.1 in
    let h = c.args.heap.now in
    let given : is_nil (unwrap_or (argument c.args.position (map (datum h) c.args.args.now)) nil) ≡ false = cc (c.if-is_nil.ensures h, c.argument_or_nil.ensures.value h) in
    rw (p.1, p.2) (λ k. rw given (c.in_err-number.ensures.refused k))
