-- What an argument refuses, the function refuses.
use Rattle.std.proofs.Common.{◌≡◌, false, map, unwrap_or}
use Rattle.std.proofs.lemmas.Result.{err_from_is_err_and}
use Rattle.lua_model.specs.Datum.{nil, is_nil, is_true}
use Rattle.lua_model.specs.Builtins.{argument}
use Rattle.lua_heap.specs.State.{datum}
use Rattle.natives.proofs.Texts.{is_true_is}
use Rattle.natives.proofs.failures.assert.Goals as goal

pub returns-in_err-v-clause-act : goal.returns-in_err-v-clause-act
returns-in_err-v-clause-act c =
    let p = err_from_is_err_and c.from_residual.result c.from_residual.ensures.1 in
    rw (p.1, p.2) (λ hosts e. c.in_err-v.ensures.refused c.args.heap.now _)

pub returns-in_err-message-clause-act : goal.returns-in_err-message-clause-act
returns-in_err-message-clause-act c =
    let p = err_from_is_err_and c.from_residual-in_err-message.result c.from_residual-in_err-message.ensures.1 in
    let h = c.args.heap.now in
    let untrue : is_true (datum h c.in_ok-v.v) ≡ false = cc (c.if-is_true.ensures, is_true_is h c.in_ok-v.v) in
    let given : is_nil (unwrap_or (argument 2 (map (datum h) c.args.args.now)) nil) ≡ false = cc (c.if-is_nil.ensures h, c.argument_or_nil-message.ensures.value h) in
    rw (p.1, p.2) (λ hosts e. rw (c.in_ok-v.ensures.value h, untrue, given) (c.in_err-message.ensures.refused _))
