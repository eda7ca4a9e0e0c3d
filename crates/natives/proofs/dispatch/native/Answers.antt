-- Arguments stand for the same after the call that is refused, so that its failure is that of the refusal.
use Rattle.std.proofs.Common.{map}
use Rattle.lua_model.specs.Builtins.{native}
use Rattle.lua_heap.specs.State.{datum, store_of}
use Rattle.lua_heap.proofs.Callers.{data_are_kept}
use Rattle.natives.proofs.dispatch.native.Goals as goal

pub returns-in_ok-failure-in-Err-clause-act : goal.returns-in_ok-failure-in-Err-clause-act
returns-in_ok-failure-in-Err-clause-act c = λ hosts e.
    let old = c.args.heap.now in
    let given = c.args.args.now in
    let kept = data_are_kept old c.call.new.heap c.call.ensures.keeps given c.requires.args in
    c.in_ok-failure-in-Err.ensures.failure (native c.args.id (map (datum old) given) (store_of old hosts)) (rw kept (c.in-Err.ensures.act hosts e))
