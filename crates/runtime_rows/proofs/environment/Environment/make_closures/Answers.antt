-- What one closure more keeps is kept by all.
use Rattle.lua_heap.proofs.Callers.{keeps_both}
use Rattle.runtime_rows.proofs.environment.Environment.make_closures.Goals as goal

pub returns-in_err-add_closure-clause-keeps : goal.returns-in_err-add_closure-clause-keeps
returns-in_err-add_closure-clause-keeps c =
    keeps_both c.args.self.now c.loop.self c.add_closure.new.self c.loop.invariant.keeps c.in_err-add_closure.ensures.keeps
