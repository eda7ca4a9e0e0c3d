use Rattle.std.proofs.lemmas.Result.{IfOk-weaker}
use Rattle.lua_model.specs.declared.Value.{Value}
use Rattle.machine.proofs.Outcomes.{enters_applies, applies_as}
use Rattle.machine.proofs.calling.applying.apply.Goals as goal

pub returns-in-Closure-clause-applies : goal.returns-in-Closure-clause-applies
returns-in-Closure-clause-applies g c =
    enters_applies c.args.heap.now c.args.f c.in-Closure.id c.args.args.now c.args.pieces.now.items _ c.in-Closure.is c.requires.f

pub returns-in-Host-clause-applies : goal.returns-in-Host-clause-applies
returns-in-Host-clause-applies g c =
    let pieces = c.args.pieces.now.items in
    IfOk-weaker c.apply_host.result _ _ (λ applied is. applies_as c.args.f (Value.Host c.in-Host.host) c.args.args.now c.args.heap.now c.apply_host.new.heap pieces pieces _ _ applied c.in-Host.is (is pieces)) c.apply_host.ensures.applies
