use Rattle.std.proofs.Common.{inl, inr, refl}
use Rattle.host.proofs.Scripts.{script_hears}
use Rattle.host.proofs.script.ScriptHostHost.call.Goals as goal

pub returns-in-Ok-clause-once : goal.returns-in-Ok-clause-once
returns-in-Ok-clause-once c = λ before. script_hears c.args.self.now c.answer.new.self c.args.args.now c.in-Ok.reply before (inl (c.in-Ok.ensures.next, c.in-Ok.ensures.ok))

pub returns-in-Err-clause-once : goal.returns-in-Err-clause-once
returns-in-Err-clause-once c = λ before. script_hears c.args.self.now c.answer.new.self c.args.args.now _ before (inr (refl, c.in-Err.ensures.err))
