use Rattle.host.proofs.Scripts.{script_state-more}
use Rattle.host.proofs.script.ScriptHost.answer.Goals as goal

pub returns-clause-ok : goal.returns-clause-ok
returns-clause-ok c = rw (c.in_ok-push.ensures.items, c.in_ok-args.ensures, ← c.self.view_is) (script_state-more c.self.inside.replies c.self.inside.asked.items c.args.args.now)
