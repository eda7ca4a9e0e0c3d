use Rattle.std.proofs.Common.{ap, ◌∙◌}
use Rattle.meta_ops.specs.Acts.{act_of}
use Rattle.meta_ops.specs.declared.act.Act.{Act}
use Rattle.rules.specs.Step.{give as give_of}
use Rattle.machine.specs.Frames.{showing}
use Rattle.machine.proofs.Showing.{set_is}
use Rattle.machine.proofs.words.giving.give.Goals as goal

pub returns-in-Value-clause-did : goal.returns-in-Value-clause-did
returns-in-Value-clause-did c h m =
    let values = c.args.registers.now in
    ap (λ (act : Act). give_of (showing m h values) c.args.a (act_of h act)) c.in-Value.is ∙ set_is m h values c.args.a c.in-Value.value c.requires.a
