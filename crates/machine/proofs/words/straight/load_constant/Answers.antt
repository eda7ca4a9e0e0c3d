use Rattle.std.proofs.Common.{ap}
use Rattle.opcode.specs.declared.op.Op.TheVariants as op
use Rattle.rules.specs.State.{need, set}
use Rattle.rules.specs.Step.{effect}
use Rattle.machine.specs.Frames.{showing}
use Rattle.machine.proofs.Showing.{set_does}
use Rattle.machine.proofs.words.straight.load_constant.Goals as goal

pub returns-clause-does : goal.returns-clause-does
returns-clause-does c h pc known =
    let values = c.args.registers.now in
    set_does (λ m. effect op.LoadK m c.args.i) h c.args.function.now values pc c.args.i.a c.constant.result known.registers (c.constant.ensures.known h known.constants) c.requires.a
    (λ m runs. ap (λ o. need o (λ v. set (showing m h values) c.args.i.a v)) (c.constant.ensures.value h m pc runs))
