use Rattle.machine.specs.Frames.{data_of}
use Rattle.machine.proofs.MadeFrames.{made_above, made_registers, made_shares}
use Rattle.machine.proofs.entering.put_arguments.Goals as goal

pub returns-clause-frames : goal.returns-clause-frames
returns-clause-frames c =
    made_above c.args.stack.now c.push_frame.new.self c.args.function.now.registers c.base-base.result c.all_registers.result.now c.put_all.new.registers c.in_ok-push_frame.ensures.pushed c.base-base.ensures c.all_registers.ensures.values c.put_all.ensures.length_is

pub returns-clause-registers : goal.returns-clause-registers
returns-clause-registers c h =
    made_registers c.args.stack.now c.push_frame.new.self c.args.function.now.registers c.base-base.result c.all_registers.result.now c.put_all.new.registers c.in_ok-push_frame.ensures.pushed c.base-base.ensures c.all_registers.ensures.values c.put_all.ensures.length_is h c.args.function.now.params (data_of h c.args.args.now) c.requires.room (c.put_all.ensures.spliced h)

pub returns-clause-keeps : goal.returns-clause-keeps
returns-clause-keeps c h shares known =
    made_shares c.args.stack.now c.push_frame.new.self c.args.function.now.registers c.base-base.result c.all_registers.result.now c.put_all.new.registers c.in_ok-push_frame.ensures.pushed c.base-base.ensures c.all_registers.ensures.values c.put_all.ensures.length_is c.push_frame.ensures.keeps h (λ nils. c.put_all.ensures.known h nils known) shares
