use Rattle.std.proofs.Common.{List, subst, sym}
use Rattle.std.proofs.lemmas.Result.{IfOk-weaker}
use Rattle.lua_model.specs.declared.Value.{Value}
use Rattle.rules.specs.Step.{effect}
use Rattle.machine.specs.Fits.{Fits}
use Rattle.machine.proofs.LentRegisters.{part_is}
use Rattle.machine.proofs.LeftByWords.{does_top, top_alone, still_shares}
use Rattle.machine.proofs.topmost.perform_top.Goals as goal

pub perform-requires-clause-fits : goal.perform-requires-clause-fits
perform-requires-clause-fits c =
    let part = part_is c.args.running.now.stack.frames c.base-base.result c.all_registers.result.now c.base-base.ensures c.all_registers.ensures.values in
    subst (λ (vs : List Value). Fits c.args.i.op c.args.function.now vs c.args.running.now.top.pc c.args.i) (sym part) c.requires.fits

pub returns-clause-did : goal.returns-clause-did
returns-clause-did c =
    let old = c.args.running.now in
    IfOk-weaker c.perform.result _ _ (λ did does. does_top old.stack old.heap c.perform.new.heap c.args.function.now (λ m. effect c.args.i.op m c.args.i) c.base-base.result c.all_registers.result.now c.perform.new.registers old.top.pc did c.base-base.ensures c.all_registers.ensures.values does) c.perform.ensures

pub returns-clause-frames : goal.returns-clause-frames
returns-clause-frames c =
    let old = c.args.running.now in
    IfOk-weaker c.perform.result _ _ (λ did does. top_alone old.stack old.heap c.perform.new.heap c.args.function.now (λ m. effect c.args.i.op m c.args.i) c.base-base.result c.all_registers.result.now c.perform.new.registers old.top.pc did c.base-base.ensures c.all_registers.ensures.values does) c.perform.ensures

pub returns-clause-shares : goal.returns-clause-shares
returns-clause-shares c =
    let old = c.args.running.now in
    IfOk-weaker c.perform.result _ _ (λ did does. still_shares old.stack old.heap c.perform.new.heap c.args.function.now (λ m. effect c.args.i.op m c.args.i) c.base-base.result c.all_registers.result.now c.perform.new.registers old.top.pc did c.base-base.ensures c.all_registers.ensures.values does c.requires.shares) c.perform.ensures
