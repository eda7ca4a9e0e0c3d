use Rattle.std.proofs.Common.{◌-◌, List, length, take, drop, refl, subst, sym}
use Rattle.lua_model.specs.declared.Value.{Value}
use Rattle.rules.specs.State.{fixed}
use Rattle.rules.specs.Calls.{land as land_in}
use Rattle.machine.specs.declared.did.Did.{Did}
use Rattle.machine.specs.Frames.{data_of}
use Rattle.machine.specs.Words.{AreThere}
use Rattle.machine.proofs.LentRegisters.{part_is}
use Rattle.machine.proofs.Listed.{part_known}
use Rattle.machine.proofs.Rows.{put_does}
use Rattle.machine.proofs.SeenWords.{top_function, lent_seen}
use Rattle.machine.proofs.crossing.put_fixed.Goals as goal

pub put_all-requires : goal.put_all-requires
put_all-requires c =
    let old = c.args.running.now in
    let part = part_is old.stack.frames c.base-base.result c.all_registers.result.now c.base-base.ensures c.all_registers.ensures.values in
    record { there = subst (λ (vs : List Value). AreThere vs c.args.a c.args.count) (sym part) c.requires.there }

pub returns : goal.returns
returns c =
    let old = c.args.running.now in
    let h = old.heap in
    let fs = c.args.functions.now in
    let f = top_function fs old c.requires.safe in
    let base = c.base-base.result in
    let row = c.all_registers.result.now in
    let now = c.put_all.new.registers in
    let a = c.args.a in
    let count = c.args.count in
    let values = c.args.values.now in
    let before = take (length row - base) (drop base row) in
    let before_known = part_known h row base (length row - base) (c.all_registers.ensures.known h c.requires.safe.shares) in
    let put = c.put_all.ensures in
    lent_seen fs (λ m. land_in (fixed a count) m (data_of h values)) old h f.0 base row now Did.Next f.1 c.base-base.ensures c.all_registers.ensures.values
    (put_does h f.0 before now old.top.pc a count values values refl (put.put h) (put.known h before_known c.requires.values) put.length_is)
