use Rattle.std.proofs.Common.{◌-◌, ◌<◌, ℕ, List, length, take, drop, Option, Some, None, ap, subst, sym}
use Rattle.opcode.specs.declared.op.Op.TheVariants as op
use Rattle.lua_model.specs.declared.Value.{Value}
use Rattle.lua_model.specs.Datum.{adjusted}
use Rattle.lua_heap.specs.State.{AreOf}
use Rattle.rules.specs.State.{State, Effect, Goes, with_results, set_all}
use Rattle.rules.specs.Step.{effect}
use Rattle.upvalue.specs.State.{top}
use Rattle.machine.specs.declared.did.Did.{Did}
use Rattle.machine.specs.Frames.{data_of}
use Rattle.machine.specs.Seen.{seen}
use Rattle.machine.specs.Words.{AreThere}
use Rattle.machine.proofs.LentRegisters.{part_is}
use Rattle.machine.proofs.Listed.{part_known}
use Rattle.machine.proofs.Rows.{put_does}
use Rattle.machine.proofs.SeenWords.{top_function, lent_seen, seen_from}
use Rattle.machine.proofs.open_results.vararg.Goals as goal

pub put_all-requires : goal.put_all-requires
put_all-requires c =
    let old = c.args.running.now in
    let i = c.args.i in
    let registers = top old.stack.frames in
    let f = top_function c.args.functions.now old c.requires.safe in
    let P : Option ℕ → Type 0 = λ o. elim o [ None ↦ i.a < length registers | Some n ↦ AreThere registers i.a n ] in
    let part = part_is old.stack.frames c.base-base.result c.all_registers.result.now c.base-base.ensures c.all_registers.ensures.values in
    record { there = subst (λ (vs : List Value). AreThere vs i.a c.in-Some.count) (sym part) (subst P (sym c.in-Some.ensures) (c.requires.fits f.0 f.1)) }

pub returns-in-Some : goal.returns-in-Some
returns-in-Some c =
    let old = c.args.running.now in
    let h = old.heap in
    let i = c.args.i in
    let n = c.in-Some.count in
    let fs = c.args.functions.now in
    let f = top_function fs old c.requires.safe in
    let base = c.base-base.result in
    let row = c.all_registers.result.now in
    let now = c.put_all.new.registers in
    let before = take (length row - base) (drop base row) in
    let before_known = part_known h row base (length row - base) (c.all_registers.ensures.known h c.requires.safe.shares) in
    let extra_known = subst (λ (vs : List Value). AreOf h vs) (sym c.items.ensures) c.requires.safe.top_frame.extra in
    let put = c.put_all.ensures in
    let next : State → Effect = λ m. set_all m i.a (adjusted n (data_of h old.top.extra)) in
    record {
      does = seen_from fs (λ m. effect op.Vararg m i) next old _ old.top.pc Did.Next
          (λ chunk a whole.
          let m = seen chunk a old in
          ap (λ (o : Option ℕ). elim o as (λ _. Effect) [ None ↦ Goes (with_results m (Some (record { first = i.a; values = m.top.extra }))) | Some k ↦ set_all m i.a (adjusted k m.top.extra) ]) (sym c.in-Some.ensures))
          (lent_seen fs next old h f.0 base row now Did.Next f.1 c.base-base.ensures c.all_registers.ensures.values
          (put_does h f.0 before now old.top.pc i.a n c.items.result.now old.top.extra c.items.ensures (put.put h) (put.known h before_known extra_known) put.length_is));
    }
