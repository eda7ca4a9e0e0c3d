use Rattle.std.proofs.Common.{ℕ, ◌-◌, List, length, take, drop, subst, sym}
use Rattle.std.proofs.lemmas.List.Elements.{All-take, All-drop}
use Rattle.lua_model.specs.declared.Value.{Value}
use Rattle.lua_heap.specs.State.{HeapState, AreOf, IsOf}
use Rattle.rules.specs.Step.{effect}
use Rattle.machine.specs.declared.function.Function.{Function}
use Rattle.machine.specs.declared.did.Did.{Did}
use Rattle.machine.specs.Decoded.{instr_in}
use Rattle.machine.specs.Fits.{Fits}
use Rattle.machine.specs.Frames.{showing}
use Rattle.machine.specs.Memory.{NeedsNone}
use Rattle.machine.specs.Words.{AreKnown}
use Rattle.machine.proofs.LentRegisters.{part_is}
use Rattle.machine.proofs.LeftByWords.{does_top, top_alone, still_shares, left_alone}
use Rattle.machine.proofs.QuickSteps.{if_some, on_some, none_weaker}
use Rattle.machine.proofs.topmost.quick_at.Goals as goal

-- the values of the registers that are lent are the heap's
are_known : (h : HeapState) (f : Function) (row : List Value) (base : ℕ) → AreOf h f.constants.items → AreOf h row → AreKnown h f (take (length row - base) (drop base row))
are_known h f row base constants known = record {
  constants = constants;
  registers = All-take (IsOf h) (length row - base) (drop base row) (All-drop (IsOf h) base row known);
}

pub quick-requires-clause-known : goal.quick-requires-clause-known
quick-requires-clause-known c =
    let h = c.args.running.now.heap in
    are_known h c.args.function.now c.all_registers.result.now c.base-base.result c.requires.constants (c.all_registers.ensures.known h c.requires.shares)

pub quick-requires-clause-fits : goal.quick-requires-clause-fits
quick-requires-clause-fits c =
    let part = part_is c.args.running.now.stack.frames c.base-base.result c.all_registers.result.now c.base-base.ensures c.all_registers.ensures.values in
    subst (λ (vs : List Value). Fits c.args.word.op c.args.function.now vs c.args.pc (instr_in c.args.word)) (sym part) c.requires.fits

pub returns-clause-some : goal.returns-clause-some
returns-clause-some c =
    let old = c.args.running.now in
    if_some c.quick.result _ _ (λ next does. does_top old.stack old.heap c.quick.new.heap c.args.function.now (λ m. effect c.args.word.op m (instr_in c.args.word)) c.base-base.result c.all_registers.result.now c.quick.new.registers c.args.pc (Did.Jumps next) c.base-base.ensures c.all_registers.ensures.values does) c.quick.ensures.some

pub returns-clause-frames : goal.returns-clause-frames
returns-clause-frames c =
    let old = c.args.running.now in
    on_some c.quick.result _ _ (λ next does. top_alone old.stack old.heap c.quick.new.heap c.args.function.now (λ m. effect c.args.word.op m (instr_in c.args.word)) c.base-base.result c.all_registers.result.now c.quick.new.registers c.args.pc (Did.Jumps next) c.base-base.ensures c.all_registers.ensures.values does) c.quick.ensures.some

pub returns-clause-shares : goal.returns-clause-shares
returns-clause-shares c =
    let old = c.args.running.now in
    on_some c.quick.result _ _ (λ next does. still_shares old.stack old.heap c.quick.new.heap c.args.function.now (λ m. effect c.args.word.op m (instr_in c.args.word)) c.base-base.result c.all_registers.result.now c.quick.new.registers c.args.pc (Did.Jumps next) c.base-base.ensures c.all_registers.ensures.values does c.requires.shares) c.quick.ensures.some

pub returns-clause-none : goal.returns-clause-none
returns-clause-none c =
    let old = c.args.running.now in
    none_weaker c.quick.result _ _ (λ (registers, heap) j.
    let stack = left_alone old.stack c.base-base.result c.all_registers.result.now c.quick.new.registers c.base-base.ensures c.all_registers.ensures.values registers in
    record old { heap = heap j; stack = stack j }) c.quick.ensures.none

pub returns-clause-taken : goal.returns-clause-taken
returns-clause-taken c =
    let old = c.args.running.now in
    let word = c.args.word in
    let part = part_is old.stack.frames c.base-base.result c.all_registers.result.now c.base-base.ensures c.all_registers.ensures.values in
    none_weaker c.quick.result _ _ (λ taken m runs needs. taken m runs (subst (λ (vs : List Value). NeedsNone word.op (showing m old.heap vs) (instr_in word)) (sym part) needs)) c.quick.ensures.taken
