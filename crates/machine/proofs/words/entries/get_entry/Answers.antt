use Rattle.std.proofs.Common.{ap, ◌∙◌}
use Rattle.opcode.specs.declared.op.Op.TheVariants as op
use Rattle.lua_heap.specs.State.{datum}
use Rattle.lua_model.specs.Operators.{index}
use Rattle.rules.specs.State.{register, operand}
use Rattle.rules.specs.Step.{give, effect}
use Rattle.machine.specs.declared.did.Did.{Did}
use Rattle.machine.specs.Frames.{showing}
use Rattle.machine.proofs.Beside.{index_beside}
use Rattle.machine.proofs.QuickSteps.{step_does, if_none}
use Rattle.machine.proofs.TableEntries.{reads_none}
use Rattle.machine.proofs.Showing.{two_needs, set_does}
use Rattle.machine.proofs.words.entries.get_entry.Goals as goal

pub entry-requires-clause-on : goal.entry-requires-clause-on
entry-requires-clause-on c = c.register-on.ensures.known c.args.heap.now c.requires.known.registers

pub entry-requires-clause-key : goal.entry-requires-clause-key
entry-requires-clause-key c = c.operand-key.ensures.known c.args.heap.now c.requires.known

pub returns-clause-some : goal.returns-clause-some
returns-clause-some c =
    let h = c.args.heap.now in
    let values = c.args.registers.now in
    let i = c.args.i in
    let on = datum h c.register-on.result in
    let key = datum h c.operand-key.result in
    step_does Did.Next tt
    (set_does (λ m. effect op.GetTable m i) h c.args.function.now values c.args.pc i.a c.in_ok-found.found c.requires.known.registers c.in_ok-found.ensures.known c.requires.a
    (λ m runs.
    let s = showing m h values in
    two_needs (register s i.b) (operand s i.c) on key (λ on key. give s i.a (index s.store on key)) (c.register-on.ensures.value h) (c.operand-key.ensures.value h m c.args.pc runs)
    ∙ ap (give s i.a) (index_beside h m.store.hosts on key ∙ c.in_ok-found.ensures.value)))

pub returns-in_err-found-clause-taken : goal.returns-in_err-found-clause-taken
returns-in_err-found-clause-taken c =
    let h = c.args.heap.now in
    let values = c.args.registers.now in
    if_none c.from_residual.result _ (λ m runs needs. reads_none h m values c.args.i (datum h c.register-on.result) (datum h c.operand-key.result) (c.register-on.ensures.value h) (c.operand-key.ensures.value h m c.args.pc runs) c.in_err-found.ensures.none needs)
