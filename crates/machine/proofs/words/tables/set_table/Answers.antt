use Rattle.opcode.specs.declared.op.Op.TheVariants as op
use Rattle.lua_heap.specs.State.{datum}
use Rattle.lua_model.specs.Operators.{set_index}
use Rattle.rules.specs.State.{register, operand}
use Rattle.rules.specs.Step.{give_write, effect}
use Rattle.machine.specs.Frames.{showing}
use Rattle.machine.proofs.Beside.{set_index_beside}
use Rattle.machine.proofs.Showing.{three_needs}
use Rattle.machine.proofs.Stores.{write_does}
use Rattle.machine.proofs.words.tables.set_table.Goals as goal

pub set_index-requires-clause-on : goal.set_index-requires-clause-on
set_index-requires-clause-on c = c.register-on.ensures.known c.args.heap.now c.requires.known.registers

pub set_index-requires-clause-key : goal.set_index-requires-clause-key
set_index-requires-clause-key c = c.operand-key.ensures.known c.args.heap.now c.requires.known

pub set_index-requires-clause-value : goal.set_index-requires-clause-value
set_index-requires-clause-value c = c.operand-value.ensures.known c.args.heap.now c.requires.known

pub returns : goal.returns
returns c pc =
    let old = c.args.heap.now in
    let values = c.args.registers.now in
    let i = c.args.i in
    let on = datum old c.register-on.result in
    let key = datum old c.operand-key.result in
    let v = datum old c.operand-value.result in
    write_does (λ m. effect op.SetTable m i) old c.set_index.new.heap c.args.function.now values pc c.in_ok-act.act c.give_nowhere.result (λ s. set_index s on key v) c.requires.known.registers c.in_ok-act.ensures.only_tables c.set_index.ensures.keeps c.in_ok-act.ensures.act c.in_ok-act.ensures.known
    (λ hosts. set_index_beside old hosts on key v)
    (λ m runs.
    let s = showing m old values in
    three_needs (register s i.a) (operand s i.b) (operand s i.c) on key v (λ on key v. give_write s (set_index s.store on key v)) (c.register-on.ensures.value old) (c.operand-key.ensures.value old m pc runs) (c.operand-value.ensures.value old m pc runs))
    c.give_nowhere.ensures.did c.give_nowhere.ensures.known (c.give_nowhere.ensures.awaited c.args.function.now values pc)
