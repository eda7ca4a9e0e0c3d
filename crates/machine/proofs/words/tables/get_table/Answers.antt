use Rattle.opcode.specs.declared.op.Op.TheVariants as op
use Rattle.lua_heap.specs.State.{datum}
use Rattle.lua_model.specs.Operators.{index}
use Rattle.rules.specs.State.{register, operand}
use Rattle.rules.specs.Step.{give, effect}
use Rattle.machine.specs.Frames.{showing}
use Rattle.machine.proofs.Beside.{index_beside}
use Rattle.machine.proofs.Showing.{two_needs, give_does}
use Rattle.machine.proofs.words.tables.get_table.Goals as goal

pub index-requires-clause-on : goal.index-requires-clause-on
index-requires-clause-on c = c.register-on.ensures.known c.args.heap.now c.requires.known.registers

pub index-requires-clause-key : goal.index-requires-clause-key
index-requires-clause-key c = c.operand-key.ensures.known c.args.heap.now c.requires.known

pub returns : goal.returns
returns c pc =
    let old = c.args.heap.now in
    let values = c.args.registers.now in
    let i = c.args.i in
    let on = datum old c.register-on.result in
    let key = datum old c.operand-key.result in
    give_does (λ m. effect op.GetTable m i) old c.index.new.heap c.args.function.now values c.give.new.registers pc i.a c.in_ok-act.act c.give.result (λ s. index s on key) c.requires.known.registers c.index.ensures.only_texts c.index.ensures.keeps c.in_ok-act.ensures.act c.in_ok-act.ensures.known
    (λ hosts. index_beside old hosts on key)
    (λ m runs.
    let s = showing m old values in
    two_needs (register s i.b) (operand s i.c) on key (λ on key. give s i.a (index s.store on key)) (c.register-on.ensures.value old) (c.operand-key.ensures.value old m pc runs))
    c.give.ensures.did c.give.ensures.known c.give.ensures.registers c.give.ensures.length_is (c.give.ensures.awaited c.args.function.now pc)
