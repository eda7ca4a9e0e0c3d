use Rattle.opcode.specs.declared.op.Op.TheVariants as op
use Rattle.lua_heap.specs.State.{datum}
use Rattle.lua_model.specs.Operators.{size}
use Rattle.rules.specs.State.{register}
use Rattle.rules.specs.Step.{give, effect}
use Rattle.machine.specs.Frames.{showing}
use Rattle.machine.proofs.Beside.{size_beside}
use Rattle.machine.proofs.Showing.{one_need, give_does}
use Rattle.machine.proofs.words.arithmetic.do_length.Goals as goal

pub length-requires : goal.length-requires
length-requires c = c.register-x.ensures.known c.args.heap.now c.requires.known

pub returns : goal.returns
returns c f pc =
    let old = c.args.heap.now in
    let values = c.args.registers.now in
    let i = c.args.i in
    let x = datum old c.register-x.result in
    give_does (λ m. effect op.Len m i) old c.length.new.heap f values c.give.new.registers pc i.a c.in_ok-act.act c.give.result (λ s. size s x) c.requires.known c.length.ensures.only_texts c.length.ensures.keeps c.in_ok-act.ensures.act c.in_ok-act.ensures.known
    (λ hosts. size_beside old hosts x)
    (λ m runs.
    let s = showing m old values in
    one_need (register s i.b) x (λ x. give s i.a (size s.store x)) (c.register-x.ensures.value old))
    c.give.ensures.did c.give.ensures.known c.give.ensures.registers c.give.ensures.length_is (c.give.ensures.awaited f pc)
