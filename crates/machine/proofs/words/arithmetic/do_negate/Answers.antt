use Rattle.opcode.specs.declared.op.Op.TheVariants as op
use Rattle.lua_heap.specs.State.{datum}
use Rattle.lua_model.specs.Operators.{negate}
use Rattle.rules.specs.State.{register}
use Rattle.rules.specs.Step.{give, effect}
use Rattle.machine.specs.Frames.{showing}
use Rattle.machine.proofs.Beside.{negate_beside}
use Rattle.machine.proofs.Showing.{one_need, give_does}
use Rattle.machine.proofs.words.arithmetic.do_negate.Goals as goal

pub negate-requires : goal.negate-requires
negate-requires c = c.register-x.ensures.known c.args.heap.now c.requires.known

pub returns : goal.returns
returns c f pc =
    let old = c.args.heap.now in
    let values = c.args.registers.now in
    let i = c.args.i in
    let x = datum old c.register-x.result in
    give_does (λ m. effect op.Unm m i) old c.negate.new.heap f values c.give.new.registers pc i.a c.in_ok-act.act c.give.result (λ s. negate s x) c.requires.known c.negate.ensures.only_texts c.negate.ensures.keeps c.in_ok-act.ensures.act c.in_ok-act.ensures.known
    (λ hosts. negate_beside old hosts x)
    (λ m runs.
    let s = showing m old values in
    one_need (register s i.b) x (λ x. give s i.a (negate s.store x)) (c.register-x.ensures.value old))
    c.give.ensures.did c.give.ensures.known c.give.ensures.registers c.give.ensures.length_is (c.give.ensures.awaited f pc)
