use Rattle.lua_heap.specs.State.{datum}
use Rattle.lua_model.specs.Operators.{arith}
use Rattle.rules.specs.State.{operand}
use Rattle.rules.specs.Step.{give, do_arith}
use Rattle.machine.specs.Frames.{showing}
use Rattle.machine.proofs.Beside.{arith_beside}
use Rattle.machine.proofs.Showing.{two_needs, give_does}
use Rattle.machine.proofs.words.arithmetic.do_arith.Goals as goal

pub arith-requires-clause-a : goal.arith-requires-clause-a
arith-requires-clause-a c = c.operand-x.ensures.known _ c.requires.known

pub arith-requires-clause-b : goal.arith-requires-clause-b
arith-requires-clause-b c = c.operand-y.ensures.known _ c.requires.known

pub returns : goal.returns
returns c pc =
    let old = c.args.heap.now in
    let values = c.args.registers.now in
    let i = c.args.i in
    let op = c.args.op in
    let x = datum old c.operand-x.result in
    let y = datum old c.operand-y.result in
    give_does (λ m. do_arith op m i) old c.arith.new.heap c.args.function.now values c.give.new.registers pc i.a c.in_ok-act.act c.give.result (λ s. arith s op x y) c.requires.known.registers c.arith.ensures.only_texts c.arith.ensures.keeps c.in_ok-act.ensures.act c.in_ok-act.ensures.known
    (λ hosts. arith_beside old hosts op x y)
    (λ m runs.
    let s = showing m old values in
    two_needs (operand s i.b) (operand s i.c) x y (λ x y. give s i.a (arith s.store op x y)) (c.operand-x.ensures.value old m pc runs) (c.operand-y.ensures.value old m pc runs))
    c.give.ensures.did c.give.ensures.known c.give.ensures.registers c.give.ensures.length_is (c.give.ensures.awaited c.args.function.now pc)
