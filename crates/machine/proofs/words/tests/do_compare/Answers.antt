use Rattle.std.proofs.Common.{◌∙◌}
use Rattle.lua_heap.specs.State.{datum}
use Rattle.lua_model.specs.Operators.{compare}
use Rattle.rules.specs.State.{need, operand}
use Rattle.rules.specs.Step.{give_test, do_compare}
use Rattle.machine.specs.Frames.{showing}
use Rattle.machine.proofs.Beside.{compare_beside}
use Rattle.machine.proofs.Showing.{two_needs, runs_on, test_does, shown_runs, jmp_need}
use Rattle.machine.proofs.words.tests.do_compare.Goals as goal

pub compare-requires-clause-a : goal.compare-requires-clause-a
compare-requires-clause-a c = c.operand-x.ensures.known c.args.heap.now c.requires.known

pub compare-requires-clause-b : goal.compare-requires-clause-b
compare-requires-clause-b c = c.operand-y.ensures.known c.args.heap.now c.requires.known

pub returns : goal.returns
returns c =
    let old = c.args.heap.now in
    let new = c.compare.new.heap in
    let values = c.args.registers.now in
    let f = c.args.function.now in
    let pc = c.args.pc in
    let i = c.args.i in
    let op = c.args.op in
    let x = datum old c.operand-x.result in
    let y = datum old c.operand-y.result in
    test_does (λ m. do_compare op m i) old new f values pc i.a c.in_ok-act.act c.give_test.result (λ s. compare s op x y) c.requires.known.registers c.compare.ensures.only_texts c.compare.ensures.keeps c.in_ok-act.ensures.act c.in_ok-act.ensures.known
    (λ hosts. compare_beside old hosts op x y)
    (λ m runs.
    let s = showing m old values in
    jmp_need s old f pc c.requires.jmp (shown_runs m old f values pc runs) (λ distance. need (operand s i.b) (λ x. need (operand s i.c) (λ y. give_test s i.a (compare s.store op x y))))
    ∙ two_needs (operand s i.b) (operand s i.c) x y (λ x y. give_test s i.a (compare s.store op x y)) (c.operand-x.ensures.value old m pc runs) (c.operand-y.ensures.value old m pc runs))
    (runs_on old new f c.compare.ensures.keeps c.requires.known.constants) c.give_test.ensures.did c.give_test.ensures.known (c.give_test.ensures.awaited values)
