use Rattle.recover_flow.proofs.Arms.{tests_stop, tests_turn}
use Rattle.recover_flow.proofs.tables.Tables.tests_from.Goals as goal

pub returns-in_default : goal.returns-in_default
returns-in_default c = tests_stop c.args.self.now.steps.now c.args.to c.args.bare c.loop.seen c.loop.place c.args.count c.loop.counter c.loop.tests.items c.loop-test.true c.in_default.ensures.target c.loop.invariant

pub loop-preserved : goal.loop-preserved
loop-preserved c =
    tests_turn c.args.self.now.steps.now c.args.to c.args.bare c.loop.seen _ c.loop.place c.args.count c.loop.counter c.in-Some.target c.loop.tests.items _ c.tests_there.result
    c.loop-test.true c.in-Some.ensures.target c.seen_with-seen.ensures c.tests_there.ensures c.in_ok-push_some.ensures c.loop.invariant
