use Rattle.std.proofs.Common.{arith}
use Rattle.recover_flow.proofs.Recovered.{better, is_fewest, none_better}
use Rattle.recover_flow.proofs.function.least.Goals as goal

pub loop-middle-preserved-in-Some : goal.loop-middle-preserved-in-Some
loop-middle-preserved-in-Some c =
    better c.args.search.now c.loop-middle.search c.whole.new.self c.args.found c.loop-middle.best c.loop-middle.low c.loop-middle.high _ c.in_ok-found.field-0 c.in-Some.found c.loop-middle.invariant
    (omega (arith, c.saturating_sub.ensures, c.loop-middle-test.true)) c.in_ok-found.ensures c.in-Some.is c.min-high.result (omega (arith, c.min-high.ensures)) (λ fits. omega (arith, c.min-high.ensures, fits))

pub loop-middle-preserved : goal.loop-middle-preserved
loop-middle-preserved c = none_better c.args.search.now c.loop-middle.search c.whole.new.self c.args.found c.loop-middle.best c.loop-middle.low c.loop-middle.high _ c.in_ok-found.field-0 c.loop-middle.invariant c.in_ok-found.ensures c.in-None.is

pub returns-clause-fewest : goal.returns-clause-fewest
returns-clause-fewest c = is_fewest c.args.search.now c.loop-middle.search c.args.found c.loop-middle.best c.loop-middle.low c.loop-middle.high c.loop-middle.invariant (omega (arith, c.saturating_sub.ensures, c.loop-middle-test.false))
