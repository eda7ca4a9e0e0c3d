-- With those behind the tests that are left, those behind all stand there.
use Rattle.std.proofs.Common.{◌≡◌, ◌++◌, drop}
use Rattle.recover_flow.specs.Arms.{ways_behind}
use Rattle.recover_flow.proofs.tables.Tables.tested_ways.Given as goal

abbrev pub invariant-loop-tests : goal.invariant-loop-tests
invariant-loop-tests l = l.ways.items ++ ways_behind l.self.steps.now l.at (drop l.tests-index l.tests-items) ≡ l.initial.ways.items ++ ways_behind l.self.steps.now l.at l.tests-items
