-- Behind those that were found, what the places that are left give is what all give.
use Rattle.std.proofs.Common.{◌≡◌, ◌-◌, ◌++◌}
use Rattle.recover_flow.specs.Arms.{nothing_seen, tests_from}
use Rattle.recover_flow.proofs.tables.Tables.tests_from.Given as goal

abbrev pub invariant-loop : goal.invariant-loop
invariant-loop l = l.tests.items ++ tests_from l.self.steps.now l.to l.bare l.seen l.place (l.count - l.counter) ≡ tests_from l.self.steps.now l.to l.bare nothing_seen l.from l.count
