use Rattle.recover_flow.specs.Asked.{is_test, is_unit, kind_at}
use Rattle.recover_flow.proofs.Rows.{no_tests, no_units}
use Rattle.recover_flow.proofs.tables.Tables.lengths_before.Goals as goal

pub returns : goal.returns
returns c =
    let steps = c.args.self.now.steps.now in
    let tests = c.before-2.ensures steps (λ place. is_test (kind_at steps place)) c.requires.tabled.tests (no_tests steps) in
    let jumps = c.before-3.ensures steps (λ place. is_unit (kind_at steps place)) c.requires.tabled.jumps (no_units steps) in
    cc
