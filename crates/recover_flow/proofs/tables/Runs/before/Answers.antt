use Rattle.std.proofs.Common.{arith, ap, ◌∙◌}
use Rattle.std.specs.Prelude.{slice_get, unwrap_or, List, ℕ}
use Rattle.recover_flow.proofs.SideBySide.{before_is}
use Rattle.recover_flow.proofs.tables.Runs.before.Goals as goal

pub returns : goal.returns
returns c = λ steps holds are none.
    let start = c.at_or-start.ensures ∙ ap (λ (xs : List ℕ). unwrap_or (slice_get xs c.args.to) c.args.to) c.as_slice.ensures.value in
    let is = before_is steps holds c.args.self.now c.args.from c.args.to c.at_or-start.result are none start in
    omega (arith, is)
