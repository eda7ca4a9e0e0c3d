use Rattle.std.proofs.Common.{arith, ap, ◌∙◌}
use Rattle.std.specs.Prelude.{slice_get, unwrap_or, List, ℕ}
use Rattle.recover_flow.proofs.SideBySide.{behind_is}
use Rattle.recover_flow.proofs.tables.Runs.behind.Goals as goal

pub returns : goal.returns
returns c = λ steps holds are none.
    let end = c.at_or-end.ensures ∙ ap (λ (xs : List ℕ). unwrap_or (slice_get xs c.args.from) c.args.from) c.as_slice.ensures.value in
    let is = behind_is steps holds c.args.self.now c.args.from c.args.to c.at_or-end.result are none end in
    omega (arith, is)
