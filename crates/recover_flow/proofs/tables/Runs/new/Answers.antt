use Rattle.std.proofs.Common.{ap, ◌∙◌, ℕ, List}
use Rattle.std.specs.Prelude.{slice_get}
use Rattle.recover_flow.proofs.SideBySide.{ends_are, runs, starts_are}
use Rattle.recover_flow.proofs.tables.Runs.new.Goals as goal

pub returns : goal.returns
returns c =
    let steps = c.args.steps.now in
    record {
      starts = λ place. ap (λ (xs : List ℕ). slice_get xs place) c.in_ok-starts.ensures ∙ starts_are steps (runs steps c.args.run) place;
      ends = λ place. ap (λ (xs : List ℕ). slice_get xs place) c.in_ok-ends.ensures ∙ ends_are steps (runs steps c.args.run) place;
    }
