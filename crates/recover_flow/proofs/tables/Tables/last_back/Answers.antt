use Rattle.std.proofs.Common.{subst, sym, List, ℕ}
use Rattle.recover_flow.specs.Asked.{goes_back}
use Rattle.recover_flow.specs.Tabled.{AreAll}
use Rattle.recover_flow.proofs.Rows.{back_all}
use Rattle.recover_flow.proofs.tables.Tables.last_back.Goals as goal

pub returns : goal.returns
returns c =
    let steps = c.args.self.now.steps.now in
    let holds = goes_back steps c.args.place in
    c.last_number.ensures holds (subst (λ (xs : List ℕ). AreAll xs holds) (sym c.jumps_back.ensures) (back_all steps c.args.place))
