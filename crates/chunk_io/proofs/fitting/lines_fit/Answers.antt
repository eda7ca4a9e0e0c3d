use Rattle.std.proofs.Common.{ℕ, [], ◌∷◌, rules, tests}
use Rattle.std.proofs.lemmas.Iterator.{cases_from_all, YieldsList-from_slice}
use Rattle.proto.proofs.Equality.{and_then}
use Rattle.chunk_io.specs.Items.{int}
use Rattle.chunk_io.proofs.Fitted.{Allows, list_decided}
use Rattle.chunk_io.proofs.fitting.lines_fit.Goals as goal

pub returns-then-count_fits : goal.returns-then-count_fits
returns-then-count_fits c = λ layout.
    let items = λ (line : ℕ). int layout line ∷ [] in
    let lines = c.args.lines.now in
    let walked = cases_from_all _ _ _ (Allows items) (λ line. ¬ Allows items line) c.all.ensures.ran (YieldsList-from_slice lines cc) (λ x q k. search (rules, tests)) (λ x q k. search (rules, tests)) in
    and_then c.count_fits.result c.all.result c.count_fits.ensures (list_decided items lines c.all.result walked) c.if-count_fits.true
