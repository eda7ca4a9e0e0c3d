use Rattle.std.proofs.Common.{rules, tests}
use Rattle.std.proofs.lemmas.Iterator.{cases_from_all, YieldsList-from_slice}
use Rattle.proto.proofs.Equality.{and_then}
use Rattle.chunk_io.specs.Items.{local_items}
use Rattle.chunk_io.proofs.Fitted.{Allows, list_decided}
use Rattle.chunk_io.proofs.fitting.locals_fit.Goals as goal

pub returns-then-count_fits : goal.returns-then-count_fits
returns-then-count_fits c =
    let items = local_items c.args.layout in
    let locals = c.args.locals.now in
    let walked = cases_from_all _ _ _ (Allows items) (λ part. ¬ Allows items part) c.all.ensures.ran (YieldsList-from_slice locals cc) (λ x q k. search (rules, tests)) (λ x q k. search (rules, tests)) in
    and_then c.count_fits.result c.all.result c.count_fits.ensures (list_decided items locals c.all.result walked) c.if-count_fits.true
