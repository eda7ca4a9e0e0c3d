use Rattle.std.proofs.lemmas.Result.{IfOk-weaker}
use Rattle.machine.proofs.GivenResults.{lands_seen, fewer_below}
use Rattle.machine.proofs.leaving.give.Goals as goal

pub returns-clause-does : goal.returns-clause-does
returns-clause-does c =
    let old = c.args.running.now in
    let fs = c.args.functions.now in
    let did = c.leave-landing.ensures in
    IfOk-weaker c.land_top.result _ _ (λ d does.
    lands_seen fs old c.leave-landing.new.running c.land_top.new.running c.args.values c.leave-landing.result.0 d (did.safe fs c.requires.safe) c.requires.values did.landing (λ chunk a safe. did.left chunk a fs safe) did.heap did.keeps did.fewer did.pieces does)
    c.land_top.ensures.does

pub returns-clause-fewer : goal.returns-clause-fewer
returns-clause-fewer c =
    let fs = c.args.functions.now in
    let did = c.leave-landing.ensures in
    IfOk-weaker c.land_top.result _ _ (λ d falls.
    fewer_below fs c.args.running.now c.leave-landing.new.running c.land_top.new.running c.leave-landing.result.0 d (did.safe fs c.requires.safe) (did.waiting fs c.requires.safe) did.fewer c.land_top.ensures.below falls)
    c.land_top.ensures.falls
