use Rattle.std.proofs.Common.{length, refl}
use Rattle.std.proofs.lemmas.Option.{slice_get_read}
use Rattle.std.proofs.lemmas.Result.{IfOk-weaker}
use Rattle.rules.specs.Calls.{land as land_in}
use Rattle.machine.specs.Frames.{data_of, landing_of}
use Rattle.machine.proofs.SeenWords.{lent_seen}
use Rattle.machine.proofs.topmost.land_top.Goals as goal

pub returns-clause-does : goal.returns-clause-does
returns-clause-does c =
    let old = c.args.running.now in
    let fs = c.args.functions.now in
    let f = c.index-functions-running.result in
    let at = slice_get_read fs (length fs) old.top.function f refl c.requires.safe.top_frame.function c.index-functions-running.is in
    IfOk-weaker c.land.result _ _ (λ did does. lent_seen fs (λ m. land_in (landing_of c.args.landing) m (data_of old.heap c.args.values)) old c.land.new.heap f c.base-base.result c.all_registers.result.now c.land.new.registers did at c.base-base.ensures c.all_registers.ensures.values does) c.land.ensures.does
