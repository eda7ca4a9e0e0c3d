use Rattle.std.proofs.Common.{length, refl, sym, subst}
use Rattle.std.proofs.lemmas.Option.{slice_get_read}
use Rattle.rules.specs.Step.{effect}
use Rattle.machine.specs.declared.running.Running.{Running}
use Rattle.machine.specs.Whole.{DoesSeen}
use Rattle.machine.proofs.SeenWords.{if_all, does_seen}
use Rattle.machine.proofs.topmost.perform_plain.Goals as goal

pub returns-clause-does : goal.returns-clause-does
returns-clause-does c =
    let old = c.args.running.now in
    let new = c.perform_top.new.running in
    let fs = c.args.functions.now in
    let i = c.args.i in
    let f = c.index-functions-running.result in
    let at = slice_get_read fs (length fs) old.top.function f refl c.requires.safe.top_frame.function c.index-functions-running.is in
    let made = c.perform_top.ensures in
    if_all c.perform_top.result _ _ _ _
    (λ did does frames shares.
    let P : Running → Type 0 = λ k. DoesSeen fs (λ m. effect i.op m i) old k did in
    subst P (sym made.rest) (does_seen fs (λ m. effect i.op m i) old new.heap new.stack f did at does frames (λ _. shares)))
    made.did made.frames made.shares
