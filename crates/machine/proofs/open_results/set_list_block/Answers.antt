use Rattle.std.proofs.lemmas.Result.{IfOk-weaker}
use Rattle.rules.specs.Step.{do_setlist}
use Rattle.machine.proofs.SeenWords.{does_with_seen}
use Rattle.machine.proofs.open_results.set_list_block.Goals as goal

pub set_list-requires-clause-known : goal.set_list-requires-clause-known
set_list-requires-clause-known c = c.registers.ensures.known c.args.running.now.heap c.requires.shares

pub returns : goal.returns
returns c =
    let old = c.args.running.now in
    IfOk-weaker c.set_list.result _ _ (λ did does fs f at.
    does_with_seen fs (λ m. do_setlist m c.args.i c.args.block) old c.set_list.new.heap c.registers.result.now c.set_list.new.results f did at c.registers.ensures.values (does f old.top.pc)) c.set_list.ensures
