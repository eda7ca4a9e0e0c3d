use Rattle.std.proofs.Common.{subst, sym, ◌∙◌}
use Rattle.lua_heap.proofs.Callers.{values_are_kept}
use Rattle.upvalue.specs.State.{top}
use Rattle.machine.specs.declared.did.Landing.{Landing}
use Rattle.machine.specs.declared.did.Did.{Did}
use Rattle.machine.specs.Whole.{IsWaiting}
use Rattle.machine.proofs.GivenResults.{lands_seen}
use Rattle.machine.proofs.SeenWords.{top_function}
use Rattle.machine.proofs.crossing.give_fixed.Goals as goal

pub put_fixed-requires : goal.put_fixed-requires
put_fixed-requires c =
    let fs = c.args.functions.now in
    let old = c.args.running.now in
    let left = c.leave.new.running in
    let did = c.leave.ensures in
    let safe = did.safe fs c.requires.safe in
    let f = top_function fs left safe in
    let waits = subst (λ (landing : Landing). IsWaiting fs landing left.top (top left.stack.frames)) (did.landing ∙ c.requires.landing) (did.waiting fs c.requires.safe) in
    record {
      safe = safe;
      there = waits f.0 f.1;
      values = values_are_kept old.heap left.heap did.keeps c.args.values.now c.requires.values;
    }

pub returns : goal.returns
returns c =
    let fs = c.args.functions.now in
    let did = c.leave.ensures in
    lands_seen fs c.args.running.now c.leave.new.running c.put_fixed.new.running c.args.values.now (Landing.Fixed c.args.a c.args.count) Did.Next (did.safe fs c.requires.safe) c.requires.values (sym c.requires.landing) (λ chunk a safe. did.left chunk a fs safe) did.heap did.keeps did.fewer did.pieces c.put_fixed.ensures
