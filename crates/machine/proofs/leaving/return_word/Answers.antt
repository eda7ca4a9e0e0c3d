use Rattle.std.proofs.Common.{ℕ, List, length, sym, subst}
use Rattle.std.specs.Prelude.{Option}
use Rattle.std.proofs.lemmas.Result.{IfOk-weaker}
use Rattle.opcode.specs.declared.op.Op.TheVariants as op
use Rattle.lua_model.specs.declared.Value.{Value}
use Rattle.lua_heap.specs.State.{AreOf}
use Rattle.machine.specs.Fits.{FitsFrame}
use Rattle.machine.specs.Seen.{cells_in}
use Rattle.machine.specs.Words.{IsListed}
use Rattle.machine.proofs.SeenStates.{safe_at}
use Rattle.machine.proofs.SeenWords.{top_function}
use Rattle.machine.proofs.GivenResults.{returns_seen}
use Rattle.machine.proofs.WorkedValues.{worked_known}
use Rattle.machine.proofs.leaving.return_word.Goals as goal

pub listed-requires : goal.listed-requires
listed-requires c =
    let old = c.args.running.now in
    let i = c.args.i in
    let f = top_function c.args.functions.now old c.requires.safe in
    let P : List Value → Type 0 = λ vs. FitsFrame op.Return f.0 vs old.top.results (length (cells_in old.heap old.top.closure)) old.top.pc i in
    let fits = subst P (sym c.registers-registers.ensures.values) (c.requires.fits f.0 f.1) in
    let Q : Option ℕ → Type 0 = λ n. IsListed c.registers-registers.result.now old.top.results i.a n in
    record { there = subst Q (sym c.count_of.ensures) fits.1 }

pub give-requires-clause-safe : goal.give-requires-clause-safe
give-requires-clause-safe c =
    let old = c.args.running.now in
    let safe = c.requires.safe in
    safe_at c.args.functions.now old old.top.pc c.listed.new.results safe (c.listed.ensures.results old.heap safe.top_frame.results)

pub give-requires-clause-values : goal.give-requires-clause-values
give-requires-clause-values c =
    let old = c.args.running.now in
    let safe = c.requires.safe in
    let known = c.in_ok-values.ensures.known old.heap (c.registers-registers.ensures.known old.heap safe.shares) safe.top_frame.results in
    subst (λ (vs : List Value). AreOf old.heap vs) (sym c.in_ok-values-2.ensures) (worked_known old.heap old.top.protections c.in_ok-values.values known)

pub returns : goal.returns
returns c =
    let old = c.args.running.now in
    let fs = c.args.functions.now in
    let list = c.in_ok-values in
    record {
      does = IfOk-weaker c.give.result _ _ (λ did does.
          returns_seen fs old c.give.new.running c.registers-registers.result.now list.values c.in_ok-values-2.values c.listed.new.results c.count_of.result c.args.i did c.registers-registers.ensures.values c.count_of.ensures list.ensures.list c.in_ok-values-2.ensures (c.listed.ensures.results old.heap c.requires.safe.top_frame.results) does)
          c.give.ensures.does;
    }
