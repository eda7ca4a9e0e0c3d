use Rattle.std.proofs.Common.{List, length, subst, sym}
use Rattle.std.proofs.lemmas.Result.{IfOk-weaker}
use Rattle.opcode.specs.declared.op.Op.TheVariants as op
use Rattle.lua_model.specs.declared.Value.{Value}
use Rattle.rules.specs.Step.{effect}
use Rattle.machine.specs.Fits.{FitsFrame}
use Rattle.machine.specs.Seen.{cells_in}
use Rattle.machine.proofs.SeenWords.{top_function, does_with_seen}
use Rattle.machine.proofs.open_results.call_word.Goals as goal

pub call-requires : goal.call-requires
call-requires c =
    let old = c.args.running.now in
    let f = top_function c.args.functions.now old c.requires.safe in
    let P : List Value → Type 0 = λ vs. FitsFrame op.Call f.0 vs old.top.results (length (cells_in old.heap old.top.closure)) old.top.pc c.args.i in
    let fits = subst P (sym c.registers.ensures.values) (c.requires.fits f.0 f.1) in
    record { a = fits.0; field = fits.1; there = fits.2; results = fits.3 }

pub returns : goal.returns
returns c =
    let old = c.args.running.now in
    let fs = c.args.functions.now in
    let f = top_function fs old c.requires.safe in
    record {
      does = IfOk-weaker c.call.result _ _ (λ did does.
          does_with_seen fs (λ m. effect op.Call m c.args.i) old old.heap c.registers.result.now c.call.new.results f.0 did f.1 c.registers.ensures.values
          (does old.heap f.0 old.top.pc (c.registers.ensures.known old.heap c.requires.safe.shares) c.requires.safe.top_frame.results)) c.call.ensures;
    }
