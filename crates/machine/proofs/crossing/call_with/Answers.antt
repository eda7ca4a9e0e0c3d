use Rattle.std.proofs.Common.{◌≡◌, ◌∙◌, ◌+◌, List, length, Some, ap, subst, sym, arith}
use Rattle.std.specs.Prelude.{slice_get}
use Rattle.opcode.specs.declared.op.Op.TheVariants as op
use Rattle.opcode.specs.declared.word.Instr.{Instr}
use Rattle.lua_heap.specs.State.{HeapState, AreOf}
use Rattle.rules.specs.Calls.{entered, land, push}
use Rattle.rules.specs.Step.{count_of, landing_of as landing_in}
use Rattle.upvalue.specs.State.{top}
use Rattle.machine.specs.declared.function.Function.{Function}
use Rattle.machine.specs.declared.running.Running.{Running}
use Rattle.machine.specs.Fits.{FitsFrame}
use Rattle.machine.specs.Frames.{data_of, landing_of}
use Rattle.machine.specs.Seen.{cells_in, seen}
use Rattle.machine.specs.Whole.{IsSafe}
use Rattle.machine.specs.Words.{IsListed, AreResultsThere}
use Rattle.machine.proofs.Crossings.{calls_closure}
use Rattle.machine.proofs.Listed.{part_known}
use Rattle.machine.proofs.PushedCalls.{called, called_closure, called_function, depth_seen, pushes}
use Rattle.machine.proofs.SeenStates.{top_known}
use Rattle.machine.proofs.SeenWords.{top_function}
use Rattle.machine.proofs.crossing.call_with.Goals as goal

-- what the word asks of the frame
fits : (fs : List Function) (k : Running) (i : Instr) → IsSafe fs k → ((f : Function) → slice_get fs k.top.function ≡ Some f → FitsFrame op.Call f (top k.stack.frames) k.top.results (length (cells_in k.heap k.top.closure)) k.top.pc i) → IsListed (top k.stack.frames) k.top.results (i.a + 1) (count_of i.b) × AreResultsThere (top k.stack.frames) i.a (count_of i.c)
fits fs k i safe asked =
    let f = top_function fs k safe in
    let all = asked f.0 f.1 in
    (all.2, all.3)

pub enter-requires : goal.enter-requires
enter-requires c =
    let fs = c.args.functions.now in
    let old = c.args.running.now in
    let i = c.args.i in
    let registers = top old.stack.frames in
    let n = length c.args.args.now in
    let results = subst (AreResultsThere registers i.a) (sym c.count_of.ensures) (fits fs old i c.requires.safe c.requires.fits).1 in
    record {
      safe = c.requires.safe;
      number = called_function fs old c.args.closure c.closure_function-number.result c.requires.safe c.requires.closure c.closure_function-number.ensures;
      closure = c.requires.closure;
      args = subst (AreOf old.heap) (sym c.requires.args) (part_known old.heap registers (i.a + 1) n (top_known old.heap old.stack.frames c.requires.safe.shares.known));
      waiting = λ f at. c.results_to-landing.ensures.awaited f registers old.top.pc results;
    }

pub returns : goal.returns
returns c =
    let old = c.args.running.now in
    let closure = c.args.closure in
    let i = c.args.i in
    let number = c.closure_function-number in
    let landing = landing_of c.results_to-landing.result in
    let lands = land landing in
    let args = data_of old.heap c.args.args.now in
    let did = c.in_ok-enter.ensures in
    let there = subst (λ b. IsListed (top old.stack.frames) old.top.results (i.a + 1) (count_of b)) c.requires.count (fits c.args.functions.now old i c.requires.safe c.requires.fits).0 in
    record {
      is = λ chunk a whole.
          let m = seen chunk a old in
          calls_closure chunk a old i closure c.args.args.now landing c.requires.callee c.requires.count there c.requires.args (c.results_to-landing.ensures.landing ∙ ap (landing_in i.a) c.count_of.ensures)
          ∙ ap (λ f. entered (push landing lands) lands 0 m f args) (called_closure chunk old.heap closure number.result c.requires.closure number.ensures)
          ∙ pushes landing lands 0 m (called chunk old.heap closure number.result) args (omega (arith, depth_seen chunk a old, c.requires.depth))
          ∙ did.begins chunk a whole;
      safe = λ safe. did.safe;
      known = tt;
      awaited = λ f at. tt;
      keeps = did.keeps;
      named = ap (λ (h : HeapState). h.host_names) did.only_tables;
      pieces = did.pieces;
    }
