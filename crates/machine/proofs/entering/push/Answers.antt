use Rattle.std.proofs.Common.{◌∙◌, get_or, refl, ap, arith}
use Rattle.std.specs.Prelude.{slice_get}
use Rattle.std.proofs.lemmas.Result.{IfOk-weaker}
use Rattle.lua_model.specs.Operators.{stack_overflow}
use Rattle.lua_heap.specs.State.{HeapState, no_closure}
use Rattle.rules.specs.Calls.{entered, failed_in, land, push}
use Rattle.machine.specs.Frames.{data_of, landing_of}
use Rattle.machine.specs.Seen.{seen}
use Rattle.machine.proofs.PushedCalls.{called, called_closure, depth_seen, pushes, overflows, does_alike}
use Rattle.machine.proofs.entering.push.Goals as goal

pub returns-then-len-ge-DEPTH_LIMIT-clause-does : goal.returns-then-len-ge-DEPTH_LIMIT-clause-does
returns-then-len-ge-DEPTH_LIMIT-clause-does c =
    let old = c.args.running.now in
    let closure = c.args.closure in
    let number = (get_or old.heap.closures closure.index no_closure).function in
    let landing = landing_of c.args.landing in
    let lands = land landing in
    let p = c.args.protections in
    let args = data_of old.heap c.args.args.now in
    IfOk-weaker c.overflow.result _ _
    (λ did does.
    does_alike c.args.functions.now (λ m. entered (push landing lands) lands p m (slice_get m.closures closure.index) args) (λ m. failed_in lands p m stack_overflow) old c.overflow.new.running did
    (λ chunk a whole.
    let m = seen chunk a old in
    ap (λ f. entered (push landing lands) lands p m f args) (called_closure chunk old.heap closure number c.requires.closure refl)
    ∙ overflows landing lands p m (called chunk old.heap closure number) args (omega (arith, depth_seen chunk a old, c.len.ensures, c.if-len-ge-DEPTH_LIMIT.true)))
    does)
    c.overflow.ensures.does

pub returns-clause-does : goal.returns-clause-does
returns-clause-does c =
    let old = c.args.running.now in
    let closure = c.args.closure in
    let number = c.closure_function-number in
    let landing = landing_of c.args.landing in
    let lands = land landing in
    let p = c.args.protections in
    let args = data_of old.heap c.args.args.now in
    let did = c.in_ok-enter.ensures in
    record {
      is = λ chunk a whole.
          let m = seen chunk a old in
          ap (λ f. entered (push landing lands) lands p m f args) (called_closure chunk old.heap closure number.result c.requires.closure number.ensures)
          ∙ pushes landing lands p m (called chunk old.heap closure number.result) args (omega (arith, depth_seen chunk a old, c.len.ensures, c.if-len-ge-DEPTH_LIMIT.false))
          ∙ did.begins chunk a whole;
      safe = λ safe. did.safe;
      known = tt;
      awaited = λ f at. tt;
      keeps = did.keeps;
      named = ap (λ (h : HeapState). h.host_names) did.only_tables;
      pieces = did.pieces;
    }
