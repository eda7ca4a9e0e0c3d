use Rattle.std.proofs.Common.{◌≡◌, ◌∙◌, ◌-◌, suc, List, length, ◌<◌, sym, ap, subst, arith}
use Rattle.lua_model.specs.declared.Value.{Value}
use Rattle.lua_heap.specs.State.{HeapState, datum, AreOf}
use Rattle.rules.specs.Run.{after}
use Rattle.machine.specs.declared.did.Did.TheVariants as done
use Rattle.machine.specs.Frames.{data_of}
use Rattle.machine.specs.Seen.{seen}
use Rattle.machine.specs.Settled.{IsAwaitedIn}
use Rattle.machine.specs.Words.{IsDidOf}
use Rattle.machine.proofs.SeenStates.{depth_is, length-below}
use Rattle.machine.proofs.FailedLandings.{taken, passed, broke_is, broke_known}
use Rattle.machine.proofs.settling.fail.Goals as goal

pub give-requires-clause-values : goal.give-requires-clause-values
give-requires-clause-values c =
    let h = c.args.running.now.heap in
    subst (λ (vs : List Value). AreOf h vs) (sym c.in_ok-values.ensures) (broke_known h (c.args.running.now.top.protections - 1) c.args.value c.requires.value)

pub returns-then-running-gt0-clause-does : goal.returns-then-running-gt0-clause-does
returns-then-running-gt0-clause-does c =
    let old = c.args.running.now in
    let h = old.heap in
    let v = c.args.value in
    let did = c.in_ok-give.field-0 in
    let does = c.in_ok-give.ensures.does in
    let p = old.top.protections - 1 in
    let protected : old.top.protections ≡ suc p = omega (arith, c.if-running-gt0.true) in
    record {
      is = λ chunk a m0 whole.
          let m = seen chunk a old in
          taken m0 m p (datum h v) (data_of h c.in_ok-values.values) protected (ap (data_of h) c.in_ok-values.ensures ∙ broke_is h p v)
          ∙ ap (after m0) (does.is chunk a whole);
      safe = does.safe;
      value_known = (does.keeps v c.requires.value).0;
      known = λ other is.
          let e : did ≡ other = cc in
          subst (IsDidOf c.give.new.running.heap) e does.known;
      awaited = λ other is.
          let e : did ≡ other = cc in
          subst (IsAwaitedIn c.args.functions.now c.give.new.running) e does.awaited;
      keeps = does.keeps;
      named = does.named;
      pieces = does.pieces;
    }

pub returns-clause-does : goal.returns-clause-does
returns-clause-does c =
    let old = c.args.running.now in
    let new = c.leave.new.running in
    let v = c.args.value in
    let fs = c.args.functions.now in
    let left = c.leave.ensures in
    let bare : old.top.protections ≡ 0 = omega (arith, c.if-running-gt0.false) in
    record {
      is = λ chunk a m0 whole.
          let m = seen chunk a old in
          let some : 0 < length m.below = omega (arith, depth_is chunk a fs old whole.safe, length-below old.stack.frames (length old.below.items) whole.safe.depth, left.fewer) in
          passed m0 m (seen chunk a new) (datum old.heap v) (datum new.heap v) bare some (left.left chunk a fs whole.safe) (left.keeps v c.requires.value).1;
      safe = left.safe fs;
      value_known = (left.keeps v c.requires.value).0;
      known = λ did is.
          let e : done.Fails v ≡ did = cc in
          subst (IsDidOf new.heap) e (left.keeps v c.requires.value).0;
      awaited = λ did is.
          let e : done.Fails v ≡ did = cc in
          subst (IsAwaitedIn fs new) e (λ f at. tt);
      keeps = left.keeps;
      named = ap (λ (h : HeapState). h.host_names) left.heap;
      pieces = left.pieces;
    }
