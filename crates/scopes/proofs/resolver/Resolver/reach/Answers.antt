use Rattle.std.proofs.Common.{inl, inr, sym, subst, refl, reverse, take, ◌+◌, arith}
use Rattle.scopes.specs.Standing.{Sound}
use Rattle.scopes.specs.Capturing.{OnlyFunctions, Reached}
use Rattle.scopes.specs.declared.resolver.Resolver.{Resolver}
use Rattle.scopes.proofs.LoopSteps.{fault_on, in_stack, only_both, reach_on, reach_end, stuck_on}
use Rattle.scopes.proofs.resolver.Resolver.reach.Goals.{then-function-binding+in_ok-slot, else-function-binding}
use Rattle.scopes.proofs.resolver.Resolver.reach.Goals as goal

pub loop-i-preserved : goal.loop-i-preserved
loop-i-preserved c = elim c.if-function-binding.branch [
  | then-function-binding+in_ok-slot w ↦ record {
    sound = subst Sound (sym w.self-is) w.in_ok-slot.ensures.sound;
    only = subst (λ x. OnlyFunctions c.args.self.now x) (sym w.self-is) (only_both c.args.self.now c.loop-i.self w.capture.new.self c.loop-i.invariant.only w.in_ok-slot.ensures.only);
    reached = subst (λ (x : Resolver). Reached c.args.binding (reverse (take (c.loop-i.i + 1) c.args.self.now.stack.items)) c.args.self.now.functions.items x.functions.items c.if-function-binding.source) (sym w.self-is)
        (reach_on c.args.binding c.loop-i.i c.index-function.result.now c.args.self.now c.loop-i.self w.capture.new.self.functions.items c.loop-i.source c.if-function-binding.source c.loop-i.invariant.only (in_stack c.loop-i.i c.args.self.now c.loop-i.self c.loop-i.invariant.only (omega arith)) c.index-function.ensures c.loop-i.invariant.reached
        (inr (w.if-function-binding.true, (w.in_ok-slot.slot, w.in_ok-slot.ensures.captured, w.source-is))));
  }
  | else-function-binding w ↦ record {
    sound = subst Sound (sym w.self-is) c.loop-i.invariant.sound;
    only = subst (λ x. OnlyFunctions c.args.self.now x) (sym w.self-is) c.loop-i.invariant.only;
    reached = subst (λ (x : Resolver). Reached c.args.binding (reverse (take (c.loop-i.i + 1) c.args.self.now.stack.items)) c.args.self.now.functions.items x.functions.items c.if-function-binding.source) (sym w.self-is)
        (reach_on c.args.binding c.loop-i.i c.index-function.result.now c.args.self.now c.loop-i.self c.loop-i.self.functions.items c.loop-i.source c.if-function-binding.source c.loop-i.invariant.only (in_stack c.loop-i.i c.args.self.now c.loop-i.self c.loop-i.invariant.only (omega arith)) c.index-function.ensures c.loop-i.invariant.reached
        (inl (w.if-function-binding.false, refl, w.source-is)));
  }
]

pub returns : goal.returns
returns c = record {
  sound = c.loop-i.invariant.sound;
  only = c.loop-i.invariant.only;
  reached = reach_end c.args.binding c.loop-i.i c.args.self.now.stack.items c.args.self.now.functions.items c.loop-i.self.functions.items c.loop-i.source (omega arith) c.loop-i.invariant.reached;
  fault = tt;
}

pub returns-in_err-slot-clause-fault : goal.returns-in_err-slot-clause-fault
returns-in_err-slot-clause-fault c =
    fault_on _ _ _ c.from_residual.ensures.1
    (stuck_on c.args.binding c.args.line c.loop-i.i c.index-function.result.now c.args.self.now c.loop-i.self c.loop-i.source _ c.loop-i.invariant.only (in_stack c.loop-i.i c.args.self.now c.loop-i.self c.loop-i.invariant.only (omega arith)) c.index-function.ensures c.loop-i.invariant.reached c.if-function-binding.true c.in_err-slot.ensures.fault)
