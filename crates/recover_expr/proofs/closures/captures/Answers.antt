use Rattle.std.proofs.Common.{◌≡◌, ◌∙◌, ap, sym, ◌+◌, ◌-◌, ◌||◌}
use Rattle.recover_expr.specs.Closures.{captures}
use Rattle.recover_expr.specs.Situation.{view_function, view_state}
use Rattle.recover_expr.proofs.Makers.{captures_turn}
use Rattle.recover_expr.proofs.closures.captures.Goals as goal
use Rattle.recover_expr.proofs.closures.captures.Goals.{then-own, else-own}

pub loop-pc-preserved : goal.loop-pc-preserved
loop-pc-preserved c =
    let function = view_function c.args.function.now in
    let after = view_state c.captures_own.new.state in
    let own = c.in_ok-own.own in
    let joined : c.if-own.itself ≡ (own || c.loop-pc.itself) = elim c.if-own.branch [
      | then-own w ↦ w.itself-is ∙ w.if-own.true ∙ sym (ap (λ is. is || c.loop-pc.itself) w.if-own.true)
      | else-own w ↦ w.itself-is ∙ sym (ap (λ is. is || c.loop-pc.itself) w.if-own.false)
    ] in
    ap (λ itself. captures function c.args.closure (c.args.next - (c.loop-pc.pc + 1)) (c.loop-pc.pc + 1) itself after) joined
    ∙ captures_turn function c.args.closure c.args.next c.loop-pc.pc c.loop-pc.itself own (view_state c.loop-pc.state) after c.loop-pc-test.true c.in_ok-own.ensures.captured c.loop-pc.invariant
