use Rattle.std.proofs.Common.{◌∙◌, ap, sym, Some}
use Rattle.recover_expr.specs.Reading.{view_turn}
use Rattle.recover_expr.specs.Situation.{view_function, view_state}
use Rattle.recover_expr.proofs.Turns.{word_turn}
use Rattle.recover_expr.proofs.words.read_step.Goals as goal

pub loop-preserved : goal.loop-preserved
loop-preserved c =
    word_turn (view_function c.args.function.now) c.args.function.now.last c.loop.counter c.loop.at c.in-Next.next (view_state c.loop.state) (view_state c.turn_at.new.state) c.loop-test.true
    (ap (λ t. Some (view_turn t, view_state c.turn_at.new.state)) (sym c.in-Next.is) ∙ c.in_ok-next.ensures.turn)
    c.loop.invariant
